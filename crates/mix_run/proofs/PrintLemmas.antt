-- What is written is the beginning of a whole, and rows go on by one row.
use Rattle.std.proofs.Common.{◌≡◌, ℕ, Bool, true, false, List, [], ◌++◌, Option, Result, Ok, Err, IfOk, refl, sym, ap, ◌∙◌, arith, append_assoc, length}
use Rattle.std.proofs.lemmas.List.{append-nil}
use Rattle.std.specs.Io.KnownBytes.{Appends}
use Rattle.mix_machine.specs.Prelude.{does, WorldState, unit_at, UnitState}
use Rattle.mix_machine.specs.declared.fault.MixFault.{MixFault}
use Rattle.mix_machine.specs.declared.old.Change.TheVariants.{Step}
use Rattle.mix_session.specs.Change.{change_line}
use Rattle.mix_stream.specs.Stream.{AppendsFront}
use Rattle.mix_run.specs.Print.{if_asked, printed_row, printed_from, printed_between, traced_line, written_by}
use Rattle.mix_run.specs.PrintSteps.{HasCounts, line_bytes, line_to, printed_after}
use Rattle.mix_run.specs.declared.print.options.PrintOptions.{PrintOptions}
use Rattle.mix_run.specs.declared.print.options.UnitSet.{UnitSet}
use Rattle.mix_run.specs.declared.print.rows.RowCounts.{RowCounts}
use Rattle.mix_run.proofs.KeepLemmas.{items-none}
use Rattle.mix_run.proofs.Written.{Appends-then, Appends-same, Appends-nothing, AppendsFront-after, AppendsFront-all}

-- what is written more, where it is a beginning of what is left
pub written-more : (a b c : Option (List ℕ)) (whole left said more : List ℕ) →
    (done : List ℕ) × Appends a b done × (whole ≡ done ++ left) → left ≡ said ++ more → Appends b c said →
    (done : List ℕ) × Appends a c done × (whole ≡ done ++ more)
written-more a b c whole left said more so_far parts wrote = (
  so_far.0 ++ said,
  Appends-then a b c so_far.0 said so_far.1 wrote,
  so_far.2 ∙ ap (λ bytes. so_far.0 ++ bytes) parts ∙ sym (append_assoc so_far.0 said more),
)

-- nothing is left
pub written-all : (a b : Option (List ℕ)) (whole left : List ℕ) → (done : List ℕ) × Appends a b done × (whole ≡ done ++ left) → left ≡ [] → Appends a b whole
written-all a b whole left so_far none =
    Appends-same a b so_far.0 whole (sym (so_far.2 ∙ ap (λ bytes. so_far.0 ++ bytes) none ∙ append-nil so_far.0)) so_far.1

-- what was written so far is a beginning of the whole
pub written-begun : (a b : Option (List ℕ)) (whole left : List ℕ) → (done : List ℕ) × Appends a b done × (whole ≡ done ++ left) → AppendsFront a b whole
written-begun a b whole left so_far =
    AppendsFront-after a b b so_far.0 [] left whole so_far.1 (AppendsFront-all b b [] (Appends-nothing b)) so_far.2

none-from : (asked : Bool) (count : ℕ) (u : UnitState) → count ≡ length u.rows → printed_from asked count u ≡ []
none-from true count u e = items-none printed_row u.rows count (omega arith)
none-from false count u e = refl

-- nothing is printed between two states whose units are the same
pub none-between : (units : UnitSet) (w next : WorldState) → next.units ≡ w.units → printed_between units w next ≡ []
none-between units w next e =
    let same : (n : ℕ) → length (unit_at w n).rows ≡ length (unit_at next n).rows = λ n. rw e refl in
    rw (
      none-from units.card_punch (length (unit_at w 17).rows) (unit_at next 17) (same 17),
      none-from units.printer (length (unit_at w 18).rows) (unit_at next 18) (same 18),
      none-from units.typewriter (length (unit_at w 19).rows) (unit_at next 19) (same 19),
      none-from units.paper_tape (length (unit_at w 20).rows) (unit_at next 20) (same 20),
    ) refl

-- what was written since the rows of a state
pub after-between : (units : UnitSet) (counts : RowCounts) (w next : WorldState) → HasCounts w counts → printed_after units counts next ≡ printed_between units w next
after-between units counts w next h = rw (h.card_punch, h.printer, h.typewriter, h.paper_tape) refl

no-line_to : (number : ℕ) (w : WorldState) (done : Result WorldState MixFault) → line_to false number w done ≡ []
no-line_to number w (Ok next) = refl
no-line_to number w (Err fault) = refl

-- a step that is not traced has no line
pub quiet-line : {T E : Type 0} (r : Result T E) (number : ℕ) (w : WorldState) (text : List ℕ) → IfOk r (λ _. text ≡ text ++ line_bytes false number w)
quiet-line (Ok x) number w text = rw (no-line_to number w (does w Step)) (sym (append-nil text))
quiet-line (Err e) number w text = tt

-- a step that is a fault has none either
fault-line : (trace : Bool) (number : ℕ) (w : WorldState) (fault : MixFault) → does w Step ≡ Err fault → line_bytes trace number w ≡ []
fault-line trace number w fault failed = rw failed refl

pub fault-text : (trace : Bool) (number : ℕ) (w : WorldState) (fault : MixFault) (text new : List ℕ) → does w Step ≡ Err fault
    → new ≡ text ++ line_bytes trace number w → new ≡ text
fault-text trace number w fault text new failed added = added ∙ ap (λ t. text ++ t) (fault-line trace number w fault failed) ∙ append-nil text

pub fault-adds : (number : ℕ) (w : WorldState) (fault : MixFault) (text : List ℕ) → does w Step ≡ Err fault → text ≡ text ++ line_bytes true number w
fault-adds number w fault text failed = rw (fault-line true number w fault failed) (sym (append-nil text))

-- the line of a step that is traced, from a copy of the machine before it
pub line-made : (number : ℕ) (w next before : WorldState) (line : List ℕ) → does w Step ≡ Ok next → before ≡ w → line ≡ change_line number Step before next
    → line ≡ line_bytes true number w
line-made number w next before line done same is = rw done (rw same at is)

-- the line of a step, and then what it printed
pub line-then : (options : PrintOptions) (number : ℕ) (counts : RowCounts) (w next : WorldState) (a b c : List ℕ)
    → HasCounts w counts → does w Step ≡ Ok next → b ≡ a ++ line_bytes options.trace number w
    → c ≡ b ++ printed_after options.units counts next → c ≡ a ++ written_by options number w next
line-then options number counts w next a b c h done line rows =
    let first = traced_line (if_asked options.trace w) number next in
    let after = printed_after options.units counts next in
    let here : b ≡ a ++ first = rw done at line in
    rows ∙ ap (λ t. t ++ after) here ∙ append_assoc a first after ∙ ap (λ t. a ++ (first ++ t)) (after-between options.units counts w next h)
