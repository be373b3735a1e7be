-- Two units are the same in all that they hold exactly where they are equal; and where one of two is busy for longer, they are not.
use Rattle.std.specs.Prelude.{ℕ, Bool, true, false, ◌&&◌, ◌==◌, ◌≡◌, ◌<◌, List, None, Some, refl}
use Rattle.std.specs.Bool.{Decides}
use Rattle.std.specs.Cmp.{unsigned_Decides}
use Rattle.std.specs.Cmp.Lexicographic.{pointwise_decides}
use Rattle.std.proofs.Common.{ap, sym, subst, ◌∙◌, arith}
use Rattle.std.proofs.lemmas.Bool.{and_parts}
use Rattle.std.proofs.lemmas.Bool.Decides.{nat_tests}
use Rattle.mix_word.specs.declared.word.Sign.{Sign}
use Rattle.mix_word.specs.declared.word.Sign.TheVariants.{Plus, Minus}
use Rattle.mix_word.specs.Word.{WordValue, word, is_same_sign, is_same_word}
use Rattle.mix_machine.specs.Prelude.{RowState, UnitState, is_same_kind, is_same_row, is_same_unit, UnitKind, Tape, Disk, CardReader, CardPunch, Printer, Typewriter, PaperTape}

and-true : (a b : Bool) → a ≡ true → b ≡ true → (a && b) ≡ true
and-true true b p q = q
and-true false b p q = p

both : {P Q : Type 0} (a b : Bool) → Decides a P → Decides b Q → Decides (a && b) (P × Q)
both a b d e =
    ((λ h. let parts = and_parts a b h in (d.0 parts.0, e.0 parts.1)), (λ pq. and-true a b (d.1 pq.0) (e.1 pq.1)))

same-sign : (s t : Sign) → Decides (is_same_sign s t) (s ≡ t)
same-sign Plus Plus = ((λ e. refl), (λ e. refl))
same-sign Minus Minus = ((λ e. refl), (λ e. refl))
same-sign Plus Minus = ((λ e. absurd (cc)), (λ e. absurd (cc)))
same-sign Minus Plus = ((λ e. absurd (cc)), (λ e. absurd (cc)))

same-word : (v w : WordValue) → Decides (is_same_word v w) (v ≡ w)
same-word v w =
    let parts = both _ _ (same-sign v.sign w.sign) (unsigned_Decides v.magnitude w.magnitude) in (
      (λ h. let same = parts.0 h in ap (λ s. word s v.magnitude) same.0 ∙ ap (word w.sign) same.1),
      (λ e. parts.1 (ap (λ (u : WordValue). u.sign) e, ap (λ (u : WordValue). u.magnitude) e)),
    )

pub same-kind : (k l : UnitKind) → Decides (is_same_kind k l) (k ≡ l)
same-kind Tape Tape = ((λ e. refl), (λ e. refl))
same-kind Disk Disk = ((λ e. refl), (λ e. refl))
same-kind CardReader CardReader = ((λ e. refl), (λ e. refl))
same-kind CardPunch CardPunch = ((λ e. refl), (λ e. refl))
same-kind Printer Printer = ((λ e. refl), (λ e. refl))
same-kind Typewriter Typewriter = ((λ e. refl), (λ e. refl))
same-kind PaperTape PaperTape = ((λ e. refl), (λ e. refl))
same-kind _ _ = ((λ e. absurd (cc)), (λ e. absurd (cc)))

same-row : (r s : RowState) → Decides (is_same_row r s) (r ≡ s)
same-row None None = ((λ e. refl), (λ e. refl))
same-row (Some v) (Some w) =
    let words = pointwise_decides same-word v w in
    ((λ h. ap Some (words.0 h)), (λ e. words.1 (cc)))
same-row None (Some w) = ((λ e. absurd (cc)), (λ e. absurd (cc)))
same-row (Some v) None = ((λ e. absurd (cc)), (λ e. absurd (cc)))

-- the parts of two units
abbrev SameParts : UnitState → UnitState → Type 0
SameParts u v =
    (((((u.kind ≡ v.kind) × (u.place ≡ v.place)) × (u.blocks ≡ v.blocks)) × (u.rows ≡ v.rows)) × (u.delay ≡ v.delay)) × (u.until ≡ v.until)

same-parts : (u v : UnitState) → Decides (is_same_unit u v) (SameParts u v)
same-parts u v =
    both _ _
    (both _ _
    (both _ _
    (both _ _ (both _ _ (same-kind u.kind v.kind) (unsigned_Decides u.place v.place))
    (pointwise_decides (pointwise_decides same-word) u.blocks v.blocks))
    (pointwise_decides same-row u.rows v.rows))
    (unsigned_Decides u.delay v.delay))
    (unsigned_Decides u.until v.until)

joined : (u v : UnitState) → SameParts u v → u ≡ v
joined u v p =
    ap (λ (k : UnitKind). record u { kind = k }) p.0.0.0.0.0
    ∙ ap (λ (n : ℕ). record u { kind = v.kind; place = n }) p.0.0.0.0.1
    ∙ ap (λ (bs : List (List WordValue)). record u { kind = v.kind; place = v.place; blocks = bs }) p.0.0.0.1
    ∙ ap (λ (rs : List RowState). record u { kind = v.kind; place = v.place; blocks = v.blocks; rows = rs }) p.0.0.1
    ∙ ap (λ (n : ℕ). record v { delay = n; until = u.until }) p.0.1
    ∙ ap (λ (n : ℕ). record v { until = n }) p.1

pub same-unit : (u v : UnitState) → Decides (is_same_unit u v) (u ≡ v)
same-unit u v =
    let parts = same-parts u v in (
      (λ h. joined u v (parts.0 h)),
      (λ e. subst (λ (t : UnitState). is_same_unit u t ≡ true) e ((same-parts u u).1 (((((refl, refl), refl), refl), refl), refl))),
    )

-- whether two units are the same can be seen of the time until which they are busy
abbrev pub Seen : UnitState → UnitState → Type 0
Seen u v = is_same_unit u v ≡ (u.until == v.until)

pub seen-same : (u v : UnitState) → u ≡ v → Seen u v
seen-same u v e = (same-unit u v).1 e ∙ sym ((unsigned_Decides u.until v.until).1 (ap (λ (t : UnitState). t.until) e))

and-last : (a b : Bool) → b ≡ false → (a && b) ≡ b
and-last true b e = refl
and-last false b e = sym e

pub seen-later : (u v : UnitState) → u.until < v.until → Seen u v
seen-later u v l = and-last _ (u.until == v.until) (grind (arith, nat_tests))
