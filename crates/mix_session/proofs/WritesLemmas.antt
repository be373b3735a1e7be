-- What was found of the changes that altered a part, with those among the changes that are left, are all of them.
use Rattle.std.proofs.Common.{◌≡◌, ℕ, suc, ◌<◌, ◌≤◌, Bool, true, false, not, List, ◌++◌, length, refl, ◌∙◌, arith, min, append_assoc, add-one}
use Rattle.std.proofs.lemmas.List.{append-nil, length-append}
use Rattle.std.proofs.Math.Nat.{min-eq_left, min-eq_right}
use Rattle.mix_machine.specs.declared.part.Part.{Part}
use Rattle.mix_machine.specs.declared.part.Mark.{Mark}
use Rattle.mix_machine.specs.Part.{IsPart, is_altered, is_same_mark}
use Rattle.mix_session.specs.Prelude.{world_at, Timeline}
use Rattle.mix_session.specs.Writes.{write_if, write_after, writes_back}
use Rattle.mix_session.specs.declared.writes.Write.{Write}
use Rattle.mix_session.proofs.ConditionLemmas.{AlteredLaw, last-given}
use Rattle.mix_session.proofs.TallyLemmas.{Marks}

-- what is found, with what is left of the first n changes, is what the first `until` of those done have
abbrev pub AreFound : Timeline → Part → ℕ → ℕ → List Write → Type 0
AreFound t part until n list = list ++ writes_back t part (min until n) ≡ writes_back t part (min until (length t.changes))

-- a change of those done, by the marks before and after it
altered-by : AlteredLaw → (t : Timeline) (part : Part) (n : ℕ) (before after : Mark) → IsPart part → Marks t part n before after →
    is_altered part (world_at t n) (world_at t (suc n)) ≡ not (is_same_mark before after)
altered-by law t part n before after real marks =
    let given = last-given t.first t.changes n (world_at t n) (world_at t (suc n)) marks.below marks.begins.replayed (rw add-one marks.ends.replayed) in
    rw (marks.from, marks.to) (law (world_at t n) (world_at t (suc n)) given.0 part marks.begins.world real given.1)

-- the change is one of the first `until`
pub found-one : AlteredLaw → (t : Timeline) (part : Part) (until n : ℕ) (before after : Mark) (list next : List Write) → IsPart part → Marks t part n before after →
    n < until → AreFound t part until (suc n) list → next ≡ list ++ write_if (not (is_same_mark before after)) (suc n) before after → AreFound t part until n next
found-one law t part until n before after list next real marks within found e =
    let altered = altered-by law t part n before after real marks in
    let one : write_if (not (is_same_mark before after)) (suc n) before after ≡ write_after t part n = rw altered (rw (marks.from, marks.to) refl) in
    let more : min until (suc n) ≡ suc n = min-eq_right (omega (arith, within)) in
    let left : min until n ≡ n = min-eq_right (omega (arith, within)) in
    let whole : list ++ (write_after t part n ++ writes_back t part n) ≡ writes_back t part (min until (length t.changes)) = rw more at found in
    rw (e, one, left) (append_assoc list (write_after t part n) (writes_back t part n) ∙ whole)

-- it is none of them
pub found-past : (t : Timeline) (part : Part) (until n : ℕ) (list : List Write) → until ≤ n → AreFound t part until (suc n) list → AreFound t part until n list
found-past t part until n list past found =
    let more : min until (suc n) ≡ until = min-eq_left (omega (arith, past)) in
    let left : min until n ≡ until = min-eq_left (omega (arith, past)) in
    rw left (rw more at found)

pub write_if-few : (b : Bool) (list : List Write) (number most : ℕ) (before after : Mark) → length list < most →
    length (list ++ write_if b number before after) ≤ most
write_if-few true list number most before after few = rw length-append (omega (arith, few))
write_if-few false list number most before after few = rw append-nil (omega (arith, few))
