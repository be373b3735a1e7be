-- The states found in which the machine is at a location, with those among the states that are left, are all of them.
use Rattle.std.proofs.Common.{◌≡◌, ℕ, suc, ◌+◌, eqb, List, [], ◌++◌, length, refl, ◌∙◌, append_assoc, add-one}
use Rattle.mix_machine.specs.declared.part.Mark.{Mark}
use Rattle.mix_machine.specs.declared.part.Part.TheVariants.{Loc}
use Rattle.mix_machine.specs.Part.{mark_of}
use Rattle.mix_session.specs.Prelude.{world_at, location_in, Timeline}
use Rattle.mix_session.specs.Passages.{passage_if, passage_at, passages_back}

-- what is found, with what is left of the first n states, is what all states up to now have
abbrev pub ArePassed : Timeline → ℕ → ℕ → List ℕ → Type 0
ArePassed t place n list = list ++ passages_back t place n ≡ passages_back t place (length t.changes + 1)

-- the state after the first n changes, by the mark of its location
pub passed-one : (t : Timeline) (place n : ℕ) (mark : Mark) (list next : List ℕ) → mark ≡ mark_of (world_at t n) Loc → ArePassed t place (suc n) list →
    next ≡ list ++ passage_if (eqb (location_in mark) place) n → ArePassed t place n next
passed-one t place n mark list next at passed e =
    rw (e, at) (append_assoc list (passage_at t place n) (passages_back t place n) ∙ passed)

-- the state now is the first that is looked at
pub passed-first : (t : Timeline) (place n : ℕ) (mark : Mark) (list next : List ℕ) → n ≡ length t.changes → list ≡ [] →
    mark ≡ mark_of (world_at t (length t.changes)) Loc → next ≡ list ++ passage_if (eqb (location_in mark) place) n → ArePassed t place (length t.changes) next
passed-first t place n mark list next now none at e =
    let all : ArePassed t place (suc (length t.changes)) [] = rw add-one refl in
    passed-one t place (length t.changes) mark [] next at all (rw (none, now) at e)
