-- The changes that altered a part of the machine, the last one first, with the part's marks before and after each.
use Rattle.std.specs.Prelude.{ℕ, zero, suc, Bool, true, false, List, [], ◌∷◌, ◌++◌}
use Rattle.mix_machine.specs.declared.part.Mark.{Mark}
use Rattle.mix_machine.specs.declared.part.Part.{Part}
use Rattle.mix_machine.specs.Part.{is_altered, mark_of}
use Rattle.mix_session.specs.Change.{world_at}
use Rattle.mix_session.specs.Timeline.{Timeline}
use Rattle.mix_session.specs.declared.writes.Write.{Write}

-- a change of a number, if it altered the part
abbrev pub write_if : Bool → ℕ → Mark → Mark → List Write
write_if false n before after = []
write_if true n before after = record { number = n; before = before; after = after } ∷ []

-- the change after the first n, if it alters the part
abbrev pub write_after : Timeline → Part → ℕ → List Write
write_after t part n =
    let v = world_at t n in
    let w = world_at t (suc n) in
    write_if (is_altered part v w) (suc n) (mark_of v part) (mark_of w part)

-- those of the first n changes that alter it
abbrev pub writes_back : Timeline → Part → ℕ → List Write
writes_back t part zero = []
writes_back t part (suc n) = write_after t part n ++ writes_back t part n
