-- The unit that the fields of a Unit stand for.
use Rattle.std.specs.Prelude.{◌≡◌, ◌*◌, length}
use Rattle.mix_machine.specs.units.UnitKind.{block_length}
use Rattle.mix_machine.specs.units.Unit.{UnitState, IsUnit, blocks_in}
use Rattle.mix_machine.specs.declared.units.unit.Unit.TheInside.{Inside}

abbrev pub unit_of_fields : Inside → UnitState
unit_of_fields u =
    record {
      kind = u.kind;
      place = u.place;
      blocks = blocks_in u.count (block_length u.kind) u.words.items;
      rows = u.rows.items;
      delay = u.delay;
      until = u.until;
    }

-- the words are those of the blocks
pub record AreFields (u : Inside) : Type 0 where
  pub is_unit : IsUnit (unit_of_fields u)
  pub words : length u.words.items ≡ u.count * block_length u.kind
