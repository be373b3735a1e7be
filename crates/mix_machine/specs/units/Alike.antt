-- What of two units is compared first: all but what stands in their blocks and rows.
use Rattle.std.specs.Prelude.{Bool, ◌==◌, ◌&&◌, length}
use Rattle.mix_machine.specs.Part.{is_same_kind}
use Rattle.mix_machine.specs.units.Unit.{UnitState}

-- whether two units are the same but for what stands in their blocks and rows, of which they have as many
abbrev pub is_alike : UnitState → UnitState → Bool
is_alike u v =
    u.until == v.until && u.place == v.place && length u.blocks == length v.blocks && length u.rows == length v.rows
    && u.delay == v.delay && is_same_kind u.kind v.kind
