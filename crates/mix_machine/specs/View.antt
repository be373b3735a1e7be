-- The state that the fields of a World stand for.
use Rattle.mix_machine.specs.World.{WorldState}
use Rattle.mix_machine.specs.declared.world.World.TheInside.{Inside}

abbrev pub view_of : Inside → WorldState
view_of w =
    record {
      registers = w.registers;
      over = w.over;
      cmp = w.cmp;
      cells = w.cells.items;
      loc = w.loc;
      clock = w.clock;
      units = w.units;
      breaks = w.breaks;
    }
