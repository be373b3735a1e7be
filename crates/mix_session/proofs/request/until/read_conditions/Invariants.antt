use Rattle.std.proofs.Common.{◌≡◌, ◌-◌, ◌≤◌, length}
use Rattle.mix_session.specs.Until.{conditions_in, conditions_up_to, with_read}
use Rattle.mix_session.proofs.request.until.read_conditions.Given as goal

abbrev pub invariant-loop-read : goal.invariant-loop-read
invariant-loop-read g l = record {
  leads : conditions_in (g.N.Names.names l.names) l.here l.fn.words ≡ with_read l.conditions l.is_in_range (conditions_up_to (8 - l.read) (g.N.Names.names l.names) l.here l.words);
  within : length l.conditions ≤ l.read;
}
