-- The stage of a dialogue that holds this.
use Rattle.mix_dap.specs.Dialogue.{Stage, debugs, done, waiting}
use Rattle.mix_dap.specs.declared.served.Holds.{Holds}
use Rattle.mix_dap.specs.declared.served.Holds.TheVariants as holds

abbrev pub stage_of : Holds → Stage
stage_of (holds.Waiting before) = waiting before.client
stage_of (holds.Program adapter) = debugs adapter
stage_of holds.Nothing = done
