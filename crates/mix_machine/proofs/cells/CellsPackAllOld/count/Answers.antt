use Rattle.std.proofs.Common.{◌∙◌, ap, length, sym}
use Rattle.mix_machine.proofs.CopyLemmas.{length-cell_values}
use Rattle.mix_machine.proofs.cells.CellsPackAllOld.count.Goals as goal

pub returns : goal.returns
returns c = sym (length-cell_values c.self.inside.place c.self.inside.words.now) ∙ ap length c.self.view_is
