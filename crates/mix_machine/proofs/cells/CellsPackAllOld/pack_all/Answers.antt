use Rattle.std.proofs.Common.{◌≡◌, ◌∙◌, ap, arith, length, sym}
use Rattle.mix_machine.proofs.CopyLemmas.{length-cell_values}
use Rattle.mix_machine.proofs.cells.CellsPackAllOld.pack_all.Goals as goal

pub append_row-requires-clause-room : goal.append_row-requires-clause-room
append_row-requires-clause-room c =
    let same : length c.self.inside.words.now ≡ length c.args.self.now =
    sym (length-cell_values c.self.inside.place c.self.inside.words.now) ∙ ap length c.self.view_is in
    omega (arith, same, c.requires)

pub returns-clause-len : goal.returns-clause-len
returns-clause-len c =
    let same : length c.self.inside.words.now ≡ length c.args.self.now =
    sym (length-cell_values c.self.inside.place c.self.inside.words.now) ∙ ap length c.self.view_is in
    omega (arith, same, c.append_row.ensures.len)
