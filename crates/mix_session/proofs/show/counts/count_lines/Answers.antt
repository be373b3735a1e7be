-- The lines are those of what is counted.
use Rattle.std.proofs.Common.{List, ℕ, ◌++◌, ◌∙◌, ap}
use Rattle.mix_session.specs.Counts.{total_line}
use Rattle.mix_session.proofs.TallyLemmas.{counts_text-is}
use Rattle.mix_session.proofs.show.counts.count_lines.Goals as goal

pub returns : goal.returns
returns c =
    let lines = rw (c.deref.ensures.value, c.new-text.ensures.items) at c.in_ok-add_lines.ensures in
    c.in_ok-add_total.ensures ∙ ap (λ (text : List ℕ). text ++ total_line c.in_ok-tallies.tallies.all) lines
    ∙ counts_text-is c.args.program.now c.args.journal.now c.world_of.result.now c.in_ok-tallies.tallies.cells.items c.in_ok-tallies.tallies.all c.world_of.ensures
    c.in_ok-tallies.ensures.all c.in_ok-tallies.ensures.cells
