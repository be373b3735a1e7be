-- One cell more has its word, or refuses all.
use Rattle.std.proofs.Common.{◌≡◌, ℕ, [], ◌∷◌, ◌++◌, ◌+◌, ◌-◌, ◌/◌, Ok, length, ap, sym, ◌∙◌, arith}
use Rattle.std.specs.List.{range_with_len}
use Rattle.dap_points.specs.Written.{cells_with, word_with}
use Rattle.dap_points.proofs.CellsLemmas.{cells-next, cells-refused, cells_of-some}
use Rattle.dap_points.proofs.set.cells_with.Goals as goal

pub returns-in-Err-clause-refused : goal.returns-in-Err-clause-refused
returns-in-Err-clause-refused c =
    let word = word_with c.args.world.now c.args.start c.args.bytes.now in
    let from : ℕ = c.args.start / 6 in
    let count : ℕ = (c.args.start + length c.args.bytes.now - 1) / 6 + 1 - from in
    ap (cells_with word) (cells_of-some c.args.start (length c.args.bytes.now) c.requires.some)
    ∙ cells-refused word from (c.loop-number.number - from) c.loop-number.number count c.loop-number.cells.items c.in-Err.fault (omega arith) (omega arith)
    c.loop-number.invariant.cells (sym c.in-Err.ensures)

pub loop-number-preserved : goal.loop-number-preserved
loop-number-preserved c = record {
  from = omega arith;
  to = omega arith;
  cells =
      let word = word_with c.args.world.now c.args.start c.args.bytes.now in
      let from : ℕ = c.args.start / 6 in
      let next : c.loop-number.number + 1 - from ≡ (c.loop-number.number - from) + 1 = omega arith in
      ap (λ (m : ℕ). cells_with word (range_with_len from m)) next
      ∙ cells-next word from (c.loop-number.number - from) c.loop-number.number c.loop-number.cells.items c.in-Ok.word (omega arith) c.loop-number.invariant.cells
      (sym c.in-Ok.ensures)
      ∙ ap (λ (n : ℕ). Ok (c.loop-number.cells.items ++ (n, c.in-Ok.word) ∷ [])) (sym c.place_at.ensures) ∙ ap Ok (sym c.in_ok-push-in-Ok.ensures.items);
}
