-- A box ends with a column that is dark, and as dark as which the next one is not.
use Rattle.std.proofs.Common.{ℕ, ap, arith, ◌∙◌, ◌+◌}
use Rattle.mix_map.specs.Map.{boxes_at, counted, one_if}
use Rattle.mix_map.proofs.MapLemmas.{boxes-other, own-drawn}
use Rattle.mix_map.proofs.boxes.add_row.Goals as goal

pub loop-column-preserved-in_ok-push : goal.loop-column-preserved-in_ok-push
loop-column-preserved-in_ok-push c =
    let count : ℕ → ℕ = λ i. counted c.args.columns c.args.counts.now i c.args.place in
    let k = c.loop-column.column in
    let so_far = c.loop-column.invariant in
    record {
      within = omega (arith, c.loop-column-test.true);
      from = omega arith;
      alike = λ i low most. ap (λ (j : ℕ). one_if (count j)) (omega (arith, low, most));
      own = λ i less. ap (boxes_at c.args.number i) c.in_ok-push.ensures.items
          ∙ own-drawn count k c.loop-column.from c.shade-dark.result c.shade-dark.ensures (omega (arith, c.if-dark-ne0.true)) so_far.from so_far.alike
          c.args.number i c.loop-column.boxes.items (so_far.own i less);
      others = λ r i other. ap (boxes_at r i) c.in_ok-push.ensures.items
          ∙ boxes-other c.args.number r i c.loop-column.from (k + 1) c.shade-dark.result c.loop-column.boxes.items other ∙ so_far.others r i other;
    }
