use Rattle.std.proofs.Common.{◌≡◌, ◌<◌, ℕ, false, length}
use Rattle.std.specs.List.{list_any}
use Rattle.std.specs.Option.{option_or}
use Rattle.mix_nodes.specs.Nodes.{leads_to, link_target}
use Rattle.mix_nodes.specs.Rows.{row_if, row_in}
use Rattle.mix_nodes.proofs.rows.put_targets.Given as goal

-- what was put so far, and what the links that are left lead to
abbrev pub invariant-loop-rest : goal.invariant-loop-rest
invariant-loop-rest l = record {
  len : length l.rows ≡ length l.fn.rows;
  none : l.found ≡ false → l.rows ≡ l.fn.rows;
  rows : (b : ℕ) → b < length l.fn.rows
      → option_or (row_in l.rows b) (row_if (list_any (λ f. leads_to b (link_target l.world l.shape l.node f)) l.rest) l.row)
      ≡ option_or (row_in l.fn.rows b) (row_if (list_any (λ f. leads_to b (link_target l.world l.shape l.node f)) l.shape.links) l.row);
}

abbrev pub decreases-loop-rest : goal.decreases-loop-rest
decreases-loop-rest l = length l.rest
