use Rattle.std.proofs.Common.{◌≡◌, ◌-◌, ◌++◌, drop, flat_map, length}
use Rattle.mix_run.specs.Keep.{first_kept, kept_block}
use Rattle.mix_run.proofs.keep.add_blocks.Given as goal

-- the blocks so far, and those that are left, are all that are kept
abbrev pub invariant-loop-at : goal.invariant-loop-at
invariant-loop-at l =
    l.text.items ++ flat_map (kept_block l.kind) (drop l.at l.unit.blocks)
    ≡ l.fn.text.items ++ flat_map (kept_block l.kind) (drop (first_kept l.kind l.unit) l.unit.blocks)

abbrev pub decreases-loop-at : goal.decreases-loop-at
decreases-loop-at l = length l.unit.blocks - l.at
