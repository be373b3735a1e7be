use Rattle.std.proofs.Common.{rules, ◌≡◌, true, false, arith, ◌∙◌}
use Rattle.std.specs.Prelude.{ℕ, nat_lt}
use Rattle.std.specs.List.Sorted.{IsPartitionPoint}
use Rattle.std.proofs.lemmas.Bool.{ltb-true, ltb-false}
use Rattle.std.proofs.lemmas.List.Sorted.{IsPartitionPoint-from_clause, IsPartitionedBy-ltb}
use Rattle.mixal_asm.proofs.IndexLemmas.{first_at}
use Rattle.mixal_asm.proofs.index.first_from.Goals as goal

parted : (c : goal.After-place_at)
    → IsPartitionPoint (λ (cell : ℕ × ℕ). nat_lt cell.0 c.args.number ≡ true) (λ (cell : ℕ × ℕ). nat_lt cell.0 c.args.number ≡ false)
    c.args.cells.now c.partition_point-first.result
parted c =
    IsPartitionPoint-from_clause (λ (cell : ℕ × ℕ). nat_lt cell.0 c.args.number) c.args.cells.now c.partition_point-first.result
    c.partition_point-first.ensures.partitioned (IsPartitionedBy-ltb (λ (cell : ℕ × ℕ). cell.0) c.args.cells.now c.args.number c.requires)
    (λ a r f' k. search rules)

pub returns : goal.returns
returns c =
    c.place_at.ensures
    ∙ first_at c.args.number c.args.cells.now c.partition_point-first.result
    (λ k d below. ltb-true _ _ ((parted c).0 k d (omega arith) below))
    (λ k d from within. ltb-false _ _ ((parted c).1 k d from within))
