use Rattle.std.proofs.Common.{◌≡◌, drop, map}
use Rattle.dap_asked.specs.Kind.{kind_among}
use Rattle.dap_asked.proofs.kind.kind_among.Given as goal

abbrev pub invariant-loop-row : goal.invariant-loop-row
invariant-loop-row l =
    kind_among l.name (map (λ row. (row.0.now, row.1)) (drop l.row-index l.rows)) ≡ kind_among l.name (map (λ row. (row.0.now, row.1)) l.rows)
