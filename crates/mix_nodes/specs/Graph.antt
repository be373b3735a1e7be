-- What is seen of the nodes of linked memory.
use Rattle.std.specs.Prelude.{ℕ, zero, suc, List, [], ◌∷◌, ◌++◌, Option, None, Some}
use Rattle.mix_machine.specs.World.{WorldState}
use Rattle.mix_nodes.specs.Nodes.{location_of, row_of}
use Rattle.mix_nodes.specs.Shape.{ShapeValue}
use Rattle.mix_nodes.specs.declared.graph.Node.{Node}

-- the cell of a node, and its row
abbrev pub node_seen : Node → ℕ × ℕ
node_seen node = (node.cell, node.row)

abbrev pub seen_if : ℕ → Option ℕ → List (ℕ × ℕ)
seen_if cell None = []
seen_if cell (Some row) = (cell, row) ∷ []

-- those of the first n nodes that can be reached
unfoldable pub nodes_below : WorldState → ShapeValue → ℕ → List (ℕ × ℕ)
nodes_below w s zero = []
nodes_below w s (suc n) = nodes_below w s n ++ seen_if (location_of s n) (row_of w s n)
