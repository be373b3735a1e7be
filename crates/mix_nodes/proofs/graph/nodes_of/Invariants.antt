use Rattle.std.proofs.Common.{◌≡◌, map}
use Rattle.mix_nodes.specs.Graph.{node_seen, nodes_below}
use Rattle.mix_nodes.proofs.graph.nodes_of.Given as goal

-- those of the nodes so far
abbrev pub invariant-loop-node : goal.invariant-loop-node
invariant-loop-node l = map node_seen l.nodes.items ≡ nodes_below l.world l.shape l.node
