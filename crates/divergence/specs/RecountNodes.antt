-- The recount's lists for readings: which nodes L lists, which children under each, and how often the window part of H counts them, told from the paths alone, with no
-- book, no queue and no keys. Assumes nothing.
use Rattle.std.specs.Prelude.{ℕ, cond, List, [], ◌∷◌, map, ◌==◌}
use mathlib.Core.List.{flat_map}
use Rattle.priors.specs.Rows.{row}
use Rattle.book.specs.Path.{Steps}
use Rattle.book.specs.Recount.{window_part, enter_all}
use Rattle.book.specs.Figures.{total, transitions, endings}
use Rattle.divergence.specs.Nodes.{Node}

-- the nodes that some path of L holds, each once, ascending
unfoldable pub nodes_listed : List Steps → List ℕ
nodes_listed L = enter_all (flat_map (λ (p : Steps). p) L) []

-- the steps right after a in a path
unfoldable pub followers : ℕ → Steps → List ℕ
followers a [] = []
followers a (x ∷ []) = []
followers a (x ∷ y ∷ p) = cond (a == x) (y ∷ followers a (y ∷ p)) (followers a (y ∷ p))

-- the children under a: the two are a transition somewhere in L; each once, ascending
unfoldable pub children_listed : ℕ → List Steps → List ℕ
children_listed a L = enter_all (flat_map (followers a) L) []

-- a node with its evidence: how many paths of the window part end at it, and how often each transition stands in them
unfoldable pub node_counted : ℕ → List Steps → List Steps → ℕ → Node
node_counted W H L a = record {
  address = a;
  evidence = record {
    ending = total (endings a) (window_part W H);
    children = map (λ b. row b (total (transitions a b) (window_part W H))) (children_listed a L);
  };
}

-- the listed nodes, ascending
unfoldable pub recount_nodes : ℕ → List Steps → List Steps → List Node
recount_nodes W H L = map (node_counted W H L) (nodes_listed L)
