-- What stands in a list made of another, and that the keys of nodes and their children, node by node, ascend as the nodes and the children do. Assumes nothing.
use Rattle.std.proofs.Common.{◌≡◌, ℕ, suc, ◌^◌, ◌<◌, ◌≤◌, List, [], ◌∷◌, ◌++◌, map, refl, ap, ⊎_elim, zero-le, arith}
use mathlib.Core.List.{flat_map}
use Rattle.priors.specs.Rows.{Ascends}
use Rattle.priors.specs.Address.{lift, rank}
use Rattle.priors.proofs.RowLaws.{ascends_from}
use Rattle.entries.specs.Keys.{key_of, end_key, child_key}
use Rattle.book.proofs.Membership.{In, in_tail, in_head, in_cons, in_append, in_left, in_right, in_none}

-- ---- members

pub in_map : (f : ℕ → ℕ) (k : ℕ) (xs : List ℕ) → In k (map f xs) → (x : ℕ) × In x xs × (k ≡ f x)
in_map f k [] h = in_none k h
in_map f k (x ∷ xs) h = ⊎_elim (λ q. (x, in_head x x xs refl, q)) (λ i. let m = in_map f k xs i in (m.0, in_tail m.0 x xs m.1, m.2)) (in_cons k (f x) (map f xs) h)

pub map_in : (f : ℕ → ℕ) (x : ℕ) (xs : List ℕ) → In x xs → In (f x) (map f xs)
map_in f x [] h = in_none x h
map_in f x (y ∷ xs) h = ⊎_elim (λ q. in_head (f x) (f y) (map f xs) (ap f q)) (λ i. in_tail (f x) (f y) (map f xs) (map_in f x xs i)) (in_cons x y xs h)

pub in_each : (f : ℕ → List ℕ) (k : ℕ) (xs : List ℕ) → In k (flat_map f xs) → (x : ℕ) × In x xs × In k (f x)
unfolding flat_map
in_each f k [] h = in_none k h
in_each f k (x ∷ xs) h = ⊎_elim (λ i. (x, in_head x x xs refl, i)) (λ i. let m = in_each f k xs i in (m.0, in_tail m.0 x xs m.1, m.2)) (in_append k (f x) (flat_map f xs) h)

pub each_in : (f : ℕ → List ℕ) (k x : ℕ) (xs : List ℕ) → In x xs → In k (f x) → In k (flat_map f xs)
unfolding flat_map
each_in f k x [] h i = in_none x h
each_in f k x (y ∷ xs) h i =
    ⊎_elim (λ q. in_left k (f y) (flat_map f xs) (rw q at i)) (λ m. in_right k (f y) (flat_map f xs) (each_in f k x xs m i)) (in_cons x y xs h)

-- ---- the keys of nodes, node by node

-- a node's ending, then its children
abbrev pub node_keys : (ℕ → List ℕ) → ℕ → List ℕ
node_keys children a = end_key a ∷ map (child_key a) (children a)

ascends_children : (a lo b : ℕ) (cs rest : List ℕ) → lo ≤ child_key a b → lo ≤ end_key (suc a) → Ascends b cs → ((c : ℕ) → In c cs → c < 2 ^ 64) → Ascends (end_key (suc a)) rest
    → Ascends lo (map (child_key a) cs ++ rest)
unfolding end_key child_key key_of rank lift
ascends_children a lo b [] rest l m h r t = ascends_from lo (end_key (suc a)) rest m t
ascends_children a lo b (c ∷ cs) rest l m h r t = (
  omega arith,
  ascends_children a (suc (child_key a c)) (suc c) cs rest (omega arith) (omega (arith, r c (in_head c c cs refl))) h.1 (λ d i. r d (in_tail d c cs i)) t,
)

module _ (children : ℕ → List ℕ) (up : (a : ℕ) → Ascends 0 (children a)) (ranked : (a c : ℕ) → In c (children a) → c < 2 ^ 64) where
  nodes_from_lem : (lo : ℕ) (ns : List ℕ) → Ascends lo ns → Ascends (end_key lo) (flat_map (node_keys children) ns)
  unfolding flat_map end_key child_key key_of rank lift
  nodes_from_lem lo [] h = tt
  nodes_from_lem lo (a ∷ ns) h = (
    omega arith,
    ascends_children a (suc (end_key a)) 0 (children a) (flat_map (node_keys children) ns) (omega arith) (omega arith) (up a) (ranked a) (nodes_from_lem (suc a) ns h.1),
  )

  pub ascends_nodes : (ns : List ℕ) → Ascends 0 ns → Ascends 0 (flat_map (node_keys children) ns)
  ascends_nodes ns h = ascends_from 0 (end_key 0) (flat_map (node_keys children) ns) zero-le (nodes_from_lem 0 ns h)
