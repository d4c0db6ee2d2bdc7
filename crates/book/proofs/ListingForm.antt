-- The recount's rows have the form of a book: in each node the ending comes first. Whatever is listed, its node's ending is listed with it; that ending is not
-- above the key, and nothing listed lies between a key and the next, so the first key of a node is its ending. Assumes nothing.
use mathlib.Core.Path.{◌≡◌, refl, sym, ap, ◌∙◌}
use mathlib.Core.Logic.{◌⊎◌, inl, inr, ⊎_elim}
use Prim.Native.Nat.{ℕ, suc, ◌^◌, ◌≤◌, ◌<◌, zero-le}
use native.Mathlib.Omega.{arith}
use mathlib.Core.List.{List, [], ◌∷◌, ◌++◌, flat_map}
use Rattle.priors.specs.Rows.{Ascends, keys}
use Rattle.priors.specs.Address.{lift, rank}
use Rattle.entries.specs.Keys.{key_of, no_child, end_key, child_key, node_of, kind_of, child_of}
use Rattle.book.specs.Path.{Steps, listed_keys}
use Rattle.book.specs.Recount.{listing, rows_of}
use Rattle.book.specs.Figures.{Ranks, AllRanks}
use Rattle.priors.proofs.Ranks.{rank_lt}
use Rattle.priors.proofs.Orders.{Side, below, same, above, side}
use Rattle.entries.proofs.KeyLaws.{key_node, key_kind, key_child}
use Rattle.book.proofs.Passes.{FormedAfter, Formed}
use Rattle.book.proofs.Membership.{In, in_tail, in_head, in_cons, in_append, in_left, in_right, in_none, in_above, in_listing, listing_in}
use Rattle.book.proofs.Image.{keys_rows, ascends_listing}

abbrev pub EndOrChild : ℕ → Type 0
EndOrChild k = (k ≡ end_key (node_of k)) ⊎ (kind_of k ≡ 1)

-- ---- the node of a key

pub no_child_lt : no_child < 2 ^ 64
no_child_lt = rank_lt 0 0 (omega arith)

pub node_end : (a : ℕ) → node_of (end_key a) ≡ a
unfolding end_key
node_end a = key_node a 0 no_child (omega arith) no_child_lt

pub kind_end : (a : ℕ) → kind_of (end_key a) ≡ 0
unfolding end_key
kind_end a = key_kind a 0 no_child (omega arith) no_child_lt

pub child_end_is : (a : ℕ) → child_of (end_key a) ≡ no_child
unfolding end_key
child_end_is a = key_child a 0 no_child (omega arith) no_child_lt

pub node_child : (a b : ℕ) → b < 2 ^ 64 → node_of (child_key a b) ≡ a
unfolding child_key
node_child a b h = key_node a 1 b (omega arith) h

pub kind_child : (a b : ℕ) → b < 2 ^ 64 → kind_of (child_key a b) ≡ 1
unfolding child_key
kind_child a b h = key_kind a 1 b (omega arith) h

pub end_below_child : (a b : ℕ) → end_key a < child_key a b
unfolding end_key child_key key_of rank lift
end_below_child a b = omega arith

-- an ending or a child is not below its node's ending
child_above : (k : ℕ) → kind_of k ≡ 1 → end_key (node_of k) ≤ k
unfolding end_key key_of rank lift node_of kind_of
child_above k e = omega arith

pub below_itself : (k : ℕ) → EndOrChild k → end_key (node_of k) ≤ k
below_itself k (inl e) = omega arith
below_itself k (inr e) = child_above k e

-- between a node's ending and a key of the node there are only keys of the node
node_between : (a k : ℕ) → end_key (node_of k) ≤ a → a ≤ k → node_of a ≡ node_of k
unfolding end_key key_of rank lift node_of
node_between a k h i = omega arith

-- ---- whatever is listed, it is an ending or a child, its node is a rank, and its node's ending is listed and not above it

record Ended (k : ℕ) (ks : List ℕ) : Type 0 where
  sort : EndOrChild k
  ranked : node_of k < 2 ^ 64
  low : end_key (node_of k) ≤ k
  there : In (end_key (node_of k)) ks

-- a key of the node a, whose ending is the first of the list
ended_by : (a k : ℕ) (ks : List ℕ) → a < 2 ^ 64 → node_of k ≡ a → end_key a ≤ k → EndOrChild k → Ended k (end_key a ∷ ks)
ended_by a k ks h q l s =
    let e : end_key (node_of k) ≡ end_key a = ap end_key q in
    record { sort = s; ranked = omega arith; low = omega arith; there = in_head (end_key (node_of k)) (end_key a) ks e }

ended_end : (a k : ℕ) (ks : List ℕ) → a < 2 ^ 64 → k ≡ end_key a → Ended k (end_key a ∷ ks)
ended_end a k ks h q =
    let n : node_of k ≡ a = ap node_of q ∙ node_end a in
    ended_by a k ks h n (omega arith) (inl (q ∙ ap end_key (sym n)))

ended_child : (a b k : ℕ) (ks : List ℕ) → a < 2 ^ 64 → b < 2 ^ 64 → k ≡ child_key a b → Ended k (end_key a ∷ ks)
ended_child a b k ks h i q = ended_by a k ks h (ap node_of q ∙ node_child a b i) (omega (arith, end_below_child a b)) (inr (ap kind_of q ∙ kind_child a b i))

ended_on : (k : ℕ) (ks js : List ℕ) → ((j : ℕ) → In j ks → In j js) → Ended k ks → Ended k js
ended_on k ks js f e = record { sort = e.sort; ranked = e.ranked; low = e.low; there = f (end_key (node_of k)) e.there }

ended_path : (p : Steps) → Ranks p → (k : ℕ) → In k (listed_keys p) → Ended k (listed_keys p)
unfolding listed_keys
ended_path [] h k m = in_none k m
ended_path (a ∷ []) h k m = ⊎_elim (λ q. ended_end a k [] h.0 q) (λ i. in_none k i) (in_cons k (end_key a) [] m)
ended_path (a ∷ b ∷ p) h k m =
    let rest : List ℕ = listed_keys (b ∷ p) in
    ⊎_elim (λ q. ended_end a k (child_key a b ∷ rest) h.0 q)
    (λ i. ⊎_elim (λ q. ended_child a b k (child_key a b ∷ rest) h.0 h.1.0 q)
    (λ j. ended_on k rest (end_key a ∷ child_key a b ∷ rest) (λ x y. in_tail x (end_key a) (child_key a b ∷ rest) (in_tail x (child_key a b) rest y)) (ended_path (b ∷ p) h.1 k j))
    (in_cons k (child_key a b) rest i))
    (in_cons k (end_key a) (child_key a b ∷ rest) m)

ended_paths : (H : List Steps) → AllRanks H → (k : ℕ) → In k (flat_map listed_keys H) → Ended k (flat_map listed_keys H)
unfolding flat_map
ended_paths [] h k m = in_none k m
ended_paths (p ∷ H) h k m =
    let l : List ℕ = listed_keys p in
    let r : List ℕ = flat_map listed_keys H in
    ⊎_elim (λ i. ended_on k l (l ++ r) (λ j. in_left j l r) (ended_path p h.0 k i)) (λ i. ended_on k r (l ++ r) (λ j. in_right j l r) (ended_paths H h.1 k i)) (in_append k l r m)

pub listed_sort : (H : List Steps) → AllRanks H → (k : ℕ) → In k (listing H) → EndOrChild k
listed_sort H h k m = (ended_paths H h k (in_listing H k m)).sort

-- the node of a listed key is a rank
pub node_ranked : (H : List Steps) → AllRanks H → (k : ℕ) → In k (listing H) → node_of k < 2 ^ 64
node_ranked H h k m = (ended_paths H h k (in_listing H k m)).ranked

-- ---- the form

-- for the keys of a list, from a on
Closed : ℕ → List ℕ → Type 0
Closed a ks = (k : ℕ) → In k ks → (end_key (node_of k) ≤ k) × (a ≤ end_key (node_of k) → In (end_key (node_of k)) ks)

closed_listing : (H : List Steps) → AllRanks H → Closed 0 (listing H)
unfolding Closed
closed_listing H h k m = let e = ended_paths H h k (in_listing H k m) in (e.low, λ l. listing_in H (end_key (node_of k)) e.there)

-- where the ending of the first key's node is not below the bound, it is the first key
first_is_end : (a x : ℕ) (ks : List ℕ) → Ascends a (x ∷ ks) → Closed a (x ∷ ks) → a ≤ end_key (node_of x) → x ≡ end_key (node_of x)
unfolding Closed
first_is_end a x ks h c l =
    let own = c x (in_head x x ks refl) in
    ⊎_elim (λ q. sym q) (λ m. absurd (omega (arith, own.0, in_above (suc x) (end_key (node_of x)) ks h.1 m))) (in_cons (end_key (node_of x)) x ks (own.1 l))

closed_rest : (a x : ℕ) (ks : List ℕ) → Ascends a (x ∷ ks) → Closed a (x ∷ ks) → Closed (suc x) ks
unfolding Closed
closed_rest a x ks h c k m =
    let own = c k (in_tail k x ks m) in
    (own.0, λ (l : suc x ≤ end_key (node_of k)). ⊎_elim (λ q. absurd (omega arith)) (λ i. i) (in_cons (end_key (node_of k)) x ks (own.1 (omega arith))))

formed_after_lem : (a : ℕ) (ks : List ℕ) → Ascends (suc a) ks → Closed (suc a) ks → FormedAfter a ks
formed_after_lem a [] h c = tt
formed_after_lem a (x ∷ ks) h c = (h.0, begins (side (end_key (node_of x)) (suc a)), formed_after_lem x ks h.1 (closed_rest (suc a) x ks h c))
  where
    begins : Side (end_key (node_of x)) (suc a) → (node_of a ≡ node_of x) ⊎ (x ≡ end_key (node_of x))
    begins (below l e) = inl (node_between a x (omega arith) (omega arith))
    begins (same q e) = inr (first_is_end (suc a) x ks h c (omega arith))
    begins (above l e) = inr (first_is_end (suc a) x ks h c (omega arith))

formed_keys : (ks : List ℕ) → Ascends 0 ks → Closed 0 ks → Formed ks
formed_keys [] h c = tt
formed_keys (x ∷ ks) h c = (first_is_end 0 x ks h c zero-le, formed_after_lem x ks h.1 (closed_rest 0 x ks h c))

-- where each key's node has its ending among them, and not above it
closed_ends : (ks : List ℕ) → ((k : ℕ) → In k ks → (end_key (node_of k) ≤ k) × In (end_key (node_of k)) ks) → Closed 0 ks
unfolding Closed
closed_ends ks c k i = ((c k i).0, λ l. (c k i).1)

pub formed_ends : (ks : List ℕ) → Ascends 0 ks → ((k : ℕ) → In k ks → (end_key (node_of k) ≤ k) × In (end_key (node_of k)) ks) → Formed ks
formed_ends ks h c = formed_keys ks h (closed_ends ks c)

pub formed_rows : (W : ℕ) (H L : List Steps) → AllRanks L → Formed (keys (rows_of W H L))
formed_rows W H L h = rw keys_rows (formed_keys (listing L) (ascends_listing L) (closed_listing L h))
