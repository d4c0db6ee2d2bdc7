-- The recount's rows, read as nodes, are the recount's nodes, for paths whose steps are ranks: the listing is the keys of the listed nodes, node by node, since both
-- ascend and have the same members; and a key's count in the window part is that of its ending or its transition. Assumes nothing.
use Rattle.std.proofs.Common.{◌≡◌, ℕ, ◌+◌, ◌^◌, ◌<◌, ◌≤◌, Bool, true, false, cond, ◌&&◌, eqb, List, [], ◌∷◌, ◌++◌, map, sym, refl, ap, ◌∙◌, ap₂, ⊎_elim, append-nil, arith}
use mathlib.Core.List.{flat_map}
use Rattle.priors.specs.Rows.{Row, row}
use Rattle.entries.specs.Keys.{end_key, child_key, node_of, child_of}
use Rattle.book.specs.Path.{Steps, listed_keys, counted_keys}
use Rattle.book.specs.Recount.{occurrences, window_part, listing, counted, rows_of}
use Rattle.book.specs.Figures.{total, transitions, endings, Ranks, AllRanks}
use Rattle.entries.proofs.KeyLaws.{key_child, key_parts, child_lt}
use Rattle.book.proofs.ManyRows.{ascends_entered}
use Rattle.book.proofs.Occurrences.{occ_nil, occ_cons, occ_append}
use Rattle.book.proofs.Window.{EndsWith}
use Rattle.book.proofs.Image.{ascends_listing}
use Rattle.book.proofs.Meaning.{ends_listed, ends_counted, child_listed, child_counted, occ_total, ranks_window, stands_total}
use Rattle.book.proofs.Membership.{In, in_tail, in_head, in_cons, in_append, in_none, enter_all-in, in_entered, in_listing, listing_in, same_members}
use Rattle.book.proofs.ListingForm.{node_end, kind_end, kind_child, listed_sort}
use Rattle.divergence.specs.Nodes.{Node, spread, listed_nodes}
use Rattle.divergence.specs.RecountNodes.{nodes_listed, followers, children_listed, node_counted, recount_nodes}
use Rattle.divergence.proofs.AscentLaws.{in_map, map_in, in_each, each_in, node_keys, ascends_nodes}

-- ---- the steps after a node, in a path

module _ (a b : ℕ) where
  -- b follows a as often as the two are a transition
  pub followers_count : (p : Steps) → occurrences b (followers a p) ≡ transitions a b p
  unfolding followers transitions
  followers_count [] = occ_nil b
  followers_count (x ∷ []) = occ_nil b
  followers_count (x ∷ y ∷ p) = go (eqb a x) (followers_count (y ∷ p))
    where
      go : (t : Bool) → occurrences b (followers a (y ∷ p)) ≡ transitions a b (y ∷ p)
          → occurrences b (cond t (y ∷ followers a (y ∷ p)) (followers a (y ∷ p))) ≡ cond (t && eqb b y) 1 0 + transitions a b (y ∷ p)
      go true ih = omega (arith, occ_cons b y (followers a (y ∷ p)))
      go false ih = omega arith

  -- and no more often than a stands in the path
  followers_le : (p : Steps) → occurrences b (followers a p) ≤ occurrences a p
  unfolding followers
  followers_le [] = omega (arith, occ_nil b)
  followers_le (x ∷ []) = omega (arith, occ_nil b)
  followers_le (x ∷ y ∷ p) = omega (arith, occ_cons a x (y ∷ p), go (eqb a x) (followers_le (y ∷ p)))
    where
      at_most : (t : Bool) → cond t 1 0 ≤ 1
      at_most true = omega arith
      at_most false = omega arith

      go : (t : Bool) → occurrences b (followers a (y ∷ p)) ≤ occurrences a (y ∷ p)
          → occurrences b (cond t (y ∷ followers a (y ∷ p)) (followers a (y ∷ p))) ≤ cond t 1 0 + occurrences a (y ∷ p)
      go true ih = omega (arith, occ_cons b y (followers a (y ∷ p)), at_most (eqb b y))
      go false ih = omega arith

  followers_le_all : (H : List Steps) → occurrences b (flat_map (followers a) H) ≤ occurrences a (flat_map (λ (p : Steps). p) H)
  unfolding flat_map
  followers_le_all [] = omega (arith, occ_nil b)
  followers_le_all (p ∷ H) =
      omega (arith, occ_append b (followers a p) (flat_map (followers a) H), occ_append a p (flat_map (λ (q : Steps). q) H), followers_le p, followers_le_all H)

  follower_rank : (p : Steps) → Ranks p → In b (followers a p) → b < 2 ^ 64
  unfolding followers
  follower_rank [] h i = in_none b i
  follower_rank (x ∷ []) h i = in_none b i
  follower_rank (x ∷ y ∷ p) h i = go (eqb a x) i (follower_rank (y ∷ p) h.1)
    where
      go : (t : Bool) → In b (cond t (y ∷ followers a (y ∷ p)) (followers a (y ∷ p))) → (In b (followers a (y ∷ p)) → b < 2 ^ 64) → b < 2 ^ 64
      go true i ih = ⊎_elim (λ q. omega (arith, h.1.0)) ih (in_cons b y (followers a (y ∷ p)) i)
      go false i ih = ih i

  followers_rank : (H : List Steps) → AllRanks H → In b (flat_map (followers a) H) → b < 2 ^ 64
  unfolding flat_map
  followers_rank [] h i = in_none b i
  followers_rank (p ∷ H) h i = ⊎_elim (follower_rank p h.0) (followers_rank H h.1) (in_append b (followers a p) (flat_map (followers a) H) i)

  pub followers_total : (H : List Steps) → AllRanks H → occurrences b (flat_map (followers a) H) ≡ total (transitions a b) H
  followers_total = occ_total b (followers a) (transitions a b) (λ p h. followers_count p)

-- ---- the listing, node by node

module _ (H : List Steps) (ranks : AllRanks H) where
  abbrev children : ℕ → List ℕ
  children a = children_listed a H

  pub child_rank : (a b : ℕ) → In b (children a) → b < 2 ^ 64
  unfolding children_listed
  child_rank a b i = followers_rank a b H ranks (in_entered b (flat_map (followers a) H) i)

  -- an ending is listed as often as its node stands in the paths, a child as often as it follows
  ends_all : (a : ℕ) → occurrences (end_key a) (flat_map listed_keys H) ≡ occurrences a (flat_map (λ (p : Steps). p) H)
  ends_all a = occ_total (end_key a) listed_keys (occurrences a) (ends_listed a) H ranks ∙ sym (stands_total a H ranks)

  children_all : (a b : ℕ) → b < 2 ^ 64 → occurrences (child_key a b) (flat_map listed_keys H) ≡ occurrences b (flat_map (followers a) H)
  children_all a b r =
      occ_total (child_key a b) listed_keys (transitions a b) (child_listed a b r) H ranks
      ∙ sym (followers_total a b H ranks)

  node_in : (a : ℕ) → In (end_key a) (listing H) → In a (nodes_listed H)
  unfolding nodes_listed
  node_in a i = enter_all-in a (flat_map (λ (p : Steps). p) H) [] (omega (arith, ends_all a, in_listing H (end_key a) i))

  child_in : (a b : ℕ) → b < 2 ^ 64 → In (child_key a b) (listing H) → In b (children a)
  unfolding children_listed
  child_in a b r i = enter_all-in b (flat_map (followers a) H) [] (omega (arith, children_all a b r, in_listing H (child_key a b) i))

  -- whatever has a child is listed
  parent_in : (a b : ℕ) → In b (children a) → In a (nodes_listed H)
  unfolding children_listed nodes_listed
  parent_in a b i =
      enter_all-in a (flat_map (λ (p : Steps). p) H) []
      (omega (arith, in_entered b (flat_map (followers a) H) i, followers_le_all a b H))

  there : (k : ℕ) → In k (listing H) → In k (flat_map (node_keys children) (nodes_listed H))
  unfolding child_key
  there k i = ⊎_elim (ending (node_of k)) (λ e. child (node_of k) (child_of k) (child_lt k) (sym (key_parts k) ∙ rw e)) (listed_sort H ranks k i)
    where
      ending : (a : ℕ) → k ≡ end_key a → In k (flat_map (node_keys children) (nodes_listed H))
      ending a q = each_in (node_keys children) k a (nodes_listed H) (node_in a (rw q at i)) (in_head k (end_key a) (map (child_key a) (children a)) q)

      child : (a b : ℕ) → b < 2 ^ 64 → k ≡ child_key a b → In k (flat_map (node_keys children) (nodes_listed H))
      child a b r q =
          let m : In b (children a) = child_in a b r (rw q at i) in
          each_in (node_keys children) k a (nodes_listed H) (parent_in a b m) (in_tail k (end_key a) (map (child_key a) (children a)) (rw q (map_in (child_key a) b (children a) m)))

  back : (k : ℕ) → In k (flat_map (node_keys children) (nodes_listed H)) → In k (listing H)
  unfolding nodes_listed children_listed
  back k i =
      let n = in_each (node_keys children) k (nodes_listed H) i in
      let a : ℕ = n.0 in
      ⊎_elim
      (λ q. rw q (listing_in H (end_key a) (omega (arith, ends_all a, in_entered a (flat_map (λ (p : Steps). p) H) n.1))))
      (λ m. let c = in_map (child_key a) k (children a) m in
      rw c.2 (listing_in H (child_key a c.0) (omega (arith, children_all a c.0 (child_rank a c.0 c.1), in_entered c.0 (flat_map (followers a) H) c.1))))
      (in_cons k (end_key a) (map (child_key a) (children a)) n.2)

  pub listing_nodes : listing H ≡ flat_map (node_keys children) (nodes_listed H)
  unfolding children_listed nodes_listed
  listing_nodes =
      same_members 0 (listing H) (flat_map (node_keys children) (nodes_listed H)) (ascends_listing H)
      (ascends_nodes children (λ a. ascends_entered (flat_map (followers a) H)) child_rank (nodes_listed H) (ascends_entered (flat_map (λ (p : Steps). p) H)))
      there back

-- ---- rows that are listed node by node, read as nodes

child_is : (a c : ℕ) → c < 2 ^ 64 → child_of (child_key a c) ≡ c
unfolding child_key
child_is a c h = key_child a 1 c (omega arith) h

module _ (f : ℕ → ℕ) (children : ℕ → List ℕ) (ranked : (a c : ℕ) → In c (children a) → c < 2 ^ 64) where
  abbrev row_for : ℕ → Row
  row_for k = row k (f k)

  abbrev node_for : ℕ → Node
  node_for a = record { address = a; evidence = record { ending = f (end_key a); children = map (λ b. row b (f (child_key a b))) (children a) } }

  spread_children : (a : ℕ) (cs ks : List ℕ) → ((c : ℕ) → In c cs → c < 2 ^ 64)
      → spread (map row_for (map (child_key a) cs ++ ks)) ≡ (map (λ b. row b (f (child_key a b))) cs ++ (spread (map row_for ks)).0, (spread (map row_for ks)).1)
  unfolding spread
  spread_children a [] ks r = refl
  spread_children a (c ∷ cs) ks r =
      let h : c < 2 ^ 64 = r c (in_head c c cs refl) in
      rw (kind_child a c h, child_is a c h, spread_children a cs ks (λ d i. r d (in_tail d c cs i)))

  spread_nodes : (ns : List ℕ) → spread (map row_for (flat_map (node_keys children) ns)) ≡ ([], map node_for ns)
  unfolding spread flat_map
  spread_nodes [] = refl
  spread_nodes (a ∷ ns) = rw (kind_end a, node_end a, spread_children a (children a) (flat_map (node_keys children) ns) (ranked a), spread_nodes ns, append-nil)

-- ---- the counts

module _ (W : ℕ) (H L : List Steps) (ends : EndsWith W H L) (ranks : AllRanks L) where
  counted_ending : (a : ℕ) → counted W H (end_key a) ≡ total (endings a) (window_part W H)
  unfolding counted
  counted_ending a = occ_total (end_key a) counted_keys (endings a) (ends_counted a) (window_part W H) (ranks_window W H L ends ranks)

  counted_child : (a b : ℕ) → b < 2 ^ 64 → counted W H (child_key a b) ≡ total (transitions a b) (window_part W H)
  unfolding counted
  counted_child a b r = occ_total (child_key a b) counted_keys (transitions a b) (child_counted a b r) (window_part W H) (ranks_window W H L ends ranks)

  children_counted : (a : ℕ) (cs : List ℕ) → ((c : ℕ) → In c cs → c < 2 ^ 64)
      → map (λ b. row b (counted W H (child_key a b))) cs ≡ map (λ b. row b (total (transitions a b) (window_part W H))) cs
  children_counted a [] r = refl
  children_counted a (c ∷ cs) r =
      ap₂ (λ (n : ℕ) (rs : List Row). row c n ∷ rs) (counted_child a c (r c (in_head c c cs refl))) (children_counted a cs (λ d i. r d (in_tail d c cs i)))

  node_is : (a : ℕ) → node_for (counted W H) (λ b. children_listed b L) (child_rank L ranks) a ≡ node_counted W H L a
  unfolding node_counted
  node_is a = λ i. record {
    address = a;
    evidence = record { ending = counted_ending a i; children = children_counted a (children_listed a L) (child_rank L ranks a) i };
  }

  pub listed_nodes_lem : listed_nodes (rows_of W H L) ≡ recount_nodes W H L
  unfolding listed_nodes rows_of recount_nodes
  listed_nodes_lem =
      ap (λ (ks : List ℕ). (spread (map (λ k. row k (counted W H k)) ks)).1) (listing_nodes L ranks)
      ∙ ap (λ (s : List Row × List Node). s.1) (spread_nodes (counted W H) (λ a. children_listed a L) (child_rank L ranks) (nodes_listed L))
      ∙ (λ i. map (λ a. node_is a i) (nodes_listed L))
