-- What a tidy keeps of the recount's rows are the rows that the window part lists: a child of count 0 is none of its transitions, and a node whose counts are all 0
-- stands in none of its paths. By look-ups, as every law of rows. Assumes nothing.
use mathlib.Core.Path.{◌≡◌, refl, sym, ap, ◌∙◌}
use mathlib.Core.Logic.{inl, inr}
use Prim.Native.Nat.{ℕ, zero, suc, ◌≤◌, ◌<◌}
use native.Mathlib.Omega.{arith}
use mathlib.Core.List.{List, [], ◌∷◌, flat_map}
use Rattle.std.specs.Prelude.{Option, None, Some}
use mathlib.Core.Bool.{Bool, true, false, cond}
use lib.Dec.{ltb}
use lib.ListN.{length}
use borrow.Author.Tests.{ne_eqb, lt-ltb}
use Rattle.priors.specs.Rows.{Row, row, keys, Ascends, look}
use Rattle.entries.specs.Keys.{end_key, child_key, node_of, kind_of}
use Rattle.book.specs.Path.{Steps, listed_keys, counted_keys}
use Rattle.book.specs.Recount.{occurrences, window_part, counted, listing, rows_of}
use Rattle.book.specs.Figures.{total, AllRanks}
use Rattle.book.specs.Visits.{evidence_total}
use Rattle.book.specs.Tidy.{keep_where, stays, kept}
use Rattle.priors.proofs.Orders.{Side, below, same, above, side}
use Rattle.priors.proofs.RowLaws.{ascends_from}
use Rattle.priors.proofs.Ext.{ext, look_low}
use Rattle.book.proofs.Passes.{found}
use Rattle.book.proofs.Occurrences.{hit, occ_cons, occ_append, occ_drop}
use Rattle.book.proofs.Window.{EndsWith}
use Rattle.book.proofs.Image.{look_rows, ascends_rows}
use Rattle.book.proofs.Meaning.{ends_listed, occ_total, ranks_window}
use Rattle.book.proofs.Membership.{listing_in}
use Rattle.book.proofs.ListingForm.{EndOrChild, kind_end, listed_sort}
use Rattle.book.proofs.VisitLaws.{visits_are, total_visits}
use Rattle.book.proofs.BookImage.{length_image}

-- ---- rows that pass a test

-- what a look-up finds of them, by what it found
abbrev passed : (Row → Bool) → ℕ → Option ℕ → Option ℕ
passed test j None = None
passed test j (Some c) = cond (test (row j c)) (Some c) None

module _ (test : Row → Bool) where
  ascends_keep : (a : ℕ) (rs : List Row) → Ascends a (keys rs) → Ascends a (keys (keep_where test rs))
  unfolding keep_where
  ascends_keep a [] h = tt
  ascends_keep a (r ∷ rs) h = go (test r) (ascends_keep (suc r.key) rs h.1)
    where
      go : (b : Bool) → Ascends (suc r.key) (keys (keep_where test rs)) → Ascends a (keys (cond b (r ∷ keep_where test rs) (keep_where test rs)))
      go true ih = (h.0, ih)
      go false ih = ascends_from a (suc r.key) (keys (keep_where test rs)) (omega arith) ih

  look_keep : (a j : ℕ) (rs : List Row) → Ascends a (keys rs) → look j (keep_where test rs) ≡ passed test j (look j rs)
  unfolding keep_where look
  look_keep a j [] h = refl
  look_keep a j (r ∷ rs) h = go (test r) refl (side j r.key) (look_keep (suc r.key) j rs h.1)
    where
      later : j < suc r.key → look j (keep_where test rs) ≡ None
      later l = look_low j (suc r.key) (keep_where test rs) l (ascends_keep (suc r.key) rs h.1)

      go : (b : Bool) → test r ≡ b → Side j r.key → look j (keep_where test rs) ≡ passed test j (look j rs) → look j (cond b (r ∷ keep_where test rs) (keep_where test rs)) ≡ passed test j (look j (r ∷ rs))
      go true t (below l e) ih = rw e
      go true t (same q e) ih = rw e (rw (q, t))
      go true t (above l e) ih = rw e ih
      go false t (below l e) ih = rw e (later (omega arith))
      go false t (same q e) ih = rw e (later (omega arith) ∙ rw (q, t))
      go false t (above l e) ih = rw e ih

  length_keep : (rs : List Row) → length (keep_where test rs) ≤ length rs
  unfolding keep_where
  length_keep [] = omega arith
  length_keep (r ∷ rs) = go (test r) (length_keep rs)
    where
      go : (b : Bool) → length (keep_where test rs) ≤ length rs → length (cond b (r ∷ keep_where test rs) (keep_where test rs)) ≤ suc (length rs)
      go true ih = omega arith
      go false ih = omega arith

-- ---- for a key that is no ending, a path lists what it counts

child_same : (k : ℕ) → kind_of k ≡ 1 → (p : Steps) → occurrences k (listed_keys p) ≡ occurrences k (counted_keys p)
unfolding listed_keys counted_keys
child_same k h [] = refl
child_same k h (a ∷ []) = refl
child_same k h (a ∷ b ∷ p) =
    let differ : hit k (end_key a) ≡ 0 = rw (ne_eqb k (end_key a) (λ e. omega (arith, ap kind_of e, kind_end a))) in
    omega (arith, occ_cons k (end_key a) (child_key a b ∷ listed_keys (b ∷ p)), occ_cons k (child_key a b) (listed_keys (b ∷ p)), occ_cons k (child_key a b) (counted_keys (b ∷ p)), child_same k h (b ∷ p))

child_same_all : (k : ℕ) → kind_of k ≡ 1 → (H : List Steps) → occurrences k (flat_map listed_keys H) ≡ occurrences k (flat_map counted_keys H)
unfolding flat_map
child_same_all k h [] = refl
child_same_all k h (p ∷ H) =
    omega (arith, occ_append k (listed_keys p) (flat_map listed_keys H), occ_append k (counted_keys p) (flat_map counted_keys H), child_same k h p, child_same_all k h H)

-- ---- the rows that the window part lists

some_if : (n c : ℕ) → cond (ltb 0 n) (Some c) None ≡ found n c
some_if zero c = refl
some_if (suc n) c = rw (lt-ltb 0 (suc n) (omega arith))

module _ (W : ℕ) (H L : List Steps) (ends : EndsWith W H L) (ranks : AllRanks L) where
  abbrev part : List Steps
  part = window_part W H

  -- a listed key: what the test leaves of its row is what the window part lists
  listed_count : (j : ℕ) → EndOrChild j → passed (stays (rows_of W H L)) j (Some (counted W H j)) ≡ found (occurrences j (flat_map listed_keys part)) (counted W H j)
  unfolding stays counted
  listed_count j (inl is) =
      let kind : kind_of j ≡ 0 = ap kind_of is ∙ kind_end (node_of j) in
      let held : occurrences j (flat_map listed_keys part) ≡ total (occurrences (node_of j)) part =
      ap (λ (k : ℕ). occurrences k (flat_map listed_keys part)) is ∙ occ_total (end_key (node_of j)) listed_keys (occurrences (node_of j)) (ends_listed (node_of j)) part (ranks_window W H L ends ranks) in
      let sum : evidence_total (node_of j) (rows_of W H L) ≡ total (occurrences (node_of j)) part = total_visits W H L ends ranks (node_of j) ∙ visits_are W H (node_of j) in
      rw (kind, sum, held) (some_if (total (occurrences (node_of j)) part) (counted W H j))
  listed_count j (inr kind) =
      let held : occurrences j (flat_map listed_keys part) ≡ counted W H j = child_same_all j kind part in
      rw (kind, held) (some_if (counted W H j) (counted W H j))

  -- the window part lists nothing else
  inside : (j : ℕ) → occurrences j (flat_map listed_keys part) ≤ occurrences j (flat_map listed_keys L)
  inside j = rw ends.1 (occ_drop listed_keys j ends.0 L)

  kept_look : (j : ℕ) → look j (kept (rows_of W H L)) ≡ look j (rows_of W H part)
  unfolding kept
  kept_look j =
      look_keep (stays (rows_of W H L)) 0 j (rows_of W H L) (ascends_rows W H L)
      ∙ ap (passed (stays (rows_of W H L)) j) (look_rows W H L j)
      ∙ go (occurrences j (flat_map listed_keys L)) refl
      ∙ sym (look_rows W H part j)
    where
      go : (n : ℕ) → occurrences j (flat_map listed_keys L) ≡ n → passed (stays (rows_of W H L)) j (found n (counted W H j)) ≡ found (occurrences j (flat_map listed_keys part)) (counted W H j)
      go zero e = let z : occurrences j (flat_map listed_keys part) ≡ 0 = omega (arith, inside j) in rw z
      go (suc n) e = listed_count j (listed_sort L ranks j (listing_in L j (omega arith)))

  pub kept_window : kept (rows_of W H L) ≡ rows_of W H part
  unfolding kept
  kept_window = ext 0 (kept (rows_of W H L)) (rows_of W H part) (ascends_keep (stays (rows_of W H L)) 0 (rows_of W H L) (ascends_rows W H L)) (ascends_rows W H part) kept_look

  -- a tidy lists no more
  pub listing_shrinks : length (listing part) ≤ length (listing L)
  unfolding kept
  listing_shrinks = omega (arith, length_image W H L, length_image W H part, ap length kept_window, length_keep (stays (rows_of W H L)) (rows_of W H L))
