-- The loops over a path's steps: what stands after some steps are added or taken away, how one more step keeps it, and what it is in the end.
-- Assumes nothing.
use mathlib.Core.Path.{◌≡◌, refl, sym, ap, ◌∙◌}
use Prim.Native.Nat.{ℕ, suc, ◌+◌, ◌-◌, ◌*◌, ◌^◌, ◌≤◌, ◌<◌}
use native.Mathlib.Numerals.{add-one}
use native.Mathlib.Omega.{arith}
use mathlib.Core.List.{List}
use mathlib.Core.Bool.{Bool, true, false}
use Rattle.std.specs.Prelude.{None, Some, Ok, Err}
use lib.ListN.{length, get_or, drop, drop_of_length-le}
use lib.Dec.{leb-suc-suc}
use lib.Seq.{drop-drop}
use borrow.Author.Tests.{lt-ltb, le-ltb, eq-eqb, ne_eqb}
use Rattle.priors.specs.Rows.{Row, keys, Ascends, look, change, touch, bump, fade}
use Rattle.priors.specs.Search.{place, holds}
use Rattle.priors.proofs.RowLaws.{gained, length_touch, grows}
use Rattle.priors.proofs.ByPlace.{Spot, end, before, here, later as beyond, look_spot, spot_moved, change_spot}
use Rattle.entries.specs.Keys.{end_key, child_key}
use Rattle.book.specs.Path.{Steps, path_of, listed_keys, counted_keys}
use Rattle.entries.specs.Entries.{rows, find_in, entry_count_at, with_count, Rewritten, CountsUpTo}
use Rattle.book.specs.Changes.{EndingsListed, change_all, touch_all, bump_all, fade_all}
use Rattle.book.proofs.Passes.{one_pass}
use Rattle.book.proofs.OnePass.{one_pass_lem}
use Rattle.book.proofs.Loops.{pass_on, pass_last, change_next}
use Rattle.book.proofs.Lengths.{length_pass, pass_grows}
use Rattle.book.proofs.EndingLaws.{ending_touched, pair_keeps}
use Rattle.entries.proofs.EntryLaws.{length_rows}
use Rattle.entries.proofs.HalvingLaws.{found_missing}
use Rattle.entries.proofs.BookLaws.{spot_at, spot_missing, at_lt, count_at, changed_at, missing_le, length_in, counts_change}

-- ---- one change after another

-- bytes that are alike from one place on are alike from a later one on
pub later : (s s' : List ℕ) (n m : ℕ) → n ≤ m → drop (24 * n) s ≡ drop (24 * n) s' → drop (24 * m) s ≡ drop (24 * m) s'
later s s' n m l e =
    let at : 24 * n + (24 * m - 24 * n) ≡ 24 * m = omega arith in
    ap (λ (k : ℕ). drop k s) (sym at)
    ∙ sym (drop-drop (24 * m - 24 * n) (24 * n) s)
    ∙ ap (drop (24 * m - 24 * n)) e
    ∙ drop-drop (24 * m - 24 * n) (24 * n) s'
    ∙ ap (λ (k : ℕ). drop k s') at

-- where a key is missing, as the search tells it
place_spot : {k : ℕ} {rs : List Row} {i : ℕ} {b : Bool} → Spot k rs i b → place rs k ≡ i
unfolding place
place_spot end = refl
place_spot {k} (before {r} l) = rw (le-ltb r.key k (omega arith))
place_spot {k} (here {r} q) = rw (le-ltb r.key k (omega arith))
place_spot {k} (beyond {r} l s) = rw (lt-ltb r.key k l) (ap suc (place_spot s))

holds_spot : {k : ℕ} {rs : List Row} {i : ℕ} {b : Bool} → Spot k rs i b → holds rs i k ≡ b
unfolding holds
holds_spot end = refl
holds_spot {k} (before {r} {rs} l) = rw (lt-ltb 0 (suc (length rs)) (omega arith), ne_eqb r.key k (λ q. omega arith))
holds_spot {k} (here {r} {rs} q) = rw (lt-ltb 0 (suc (length rs)) (omega arith), eq-eqb r.key k (sym q))
holds_spot {k} (beyond {r} {rs} {i} l s) = rw (leb-suc-suc (suc i) (length rs)) (holds_spot s)

missing_spot : {k : ℕ} {rs : List Row} {i : ℕ} → Spot k rs i false → find_in rs k ≡ Err i
missing_spot {k} {rs} {i} s = found_missing rs k i (place_spot s) (holds_spot s)

-- a key is touched, and another above it, which is missing, comes in after that
module _ (s : List ℕ) (n e k : ℕ) (s' : List ℕ) (n' : ℕ) (r : Rewritten s s' n' (touch e (rows s n))) where
  pub second_after : n ≤ n'
  second_after = omega (arith, r.number_is, grows (Some 0) (λ c. c) e (rows s n), length_rows s n)

  -- its place moves up where the first comes in
  pub second_place : (i : ℕ) → e < k → Spot k (rows s n) i false → Spot k (rows s' n') (i + (n' - n)) false
  second_place i l p =
      let up : gained (look e (rows s n)) (Some 0) + i ≡ i + (n' - n) = omega (arith, r.number_is, length_touch e (rows s n), length_rows s n) in
      rw (r.rows_are, ← up) (spot_moved 0 (λ c. c) e k l p)

  module _ (i : ℕ) (below : e < k) (missing : find_in (rows s n) k ≡ Err i) where
    moved : Spot k (rows s' n') (i + (n' - n)) false
    moved = second_place i below (spot_missing k i (rows s n) missing)

    pub second_missing : find_in (rows s' n') k ≡ Err (i + (n' - n))
    second_missing = missing_spot moved

    module _ (fits : 24 * n' ≤ length s') where
      pub second_le : i + (n' - n) ≤ n'
      second_le = missing_le s' n' k (i + (n' - n)) fits moved

      pub second_room : 24 * length (bump k (touch e (rows s n))) ≤ length s → length s' ≡ length s → 24 * n' + 24 ≤ length s'
      second_room room len =
          let one : length (bump k (rows s' n')) ≡ n' + 1 = length_in s' n' k (i + (n' - n)) fits moved 1 (λ c. c + 1) in
          omega (arith, rw r.rows_are at one)

    pub both_done : (s'' : List ℕ) (m : ℕ) → Rewritten s' s'' m (change (Some 1) (λ c. c) k (rows s' n')) → Rewritten s s'' m (bump k (touch e (rows s n)))
    both_done s'' m q =
        let once : change (Some 1) (λ c. c) k (rows s' n') ≡ bump k (rows s' n') = change_spot (Some 1) (λ c. c) k moved ∙ sym (change_spot (Some 1) (λ c. c + 1) k moved) in
        let is : change (Some 1) (λ c. c) k (rows s' n') ≡ bump k (touch e (rows s n)) = once ∙ ap (bump k) r.rows_are in
        let up : n' ≤ m = omega (arith, q.number_is, ap length once, grows (Some 1) (λ c. c + 1) k (rows s' n'), length_rows s' n') in
        record { number_is = q.number_is ∙ ap length is; rows_are = q.rows_are ∙ is; rest_is = q.rest_is ∙ later s' s n' m up r.rest_is }

-- a step that has an entry counts one more; its node has its ending listed, so that touching that would change nothing
module _ (s : List ℕ) (n a b i : ℕ) (fits : 24 * n ≤ length s) (found : find_in (rows s n) (child_key a b) ≡ Ok i) where
  there : Spot (child_key a b) (rows s n) i true
  there = spot_at (child_key a b) i (rows s n) found

  pub found_lt : i < n
  found_lt = at_lt s n (child_key a b) i fits there

  module _ (counts : CountsUpTo (2 ^ 32 - 2) (rows s n)) where
    pub found_count : entry_count_at s i + 1 < 2 ^ 32
    found_count = omega (arith, count_at s n (child_key a b) i fits there (2 ^ 32 - 2) counts)

    pub found_done : b < 2 ^ 64 → EndingsListed (rows s n) → (s' : List ℕ) (n' : ℕ) → s' ≡ with_count s i (entry_count_at s i + 1) → n' ≡ n → Rewritten s s' n' (bump (child_key a b) (touch (end_key a) (rows s n)))
    found_done small endings s' n' e f =
        rw (ending_touched a b (rows s n) small endings (_, look_spot (child_key a b) there), e, f)
        (changed_at s n (child_key a b) i fits there (Some 1) (λ c. c + 1) (entry_count_at s i + 1) refl found_count)

-- ---- a path is added

-- room for what a path lists is room for the pass
pub pass_room : (path book : List ℕ) (used : ℕ) → Ascends 0 (keys (rows book used)) → 24 * length (touch_all (listed_keys (path_of path)) (rows book used)) ≤ length book → 24 * length (one_pass (path_of path) (rows book used)) ≤ length book
pass_room path book used a h = rw (length_pass (path_of path) (rows book used) a) h

-- after i of the steps of p: s holds n entries, and what is left to do to its rows is what is to be done to those of s₀
pub record Passing (s₀ : List ℕ) (n₀ : ℕ) (p : Steps) (s : List ℕ) (n i : ℕ) : Type 0 where
  pub same_length : length s ≡ length s₀
  pub rest_is : drop (24 * n) s ≡ drop (24 * n) s₀
  pub endings_listed : EndingsListed (rows s n)
  pub counts_fit : CountsUpTo (2 ^ 31 + i) (rows s n)
  pub left : one_pass (drop i p) (rows s n) ≡ one_pass p (rows s₀ n₀)

module _ (s₀ : List ℕ) (n₀ : ℕ) (p : Steps) (room : 24 * length (one_pass p (rows s₀ n₀)) ≤ length s₀) where
  pub passing_start : EndingsListed (rows s₀ n₀) → CountsUpTo (2 ^ 31) (rows s₀ n₀) → Passing s₀ n₀ p s₀ n₀ 0
  passing_start e c = record { same_length = refl; rest_is = refl; endings_listed = e; counts_fit = c; left = refl }

  module _ (s : List ℕ) (n i : ℕ) (so_far : Passing s₀ n₀ p s n i) where
    module _ (more : i + 1 < length p) (a b : ℕ) (a-is : a ≡ get_or p i 0) (b-is : b ≡ get_or p (i + 1) 0) where
      next : List Row
      next = bump (child_key a b) (touch (end_key a) (rows s n))

      on : one_pass (drop (i + 1) p) next ≡ one_pass p (rows s₀ n₀)
      unfolding next
      on =
          let l : suc i < length p = omega arith in
          rw (a-is, b-is, add-one i) (sym (pass_on p i (rows s n) l) ∙ so_far.left)

      pub pair_room : 24 * length (bump (child_key a b) (touch (end_key a) (rows s n))) ≤ length s
      unfolding next
      pair_room = omega (arith, pass_grows (drop (i + 1) p) next, ap length on, so_far.same_length)

      pub passing_on : (s' : List ℕ) (n' : ℕ) → b < 2 ^ 64 → length s' ≡ length s → Rewritten s s' n' (bump (child_key a b) (touch (end_key a) (rows s n))) → Passing s₀ n₀ p s' n' (i + 1)
      unfolding next
      passing_on s' n' small len r =
          let t : List Row = touch (end_key a) (rows s n) in
          let below : n ≤ n' = omega (arith, grows (Some 0) (λ c. c) (end_key a) (rows s n), grows (Some 1) (λ c. c + 1) (child_key a b) t, r.number_is, length_rows s n) in
          let m : ℕ = 2 ^ 31 + i in
          let counted : CountsUpTo (2 ^ 31 + (i + 1)) next =
          counts_change m (2 ^ 31 + (i + 1)) 1 (λ c. c + 1) (child_key a b) t (omega arith) (omega arith) (λ d l. omega arith)
          (counts_change m m 0 (λ c. c) (end_key a) (rows s n) (omega arith) (omega arith) (λ d l. l) so_far.counts_fit) in
          record {
            same_length = len ∙ so_far.same_length;
            rest_is = r.rest_is ∙ later s s₀ n n' below so_far.rest_is;
            endings_listed = rw r.rows_are (pair_keeps (Some 1) (λ c. c + 1) a b (rows s n) small so_far.endings_listed);
            counts_fit = rw r.rows_are counted;
            left = rw r.rows_are on;
          }

    module _ (at-end : i + 1 ≡ length p) (a : ℕ) (a-is : a ≡ get_or p i 0) where
      ended : bump (end_key a) (rows s n) ≡ one_pass p (rows s₀ n₀)
      ended =
          let l : suc i ≡ length p = omega arith in
          rw a-is (sym (pass_last p i (rows s n) l) ∙ so_far.left)

      pub end_room : 24 * length (bump (end_key a) (rows s n)) ≤ length s
      end_room = omega (arith, ap length ended, so_far.same_length)

      pub passing_done : (s' : List ℕ) (n' : ℕ) → Ascends 0 (keys (rows s₀ n₀)) → Rewritten s s' n' (bump (end_key a) (rows s n)) → Rewritten s₀ s' n' (bump_all (counted_keys p) (touch_all (listed_keys p) (rows s₀ n₀)))
      passing_done s' n' asc r =
          let below : n ≤ n' = omega (arith, grows (Some 1) (λ c. c + 1) (end_key a) (rows s n), r.number_is, length_rows s n) in
          let is : bump (end_key a) (rows s n) ≡ bump_all (counted_keys p) (touch_all (listed_keys p) (rows s₀ n₀)) = ended ∙ one_pass_lem p (rows s₀ n₀) asc in
          record { number_is = r.number_is ∙ ap length is; rows_are = r.rows_are ∙ is; rest_is = r.rest_is ∙ later s s₀ n n' below so_far.rest_is }

-- ---- a path is taken away

-- after i of the keys
pub record Fading (s₀ : List ℕ) (n : ℕ) (ks : List ℕ) (s : List ℕ) (i : ℕ) : Type 0 where
  pub same_length : length s ≡ length s₀
  pub rest_is : drop (24 * n) s ≡ drop (24 * n) s₀
  pub left : fade_all (drop i ks) (rows s n) ≡ fade_all ks (rows s₀ n)

module _ (s₀ : List ℕ) (n : ℕ) (ks : List ℕ) where
  pub fading_start : Fading s₀ n ks s₀ 0
  fading_start = record { same_length = refl; rest_is = refl; left = refl }

  module _ (s : List ℕ) (i : ℕ) (so_far : Fading s₀ n ks s i) where
    pub fading_on : i < length ks → (s' : List ℕ) → length s' ≡ length s → Rewritten s s' n (fade (get_or ks i 0) (rows s n)) → Fading s₀ n ks s' (i + 1)
    fading_on more s' len r = record {
      same_length = len ∙ so_far.same_length;
      rest_is = r.rest_is ∙ so_far.rest_is;
      left = rw r.rows_are (change_next None (λ c. c - 1) ks i (rows s n) more ∙ so_far.left);
    }

    pub fading_done : length ks ≤ i → Rewritten s₀ s n (fade_all ks (rows s₀ n))
    unfolding change_all
    fading_done l =
        let is : rows s n ≡ fade_all ks (rows s₀ n) = rw (drop_of_length-le ks l) at so_far.left in
        record { number_is = sym (length_rows s n) ∙ ap length is; rows_are = is; rest_is = so_far.rest_is }
