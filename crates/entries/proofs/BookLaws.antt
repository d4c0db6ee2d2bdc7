-- A change by key, in the bytes of a book: what the search found, and what was then stored or put in, is the change of the rows. Assumes nothing.
use mathlib.Core.Path.{◌≡◌, refl, sym, ap, subst, ◌∙◌}
use Prim.Native.Nat.{ℕ, zero, suc, ◌+◌, ◌-◌, ◌*◌, ◌^◌, ◌≤◌, ◌<◌, zero-le, suc-le-suc}
use native.Mathlib.Nat.{not-suc-le-zero, le_of_suc-le-suc}
use native.Mathlib.Omega.{arith}
use mathlib.Core.List.{List, [], ◌∷◌, ◌++◌}
use Rattle.std.specs.Prelude.{Option, None, Some}
use mathlib.Core.Bool.{Bool, true, false, cond}
use lib.ListN.{length, get_or, set, take, drop, length-append, length-take, length-drop, length-set, take-append-drop}
use Rattle.priors.specs.Rows.{Row, row, keys, Ascends, change, touch, fade}
use Rattle.priors.specs.Search.{blank, place, holds}
use Rattle.priors.proofs.Orders.{Side, below, same, above, side}
use Rattle.priors.proofs.RowLaws.{touch_found, ascends_change}
use Rattle.priors.proofs.ByPlace.{Spot, end, before, here, later, spot, spot_lt, look_spot, change_spot}
use Rattle.entries.specs.declared.keys.Key.{Key}
use Rattle.std.specs.Prelude.{Ok, Err}
use Rattle.entries.specs.Keys.{key_value}
use Rattle.entries.specs.Entries.{rows, find_in, with_entry, with_count, entry_count_at, Rewritten, CountsUpTo}
use Rattle.entries.proofs.KeyLaws.{key_lt}
use Rattle.entries.proofs.EntryLaws.{length_rows, InRange}
use Rattle.entries.proofs.ChangeLaws.{rows_with, rest_with, rows_counted, rest_counted, count_is}

-- ---- what the search tells

pub spot_at : (k i : ℕ) (rs : List Row) → find_in rs k ≡ Ok i → Spot k rs i true
unfolding find_in
spot_at k i rs f = go (holds rs (place rs k) k) f (spot k rs)
  where
    go : (b : Bool) → cond b (Ok (place rs k)) (Err (place rs k)) ≡ Ok i → Spot k rs (place rs k) b → Spot k rs i true
    go true f s = let q : place rs k ≡ i = cc in rw (← q) s
    go false f s = let z : ◌≡◌ {A = ℕ} 0 1 = cc in absurd (omega arith)

pub spot_missing : (k i : ℕ) (rs : List Row) → find_in rs k ≡ Err i → Spot k rs i false
unfolding find_in
spot_missing k i rs f = go (holds rs (place rs k) k) f (spot k rs)
  where
    go : (b : Bool) → cond b (Ok (place rs k)) (Err (place rs k)) ≡ Err i → Spot k rs (place rs k) b → Spot k rs i false
    go true f s = let z : ◌≡◌ {A = ℕ} 0 1 = cc in absurd (omega arith)
    go false f s = let q : place rs k ≡ i = cc in rw (← q) s

spot_le : {k : ℕ} {rs : List Row} {i : ℕ} {b : Bool} → Spot k rs i b → i ≤ length rs
spot_le end = zero-le
spot_le (before l) = zero-le
spot_le (here q) = zero-le
spot_le (later l s) = suc-le-suc (spot_le s)

-- a key of the code is one of an entry
pub key_in_range : (k : Key) (c : ℕ) → k.node < 2 ^ 64 → k.kind < 2 ^ 32 → k.child < 2 ^ 64 → c < 2 ^ 32 → InRange (row (key_value k) c)
unfolding key_value
key_in_range k c hn hk hc h = record { key_fits = key_lt k.node k.kind k.child hn hk hc; count_fits = h }

count_up_to : (m : ℕ) (rs : List Row) → CountsUpTo m rs → (i : ℕ) → i < length rs → (get_or rs i blank).count ≤ m
count_up_to m [] h i l = absurd (not-suc-le-zero l)
count_up_to m (r ∷ rs) h zero l = h.0
count_up_to m (r ∷ rs) h (suc i) l = count_up_to m rs h.1 i (le_of_suc-le-suc l)

-- ---- what the changes leave, by where the key stands

module _ (s : List ℕ) (n k i : ℕ) (fits : 24 * n ≤ length s) where
  len : length (rows s n) ≡ n
  len = length_rows s n

  module _ (found : Spot k (rows s n) i true) where
    pub at_lt : i < n
    at_lt = let l : i < length (rows s n) = spot_lt found in omega (arith, len)

    -- its count in the bytes
    pub count_at : (m : ℕ) → CountsUpTo m (rows s n) → entry_count_at s i ≤ m
    count_at m h = rw (count_is s n i at_lt) at (count_up_to m (rows s n) h i (omega (arith, len, at_lt)))

    -- the row is there and its count is changed
    pub changed_at : (new : Option ℕ) (step : ℕ → ℕ) (v : ℕ) → v ≡ step (entry_count_at s i) → v < 2 ^ 32 → Rewritten s (with_count s i v) n (change new step k (rows s n))
    changed_at new step v v-is h =
        let c : (get_or (rows s n) i blank).count ≡ entry_count_at s i = count_is s n i at_lt in
        let is : change new step k (rows s n) ≡ set (rows s n) i (row (get_or (rows s n) i blank).key v) = change_spot new step k found ∙ rw (c, ← v-is) in
        record {
          number_is = sym (ap length is ∙ simp length-set len);
          rows_are = rows_counted s i v (omega (arith, at_lt)) h n at_lt ∙ sym is;
          rest_is = rest_counted s i v (omega (arith, at_lt)) n at_lt;
        }

    -- the row is there and stays
    pub touched_at : Rewritten s s n (touch k (rows s n))
    touched_at =
        let is : touch k (rows s n) ≡ rows s n = touch_found k (get_or (rows s n) i blank).count (rows s n) (look_spot k found) in
        record { number_is = sym (ap length is ∙ len); rows_are = sym is; rest_is = refl }

  module _ (missing : Spot k (rows s n) i false) where
    pub missing_le : i ≤ n
    missing_le = let l : i ≤ length (rows s n) = spot_le missing in omega (arith, len)

    module _ (c : ℕ) (step : ℕ → ℕ) where
      comes_in : change (Some c) step k (rows s n) ≡ take i (rows s n) ++ row k c ∷ drop i (rows s n)
      comes_in = change_spot (Some c) step k missing

      pub length_in : length (change (Some c) step k (rows s n)) ≡ n + 1
      length_in = ap length comes_in ∙ simp (length-append, length-take, length-drop) (omega (arith, len, missing_le))

      -- the row comes in
      pub changed_in : InRange (row k c) → 24 * n + 24 ≤ length s → Rewritten s (with_entry s n i (row k c)) (n + 1) (change (Some c) step k (rows s n))
      changed_in range room = record {
        number_is = sym length_in;
        rows_are = rows_with s n i (row k c) missing_le room range ∙ sym comes_in;
        rest_is = rest_with s n i (row k c) missing_le room;
      }

    -- a missing row is passed over
    pub passed_over : (step : ℕ → ℕ) → Rewritten s s n (change None step k (rows s n))
    passed_over step =
        let is : change None step k (rows s n) ≡ rows s n = change_spot None step k missing ∙ take-append-drop i (rows s n) in
        record { number_is = sym (ap length is ∙ len); rows_are = sym is; rest_is = refl }

-- ---- the same by what the search answers

module _ (s : List ℕ) (n k i : ℕ) (fits : 24 * n ≤ length s) where
  module _ (found : find_in (rows s n) k ≡ Ok i) where
    pub found_lt : i < n
    found_lt = at_lt s n k i fits (spot_at k i (rows s n) found)

    -- its count is at most what all are
    pub found_count : (m : ℕ) → CountsUpTo m (rows s n) → entry_count_at s i ≤ m
    found_count = count_at s n k i fits (spot_at k i (rows s n) found)

    pub found_changed : (new : Option ℕ) (step : ℕ → ℕ) (v : ℕ) → v ≡ step (entry_count_at s i) → v < 2 ^ 32 → Rewritten s (with_count s i v) n (change new step k (rows s n))
    found_changed = changed_at s n k i fits (spot_at k i (rows s n) found)

    pub found_touched : Rewritten s s n (touch k (rows s n))
    found_touched = touched_at s n k i fits (spot_at k i (rows s n) found)

  module _ (missing : find_in (rows s n) k ≡ Err i) where
    -- how a count changes plays no part
    pub missing_alike : (new : Option ℕ) (step step' : ℕ → ℕ) → change new step k (rows s n) ≡ change new step' k (rows s n)
    missing_alike new step step' = change_spot new step k (spot_missing k i (rows s n) missing) ∙ sym (change_spot new step' k (spot_missing k i (rows s n) missing))

    -- one row more
    pub missing_length : (c : ℕ) (step : ℕ → ℕ) → length (change (Some c) step k (rows s n)) ≡ n + 1
    missing_length = length_in s n k i fits (spot_missing k i (rows s n) missing)

    pub missing_faded : Rewritten s s n (fade k (rows s n))
    missing_faded = passed_over s n k i fits (spot_missing k i (rows s n) missing) (λ d. d - 1)

-- what a change leaves ascends again
pub change_ascends : (s s' : List ℕ) (n k : ℕ) (new : Option ℕ) (step : ℕ → ℕ) (rs : List Row) → Rewritten s s' n (change new step k rs) → Ascends 0 (keys rs) → Ascends 0 (keys (rows s' n))
change_ascends s s' n k new step rs w h =
    subst (λ (l : List Row). Ascends 0 (keys l)) (sym w.rows_are) (ascends_change new step k 0 rs zero-le h)

-- ---- counts

pub counts_rise : (m m' : ℕ) (rs : List Row) → m ≤ m' → CountsUpTo m rs → CountsUpTo m' rs
counts_rise m m' [] l h = tt
counts_rise m m' (r ∷ rs) l h = (omega (arith, h.0), counts_rise m m' rs l h.1)

-- a row comes in with c, or counts as the step says
pub counts_change : (m m' c : ℕ) (step : ℕ → ℕ) (k : ℕ) (rs : List Row) → m ≤ m' → c ≤ m' → ((d : ℕ) → d ≤ m → step d ≤ m') → CountsUpTo m rs → CountsUpTo m' (change (Some c) step k rs)
unfolding change
counts_change m m' c step k [] l hc hs h = (hc, tt)
counts_change m m' c step k (r ∷ rs) l hc hs h = go (side k r.key) (counts_change m m' c step k rs l hc hs h.1)
  where
    rest : CountsUpTo m' rs
    rest = counts_rise m m' rs l h.1

    go : Side k r.key → CountsUpTo m' (change (Some c) step k rs) → CountsUpTo m' (change (Some c) step k (r ∷ rs))
    go (below q e) ih = rw e (hc, (omega (arith, h.0), rest))
    go (same q e) ih = rw e (hs r.count h.0, rest)
    go (above q e) ih = rw e (omega (arith, h.0), ih)
