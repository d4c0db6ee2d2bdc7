-- A path whose counted keys all stand in the book: its keys by their numbers, how counting one more at their places is kept, and that it lists nothing new.
-- Assumes nothing.
use mathlib.Core.Path.{◌≡◌, refl, sym, ap, ◌∙◌}
use Prim.Native.Nat.{ℕ, zero, suc, ◌+◌, ◌*◌, ◌^◌, ◌≤◌, ◌<◌}
use native.Mathlib.Nat.{not-suc-le-zero, eq-or-lt_of_le}
use native.Mathlib.Omega.{arith}
use mathlib.Core.List.{List, [], ◌∷◌}
use mathlib.Core.Logic.{⊎_elim}
use mathlib.Core.Bool.{true}
use Rattle.std.specs.Prelude.{Option, Some}
use lib.Dec.{ltb, eqb}
use borrow.Author.Tests.{ltb-true}
use Rattle.priors.proofs.BelowLaws.{first_true}
use lib.ListN.{length, get_or, set, drop, length-map, get_or-map, drop_of_length-le}
use lib.Seq.{map-set_same, get_or-set_same, get_or-set_other}
use Rattle.priors.specs.Rows.{Row, row, keys, Ascends, change, bump, touch}
use Rattle.priors.specs.Search.{blank, holds}
use Rattle.priors.proofs.RowLaws.{touch_found}
use Rattle.priors.proofs.ByPlace.{Spot, look_spot, change_spot}
use Rattle.entries.specs.Keys.{end_key, child_key}
use Rattle.book.specs.Path.{Steps, path_of, listed_keys, counted_keys}
use Rattle.entries.specs.Entries.{rows, with_count, entry_count_at, Rewritten, CountsUpTo}
use Rattle.book.specs.Figures.{Listed, Ranks}
use Rattle.book.specs.Changes.{EndingsListed, change_all, touch_all, bump_all}
use Rattle.book.specs.Adding.{Stand}
use Rattle.entries.proofs.EntryLaws.{length_rows}
use Rattle.entries.proofs.HalvingLaws.{stands_found}
use Rattle.entries.proofs.BookLaws.{spot_at, at_lt, count_at, changed_at, counts_change}
use Rattle.book.proofs.EndingLaws.{ending_touched}
use Rattle.book.proofs.Loops.{change_next}

-- ---- the keys that a path counts

pub length_counted : (p : Steps) → length (counted_keys p) ≡ length p
unfolding counted_keys
length_counted [] = refl
length_counted (a ∷ []) = refl
length_counted (a ∷ b ∷ p) = ap suc (length_counted (b ∷ p))

pub counted_child : (p : Steps) (i : ℕ) → i + 1 < length p → get_or (counted_keys p) i 0 ≡ child_key (get_or p i 0) (get_or p (i + 1) 0)
unfolding counted_keys
counted_child [] i h = absurd (not-suc-le-zero h)
counted_child (a ∷ []) i h = absurd (omega arith)
counted_child (a ∷ b ∷ p) zero h = refl
counted_child (a ∷ b ∷ p) (suc i) h =
    let f : suc i + 1 ≡ suc (i + 1) = omega arith in
    rw f (counted_child (b ∷ p) i (omega arith))

pub counted_ending : (p : Steps) (i : ℕ) → i + 1 ≡ length p → get_or (counted_keys p) i 0 ≡ end_key (get_or p i 0)
unfolding counted_keys
counted_ending [] i h = absurd (omega arith)
counted_ending (a ∷ []) zero h = refl
counted_ending (a ∷ []) (suc i) h = absurd (omega arith)
counted_ending (a ∷ b ∷ p) zero h = absurd (omega arith)
counted_ending (a ∷ b ∷ p) (suc i) h = counted_ending (b ∷ p) i (omega arith)

-- ---- where a key stands

-- rows with the same keys hold the same
pub holds_keys : (rs rs' : List Row) → keys rs ≡ keys rs' → (i k : ℕ) → holds rs i k ≡ holds rs' i k
unfolding holds
holds_keys rs rs' e i k =
    let n : length rs ≡ length rs' = sym (length-map rs (λ (r : Row). r.key)) ∙ ap length e ∙ length-map rs' (λ (r : Row). r.key) in
    let g : (get_or rs i blank).key ≡ (get_or rs' i blank).key = sym (get_or-map (λ (r : Row). r.key) rs i blank) ∙ ap (λ (l : List ℕ). get_or l i 0) e ∙ get_or-map (λ (r : Row). r.key) rs' i blank in
    rw (n, g)

pub stands_spot : (rs : List Row) (k i : ℕ) → Ascends 0 (keys rs) → holds rs i k ≡ true → Spot k rs i true
stands_spot rs k i a h = spot_at k i rs (stands_found rs k i a h)

pub stands_listed : (rs : List Row) (k i : ℕ) → Ascends 0 (keys rs) → holds rs i k ≡ true → Listed k rs
stands_listed rs k i a h = ((get_or rs i blank).count, look_spot k (stands_spot rs k i a h))

pub place_small : (s : List ℕ) (n k i : ℕ) → holds (rows s n) i k ≡ true → i < n
unfolding holds
place_small s n k i h = omega (arith, ltb-true i (length (rows s n)) (first_true (ltb i (length (rows s n))) (eqb (get_or (rows s n) i blank).key k) h), length_rows s n)

-- one more place is told
pub stand_on : (rs : List Row) (ks ps : List ℕ) (i p : ℕ) → i < length ps → ((j : ℕ) → j < i → holds rs (get_or ps j 0) (get_or ks j 0) ≡ true) → holds rs p (get_or ks i 0) ≡ true
    → (j : ℕ) → j < i + 1 → holds rs (get_or (set ps i p) j 0) (get_or ks j 0) ≡ true
stand_on rs ks ps i p h before here j l =
    let le : j ≤ i = omega arith in
    ⊎_elim (λ e. ap (λ (x : ℕ). holds rs (get_or (set ps i p) x 0) (get_or ks x 0)) e ∙ ap (λ (x : ℕ). holds rs x (get_or ks i 0)) (get_or-set_same ps i p 0 h) ∙ here) (λ lt. rw (get_or-set_other ps i j p 0 (λ e. omega arith)) (before j lt)) (eq-or-lt_of_le le)

-- a change of a row that is there leaves the keys
pub keys_stay : (new : Option ℕ) (step : ℕ → ℕ) (k i : ℕ) (rs : List Row) → Spot k rs i true → keys (change new step k rs) ≡ keys rs
keys_stay new step k i rs s = ap keys (change_spot new step k s) ∙ map-set_same (λ (r : Row). r.key) rs i (row (get_or rs i blank).key (step (get_or rs i blank).count)) blank refl

-- ---- counting at places

-- after i of the keys
pub record Counting (s₀ : List ℕ) (n : ℕ) (ks : List ℕ) (s : List ℕ) (i : ℕ) : Type 0 where
  pub same_length : length s ≡ length s₀
  pub rest_is : drop (24 * n) s ≡ drop (24 * n) s₀
  pub same_keys : keys (rows s n) ≡ keys (rows s₀ n)
  pub counts_fit : CountsUpTo (2 ^ 31 + i) (rows s n)
  pub left : bump_all (drop i ks) (rows s n) ≡ bump_all ks (rows s₀ n)

pub counting_start : (s : List ℕ) (n : ℕ) (ks : List ℕ) → CountsUpTo (2 ^ 31) (rows s n) → Counting s n ks s 0
counting_start s n ks c = record { same_length = refl; rest_is = refl; same_keys = refl; counts_fit = c; left = refl }

module _ (s₀ : List ℕ) (n : ℕ) (ks ps : List ℕ) (fits : 24 * n ≤ length s₀) (asc : Ascends 0 (keys (rows s₀ n))) (stand : Stand (rows s₀ n) ks ps)
    (s : List ℕ) (i : ℕ) (so_far : Counting s₀ n ks s i) (more : i < length ks) where
  there : Spot (get_or ks i 0) (rows s n) (get_or ps i 0) true
  there = stands_spot (rows s n) (get_or ks i 0) (get_or ps i 0) (rw so_far.same_keys asc) (holds_keys (rows s n) (rows s₀ n) so_far.same_keys (get_or ps i 0) (get_or ks i 0) ∙ stand i more)

  still_fits : 24 * n ≤ length s
  still_fits = omega (arith, so_far.same_length)

  pub place_used : get_or ps i 0 < n
  place_used = at_lt s n (get_or ks i 0) (get_or ps i 0) still_fits there

  pub count_fits : entry_count_at s (get_or ps i 0) ≤ 2 ^ 31 + i
  count_fits = count_at s n (get_or ks i 0) (get_or ps i 0) still_fits there (2 ^ 31 + i) so_far.counts_fit

  pub counting_on : i ≤ 64 → (s' : List ℕ) → length s' ≡ length s → s' ≡ with_count s (get_or ps i 0) (entry_count_at s (get_or ps i 0) + 1) → Counting s₀ n ks s' (i + 1)
  counting_on few s' len e =
      let k : ℕ = get_or ks i 0 in
      let r : Rewritten s s' n (bump k (rows s n)) = rw e (changed_at s n k (get_or ps i 0) still_fits there (Some 1) (λ c. c + 1) (entry_count_at s (get_or ps i 0) + 1) refl (omega (arith, count_fits))) in
      let m : ℕ = 2 ^ 31 + i in
      record {
        same_length = len ∙ so_far.same_length;
        rest_is = r.rest_is ∙ so_far.rest_is;
        same_keys = ap keys r.rows_are ∙ keys_stay (Some 1) (λ c. c + 1) k (get_or ps i 0) (rows s n) there ∙ so_far.same_keys;
        counts_fit = rw r.rows_are (counts_change m (2 ^ 31 + (i + 1)) 1 (λ c. c + 1) k (rows s n) (omega arith) (omega arith) (λ d l. omega arith) so_far.counts_fit);
        left = rw r.rows_are (change_next (Some 1) (λ c. c + 1) ks i (rows s n) more ∙ so_far.left);
      }

pub counting_done : (s₀ : List ℕ) (n : ℕ) (ks s : List ℕ) (i : ℕ) → Counting s₀ n ks s i → length ks ≤ i → Rewritten s₀ s n (bump_all ks (rows s₀ n))
unfolding change_all
counting_done s₀ n ks s i so_far l =
    let is : rows s n ≡ bump_all ks (rows s₀ n) = rw (drop_of_length-le ks l) at so_far.left in
    record { number_is = sym (length_rows s n) ∙ ap length is; rows_are = is; rest_is = so_far.rest_is }

-- ---- a path that lists nothing new

pub nothing_new : (p : Steps) (rs : List Row) → Ranks p → EndingsListed rs → ((j : ℕ) → j < length (counted_keys p) → Listed (get_or (counted_keys p) j 0) rs) → touch_all (listed_keys p) rs ≡ rs
unfolding listed_keys counted_keys change_all
nothing_new [] rs r h l = refl
nothing_new (a ∷ []) rs r h l = let e = l 0 (omega arith) in touch_found (end_key a) e.0 rs e.1
nothing_new (a ∷ b ∷ p) rs r h l =
    let e = l 0 (omega arith) in
    let node : touch (end_key a) rs ≡ rs = ending_touched a b rs r.1.0 h e in
    let child : touch (child_key a b) rs ≡ rs = touch_found (child_key a b) e.0 rs e.1 in
    ap (λ (x : List Row). touch_all (listed_keys (b ∷ p)) (touch (child_key a b) x)) node
    ∙ ap (touch_all (listed_keys (b ∷ p))) child
    ∙ nothing_new (b ∷ p) rs r.1 h (λ j m. l (suc j) (omega arith))

pub all_stand : (s : List ℕ) (n : ℕ) (path ps : List ℕ) → Ranks (path_of path) → Ascends 0 (keys (rows s n)) → EndingsListed (rows s n) → Stand (rows s n) (counted_keys (path_of path)) ps
    → touch_all (listed_keys (path_of path)) (rows s n) ≡ rows s n
all_stand s n path ps ranks asc endings stand =
    nothing_new (path_of path) (rows s n) ranks endings
    (λ j l. stands_listed (rows s n) (get_or (counted_keys (path_of path)) j 0) (get_or ps j 0) asc (stand j l))
