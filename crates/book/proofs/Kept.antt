-- What holds of every recount that calls lead to: the sizes fit the window, what is listed fits the book, the base lies before the window part, and H is within the
-- limits. It is what the recount's own refusals leave. Assumes nothing.
use mathlib.Core.Path.{◌≡◌, refl}
use Prim.Native.Nat.{ℕ, zero, suc, ◌*◌, ◌/◌, ◌%◌, ◌≤◌, ◌<◌, zero-le}
use native.Mathlib.Omega.{arith}
use mathlib.Core.List.{List, [], ◌∷◌, ◌++◌, flat_map}
use mathlib.Core.Bool.{Bool, true, false, cond, ◌&&◌}
use lib.Dec.{leb, ltb, eqb}
use lib.ListN.{length, length-append}
use borrow.Author.Tests.{leb-true, ltb-true, eqb-true}
use Rattle.book.specs.Path.{Steps, path_of}
use Rattle.book.specs.Calls.{unless_refused}
use Rattle.book.specs.Recount.{before_window, enter_all, listing}
use Rattle.book.specs.Figures.{All, Whole, AllWhole, Ranks, AllRanks}
use Rattle.book.specs.Batches.{lent_path, places_in, batched}
use Rattle.book.specs.Claims.{BookCall, opening, add, add_paths, tidy, Recount, since, open_refusal, add_refusal, restarted, joined, joined_by, tidied, recount_step, InBytes}
use Rattle.priors.proofs.Tests.{both}
use Rattle.book.proofs.PathLaws.{all_bytes, length_steps, steps_ranks}
use Rattle.book.proofs.Window.{EndsWith, all_drop}
use Rattle.book.proofs.BaseLaws.{drop_before, before_joined, drop_joined, ends_since}
use Rattle.book.proofs.KeepLaws.{listing_shrinks}
use Rattle.book.proofs.BatchLaws.{lent_bytes, batch_keeps}

-- what an opening that is not refused tells
pub record Sizes (window book_size queue_size : ℕ) : Type 0 where
  pub window_le : window ≤ 1024
  pub book_some : 24 ≤ book_size
  pub book_whole : book_size % 24 ≡ 0
  pub book_le : book_size ≤ 24 * 16384
  pub queue_sized : 516 * window ≤ queue_size

-- the base lies before the window part
abbrev pub Early : Recount → Type 0
Early r = r.base ≤ before_window r.window r.paths

pub record Kept (r : Recount) : Type 0 where
  pub sizes : Sizes r.window r.book_size r.queue_size
  pub listed_le : length (listing (since r)) ≤ r.book_size / 24
  pub early : Early r
  pub paths_le : length r.paths ≤ 16777216
  pub whole : AllWhole r.paths
  pub ranks : AllRanks r.paths

-- what an add that is not refused tells
pub record Taken (r : Recount) (path : List ℕ) : Type 0 where
  pub steps_some : 8 ≤ length path
  pub steps_le : length path ≤ 512
  pub steps_whole : length path % 8 ≡ 0
  pub paths_lt : length r.paths < 16777216
  pub room : length (listing (since r ++ path_of path ∷ [])) ≤ r.book_size / 24

-- ---- what a number tells

-- a number that is 0 only where a test holds
pub rule_passed : (t : Bool) (m n : ℕ) → cond t m (suc n) ≡ 0 → (t ≡ true) × (m ≡ 0)
rule_passed true m n h = (refl, h)
rule_passed false m n h = absurd (omega arith)

pub open_sizes : (w b q : ℕ) → open_refusal w b q ≡ 0 → Sizes w b q
unfolding open_refusal
open_sizes w b q h =
    let window = rule_passed (leb w 1024) _ 7 h in
    let fits = rule_passed ((leb 24 b && (eqb (b % 24) 0 && leb b (24 * 16384))) && leb (516 * w) q) 0 8 window.1 in
    let sides = both (leb 24 b && (eqb (b % 24) 0 && leb b (24 * 16384))) (leb (516 * w) q) fits.0 in
    let low = both (leb 24 b) (eqb (b % 24) 0 && leb b (24 * 16384)) sides.0 in
    let high = both (eqb (b % 24) 0) (leb b (24 * 16384)) low.1 in
    record {
      window_le = leb-true w 1024 window.0;
      book_some = leb-true 24 b low.0;
      book_whole = eqb-true (b % 24) 0 high.0;
      book_le = leb-true b (24 * 16384) high.1;
      queue_sized = leb-true (516 * w) q sides.1;
    }

pub add_taken : (r : Recount) (path : List ℕ) → add_refusal r path ≡ 0 → Taken r path
unfolding add_refusal
add_taken r path h =
    let n : ℕ = length path in
    let steps = rule_passed (leb 8 n && (leb n 512 && eqb (n % 8) 0)) _ 9 h in
    let paths = rule_passed (ltb (length r.paths) 16777216) _ 10 steps.1 in
    let listed = rule_passed (leb (length (listing (since r ++ path_of path ∷ []))) (r.book_size / 24)) 0 11 paths.1 in
    let low = both (leb 8 n) (leb n 512 && eqb (n % 8) 0) steps.0 in
    let high = both (leb n 512) (eqb (n % 8) 0) low.1 in
    record {
      steps_some = leb-true 8 n low.0;
      steps_le = leb-true n 512 high.0;
      steps_whole = eqb-true (n % 8) 0 high.1;
      paths_lt = ltb-true (length r.paths) 16777216 paths.0;
      room = leb-true (length (listing (since r ++ path_of path ∷ []))) (r.book_size / 24) listed.0;
    }

-- ---- the paths that list

module _ (r : Recount) (k : Kept r) where
  pub since_ends : EndsWith r.window r.paths (since r)
  since_ends = ends_since r.window r.base r.paths k.early

  pub since_whole : AllWhole (since r)
  since_whole = all_drop Whole r.base r.paths k.whole

  pub since_ranks : AllRanks (since r)
  since_ranks = all_drop Ranks r.base r.paths k.ranks

-- a path that joins H joins them
pub since_joined : (r : Recount) → Early r → (p : Steps) → since (joined r p) ≡ since r ++ p ∷ []
since_joined r e p = drop_joined r.window r.base r.paths p e

early_joined : (r : Recount) → Early r → (p : Steps) → Early (joined r p)
early_joined r e p = omega (arith, e, before_joined r.window r.paths p)

-- ---- one call

-- what holds of a recount whether or not the call is refused
after_unless : (P : Recount → Type 0) (n : ℕ) (s r : Recount) → (n ≡ 0 → P s) → P r → P (unless_refused n s r)
after_unless P zero s r f k = f refl
after_unless P (suc n) s r f k = k

pub early_batch : (r : Recount) (places : List ℕ) → Early r → (k : ℕ) → Early (batched add_refusal joined_by r places k).left
early_batch r places e = batch_keeps add_refusal joined_by r places Early e (λ s k h z. early_joined s h (path_of (lent_path places k)))

pub early_step : (r : Recount) (c : BookCall) → Early r → Early (recount_step r c).1
unfolding recount_step
early_step r (opening w book queue) e = after_unless Early (open_refusal w (length book) (length queue)) (restarted w (length book) (length queue)) r (λ z. zero-le) e
early_step r (add path) e = after_unless Early (add_refusal r path) (joined r (path_of path)) r (λ z. early_joined r e (path_of path)) e
early_step r (add_paths places) e = early_batch r places e (places_in places)
early_step r tidy e = omega arith

pub all_snoc : {X : Type 0} (P : X → Type 0) (xs : List X) (x : X) → All P xs → P x → All P (xs ++ x ∷ [])
all_snoc P [] x h i = (i, tt)
all_snoc P (y ∷ xs) x h i = (h.0, all_snoc P xs x h.1 i)

pub path_whole : (path : List ℕ) → 8 ≤ length path → length path ≤ 512 → Whole (path_of path)
path_whole path a b = let n : length (path_of path) ≡ length path / 8 = length_steps path (length path / 8) in (omega arith, omega arith)

pub kept_restarted : (w b q : ℕ) → Sizes w b q → Kept (restarted w b q)
unfolding listing enter_all flat_map
kept_restarted w b q s = record { sizes = s; listed_le = zero-le; early = zero-le; paths_le = zero-le; whole = tt; ranks = tt }

pub kept_joined : (r : Recount) (path : List ℕ) → Kept r → All (λ b. b < 256) path → Taken r path → Kept (joined r (path_of path))
kept_joined r path k bytes t = record {
  sizes = k.sizes;
  listed_le = rw (since_joined r k.early (path_of path)) t.room;
  early = early_joined r k.early (path_of path);
  paths_le = omega (arith, length-append r.paths (path_of path ∷ []), t.paths_lt);
  whole = all_snoc Whole r.paths (path_of path) k.whole (path_whole path t.steps_some t.steps_le);
  ranks = all_snoc Ranks r.paths (path_of path) k.ranks (steps_ranks path (all_bytes path bytes) (length path / 8));
}

pub kept_tidied : (r : Recount) → Kept r → Kept (tidied r)
kept_tidied r k = record {
  sizes = k.sizes;
  listed_le = rw (drop_before r.window r.paths) (omega (arith, k.listed_le, listing_shrinks r.window r.paths (since r) (since_ends r k) (since_ranks r k)));
  early = omega arith;
  paths_le = k.paths_le;
  whole = k.whole;
  ranks = k.ranks;
}

pub kept_batch : (r : Recount) (places : List ℕ) → Kept r → All (λ b. b < 256) places → (k : ℕ) → Kept (batched add_refusal joined_by r places k).left
kept_batch r places k bytes = batch_keeps add_refusal joined_by r places Kept k (λ s j h z. kept_joined s (lent_path places j) h (lent_bytes places j bytes) (add_taken s (lent_path places j) z))

pub kept_step : (r : Recount) (c : BookCall) → Kept r → InBytes c → Kept (recount_step r c).1
unfolding recount_step
kept_step r (opening w book queue) k bytes =
    after_unless Kept (open_refusal w (length book) (length queue)) (restarted w (length book) (length queue)) r
    (λ e. kept_restarted w (length book) (length queue) (open_sizes w (length book) (length queue) e)) k
kept_step r (add path) k bytes = after_unless Kept (add_refusal r path) (joined r (path_of path)) r (λ e. kept_joined r path k bytes (add_taken r path e)) k
kept_step r (add_paths places) k bytes = kept_batch r places k bytes (places_in places)
kept_step r tidy k bytes = kept_tidied r k
