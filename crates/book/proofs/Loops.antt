-- Laws for loops over a path's steps: what is still to be done from step i on is what is done at step i, and then what is to be done from i + 1 on. A loop that
-- keeps 'what is to be done from i on, done to the rows as they are, is all of it done to the rows as they were' ends with all of it done. Assumes nothing.
use mathlib.Core.Path.{◌≡◌}
use Prim.Native.Nat.{ℕ, suc, ◌+◌, ◌<◌}
use native.Mathlib.Numerals.{add-one}
use native.Mathlib.Omega.{arith}
use mathlib.Core.List.{List}
use lib.ListN.{length, get_or, drop}
use lib.Seq.{drop-cons, drop-length}
use Rattle.std.specs.Prelude.{Option}
use Rattle.priors.specs.Rows.{Row, change, touch, bump}
use Rattle.entries.specs.Keys.{end_key, child_key}
use Rattle.book.specs.Path.{Steps}
use Rattle.book.specs.Changes.{change_all}
use Rattle.book.proofs.Passes.{one_pass}

module _ (p : Steps) (i : ℕ) (rs : List Row) where
  -- a step with another after it
  pub pass_on : suc i < length p → one_pass (drop i p) rs ≡ one_pass (drop (suc i) p) (bump (child_key (get_or p i 0) (get_or p (suc i) 0)) (touch (end_key (get_or p i 0)) rs))
  unfolding one_pass
  pass_on h = rw (drop-cons p i 0 (omega arith), drop-cons p (suc i) 0 h)

  -- the last step
  pub pass_last : suc i ≡ length p → one_pass (drop i p) rs ≡ bump (end_key (get_or p i 0)) rs
  unfolding one_pass
  pass_last h = rw (drop-cons p i 0 (omega arith), h, drop-length)

-- one change for each of a list of keys: the key numbered i, then those behind it
pub change_next : (new : Option ℕ) (step : ℕ → ℕ) (ks : List ℕ) (i : ℕ) (rs : List Row) → i < length ks → change_all new step (drop (i + 1) ks) (change new step (get_or ks i 0) rs) ≡ change_all new step (drop i ks) rs
unfolding change_all
change_next new step ks i rs l = rw (add-one i, drop-cons ks i 0 l)
