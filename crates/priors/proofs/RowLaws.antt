-- What a change of one row leaves: what a look-up finds afterwards, the ascent, the length. Touch, bump and fade are three cases of one change, so each law
-- is proved once; the last part says some of them for touch. Since a look-up ends at the first row that is not below its key, just where a change is made, only
-- the law of the ascent itself asks that rows ascend. Assumes nothing.
use mathlib.Core.Path.{◌≡◌, refl, sym, ap}
use Prim.Native.Nat.{ℕ, suc, ◌+◌, ◌-◌, ◌≤◌, ◌<◌}
use mathlib.Core.List.{List, [], ◌∷◌}
use Rattle.std.specs.Prelude.{Option, None, Some}
use native.Mathlib.Omega.{arith}
use mathlib.Core.Bool.{cond}
use lib.Dec.{eqb}
use lib.ListN.{length}
use Rattle.priors.specs.Rows.{Row, row, keys, Ascends, look, front, change, touch}
use Rattle.priors.proofs.Orders.{Side, below, same, above, side, compare_lt, compare_self, Alike, alike, unlike, compared}

-- what a look-up for the key of a change finds afterwards, by what it found before
abbrev pub after : Option ℕ → (ℕ → ℕ) → Option ℕ → Option ℕ
after new step None = new
after new step (Some c) = Some (step c)

-- the same for each of the three changes
abbrev pub after_touch : Option ℕ → Option ℕ
after_touch = after (Some 0) (λ c. c)

abbrev pub after_bump : Option ℕ → Option ℕ
after_bump = after (Some 1) (λ c. c + 1)

abbrev pub after_fade : Option ℕ → Option ℕ
after_fade = after None (λ c. c - 1)

-- how many rows come in, by what a look-up finds before and what a missing key comes in with
abbrev pub gained : Option ℕ → Option ℕ → ℕ
gained None None = 0
gained None (Some c) = 1
gained (Some d) o = 0

-- a lower bound may be lowered
pub ascends_from : (a b : ℕ) (ks : List ℕ) → a ≤ b → Ascends b ks → Ascends a ks
ascends_from a b [] l h = tt
ascends_from a b (k ∷ ks) l h = (omega arith, h.1)

module _ (new : Option ℕ) (step : ℕ → ℕ) (k : ℕ) where
  -- ---- what a look-up finds: for the key itself, and for any other

  look_front : (o : Option ℕ) (rs : List Row) → look k rs ≡ None → look k (front k o rs) ≡ o
  unfolding look
  look_front None rs h = h
  look_front (Some c) rs h = rw (compare_self k)

  pub look_here : (rs : List Row) → look k (change new step k rs) ≡ after new step (look k rs)
  unfolding look change
  look_here [] = look_front new [] refl
  look_here (r ∷ rs) = go (side k r.key) (look_here rs)
    where
      go : Side k r.key → look k (change new step k rs) ≡ after new step (look k rs) → look k (change new step k (r ∷ rs)) ≡ after new step (look k (r ∷ rs))
      go (below l e) ih = rw e (look_front new (r ∷ rs) (rw e))
      go (same q e) ih = rw e (rw e)
      go (above l e) ih = rw e (rw e ih)

  module _ (j : ℕ) (differs : j ≡ k → ⊥) where
    -- a row of k in front of rows that begin above k is not seen
    look_past : (o : Option ℕ) (rs : List Row) → (j < k → look j rs ≡ None) → look j (front k o rs) ≡ look j rs
    unfolding look
    look_past None rs h = refl
    look_past (Some c) rs h = go (side j k)
      where
        go : Side j k → look j (row k c ∷ rs) ≡ look j rs
        go (below l e) = rw e (sym (h l))
        go (same q e) = absurd (differs q)
        go (above l e) = rw e

    pub look_other : (rs : List Row) → look j (change new step k rs) ≡ look j rs
    unfolding look change
    look_other [] = look_past new [] (λ l. refl)
    look_other (r ∷ rs) = go (side k r.key) (look_other rs)
      where
        go : Side k r.key → look j (change new step k rs) ≡ look j rs → look j (change new step k (r ∷ rs)) ≡ look j (r ∷ rs)
        go (below l e) ih = rw e (look_past new (r ∷ rs) (λ (m : j < k). rw (compare_lt j r.key (omega arith))))
        go (same q e) ih = rw e (elsewhere (side j r.key))
          where
            elsewhere : Side j r.key → look j (row r.key (step r.count) ∷ rs) ≡ look j (r ∷ rs)
            elsewhere (below l d) = rw d
            elsewhere (same p d) = absurd (differs (omega arith))
            elsewhere (above l d) = rw d
        go (above l e) ih = rw (e, ih)

  -- both in one
  pub look_change : (j : ℕ) (rs : List Row) → look j (change new step k rs) ≡ cond (eqb j k) (after new step (look j rs)) (look j rs)
  look_change j rs = go (compared j k)
    where
      go : Alike j k → look j (change new step k rs) ≡ cond (eqb j k) (after new step (look j rs)) (look j rs)
      go (alike q e) = rw (e, q) (look_here rs)
      go (unlike q e) = rw e (look_other j q rs)

  -- ---- the ascent

  ascends_front : (a : ℕ) (o : Option ℕ) (rs : List Row) → a ≤ k → Ascends (suc k) (keys rs) → Ascends a (keys rs) → Ascends a (keys (front k o rs))
  ascends_front a None rs l h i = i
  ascends_front a (Some c) rs l h i = (l, h)

  pub ascends_change : (a : ℕ) (rs : List Row) → a ≤ k → Ascends a (keys rs) → Ascends a (keys (change new step k rs))
  unfolding change
  ascends_change a [] l h = ascends_front a new [] l tt tt
  ascends_change a (r ∷ rs) l h = go (side k r.key) (ascends_change (suc r.key) rs)
    where
      go : Side k r.key → (r.key < k → Ascends (suc r.key) (keys rs) → Ascends (suc r.key) (keys (change new step k rs))) → Ascends a (keys (change new step k (r ∷ rs)))
      go (below m e) ih = rw e (ascends_front a new (r ∷ rs) l (m, h.1) h)
      go (same q e) ih = rw e h
      go (above m e) ih = rw e (h.0, ih m h.1)

  -- ---- the length

  length_front : (o : Option ℕ) (rs : List Row) → length (front k o rs) ≡ length rs + gained None o
  length_front None rs = omega arith
  length_front (Some c) rs = omega arith

  pub length_change : (rs : List Row) → length (change new step k rs) ≡ length rs + gained (look k rs) new
  unfolding look change
  length_change [] = length_front new []
  length_change (r ∷ rs) = go (side k r.key) (length_change rs)
    where
      go : Side k r.key → length (change new step k rs) ≡ length rs + gained (look k rs) new → length (change new step k (r ∷ rs)) ≡ length (r ∷ rs) + gained (look k (r ∷ rs)) new
      go (below m e) ih = rw e (length_front new (r ∷ rs))
      go (same q e) ih = rw e (omega arith)
      go (above m e) ih = rw e (omega arith)

  -- no row goes away
  pub grows : (rs : List Row) → length rs ≤ length (change new step k rs)
  grows rs = omega (arith, length_change rs)

-- ---- touching

-- a key that has a row is listed already
pub touch_found : (k c : ℕ) (rs : List Row) → look k rs ≡ Some c → touch k rs ≡ rs
unfolding look change
touch_found k c [] h = let z : ◌≡◌ {A = ℕ} 0 1 = cc in absurd (omega arith)
touch_found k c (r ∷ rs) h = go (side k r.key) h (touch_found k c rs)
  where
    go : Side k r.key → look k (r ∷ rs) ≡ Some c → (look k rs ≡ Some c → touch k rs ≡ rs) → touch k (r ∷ rs) ≡ r ∷ rs
    go (below m e) f ih = let z : ◌≡◌ {A = ℕ} 0 1 = cc (rw e at f) in absurd (omega arith)
    go (same q e) f ih = rw e
    go (above m e) f ih = rw e (ap (λ (l : List Row). r ∷ l) (ih (rw e at f)))

module _ (k : ℕ) (rs : List Row) where
  pub look_touch : look k (touch k rs) ≡ after_touch (look k rs)
  look_touch = look_here (Some 0) (λ c. c) k rs

  pub length_touch : length (touch k rs) ≡ length rs + gained (look k rs) (Some 0)
  length_touch = length_change (Some 0) (λ c. c) k rs
