-- What many changes leave: a look-up for j finds what it found, changed as often as j stands in the list of keys; and touching keys enters them, ascending. Assumes
-- nothing.
use mathlib.Core.Path.{◌≡◌, refl, ap, ◌∙◌}
use Prim.Native.Nat.{ℕ, zero, suc, zero-le}
use mathlib.Core.List.{List, [], ◌∷◌, ◌++◌}
use Rattle.std.specs.Prelude.{Option}
use mathlib.Core.Bool.{Bool, true, false, cond}
use lib.Dec.{eqb}
use Rattle.priors.specs.Rows.{Row, keys, Ascends, look, change, touch}
use Rattle.book.specs.Changes.{change_all, touch_all}
use Rattle.book.specs.Recount.{occurrences, enter, enter_all}
use Rattle.priors.proofs.Orders.{Side, below, same, above, side}
use Rattle.priors.proofs.RowLaws.{after, look_change, ascends_change}

-- f, n times
abbrev pub times : ℕ → (Option ℕ → Option ℕ) → Option ℕ → Option ℕ
times zero f o = o
times (suc n) f o = times n f (f o)

module _ (new : Option ℕ) (step : ℕ → ℕ) where
  pub look_all : (j : ℕ) (ks : List ℕ) (rs : List Row) → look j (change_all new step ks rs) ≡ times (occurrences j ks) (after new step) (look j rs)
  unfolding change_all occurrences
  look_all j [] rs = refl
  look_all j (k ∷ ks) rs = look_all j ks (change new step k rs) ∙ rw look_change (go (eqb j k))
    where
      n : ℕ
      n = occurrences j ks

      o : Option ℕ
      o = look j rs

      go : (b : Bool) → times n (after new step) (cond b (after new step o) o) ≡ times (cond b (suc n) n) (after new step) o
      go true = refl
      go false = refl

  pub ascends_all : (ks : List ℕ) (rs : List Row) → Ascends 0 (keys rs) → Ascends 0 (keys (change_all new step ks rs))
  unfolding change_all
  ascends_all [] rs h = h
  ascends_all (k ∷ ks) rs h = ascends_all ks (change new step k rs) (ascends_change new step k 0 rs zero-le h)

-- ---- touching enters the key

keys_touch : (k : ℕ) (rs : List Row) → keys (touch k rs) ≡ enter k (keys rs)
unfolding change enter
keys_touch k [] = refl
keys_touch k (r ∷ rs) = go (side k r.key) (keys_touch k rs)
  where
    go : Side k r.key → keys (touch k rs) ≡ enter k (keys rs) → keys (touch k (r ∷ rs)) ≡ enter k (keys (r ∷ rs))
    go (below l e) ih = rw e
    go (same q e) ih = rw e
    go (above l e) ih = rw (e, ih)

pub keys_touches : (ks : List ℕ) (rs : List Row) → keys (touch_all ks rs) ≡ enter_all ks (keys rs)
unfolding change_all enter_all
keys_touches [] rs = refl
keys_touches (k ∷ ks) rs = keys_touches ks (touch k rs) ∙ ap (enter_all ks) (keys_touch k rs)

pub enter_all-append : (js ks xs : List ℕ) → enter_all (js ++ ks) xs ≡ enter_all ks (enter_all js xs)
unfolding enter_all
enter_all-append [] ks xs = refl
enter_all-append (j ∷ js) ks xs = enter_all-append js ks _

-- what is entered into an empty list ascends
pub ascends_entered : (ks : List ℕ) → Ascends 0 (enter_all ks [])
ascends_entered ks = rw (← keys_touches ks []) (ascends_all _ _ ks [] tt)
