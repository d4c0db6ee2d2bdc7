-- The rows of a path in one pass, as code would do it: touch a step's ending, count its child one more, and at the last step count its ending one more.
-- That is what touching all keys first and counting afterwards leaves, since a touch before or after a bump makes no difference to any look-up. Assumes nothing.
use mathlib.Core.Path.{◌≡◌, refl, sym, ap, ◌∙◌}
use Prim.Native.Nat.{ℕ, ◌+◌, zero-le}
use mathlib.Core.List.{List, [], ◌∷◌}
use Rattle.std.specs.Prelude.{Option, None, Some}
use mathlib.Core.Bool.{Bool, true, false, cond}
use lib.Dec.{eqb}
use Rattle.priors.specs.Rows.{Row, keys, Ascends, look, change, touch, bump}
use Rattle.entries.specs.Keys.{end_key, child_key}
use Rattle.book.specs.Path.{Steps, listed_keys, counted_keys}
use Rattle.book.specs.Changes.{change_all, touch_all, bump_all}
use Rattle.priors.proofs.RowLaws.{after, after_touch, after_bump, look_change, ascends_change}
use Rattle.priors.proofs.Ext.{ext}
use Rattle.book.proofs.Passes.{one_pass}

-- two changes that commute on what a look-up finds commute on rows, at one key or at two
module _ (n m : Option ℕ) (f g : ℕ → ℕ) (swap : (o : Option ℕ) → after n f (after m g o) ≡ after m g (after n f o)) where
  pub change_swap : (j k : ℕ) (rs : List Row) → Ascends 0 (keys rs) → change n f j (change m g k rs) ≡ change m g k (change n f j rs)
  change_swap j k rs h =
      ext 0 (change n f j (change m g k rs)) (change m g k (change n f j rs))
      (ascends_change n f j 0 _ zero-le (ascends_change m g k 0 rs zero-le h)) (ascends_change m g k 0 _ zero-le (ascends_change n f j 0 rs zero-le h))
      (λ i. rw (look_change n f j i (change m g k rs), look_change m g k i rs, look_change m g k i (change n f j rs), look_change n f j i rs) (go (look i rs) (eqb i j) (eqb i k)))
    where
      go : (o : Option ℕ) (a b : Bool) → cond a (after n f (cond b (after m g o) o)) (cond b (after m g o) o) ≡ cond b (after m g (cond a (after n f o) o)) (cond a (after n f o) o)
      go o true true = swap o
      go o true false = refl
      go o false true = refl
      go o false false = refl

touch_bump_swap : (o : Option ℕ) → after_touch (after_bump o) ≡ after_bump (after_touch o)
touch_bump_swap None = refl
touch_bump_swap (Some c) = refl

-- a bump enters its key itself
bump_touch : (k : ℕ) (rs : List Row) → Ascends 0 (keys rs) → bump k (touch k rs) ≡ bump k rs
bump_touch k rs h =
    ext 0 (bump k (touch k rs)) (bump k rs) (ascends_change _ _ k 0 _ zero-le (ascends_change _ _ k 0 rs zero-le h)) (ascends_change _ _ k 0 rs zero-le h)
    (λ i. rw (look_change _ _ k i (touch k rs), look_change _ _ k i rs, look_change (Some 1) (λ c. c + 1) k i rs) (go (look i rs) (eqb i k)))
  where
    go : (o : Option ℕ) (b : Bool) → cond b (after_bump (cond b (after_touch o) o)) (cond b (after_touch o) o) ≡ cond b (after_bump o) o
    go None true = refl
    go (Some c) true = refl
    go o false = refl

-- a bump may come before many touches
bump_early : (k : ℕ) (ks : List ℕ) (rs : List Row) → Ascends 0 (keys rs) → bump k (touch_all ks rs) ≡ touch_all ks (bump k rs)
unfolding change_all
bump_early k [] rs h = refl
bump_early k (j ∷ ks) rs h = bump_early k ks (touch j rs) (ascends_change _ _ j 0 rs zero-le h) ∙ ap (touch_all ks) (sym (change_swap (Some 0) (Some 1) (λ c. c) (λ c. c + 1) touch_bump_swap j k rs h))

pub one_pass_lem : (p : Steps) (rs : List Row) → Ascends 0 (keys rs) → one_pass p rs ≡ bump_all (counted_keys p) (touch_all (listed_keys p) rs)
unfolding one_pass listed_keys counted_keys change_all
one_pass_lem [] rs h = refl
one_pass_lem (a ∷ []) rs h = sym (bump_touch (end_key a) rs h)
one_pass_lem (a ∷ b ∷ p) rs h =
    let end : List Row = touch (end_key a) rs in
    let ends : Ascends 0 (keys end) = ascends_change _ _ (end_key a) 0 rs zero-le h in
    let child : ℕ = child_key a b in
    one_pass_lem (b ∷ p) (bump child end) (ascends_change _ _ child 0 end zero-le ends)
    ∙ ap (bump_all (counted_keys (b ∷ p)))
    (ap (touch_all (listed_keys (b ∷ p))) (sym (bump_touch child end ends))
    ∙ sym (bump_early child (listed_keys (b ∷ p)) (touch child end) (ascends_change _ _ child 0 end zero-le ends)))
