-- What lies in a place of the queue, where one more path joins: its place takes it, and what lay there is the path that leaves the window.
-- The numbers from n - W + 1 up to n - 1 lie in other places than n, so the place of n was last given number n - W, or nothing yet. Assumes nothing.
use mathlib.Core.Path.{◌≡◌, refl, sym, ap, ◌∙◌}
use Prim.Native.Nat.{ℕ, suc, ◌+◌, ◌-◌, ◌*◌, ◌/◌, ◌%◌, ◌≤◌, ◌<◌}
use native.Mathlib.Nat.{add-zero, zero-add, mod-eq-sub-mod, div-add-mod', mul-le-mul_right}
use native.Mathlib.Omega.{arith}
use mathlib.Core.List.{List, [], ◌∷◌, ◌++◌}
use Rattle.std.specs.Prelude.{Option, None, Some}
use mathlib.Core.Bool.{Bool, true, false, cond}
use lib.Dec.{eqb, leb}
use lib.ListN.{length, get_or, take, drop, length-drop}
use lib.Seq.{split_at, length-take-le}
use borrow.Author.Tests.{eq-eqb, ne_eqb, leb-true, leb-false}
use Rattle.book.specs.Path.{Steps}
use Rattle.book.specs.Recount.{held}
use Rattle.book.specs.Figures.{All}
use Rattle.priors.proofs.Orders.{Side, below, same, above, side}
use Rattle.book.proofs.Passes.{leaving_path}

-- ---- one place

module _ (W j : ℕ) where
  pub held_append : (k : ℕ) (o : Option Steps) (G H : List Steps) → held W j k o (G ++ H) ≡ held W j (k + length G) (held W j k o G) H
  unfolding held
  held_append k o [] H = ap (λ (m : ℕ). held W j m o H) (sym (add-zero k))
  held_append k o (p ∷ G) H =
      held_append (suc k) (cond (eqb (k % W) j) (Some p) o) G H
      ∙ ap (λ (m : ℕ). held W j m (held W j k o (p ∷ G)) H) (omega arith)

  -- paths of other places change nothing
  pub held_misses : (k : ℕ) (o : Option Steps) (H : List Steps) → ((i : ℕ) → k ≤ i → i < k + length H → i % W ≡ j → ⊥) → held W j k o H ≡ o
  unfolding held
  held_misses k o [] h = refl
  held_misses k o (p ∷ H) h =
      rw (ne_eqb (k % W) j (h k (omega arith) (omega arith)))
      (held_misses (suc k) o H (λ (i : ℕ) (a : suc k ≤ i) (b : i < suc k + length H). h i (omega arith) (omega arith)))

  -- a path of the place, and paths of other places after it
  pub held_latest : (k : ℕ) (o : Option Steps) (l : Steps) (H : List Steps) → k % W ≡ j → ((i : ℕ) → suc k ≤ i → i < suc k + length H → i % W ≡ j → ⊥) → held W j k o (l ∷ H) ≡ Some l
  unfolding held
  held_latest k o l H e h = rw (eq-eqb (k % W) j e) (held_misses (suc k) (Some l) H h)

  -- one more path
  pub held_snoc : (k : ℕ) (o : Option Steps) (H : List Steps) (p : Steps) → held W j k o (H ++ p ∷ []) ≡ cond (eqb ((k + length H) % W) j) (Some p) (held W j k o H)
  unfolding held
  held_snoc k o H p = held_append k o H (p ∷ [])

-- numbers that are less than W apart lie in different places
pub apart : (W x n : ℕ) → x < n → n < x + W → x % W ≡ n % W → ⊥
apart W x n l m e = go (side (x / W) (n / W))
  where
    go : Side (x / W) (n / W) → ⊥
    go (below q c) = omega (arith, mul-le-mul_right W q, div-add-mod' x W, div-add-mod' n W)
    go (same q c) = let r : x / W * W ≡ n / W * W = rw q in omega (arith, div-add-mod' x W, div-add-mod' n W)
    go (above q c) = omega (arith, mul-le-mul_right W q, div-add-mod' x W, div-add-mod' n W)

-- ---- the path that leaves lies in the place of the next

pub held_leaving : (w : ℕ) (H : List Steps) → held (suc w) (length H % suc w) 0 None H ≡ leaving_path (suc w) H
unfolding leaving_path
held_leaving w H = go (leb (suc w) (length H)) refl
  where
    W : ℕ
    W = suc w

    n : ℕ
    n = length H

    go : (b : Bool) → leb W n ≡ b → held W (n % W) 0 None H ≡ cond b (Some (get_or H (n - W) [])) None
    go false t =
        let l : n < W = leb-false W n t in
        held_misses W (n % W) 0 None H (λ i a b e. apart W i n (omega arith) (omega arith) e)
    go true t =
        let l : W ≤ n = leb-true W n t in
        let x : ℕ = n - W in
        let before : 0 + length (take x H) ≡ x = rw zero-add (length-take-le x H (omega arith)) in
        let after : length (drop (suc x) H) ≡ n - suc x = length-drop (suc x) H in
        ap (held W (n % W) 0 None) (split_at H x [] (omega arith))
        ∙ held_append W (n % W) 0 None (take x H) (get_or H x [] ∷ drop (suc x) H)
        ∙ rw before
        (held_latest W (n % W) x _ (get_or H x []) (drop (suc x) H) (sym (mod-eq-sub-mod l))
        (λ i a b e. apart W i n (omega arith) (omega arith) e))

-- ---- what holds of all paths holds of those in places

-- of the path, if there is one
abbrev pub IfAny : (Steps → Type 0) → Option Steps → Type 0
IfAny P None = Unit {0}
IfAny P (Some p) = P p

-- there is one, and of that
abbrev pub OfOne : (Steps → Type 0) → Option Steps → Type 0
OfOne P None = ⊥
OfOne P (Some p) = P p

module _ (P : Steps → Type 0) (W j : ℕ) where
  pub held_any : (k : ℕ) (o : Option Steps) (H : List Steps) → All P H → IfAny P o → IfAny P (held W j k o H)
  unfolding held
  held_any k o [] h i = i
  held_any k o (p ∷ H) h i = held_any (suc k) (cond (eqb (k % W) j) (Some p) o) H h.1 (go (eqb (k % W) j))
    where
      go : (b : Bool) → IfAny P (cond b (Some p) o)
      go true = h.0
      go false = i

  held_kept : (k : ℕ) (o : Option Steps) (H : List Steps) → All P H → OfOne P o → OfOne P (held W j k o H)
  unfolding held
  held_kept k o [] h i = i
  held_kept k o (p ∷ H) h i = held_kept (suc k) (cond (eqb (k % W) j) (Some p) o) H h.1 (go (eqb (k % W) j))
    where
      go : (b : Bool) → OfOne P (cond b (Some p) o)
      go true = h.0
      go false = i

  -- a place that some path was given holds one
  pub held_filled : (k : ℕ) (o : Option Steps) (H : List Steps) → All P H → (i : ℕ) → k ≤ i → i < k + length H → i % W ≡ j → OfOne P (held W j k o H)
  unfolding held
  held_filled k o [] h i a b e = absurd (omega arith)
  held_filled k o (p ∷ H) h i a b e = go (side k i) (held_filled (suc k) (cond (eqb (k % W) j) (Some p) o) H h.1 i)
    where
      go : Side k i → (suc k ≤ i → i < suc k + length H → i % W ≡ j → OfOne P (held W j k o (p ∷ H))) → OfOne P (held W j k o (p ∷ H))
      go (below l c) ih = ih l (omega arith) e
      go (same q c) ih = let at : k % W ≡ j = ap (λ (m : ℕ). m % W) q ∙ e in rw (eq-eqb (k % W) j at) (held_kept (suc k) (Some p) H h.1 h.0)
      go (above l c) ih = absurd (omega arith)
