-- Places of 516 bytes, one after another: what is read at one of them, and what writing one of them leaves. Assumes nothing.
use mathlib.Core.Path.{◌≡◌, refl, sym, ap, ap₂, ◌∙◌}
use Prim.Native.Nat.{ℕ, zero, suc, ◌+◌, ◌*◌, ◌<◌}
use native.Mathlib.Omega.{arith}
use mathlib.Core.List.{List, [], ◌++◌, append_assoc}
use mathlib.Core.Bool.{cond}
use lib.Dec.{eqb}
use lib.ListN.{length, drop, length-append}
use lib.Seq.{take_at, drop_at}
use borrow.Author.Tests.{eq-eqb, ne_eqb}
use Rattle.priors.specs.Word.{store}
use Rattle.priors.proofs.Orders.{Side, below, same, above, side}

-- f 0, f 1, .. below n
abbrev pub tiles : (ℕ → List ℕ) → ℕ → List ℕ
tiles f zero = []
tiles f (suc n) = tiles f n ++ f n

pub tiles_same : (f g : ℕ → List ℕ) (n : ℕ) → ((i : ℕ) → i < n → f i ≡ g i) → tiles f n ≡ tiles g n
tiles_same f g zero h = refl
tiles_same f g (suc n) h = ap₂ (λ (x y : List ℕ). x ++ y) (tiles_same f g n (λ (i : ℕ) (l : i < n). h i (omega arith))) (h n (omega arith))

-- one part among others is written over
pub store_part : (p m q x : List ℕ) (n : ℕ) → length p ≡ n → length m ≡ length x → store (p ++ (m ++ q)) n x ≡ p ++ (x ++ q)
unfolding store
store_part p m q x n e l =
    ap₂ (λ (a b : List ℕ). a ++ (x ++ b)) (take_at p (m ++ q) n e)
    (ap (λ (l : List ℕ). drop (n + length x) l) (sym (append_assoc p m q)) ∙ drop_at (p ++ m) q (n + length x) (length-append p m ∙ omega arith))

module _ (f : ℕ → List ℕ) (size : (i : ℕ) → length (f i) ≡ 516) where
  pub length_tiles : (n : ℕ) → length (tiles f n) ≡ 516 * n
  length_tiles zero = refl
  length_tiles (suc n) = length-append (tiles f n) (f n) ∙ omega (arith, length_tiles n, size n)

  -- from the place j on
  pub drop_tiles : (n j : ℕ) (rest : List ℕ) → j < n → (tail : List ℕ) × (drop (516 * j) (tiles f n ++ rest) ≡ f j ++ tail)
  drop_tiles zero j rest h = absurd (omega arith)
  drop_tiles (suc n) j rest h = go (side j n) (drop_tiles n j (f n ++ rest))
    where
      whole : tiles f (suc n) ++ rest ≡ tiles f n ++ (f n ++ rest)
      whole = append_assoc (tiles f n) (f n) rest

      go : Side j n → (j < n → (tail : List ℕ) × (drop (516 * j) (tiles f n ++ (f n ++ rest)) ≡ f j ++ tail))
          → (tail : List ℕ) × (drop (516 * j) (tiles f (suc n) ++ rest) ≡ f j ++ tail)
      go (below l e) ih = ((ih l).0, ap (drop (516 * j)) whole ∙ (ih l).1)
      go (same q e) ih = (rest, ap (drop (516 * j)) whole ∙ drop_at (tiles f n) (f n ++ rest) (516 * j) (omega (arith, length_tiles n)) ∙ ap (λ (i : ℕ). f i ++ rest) (sym q))
      go (above l e) ih = absurd (omega arith)

  -- f with x at j
  abbrev pub put : ℕ → List ℕ → ℕ → List ℕ
  put j x i = cond (eqb j i) x (f i)

  pub store_tile : (n j : ℕ) (x rest : List ℕ) → length x ≡ 516 → j < n → store (tiles f n ++ rest) (516 * j) x ≡ tiles (put j x) n ++ rest
  store_tile zero j x rest l h = absurd (omega arith)
  store_tile (suc n) j x rest l h = go (side j n) (store_tile n j x (f n ++ rest) l)
    where
      whole : tiles f (suc n) ++ rest ≡ tiles f n ++ (f n ++ rest)
      whole = append_assoc (tiles f n) (f n) rest

      split : tiles (put j x) (suc n) ++ rest ≡ tiles (put j x) n ++ (put j x n ++ rest)
      split = append_assoc (tiles (put j x) n) (put j x n) rest

      go : Side j n → (j < n → store (tiles f n ++ (f n ++ rest)) (516 * j) x ≡ tiles (put j x) n ++ (f n ++ rest)) → store (tiles f (suc n) ++ rest) (516 * j) x ≡ tiles (put j x) (suc n) ++ rest
      go (below m e) ih =
          let kept : put j x n ≡ f n = rw (ne_eqb j n (λ q. omega arith)) in
          ap (λ (s : List ℕ). store s (516 * j) x) whole ∙ ih m ∙ ap (λ (t : List ℕ). tiles (put j x) n ++ (t ++ rest)) (sym kept) ∙ sym split
      go (same q e) ih =
          let now : put j x n ≡ x = rw (eq-eqb j n q) in
          let before : tiles (put j x) n ≡ tiles f n = tiles_same (put j x) f n (λ (i : ℕ) (l : i < n). rw (ne_eqb j i (λ d. omega arith))) in
          ap (λ (s : List ℕ). store s (516 * j) x) whole
          ∙ store_part (tiles f n) (f n) rest x (516 * j) (omega (arith, length_tiles n)) (omega (arith, size n))
          ∙ ap₂ (λ (a b : List ℕ). a ++ (b ++ rest)) (sym before) (sym now)
          ∙ sym split
      go (above m e) ih = absurd (omega arith)
