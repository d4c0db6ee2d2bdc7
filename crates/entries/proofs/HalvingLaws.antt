-- The search by halving: the entries below a key stand before all others, and where they end is the key's place. Assumes nothing.
use mathlib.Core.Path.{◌≡◌, refl, sym, ap}
use mathlib.Core.Logic.{⊎_elim}
use mathlib.Core.Bool.{Bool, true, false, cond}
use Prim.Native.Nat.{ℕ, zero, suc, ◌*◌, ◌≤◌, ◌<◌, zero-le, suc-le-suc}
use native.Mathlib.Nat.{le_of_suc-le-suc, not-suc-le-zero, lt_trans, zero-lt-suc, eq-or-lt_of_le, le_refl}
use native.Mathlib.Omega.{arith}
use mathlib.Core.List.{List, [], ◌∷◌}
use lib.Dec.{ltb, eqb}
use lib.ListN.{length, get_or}
use borrow.Author.Tests.{lt-ltb, le-ltb, ltb-true, ltb-false, eqb-true}
use Rattle.priors.proofs.BelowLaws.{first_true, second_true}
use Rattle.priors.specs.Rows.{Row, keys, Ascends}
use Rattle.priors.specs.Below.{Falls, Parts}
use Rattle.priors.specs.Search.{blank, place, holds}
use Rattle.std.specs.Prelude.{Ok, Err, IfSome}
use Rattle.std.specs.Result.{result_ok}
use Rattle.entries.specs.Entries.{key_at, row_at, rows, find_in}
use Rattle.entries.proofs.EntryLaws.{length_rows, get_d_rows}

-- ---- ascending rows by index

not_below : (a : ℕ) (rs : List Row) → Ascends a (keys rs) → (i : ℕ) → i < length rs → a ≤ (get_or rs i blank).key
not_below a [] h i l = absurd (not-suc-le-zero l)
not_below a (r ∷ rs) h zero l = h.0
not_below a (r ∷ rs) h (suc i) l = omega (arith, h.0, not_below (suc r.key) rs h.1 i (le_of_suc-le-suc l))

rising : (a : ℕ) (rs : List Row) → Ascends a (keys rs) → (p q : ℕ) → p < q → q < length rs → (get_or rs p blank).key < (get_or rs q blank).key
rising a [] h p q l m = absurd (not-suc-le-zero m)
rising a (r ∷ rs) h p zero l m = absurd (not-suc-le-zero l)
rising a (r ∷ rs) h zero (suc q) l m = not_below (suc r.key) rs h.1 q (le_of_suc-le-suc m)
rising a (r ∷ rs) h (suc p) (suc q) l m = rising (suc r.key) rs h.1 p q (le_of_suc-le-suc l) (le_of_suc-le-suc m)

place_is : (rs : List Row) (k r : ℕ) → r ≤ length rs → ((i : ℕ) → i < r → (get_or rs i blank).key < k) → (r < length rs → k ≤ (get_or rs r blank).key) → place rs k ≡ r
unfolding place
place_is [] k zero h b a = refl
place_is [] k (suc r) h b a = absurd (not-suc-le-zero h)
place_is (x ∷ rs) k zero h b a = rw (le-ltb x.key k (a (zero-lt-suc (length rs))))
place_is (x ∷ rs) k (suc r) h b a =
    rw (lt-ltb x.key k (b 0 (zero-lt-suc r)))
    (ap suc (place_is rs k r (le_of_suc-le-suc h) (λ i l. b (suc i) (suc-le-suc l)) (λ l. a (suc-le-suc l))))

-- ---- what the search answers

pub found_at : (rs : List Row) (k r : ℕ) → place rs k ≡ r → holds rs r k ≡ true → find_in rs k ≡ Ok r
unfolding find_in
found_at rs k r e h = rw (e, h)

pub found_missing : (rs : List Row) (k r : ℕ) → place rs k ≡ r → holds rs r k ≡ false → find_in rs k ≡ Err r
unfolding find_in
found_missing rs k r e h = rw (e, h)

-- whether the entry at r has the key k, as a test of its bytes says it
pub holds_at : (s : List ℕ) (n r k : ℕ) (t : Bool) → r < n → t ≡ eqb (key_at s (24 * r)) k → holds (rows s n) r k ≡ t
unfolding holds row_at
holds_at s n r k t l e =
    let len : length (rows s n) ≡ n = length_rows s n in
    rw (get_d_rows s n r blank l, lt-ltb r (length (rows s n)) (omega arith)) (sym e)

pub holds_past : (s : List ℕ) (n r k : ℕ) → n ≤ r → holds (rows s n) r k ≡ false
unfolding holds
holds_past s n r k l =
    let len : length (rows s n) ≡ n = length_rows s n in
    rw (le-ltb r (length (rows s n)) (omega arith))

-- a key that stands at the place i is found there
pub stands_found : (rs : List Row) (k i : ℕ) → Ascends 0 (keys rs) → holds rs i k ≡ true → find_in rs k ≡ Ok i
unfolding holds
stands_found rs k i a h =
    let l : i < length rs = ltb-true i (length rs) (first_true (ltb i (length rs)) (eqb (get_or rs i blank).key k) h) in
    let e : (get_or rs i blank).key ≡ k = eqb-true (get_or rs i blank).key k (second_true (ltb i (length rs)) (eqb (get_or rs i blank).key k) h) in
    found_at rs k i (place_is rs k i (omega arith) (λ j m. rw (← e) (rising 0 rs a j i m l)) (λ m. omega arith)) h

-- ---- halving

keys_rise : (s : List ℕ) (n : ℕ) → Ascends 0 (keys (rows s n)) → (p q : ℕ) → p < q → q < n → key_at s (24 * p) < key_at s (24 * q)
unfolding row_at
keys_rise s n h p q l m =
    let len : length (rows s n) ≡ n = length_rows s n in
    let o : (get_or (rows s n) p blank).key < (get_or (rows s n) q blank).key = rising 0 (rows s n) h p q l (omega arith) in
    let lp : p < n = omega arith in
    rw (get_d_rows s n p blank lp, get_d_rows s n q blank m) at o

module _ (s : List ℕ) (n k : ℕ) where
  -- the entry at the place i is below k
  abbrev pub is_below : ℕ → Bool
  is_below i = ltb (key_at s (24 * i)) k

  pub below_falls : Ascends 0 (keys (rows s n)) → Falls is_below n
  below_falls h i j l m t =
      ⊎_elim (λ e. rw e t) (λ q. lt-ltb (key_at s (24 * i)) k (lt_trans (keys_rise s n h i j q m) (ltb-true (key_at s (24 * j)) k t))) (eq-or-lt_of_le l)

  -- where those below end, there is the place of k
  pub parts_place : (r : ℕ) → Parts is_below 0 n r → place (rows s n) k ≡ r
  unfolding row_at
  parts_place r p =
      let len : length (rows s n) ≡ n = length_rows s n in
      place_is (rows s n) k r (omega (arith, p.le_to))
      (λ i l. rw (get_d_rows s n i blank (omega (arith, p.le_to))) (ltb-true (key_at s (24 * i)) k (p.before i zero-le l)))
      (λ l. rw (get_d_rows s n r blank (omega arith)) (ltb-false (key_at s (24 * r)) k (p.after r (le_refl r) (omega arith))))

-- what is found stands there
pub some_stands : (rs : List Row) (k : ℕ) → IfSome (result_ok (find_in rs k)) (λ i. holds rs i k ≡ true)
unfolding find_in
some_stands rs k = go (holds rs (place rs k) k) refl
  where
    go : (b : Bool) → holds rs (place rs k) k ≡ b → IfSome (result_ok (cond b (Ok (place rs k)) (Err (place rs k)))) (λ i. holds rs i k ≡ true)
    go true h = h
    go false h = tt
