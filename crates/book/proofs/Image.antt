-- The recount's rows: what a look-up finds in them, and that their keys are the listing, ascending. A look-up finds a key just where L lists it, with its
-- count in the window part of H. The listing is what touching all listed keys leaves, so that the laws of changes do for it too. Assumes nothing.
use mathlib.Core.Path.{◌≡◌, refl, sym, ap, ◌∙◌}
use Prim.Native.Nat.{ℕ, zero, suc, ◌+◌, ◌-◌, ◌≤◌, ◌<◌}
use native.Mathlib.Nat.{add-zero, sub-zero}
use native.Mathlib.Omega.{arith}
use mathlib.Core.List.{List, [], ◌∷◌, map, flat_map, map-map, map-id}
use Rattle.std.specs.Prelude.{None, Some, option_map}
use Rattle.priors.specs.Rows.{Row, row, keys, Ascends, look}
use Rattle.book.specs.Path.{Steps, listed_keys}
use Rattle.book.specs.Changes.{touch_all}
use Rattle.book.specs.Recount.{occurrences, listing, counted, rows_of}
use Rattle.priors.proofs.Orders.{Side, below, same, above, side}
use Rattle.priors.proofs.RowLaws.{after_touch, after_bump, after_fade}
use Rattle.book.proofs.Passes.{found}
use Rattle.book.proofs.ManyRows.{times, look_all, keys_touches, ascends_entered}

-- ---- what many changes make of what a look-up found

pub found_some : (n c : ℕ) → 0 < n → found n c ≡ Some c
found_some zero c h = absurd (omega arith)
found_some (suc n) c h = refl

pub touch_some : (a c : ℕ) → times a after_touch (Some c) ≡ Some c
touch_some zero c = refl
touch_some (suc a) c = touch_some a c

pub touched : (a n c : ℕ) → c ≤ n → times a after_touch (found n c) ≡ found (n + a) c
touched zero n c h = ap (λ (m : ℕ). found m c) (sym (add-zero n))
touched (suc a) zero c h = touch_some a 0 ∙ ap Some (omega arith) ∙ sym (found_some (0 + suc a) c (omega arith))
touched (suc a) (suc n) c h = touch_some a c ∙ sym (found_some (suc n + suc a) c (omega arith))

pub bumped : (b n c : ℕ) → b ≤ n → times b after_bump (found n c) ≡ found n (c + b)
bumped zero n c h = ap (found n) (sym (add-zero c))
bumped (suc b) zero c h = absurd (omega arith)
bumped (suc b) (suc n) c h = bumped b (suc n) (c + 1) (omega arith) ∙ ap Some (omega arith)

pub faded : (d n c : ℕ) → times d after_fade (found n c) ≡ found n (c - d)
faded zero n c = ap (found n) (sym (sub-zero c))
faded (suc d) zero c = faded d zero c
faded (suc d) (suc n) c = faded d (suc n) (c - 1) ∙ ap Some (omega arith)

-- ---- the rows of H and L

-- rows with the same keys and other counts
look_refill : (f : ℕ → ℕ) (j : ℕ) (rs : List Row) → look j (map (λ k. row k (f k)) (keys rs)) ≡ option_map (λ c. f j) (look j rs)
unfolding look
look_refill f j [] = refl
look_refill f j (r ∷ rs) = go (side j r.key) (look_refill f j rs)
  where
    go : Side j r.key → look j (map (λ k. row k (f k)) (keys rs)) ≡ option_map (λ c. f j) (look j rs) → look j (map (λ k. row k (f k)) (keys (r ∷ rs))) ≡ option_map (λ c. f j) (look j (r ∷ rs))
    go (below l e) ih = rw e
    go (same q e) ih = rw e (ap (λ (k : ℕ). Some (f k)) (sym q))
    go (above l e) ih = rw e ih

refilled : (n v : ℕ) → option_map (λ c. v) (times n after_touch None) ≡ found n v
refilled zero v = refl
refilled (suc n) v = ap (option_map (λ c. v)) (touch_some n 0)

-- the listing is what touching the listed keys leaves
listing_touched : (L : List Steps) → listing L ≡ keys (touch_all (flat_map listed_keys L) [])
unfolding listing
listing_touched L = sym (keys_touches (flat_map listed_keys L) [])

pub look_rows : (W : ℕ) (H L : List Steps) (j : ℕ) → look j (rows_of W H L) ≡ found (occurrences j (flat_map listed_keys L)) (counted W H j)
unfolding rows_of look
look_rows W H L j =
    rw listing_touched
    (look_refill (counted W H) j (touch_all (flat_map listed_keys L) [])
    ∙ ap (option_map (λ c. counted W H j)) (look_all (Some 0) (λ c. c) j (flat_map listed_keys L) [])
    ∙ refilled (occurrences j (flat_map listed_keys L)) (counted W H j))

pub keys_rows : (W : ℕ) (H L : List Steps) → keys (rows_of W H L) ≡ listing L
unfolding rows_of
keys_rows W H L = map-map _ _ (listing L) ∙ map-id (listing L)

pub ascends_listing : (L : List Steps) → Ascends 0 (listing L)
unfolding listing
ascends_listing L = ascends_entered (flat_map listed_keys L)

pub ascends_rows : (W : ℕ) (H L : List Steps) → Ascends 0 (keys (rows_of W H L))
ascends_rows W H L = rw keys_rows (ascends_listing L)
