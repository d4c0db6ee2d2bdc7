-- The step: with one more path in H and in L the rows are those before, changed as `add_rows` says. For each key the changes are counted: what is touched is
-- listed from then on, a count rises by what the new path counts and falls by what the leaving one counted; the image's look-up says the same. Then the
-- law of look-ups. Assumes nothing.
use mathlib.Core.Path.{◌≡◌, sym, ap₂, ◌∙◌}
use Prim.Native.Nat.{ℕ, ◌+◌, ◌-◌}
use native.Mathlib.Omega.{arith}
use mathlib.Core.List.{List, [], ◌∷◌, ◌++◌, flat_map}
use Rattle.std.specs.Prelude.{Option}
use Rattle.priors.specs.Rows.{Row, keys, Ascends, look}
use Rattle.book.specs.Path.{Steps, listed_keys, counted_keys}
use Rattle.book.specs.Changes.{touch_all, bump_all, left_keys, add_rows}
use Rattle.book.specs.Recount.{occurrences, counted, rows_of}
use Rattle.priors.proofs.Ext.{ext}
use Rattle.book.proofs.Passes.{found, leaving_path}
use Rattle.book.proofs.ManyRows.{look_all, ascends_all}
use Rattle.book.proofs.Occurrences.{counted_listed, occ_paths, occ_one}
use Rattle.book.proofs.Window.{EndsWith, counted_step, counted_le}
use Rattle.book.proofs.Image.{touched, bumped, faded, look_rows, ascends_rows}

module _ (W : ℕ) (H L : List Steps) (ends : EndsWith W H L) (p : Steps) (j : ℕ) where
  -- after the new path's keys, and before any is taken away
  pub look_bumped : look j (bump_all (counted_keys p) (touch_all (listed_keys p) (rows_of W H L)))
      ≡ found (occurrences j (flat_map listed_keys L) + occurrences j (listed_keys p)) (counted W H j + occurrences j (counted_keys p))
  look_bumped =
      let n : ℕ = occurrences j (flat_map listed_keys L) in
      let a : ℕ = occurrences j (listed_keys p) in
      let b : ℕ = occurrences j (counted_keys p) in
      let c : ℕ = counted W H j in
      rw (look_all, look_all, look_rows, touched a n c (counted_le W H L ends j), bumped b (n + a) c (omega (arith, counted_listed j p)))

  pub look_added : look j (add_rows p (leaving_path W H) (rows_of W H L))
      ≡ found (occurrences j (flat_map listed_keys L) + occurrences j (listed_keys p)) (counted W H j + occurrences j (counted_keys p) - occurrences j (left_keys (leaving_path W H)))
  unfolding add_rows
  look_added = rw (look_all, look_bumped, faded)

-- an add keeps the ascent, whatever leaves
pub ascends_added : (p : Steps) (l : Option Steps) (rs : List Row) → Ascends 0 (keys rs) → Ascends 0 (keys (add_rows p l rs))
unfolding add_rows
ascends_added p l rs h = ascends_all _ _ (left_keys l) _ (ascends_all _ _ (counted_keys p) _ (ascends_all _ _ (listed_keys p) rs h))

pub rows_step : (W : ℕ) (H L : List Steps) → EndsWith W H L → (p : Steps) → rows_of W (H ++ p ∷ []) (L ++ p ∷ []) ≡ add_rows p (leaving_path W H) (rows_of W H L)
rows_step W H L ends p =
    ext 0 (rows_of W (H ++ p ∷ []) (L ++ p ∷ [])) (add_rows p (leaving_path W H) (rows_of W H L))
    (ascends_rows W (H ++ p ∷ []) (L ++ p ∷ [])) (ascends_added p (leaving_path W H) (rows_of W H L) (ascends_rows W H L)) agree
  where
    agree : (j : ℕ) → look j (rows_of W (H ++ p ∷ []) (L ++ p ∷ [])) ≡ look j (add_rows p (leaving_path W H) (rows_of W H L))
    agree j =
        let listed : occurrences j (flat_map listed_keys (L ++ p ∷ [])) ≡ occurrences j (flat_map listed_keys L) + occurrences j (listed_keys p) = omega (arith, occ_paths listed_keys j L (p ∷ []), occ_one listed_keys j p) in
        let count : counted W (H ++ p ∷ []) j ≡ counted W H j + occurrences j (counted_keys p) - occurrences j (left_keys (leaving_path W H)) = omega (arith, counted_step W H p j) in
        look_rows W (H ++ p ∷ []) (L ++ p ∷ []) j ∙ ap₂ found listed count ∙ sym (look_added W H L ends p j)
