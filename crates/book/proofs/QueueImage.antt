-- The queue's image: its length, what each place of it holds, the path about to leave, and the place of the next path written. Assumes nothing.
use mathlib.Core.Path.{◌≡◌, refl, sym, ap, ap₂, ◌∙◌}
use Prim.Native.Nat.{ℕ, zero, suc, ◌+◌, ◌-◌, ◌*◌, ◌/◌, ◌%◌, ◌≤◌, ◌<◌}
use native.Mathlib.Nat.{add-zero, zero-add, mod-lt, mod-eq_of_lt}
use native.Mathlib.Omega.{arith}
use mathlib.Core.List.{List, [], ◌∷◌, ◌++◌, append_assoc}
use Rattle.std.specs.Prelude.{Option, None, Some}
use mathlib.Core.Bool.{Bool, true, false, cond, ◌&&◌}
use lib.Dec.{eqb, leb}
use lib.ListN.{length, get_or, drop, length-append, length-replicate}
use lib.Seq.{drop-drop}
use borrow.Author.Tests.{le-leb}
use Rattle.priors.specs.Word.{word, store}
use Rattle.book.specs.Path.{Steps, steps_of, path_of, step_bytes}
use Rattle.book.specs.Form.{lengths_fit}
use Rattle.book.specs.Calls.{zeros, steps_at, leaving, place_bytes, queue_with}
use Rattle.book.specs.Recount.{held, place_image, places_image, queue_image}
use Rattle.book.specs.Figures.{Ranks, AllRanks, Whole, AllWhole}
use Rattle.priors.proofs.Fields.{word_bytes_lem, word_drop}
use Rattle.priors.proofs.Ranks.{Bytes}
use Rattle.book.proofs.Passes.{leaving_path}
use Rattle.book.proofs.PathLaws.{length_steps, length-step_bytes, steps_back, path_forth}
use Rattle.book.proofs.Tiles.{tiles, tiles_same, length_tiles, drop_tiles, put, store_tile}
use Rattle.book.proofs.QueueLaws.{held_snoc, held_leaving, IfAny, OfOne, held_any, held_filled}

pub length_zeros : (n : ℕ) → length (zeros n) ≡ n
length_zeros n = length-replicate {A = ℕ} n 0

-- ---- one place

pub length_place : (o : Option Steps) → IfAny Whole o → length (place_image o) ≡ 516
length_place None h = length_zeros 516
length_place (Some p) h =
    let rest : length (step_bytes p ++ zeros (8 * (64 - length p))) ≡ 8 * length p + 8 * (64 - length p) =
    length-append (step_bytes p) (zeros (8 * (64 - length p))) ∙ ap₂ ◌+◌ (length-step_bytes p) (length_zeros (8 * (64 - length p))) in
    omega (arith, rest)

-- what is read where the place of a path begins
pub place_length : (p : Steps) (tail : List ℕ) → Whole p → word (place_image (Some p) ++ tail) 0 ≡ length p
place_length p tail h = word_bytes_lem (length p) ((step_bytes p ++ zeros (8 * (64 - length p))) ++ tail) (omega arith)

place_steps : (p : Steps) (tail : List ℕ) → Ranks p → steps_of (drop 4 (place_image (Some p) ++ tail)) (length p) ≡ p
place_steps p tail h =
    ap (λ (l : List ℕ). steps_of l (length p)) (append_assoc (step_bytes p) (zeros (8 * (64 - length p))) tail)
    ∙ steps_back p (zeros (8 * (64 - length p)) ++ tail) h

-- what an add writes is the place of its path
pub place_bytes_lem : (path : List ℕ) → Bytes path → length path % 8 ≡ 0 → length path / 8 ≤ 64 → place_bytes path ≡ place_image (Some (path_of path))
unfolding place_bytes
place_bytes_lem path bytes h l =
    let n : length (path_of path) ≡ length path / 8 = length_steps path (length path / 8) in
    let rest : 8 * 64 - length path ≡ 8 * (64 - length path / 8) = omega arith in
    rw (n, rest, path_forth path bytes h)

-- ---- all places

pub places_tiles : (W : ℕ) (H : List Steps) (n : ℕ) → places_image W H n ≡ tiles (λ j. place_image (held W j 0 None H)) n
unfolding places_image
places_tiles W H zero = refl
places_tiles W H (suc n) = ap (λ (l : List ℕ). l ++ place_image (held W n 0 None H)) (places_tiles W H n)

pub queue_tiles : (W : ℕ) (H : List Steps) (size : ℕ) → queue_image W H size ≡ tiles (λ j. place_image (held W j 0 None H)) W ++ zeros (size - 516 * W)
unfolding queue_image
queue_tiles W H size = ap (λ (l : List ℕ). l ++ zeros (size - 516 * W)) (places_tiles W H W)

module _ (W : ℕ) (H : List Steps) (size : ℕ) (whole : AllWhole H) where
  place_size_lem : (j : ℕ) → length (place_image (held W j 0 None H)) ≡ 516
  place_size_lem j = length_place (held W j 0 None H) (held_any Whole W j 0 None H whole tt)

  pub length_queue : 516 * W ≤ size → length (queue_image W H size) ≡ size
  length_queue h =
      ap length (queue_tiles W H size)
      ∙ length-append (tiles (λ j. place_image (held W j 0 None H)) W) (zeros (size - 516 * W))
      ∙ omega (arith, length_tiles (λ j. place_image (held W j 0 None H)) place_size_lem W, length_zeros (size - 516 * W))

  -- from the place j on
  pub queue_at : (j : ℕ) → j < W → (tail : List ℕ) × (drop (516 * j) (queue_image W H size) ≡ place_image (held W j 0 None H) ++ tail)
  queue_at j h =
      let d = drop_tiles (λ j. place_image (held W j 0 None H)) place_size_lem W j (zeros (size - 516 * W)) h in
      (d.0, ap (drop (516 * j)) (queue_tiles W H size) ∙ d.1)

  module _ (j : ℕ) (h : j < W) (p : Steps) (holds : held W j 0 None H ≡ Some p) (w : Whole p) where
    pub length_at : word (queue_image W H size) (516 * j) ≡ length p
    length_at =
        let at = queue_at j h in
        ap (word (queue_image W H size)) (sym (add-zero (516 * j)))
        ∙ sym (word_drop (516 * j) (queue_image W H size) 0)
        ∙ ap (λ (s : List ℕ). word s 0) (at.1 ∙ ap (λ (o : Option Steps). place_image o ++ at.0) holds)
        ∙ place_length p at.0 w

    pub steps_at_lem : Ranks p → steps_at (queue_image W H size) (516 * j) ≡ p
    steps_at_lem ranks =
        let at = queue_at j h in
        ap₂ steps_of
        (sym (drop-drop 4 (516 * j) (queue_image W H size)) ∙ ap (drop 4) (at.1 ∙ ap (λ (o : Option Steps). place_image o ++ at.0) holds))
        length_at
        ∙ place_steps p at.0 ranks

  -- ---- the form of the filled places

  pub lengths_fit_lem : (n : ℕ) → n ≤ W → n ≤ length H → lengths_fit (queue_image W H size) n ≡ true
  unfolding lengths_fit
  lengths_fit_lem zero a b = refl
  lengths_fit_lem (suc n) a b = rw (lengths_fit_lem n (omega arith) (omega arith)) (go (held W n 0 None H) refl (held_filled Whole W n 0 None H whole n (omega arith) (omega arith) (mod-eq_of_lt a)))
    where
      q : List ℕ
      q = queue_image W H size

      go : (o : Option Steps) → held W n 0 None H ≡ o → OfOne Whole o → leb 1 (word q (516 * n)) && leb (word q (516 * n)) 64 ≡ true
      go None e w = absurd w
      go (Some p) e w = rw (length_at n a p e w, le-leb 1 (length p) w.0, le-leb (length p) 64 w.1)

-- ---- the path about to leave

pub leaving_image : (W used : ℕ) (H : List Steps) (size : ℕ) → AllWhole H → AllRanks H
    → leaving (record { window = W; used = used; accepted = length H }) (queue_image W H size) ≡ leaving_path W H
unfolding leaving leaving_path
leaving_image zero used H size whole ranks = refl
leaving_image (suc w) used H size whole ranks = rw (le-leb 1 (suc w) (omega arith)) (go (leb (suc w) (length H)) refl)
  where
    W : ℕ
    W = suc w

    at : ℕ
    at = length H % W

    go : (b : Bool) → leb W (length H) ≡ b → cond b (Some (steps_at (queue_image W H size) (516 * at))) None ≡ cond b (Some (get_or H (length H - W) [])) None
    go false t = refl
    go true t =
        let p : Steps = get_or H (length H - W) [] in
        let is : held W at 0 None H ≡ Some p = held_leaving w H ∙ leaving_is t in
        let wp : Whole p = rw is at (held_any Whole W at 0 None H whole tt) in
        let rp : Ranks p = rw is at (held_any Ranks W at 0 None H ranks tt) in
        ap Some (steps_at_lem W H size whole at (mod-lt (length H) (omega arith)) p is wp rp)
      where
        leaving_is : leb W (length H) ≡ true → leaving_path W H ≡ Some (get_or H (length H - W) [])
        leaving_is t = rw t

-- ---- the place of the next path written

pub queue_step : (W used : ℕ) (H : List Steps) (size : ℕ) (path : List ℕ) → AllWhole H → Bytes path → length path % 8 ≡ 0 → Whole (path_of path)
    → queue_with (record { window = W; used = used; accepted = length H }) (queue_image W H size) path ≡ queue_image W (H ++ path_of path ∷ []) size
unfolding queue_with queue_image places_image
queue_step zero used H size path whole bytes h w = refl
queue_step (suc n) used H size path whole bytes h w =
    let few : length path / 8 ≤ 64 = omega (arith, length_steps path (length path / 8)) in
    rw (le-leb 1 (suc n) (omega arith))
    (ap₂ (λ (s x : List ℕ). store s (516 * at) x) (queue_tiles W H size) (place_bytes_lem path bytes h few)
    ∙ store_tile f (place_size_lem W H size whole) W at (place_image (Some p)) rest (length_place (Some p) w) (mod-lt (length H) (omega arith))
    ∙ ap (λ (l : List ℕ). l ++ rest) (tiles_same (put f (place_size_lem W H size whole) at (place_image (Some p))) (λ j. place_image (held W j 0 None (H ++ p ∷ []))) W (λ i l. sym (agree i)))
    ∙ sym (queue_tiles W (H ++ p ∷ []) size))
  where
    W : ℕ
    W = suc n

    p : Steps
    p = path_of path

    at : ℕ
    at = length H % W

    f : ℕ → List ℕ
    f j = place_image (held W j 0 None H)

    rest : List ℕ
    rest = zeros (size - 516 * W)

    agree : (i : ℕ) → place_image (held W i 0 None (H ++ p ∷ [])) ≡ cond (eqb at i) (place_image (Some p)) (f i)
    agree i = ap place_image (held_snoc W i 0 None H p) ∙ rw zero-add (go (eqb at i))
      where
        go : (b : Bool) → place_image (cond b (Some p) (held W i 0 None H)) ≡ cond b (place_image (Some p)) (f i)
        go true = refl
        go false = refl
