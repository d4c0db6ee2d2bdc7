-- A part of a list moved 24 places up, one element a turn from its end. Assumes nothing.
use mathlib.Core.Path.{◌≡◌, sym, ap, ◌∙◌}
use Prim.Native.Nat.{ℕ, suc, ◌+◌, ◌-◌, ◌≤◌, ◌<◌}
use native.Mathlib.Nat.{suc-add}
use native.Mathlib.Omega.{arith}
use mathlib.Core.List.{List, ◌∷◌, ◌++◌}
use lib.ListN.{length, get_or, take, drop, set, get_or-append}
use lib.Seq.{slice-cons, take-suc, append_snoc, set_at, length-take-le, get_or-take}

-- s, with what stands from i up to n moved 24 places up
abbrev pub shifted : List ℕ → ℕ → ℕ → List ℕ
shifted s i n = take (i + 24) s ++ (drop i (take n s) ++ drop (n + 24) s)

shift_step : (s : List ℕ) (j n : ℕ) → j < n → n + 24 ≤ length s → set (shifted s (suc j) n) (j + 24) (get_or (shifted s (suc j) n) j 0) ≡ shifted s j n
shift_step s j n h k =
    let p : List ℕ = take (j + 24) s in
    let x : ℕ = get_or s (j + 24) 0 in
    let d : List ℕ = drop (n + 24) s in
    let rest : List ℕ = drop (suc j) (take n s) ++ d in
    let len : length p ≡ j + 24 = length-take-le (j + 24) s (omega arith) in
    let whole : shifted s (suc j) n ≡ p ++ x ∷ rest =
    ap (λ (m : ℕ). take m s ++ rest) (suc-add j 24) ∙ ap (λ (l : List ℕ). l ++ rest) (take-suc s (j + 24) 0 (omega arith)) ∙ append_snoc p x rest in
    let low : get_or (p ++ x ∷ rest) j 0 ≡ get_or s j 0 = get_or-append p (x ∷ rest) 0 j (omega arith) ∙ get_or-take (j + 24) s j 0 (omega arith) in
    ap (λ (l : List ℕ). set l (j + 24) (get_or l j 0)) whole
    ∙ ap (λ (v : ℕ). set (p ++ x ∷ rest) (j + 24) v) low
    ∙ set_at p x rest (get_or s j 0) (j + 24) len
    ∙ ap (λ (l : List ℕ). p ++ (l ++ d)) (sym (slice-cons j n s 0 h (omega arith)))

-- a turn of the loop
pub shift_turn : (s₀ s : List ℕ) (i n : ℕ) → 0 < i → i ≤ n → n + 24 ≤ length s₀ → s ≡ shifted s₀ i n → set s (i - 1 + 24) (get_or s (i - 1) 0) ≡ shifted s₀ (i - 1) n
shift_turn s₀ s i n pos h k e =
    let i-is : i ≡ suc (i - 1) = omega arith in
    ap (λ (l : List ℕ). set l (i - 1 + 24) (get_or l (i - 1) 0)) (e ∙ ap (λ (m : ℕ). shifted s₀ m n) i-is)
    ∙ shift_step s₀ (i - 1) n (omega arith) k
