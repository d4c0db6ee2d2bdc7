-- Whole numbers as floats: up to 2 ^ 53 nothing is lost, and a sum of two of them is that of the numbers, rounded once. So the totals that goko adds up as floats,
-- count by count, are the whole totals made floats once (`GokoLaws`). Assumes nothing.
use Rattle.std.proofs.Common.{◌≡◌, ℕ, ◌+◌, ◌*◌, ◌^◌, ◌≤◌, true, false, T, pos, sym, ap, ◌∙◌, true≢false, zero-lt-suc, mul_assoc, mul_comm, add-mul, mul-pos, mul-one, mul_left_comm, arith, le→leb}
use lib.Ieee.{Float, fin, Format, binary64, up, down, round, add, of_int, in_float, to_unsigned}
use lib.Ieee.Fits.{down_pos}
use lib.Ieee.Exact.{HasValue}
use lib.Ieee.Scale.{round_same}
use lib.Ieee.Back.{round_whole, unsigned_back}
use Rattle.divergence.specs.Numbers.{fadd, flt}
use Rattle.divergence.specs.GokoFloats.{MadeWithoutLoss}

-- what a cast of a whole number asks
pub in_float_lem : (n : ℕ) → n ≤ 2 ^ 53 → T (in_float binary64 (pos n))
unfolding in_float
in_float_lem n h = le→leb n (2 ^ 53) h

-- the float is the number
pub flt_value : (n : ℕ) → n ≤ 2 ^ 53 → HasValue (flt n) false n 1
unfolding of_int
flt_value n h = round_whole binary64 false n h

-- and no other number's
pub made_without_loss : MadeWithoutLoss
made_without_loss m n h k e =
    sym (unsigned_back binary64 64 m (in_float_lem m h) (omega arith)).1 ∙ ap (to_unsigned 64) e ∙ (unsigned_back binary64 64 n (in_float_lem n k) (omega arith)).1

cross_sum : (A B E D a b : ℕ) → A * 1 ≡ a * E → B * 1 ≡ b * D → (A * D + B * E) * 1 ≡ (a + b) * (E * D)
cross_sum A B E D a b p q =
    let p' : A ≡ a * E = sym (mul-one A) ∙ p in
    let q' : B ≡ b * D = sym (mul-one B) ∙ q in
    simp (p', q', mul-one, add-mul, mul_assoc, mul_comm, mul_left_comm)

add_values : (f : Format) (x y : Float) (a b : ℕ) → HasValue x false a 1 → HasValue y false b 1 → add f x y ≡ round f false (a + b) 1
unfolding add
add_values f (fin true m e) y a b p q = absurd (true≢false p.0)
add_values f lib.Ieee.nan y a b p q = elim p [ ]
add_values f (lib.Ieee.inf _) y a b p q = elim p [ ]
add_values f (fin false m e) lib.Ieee.nan a b p q = elim q [ ]
add_values f (fin false m e) (lib.Ieee.inf _) a b p q = elim q [ ]
add_values f (fin false m e) (fin true n d) a b p q = absurd (true≢false q.0)
add_values f (fin false m e) (fin false n d) a b p q =
    round_same f false (m * up e * down d + n * up d * down e) (down e * down d) (a + b) 1 (mul-pos (down_pos e) (down_pos d)) (zero-lt-suc 0)
    (cross_sum (m * up e) (n * up d) (down e) (down d) a b p.1 q.1)

-- a sum of whole numbers as floats is the float of their sum: goko's prior count plus its evidence, and its counting one more
pub add_whole : (a b : ℕ) → a ≤ 2 ^ 53 → b ≤ 2 ^ 53 → fadd (flt a) (flt b) ≡ flt (a + b)
unfolding of_int
add_whole a b h k = add_values binary64 (flt a) (flt b) a b (flt_value a h) (flt_value b k)
