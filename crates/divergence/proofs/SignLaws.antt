-- The sign of zero in IEEE 754's steps: a rounded result has the sign that it is rounded with; a sum of two values of a format is minus zero only where both are; a
-- quotient of whole numbers never is. Assumes nothing.
use Rattle.std.proofs.Common.{◌≡◌, ℕ, zero, suc, ◌+◌, ◌-◌, ◌*◌, ◌%◌, ◌^◌, ◌<◌, ◌≤◌, Bool, true, false, cond, ◌&&◌, T, eqb, ltb, leb, ℤ, pos, negsuc, sym, refl, ap, ◌∙◌, subst, ap₂, inl, inr, true≢false, le_trans, le_of_eq, lt_of_lt_of_le, le_of_suc-le-suc, lt_irrefl, mul_assoc, suc-mul, mul_comm, add-mul, eq-zero-or-pos, mul-pos, one-mul, lt_of_not-le, zero-mul, mul-one, mul_right_comm, arith, ltb→lt, leb→le, pow_pos, pow-add}
use mathlib.Core.Bool.{beq}
use native.Mathlib.Nat.{mul-sub, eq_of_mul-eq-mul_right}
use lib.Pow.{pow-lt}
use lib.Ieee.{Float, nan, inf, fin, Format, binary32, binary64, prec, emax, low, up, down, odd, units, round, neg, sum, add, div, le, fits}
use lib.Ieee.Fits.{down_pos, and_l, and_r}
use lib.Ieee.Order.{round_mono}
use lib.Ieee.Digits.{back}
use lib.Ieee.Back.{whole_unique}
use lib.Ieee.Scale.{finite}

-- ---- signs

abbrev pub sign_of : Float → Bool
sign_of nan = false
sign_of (inf s) = s
sign_of (fin s m e) = s

odd_signed : (d : ℕ) (s : Bool) (q k l : ℕ) → sign_of (odd d s q k l) ≡ s
unfolding odd
odd_signed d s zero k l = refl
odd_signed d s (suc q) k l = refl

units_signed : (f : Format) (s : Bool) (q k : ℕ) → sign_of (units f s q k) ≡ s
unfolding units
units_signed f s q k = go (ltb (q * 2 ^ k) (2 ^ (low f + suc (emax f))))
  where
    go : (b : Bool) → sign_of (cond b (odd (suc (prec f)) s q k (low f)) (inf s)) ≡ s
    go true = odd_signed (suc (prec f)) s q k (low f)
    go false = refl

pub round_signed : (f : Format) (s : Bool) (a c : ℕ) → sign_of (round f s a c) ≡ s
unfolding round
round_signed f s a c = units_signed f s _ _

-- ---- a negative result is the positive one with the other sign

odd_neg : (d q k l : ℕ) → neg (odd d true q k l) ≡ odd d false q k l
unfolding odd neg
odd_neg d zero k l = refl
odd_neg d (suc q) k l = refl

units_neg : (f : Format) (q k : ℕ) → neg (units f true q k) ≡ units f false q k
unfolding units neg
units_neg f q k = go (ltb (q * 2 ^ k) (2 ^ (low f + suc (emax f))))
  where
    go : (b : Bool) → neg (cond b (odd (suc (prec f)) true q k (low f)) (inf true)) ≡ cond b (odd (suc (prec f)) false q k (low f)) (inf false)
    go true = odd_neg (suc (prec f)) q k (low f)
    go false = refl

round_neg : (f : Format) (a c : ℕ) → neg (round f true a c) ≡ round f false a c
unfolding round
round_neg f a c = units_neg f _ _

-- ---- what is one of the format's smallest values at least does not vanish

smallest_stays : (f : Format) → T (le (round f false 1 (2 ^ low f)) (fin false 0 (pos 0))) → ⊥
unfolding round le
smallest_stays binary32 h = h
smallest_stays binary64 h = h

stays : (f : Format) (a c : ℕ) → 0 < c → c ≤ a * 2 ^ low f → round f true a c ≡ fin true 0 (pos 0) → ⊥
unfolding neg
stays f a c C h e =
    let positive : round f false a c ≡ fin false 0 (pos 0) = sym (round_neg f a c) ∙ ap neg e in
    let one : 1 * c ≤ a * 2 ^ low f = le_trans (le_of_eq (one-mul c)) h in
    smallest_stays f (subst (λ (x : Float). T (le (round f false 1 (2 ^ low f)) x)) positive (round_mono f 1 (2 ^ low f) a c (pow_pos (low f)) C one))

-- ---- a value of the format is so many of its smallest values

within_low : (a l : ℕ) → 2 ^ a ≤ 2 ^ l → a ≤ l
within_low a l h = le_of_suc-le-suc (lt_of_not-le (λ (g : suc l ≤ a). lt_irrefl (2 ^ l) (lt_of_lt_of_le (pow-lt g) h)))

power_units : (l : ℕ) (e : ℤ) → down e ≤ 2 ^ l → (w : ℕ) × (up e * 2 ^ l ≡ w * down e)
power_units l (pos k) h = (2 ^ k * 2 ^ l, sym (mul-one (2 ^ k * 2 ^ l)))
power_units l (negsuc k) h = (2 ^ (l - suc k), one-mul (2 ^ l) ∙ ap (λ (x : ℕ). 2 ^ x) (sym (back l (suc k) (within_low (suc k) l h))) ∙ pow-add 2 (l - suc k) (suc k))

value_units : (f : Format) (s : Bool) (m : ℕ) (e : ℤ) → T (fits f (fin s m e)) → (w : ℕ) × (m * up e * 2 ^ low f ≡ w * down e)
unfolding fits
value_units f s zero e h = (0, ap (λ (x : ℕ). x * 2 ^ low f) (zero-mul (up e)) ∙ zero-mul (2 ^ low f) ∙ sym (zero-mul (down e)))
value_units f s (suc m) e h =
    let u = power_units (low f) e (leb→le (down e) (2 ^ low f) (and_r (eqb (suc m % 2) 1 && ltb (suc m) (2 ^ prec f)) (leb (down e) (2 ^ low f)) (and_l (eqb (suc m % 2) 1 && ltb (suc m) (2 ^ prec f) && leb (down e) (2 ^ low f)) (ltb (suc m * up e) (2 ^ suc (emax f) * down e)) h))) in (
      suc m * u.0,
      mul_assoc (suc m) (up e) (2 ^ low f) ∙ ap (λ (x : ℕ). suc m * x) u.1 ∙ sym (mul_assoc (suc m) u.0 (down e)),
    )

-- over a common denominator
common_left : (A w E D L : ℕ) → A * L ≡ w * E → A * D * L ≡ w * (E * D)
common_left A w E D L h = mul_right_comm A D L ∙ ap (λ (x : ℕ). x * D) h ∙ mul_assoc w E D

common_right : (B w E D L : ℕ) → B * L ≡ w * D → B * E * L ≡ w * (E * D)
common_right B w E D L h = common_left B w D E L h ∙ ap (λ (x : ℕ). w * x) (mul_comm D E)

at_least_one : (X w C L : ℕ) → X * L ≡ w * C → 0 < X → 0 < L → C ≤ X * L
at_least_one X zero C L h p q = absurd (omega (arith, mul-pos p q, zero-mul C))
at_least_one X (suc w) C L h p q = omega (arith, suc-mul w C)

difference : (A B a b C L : ℕ) → A * L ≡ a * C → B * L ≡ b * C → (B - A) * L ≡ (b - a) * C
difference A B a b C L h k = sub_mul B A L ∙ ap₂ (λ (x y : ℕ). x - y) k h ∙ sym (sub_mul b a C)
  where
    sub_mul : (x y z : ℕ) → (x - y) * z ≡ x * z - y * z
    sub_mul x y z = mul_comm (x - y) z ∙ mul-sub z x y ∙ ap₂ (λ (p q : ℕ). p - q) (mul_comm z x) (mul_comm z y)

-- ---- a sum is minus zero only where both terms are

minus_zero_negative : (f : Format) (a c : ℕ) → round f false a c ≡ fin true 0 (pos 0) → ⊥
minus_zero_negative f a c e = true≢false (sym (ap sign_of e) ∙ round_signed f false a c)

module _ (f : Format) (A B C a b : ℕ) (C-pos : 0 < C) (A-units : A * 2 ^ low f ≡ a * C) (B-units : B * 2 ^ low f ≡ b * C) where
  sum_stays : 0 < A + B → round f true (A + B) C ≡ fin true 0 (pos 0) → ⊥
  sum_stays p e = stays f (A + B) C C-pos (at_least_one (A + B) (a + b) C (2 ^ low f) (add-mul A B (2 ^ low f) ∙ ap₂ (λ (x y : ℕ). x + y) A-units B-units ∙ sym (add-mul a b C)) p (pow_pos (low f))) e

  left_stays : B < A → round f true (A - B) C ≡ fin true 0 (pos 0) → ⊥
  left_stays p e = stays f (A - B) C C-pos (at_least_one (A - B) (a - b) C (2 ^ low f) (difference B A b a C (2 ^ low f) B-units A-units) (omega arith) (pow_pos (low f))) e

  right_stays : A < B → round f true (B - A) C ≡ fin true 0 (pos 0) → ⊥
  right_stays p e = stays f (B - A) C C-pos (at_least_one (B - A) (b - a) C (2 ^ low f) (difference A B a b C (2 ^ low f) A-units B-units) (omega arith) (pow_pos (low f))) e

  sum_both : (s t : Bool) → sum f s A t B C ≡ fin true 0 (pos 0) → ((s ≡ true) × (A ≡ 0)) × ((t ≡ true) × (B ≡ 0))
  unfolding sum
  sum_both false false e = absurd (minus_zero_negative f (A + B) C e)
  sum_both true true e = elim (eq-zero-or-pos (A + B)) [
    | inl z ↦ ((refl, omega arith), (refl, omega arith))
    | inr p ↦ absurd (sum_stays p e)
  ]
  sum_both false true e = go (ltb A B) (ltb→lt A B) e
    where
      go : (x : Bool) → (T x → A < B) → cond x (round f true (B - A) C) (round f false (A - B) C) ≡ fin true 0 (pos 0) → ((false ≡ true) × (A ≡ 0)) × ((true ≡ true) × (B ≡ 0))
      go true h e = absurd (right_stays (h tt) e)
      go false h e = absurd (minus_zero_negative f (A - B) C e)
  sum_both true false e = go (ltb A B) (ltb B A) (ltb→lt B A) e
    where
      go : (x y : Bool) → (T y → B < A) → cond x (round f false (B - A) C) (round f y (A - B) C) ≡ fin true 0 (pos 0) → ((true ≡ true) × (A ≡ 0)) × ((false ≡ true) × (B ≡ 0))
      go true y h e = absurd (minus_zero_negative f (B - A) C e)
      go false true h e = absurd (left_stays (h tt) e)
      go false false h e = absurd (minus_zero_negative f (A - B) C e)

-- minus zero is written in one way
zero_form : (f : Format) (s : Bool) (m : ℕ) (e : ℤ) (c : ℕ) → 0 < c → T (fits f (fin s m e)) → s ≡ true → m * up e * c ≡ 0 → fin s m e ≡ fin true 0 (pos 0)
unfolding fits
zero_form f s m e c C h p z =
    let none : m * up e ≡ 0 = eq_of_mul-eq-mul_right c C (m * up e) 0 (z ∙ sym (zero-mul c)) in
    whole_unique f (fin s m e) (fin true 0 (pos 0)) true 0 h tt (p, mul-one (m * up e) ∙ none ∙ sym (zero-mul (down e))) (refl, refl)

pub add_minus : (f : Format) (x y : Float) → T (fits f x) → T (fits f y) → add f x y ≡ fin true 0 (pos 0) → (x ≡ fin true 0 (pos 0)) × (y ≡ fin true 0 (pos 0))
unfolding add
add_minus f nan y h k e = absurd (true≢false (sym (ap finite e)))
add_minus f (inf s) nan h k e = absurd (true≢false (sym (ap finite e)))
add_minus f (inf s) (inf t) h k e = absurd (go (beq s t) e)
  where
    go : (b : Bool) → cond b (inf s) nan ≡ fin true 0 (pos 0) → ⊥
    go true e = true≢false (sym (ap finite e))
    go false e = true≢false (sym (ap finite e))
add_minus f (inf s) (fin t n d) h k e = absurd (true≢false (sym (ap finite e)))
add_minus f (fin s m e) nan h k i = absurd (true≢false (sym (ap finite i)))
add_minus f (fin s m e) (inf t) h k i = absurd (true≢false (sym (ap finite i)))
add_minus f (fin s m e) (fin t n d) h k i =
    let u = value_units f s m e h in
    let v = value_units f t n d k in
    let z = sum_both f (m * up e * down d) (n * up d * down e) (down e * down d) u.0 v.0 (mul-pos (down_pos e) (down_pos d))
    (common_left (m * up e) u.0 (down e) (down d) (2 ^ low f) u.1) (common_right (n * up d) v.0 (down e) (down d) (2 ^ low f) v.1) s t i in
    (zero_form f s m e (down d) (down_pos d) h z.0.0 z.0.1, zero_form f t n d (down e) (down_pos e) k z.1.0 z.1.1)

-- ---- a quotient of two values without a minus has none

pub div_signed : (f : Format) (x y : Float) → sign_of x ≡ false → sign_of y ≡ false → sign_of (div f x y) ≡ false
unfolding div
div_signed f nan y h k = refl
div_signed f (inf s) nan h k = refl
div_signed f (inf s) (inf t) h k = refl
div_signed f (inf false) (fin false n d) h k = refl
div_signed f (inf false) (fin true n d) h k = absurd (true≢false k)
div_signed f (inf true) (fin t n d) h k = absurd (true≢false h)
div_signed f (fin s m e) nan h k = refl
div_signed f (fin false m e) (inf false) h k = refl
div_signed f (fin false m e) (inf true) h k = absurd (true≢false k)
div_signed f (fin true m e) (inf t) h k = absurd (true≢false h)
div_signed f (fin true m e) (fin t n d) h k = absurd (true≢false h)
div_signed f (fin false m e) (fin true n d) h k = absurd (true≢false k)
div_signed f (fin false m e) (fin false n d) h k = go (eqb n 0) (eqb m 0)
  where
    go : (a b : Bool) → sign_of (cond a (cond b nan (inf false)) (round f false (m * up e * down d) (n * up d * down e))) ≡ false
    go true true = refl
    go true false = refl
    go false b = round_signed f false (m * up e * down d) (n * up d * down e)
