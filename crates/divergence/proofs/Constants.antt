-- The constants are the numbers meant: 1.0e-10 is the float nearest to 1 / 10 ^ 10, f64::MAX is (2 ^ 53 - 1) × 2 ^ 971, f64::MIN the same with a minus. And an empty
-- record's squares are infinite. Assumes nothing.
use Rattle.std.proofs.Common.{◌≡◌, ◌-◌, ◌^◌, true, false, pos, refl}
use lib.Ieee.{fin, inf, binary64, round, mul, of_bits}
use Rattle.divergence.specs.Numbers.{fmul, zero64, minus_zero64, tiny64, min64, max64}

pub tiny_is : tiny64 ≡ round binary64 false 1 (10 ^ 10)
unfolding of_bits round
tiny_is = refl

pub max_is : max64 ≡ fin false (2 ^ 53 - 1) (pos 971)
unfolding of_bits
max_is = refl

pub min_is : min64 ≡ fin true (2 ^ 53 - 1) (pos 971)
unfolding of_bits
min_is = refl

pub zero_is : zero64 ≡ fin false 0 (pos 0)
unfolding of_bits
zero_is = refl

pub minus_is : minus_zero64 ≡ fin true 0 (pos 0)
unfolding of_bits
minus_is = refl

pub min_squared : fmul min64 min64 ≡ inf false
unfolding of_bits mul
min_squared = refl
