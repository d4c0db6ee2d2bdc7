-- A knot's sum record: of each of the five figures its sum over the sequences and the sum of its squares, and where they lie as ten values of a lent slice.
-- Assumes nothing.
use Rattle.std.specs.Prelude.{ℕ, ◌+◌, ◌*◌, List, get_or, set, Float}
use Rattle.std.specs.Float.{nan}
use Rattle.divergence.specs.Numbers.{fadd, fmul, flt}
use Rattle.divergence.specs.declared.statistics.KLDivergenceStats.{KLDivergenceStats}
use Rattle.baseline.specs.Limits.{knot_values}
use Rattle.baseline.specs.declared.sums.SumPair.{SumPair}
use Rattle.baseline.specs.declared.five.Five.{Five}

-- one more value of a figure: it is added, and its square is added
abbrev pub with_value : SumPair → Float → SumPair
with_value p x = record { sum = fadd p.sum x; squares = fadd p.squares (fmul x x) }

-- the number is squared whole and then made a float, as goko does
abbrev pub with_number : SumPair → ℕ → SumPair
with_number p n = record { sum = fadd p.sum (flt n); squares = fadd p.squares (flt (n * n)) }

-- one more record; an empty one enters its f64::MIN and f64::MAX too
unfoldable pub added : Five SumPair → KLDivergenceStats → Five SumPair
added s r = record {
  max = with_value s.max r.max;
  min = with_value s.min r.min;
  nz_count = with_number s.nz_count r.nz_count;
  moment1_nz = with_value s.moment1_nz r.moment1_nz;
  moment2_nz = with_value s.moment2_nz r.moment2_nz;
}

-- ---- ten values a knot: for maximum, minimum, number, sum and sum of squares in turn, the sum of the figure and then the sum of its squares

abbrev pub pair_at : List Float → ℕ → SumPair
pair_at v at = record { sum = get_or v at nan; squares = get_or v (at + 1) nan }

-- what the knot numbered k from 0 holds
unfoldable pub sums_at : List Float → ℕ → Five SumPair
sums_at v k = record {
  max = pair_at v (knot_values * k);
  min = pair_at v (knot_values * k + 2);
  nz_count = pair_at v (knot_values * k + 4);
  moment1_nz = pair_at v (knot_values * k + 6);
  moment2_nz = pair_at v (knot_values * k + 8);
}

abbrev pub put_pair : List Float → ℕ → SumPair → List Float
put_pair v at p = set (set v at p.sum) (at + 1) p.squares

-- the values with the ten of the knot k replaced
unfoldable pub put_sums : List Float → ℕ → Five SumPair → List Float
put_sums v k s =
    put_pair
    (put_pair
    (put_pair
    (put_pair (put_pair v (knot_values * k) s.max) (knot_values * k + 2) s.min)
    (knot_values * k + 4)
    s.nz_count)
    (knot_values * k + 6)
    s.moment1_nz)
    (knot_values * k + 8)
    s.moment2_nz
