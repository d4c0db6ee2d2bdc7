-- Mean and variance of each of the five figures, and the straight line between two such records: the textbook's formulas in IEEE 754 steps. Assumes nothing.
use Rattle.std.specs.Prelude.{ℕ, ◌-◌, Float}
use Rattle.divergence.specs.Numbers.{fadd, fsub, fmul, fdiv, flt, zero64}
use Rattle.baseline.specs.declared.sums.SumPair.{SumPair}
use Rattle.baseline.specs.declared.figures.MeanVar.{MeanVar}
use Rattle.baseline.specs.declared.five.Five.{Five}

-- mean = sum / s
abbrev pub mean_of : SumPair → Float → Float
mean_of p s = fdiv p.sum s

-- variance = squares / s - mean × mean
abbrev pub variance_of : SumPair → Float → Float
variance_of p s = fsub (fdiv p.squares s) (fmul (mean_of p s) (mean_of p s))

abbrev pub mean_var : SumPair → Float → MeanVar
mean_var p s = record { mean = mean_of p s; variance = variance_of p s }

unfoldable pub to_mean_var : Five SumPair → Float → Five MeanVar
to_mean_var f s = record {
  max = mean_var f.max s;
  min = mean_var f.min s;
  nz_count = mean_var f.nz_count s;
  moment1_nz = mean_var f.moment1_nz s;
  moment2_nz = mean_var f.moment2_nz s;
}

-- a + w × (b - a)
abbrev pub on_line : Float → Float → Float → Float
on_line a b w = fadd a (fmul w (fsub b a))

abbrev pub pair_on_line : MeanVar → MeanVar → Float → MeanVar
pair_on_line a b w = record { mean = on_line a.mean b.mean w; variance = on_line a.variance b.variance w }

-- means and variances alike, as goko does
unfoldable pub interpolated : Five MeanVar → Five MeanVar → Float → Five MeanVar
interpolated a b w = record {
  max = pair_on_line a.max b.max w;
  min = pair_on_line a.min b.min w;
  nz_count = pair_on_line a.nz_count b.nz_count w;
  moment1_nz = pair_on_line a.moment1_nz b.moment1_nz w;
  moment2_nz = pair_on_line a.moment2_nz b.moment2_nz w;
}

-- w = (i - left) / (right - left): whole differences, made floats and divided once
abbrev pub weight : ℕ → ℕ → ℕ → Float
weight i left right = fdiv (flt (i - left)) (flt (right - left))

abbrev pub zero_pair : MeanVar
zero_pair = record { mean = zero64; variance = zero64 }

-- all zeros: below the first knot, or with no knots
abbrev pub no_figures : Five MeanVar
no_figures = record { max = zero_pair; min = zero_pair; nz_count = zero_pair; moment1_nz = zero_pair; moment2_nz = zero_pair }
