-- IEEE 754 binary64 by short names, each operation rounded once, and the constants of document 01, each by its bits. `proofs/Constants.antt` ties the bits to the
-- numbers. Assumes nothing.
use Rattle.std.specs.Prelude.{ℕ, pos, from_bits, Float}
use Rattle.std.specs.Float.Ieee as Ieee
use Rattle.std.specs.Float.{binary64}

abbrev pub fadd : Float → Float → Float
fadd x y = Ieee.add binary64 x y

abbrev pub fsub : Float → Float → Float
fsub x y = Ieee.sub binary64 x y

abbrev pub fmul : Float → Float → Float
fmul x y = Ieee.mul binary64 x y

abbrev pub fdiv : Float → Float → Float
fdiv x y = Ieee.div binary64 x y

-- a whole number made a float
abbrev pub flt : ℕ → Float
flt n = Ieee.of_int binary64 (pos n)

-- 0
abbrev pub zero64 : Float
zero64 = from_bits binary64 0

-- minus zero
abbrev pub minus_zero64 : Float
minus_zero64 = from_bits binary64 0x8000_0000_0000_0000

-- 1.0e-10
abbrev pub tiny64 : Float
tiny64 = from_bits binary64 0x3ddb_7cdf_d9d7_bdbb

-- f64::MIN and f64::MAX
abbrev pub min64 : Float
min64 = from_bits binary64 0xffef_ffff_ffff_ffff

abbrev pub max64 : Float
max64 = from_bits binary64 0x7fef_ffff_ffff_ffff
