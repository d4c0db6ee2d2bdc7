-- A call's code by what the call answers, and what a lent number holds afterwards: an answer writes it; none and a refusal leave it, but a node that a refusal names
-- is written. The number that a child's look-up reads is an answer also where the child's count is none. How many paths a list of paths took is told in every case
-- (`taken_or` of `Outputs`). Assumes nothing.
use Rattle.std.specs.Prelude.{ℕ, ℤ}
use Rattle.std.specs.Prelude.{Option, None, Some}
use Rattle.priors.specs.declared.addresses.Address.{Address}
use Rattle.divergence.specs.Readings.{Reading, refused, nothing, answered}
-- a part of an answer, or what stood there before
pub use Rattle.divergence.specs.Readings.{written}

-- 0 for an answer, 100 for none, else the refusal's number
abbrev pub code : {X : Type 0} → Reading X → ℕ
code (refused n at) = n
code nothing = 100
code (answered x) = 0

-- the scale and the point of a node, or what stood there before
abbrev pub scale_or : Option Address → ℤ → ℤ
scale_or None before = before
scale_or (Some node) before = node.scale

abbrev pub point_or : Option Address → ℕ → ℕ
point_or None before = before
point_or (Some node) before = node.point

-- those of the node that 14 and 15 name
abbrev pub scale_named : {X : Type 0} → Reading X → ℤ → ℤ
scale_named (refused n node) before = scale_or node before
scale_named nothing before = before
scale_named (answered x) before = before

abbrev pub point_named : {X : Type 0} → Reading X → ℕ → ℕ
point_named (refused n node) before = point_or node before
point_named nothing before = before
point_named (answered x) before = before
