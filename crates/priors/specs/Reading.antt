-- What a call that asks answers. Assumes nothing.
use Rattle.std.specs.Prelude.{ℕ, zero, suc}
use Rattle.std.specs.Prelude.{Option, None}
use Rattle.priors.specs.declared.addresses.Address.{Address}

-- a refusal with its number and the node that 14 and 15 name, none, or the answer itself
pub data Reading (X : Type 0) : Type 0 where
  refused : ℕ → Option Address → Reading X
  nothing : Reading X
  answered : X → Reading X

-- a part of an answer, or what stood there before
abbrev pub written : {X Y : Type 0} → (X → Y) → Reading X → Y → Y
written part (refused n at) before = before
written part nothing before = before
written part (answered x) before = part x

-- a part of an answer as an answer
abbrev pub mapped : {X Y : Type 0} → (X → Y) → Reading X → Reading Y
mapped part (refused n at) = refused n at
mapped part nothing = nothing
mapped part (answered x) = answered (part x)

-- an answer after a check: where the check's number is not 0, it refuses
abbrev pub unless : {X : Type 0} → ℕ → Reading X → Reading X
unless zero r = r
unless (suc n) r = refused (suc n) None
