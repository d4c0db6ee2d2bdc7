-- An address is a scale, a signed number, and a point, ordered by scale, then point. Its rank is a number below 2 ^ 64 in that order (`rank_order` of
-- proofs/Ranks.antt), and every such number is the rank of an address (`rank_back`). Assumes nothing.
use Rattle.std.specs.Prelude.{ℕ, ◌+◌, ◌*◌, ◌/◌, ◌%◌, ◌^◌, List, ◌++◌, Bool, not, ◌&&◌, ◌||◌, ltb, ℤ}
use Rattle.std.specs.Int.Signed.{lt_z}
use Rattle.std.specs.Int.{w32}
use Rattle.std.proofs.Common.{to_z, of_z}
use Rattle.priors.specs.Word.{word, word_bytes}
use Rattle.priors.specs.declared.addresses.Address.{Address}

-- the address s, p comes before t, q: by signed scale, then by point
unfoldable pub before : ℤ → ℕ → ℤ → ℕ → Bool
before s p t q = lt_z s t || (not (lt_z t s) && ltb p q)

-- the bits of a signed number, moved so that the least number comes first
unfoldable pub lift : ℕ → ℕ
lift bits = (bits + 2 ^ 31) % 2 ^ 32

-- the rank of the address with these scale bits and this point
unfoldable pub rank : ℕ → ℕ → ℕ
rank bits point = lift bits * 2 ^ 32 + point

abbrev pub rank_of : ℤ → ℕ → ℕ
rank_of scale point = rank (of_z w32 scale) point

-- the address with a rank
unfoldable pub address_of : ℕ → Address
address_of r = record { scale = to_z w32 (lift (r / 2 ^ 32)); point = r % 2 ^ 32 }

-- in bytes: the scale's bits, then the point
abbrev pub rank_at : List ℕ → ℕ → ℕ
rank_at s at = rank (word s at) (word s (at + 4))

abbrev pub address_bytes : ℕ → List ℕ
address_bytes r = word_bytes (lift (r / 2 ^ 32)) ++ word_bytes (r % 2 ^ 32)
