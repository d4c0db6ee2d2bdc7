-- A layer's floor, what a search through node records shows, and the slots and links by which 22 is tested. Assumes nothing.
use Rattle.std.specs.Prelude.{ℕ, ◌-◌, ◌*◌, ◌/◌, ◌%◌, ◌≤◌, ◌<◌, ◌≡◌, true, List, ℤ, get_or, Option, None, Some}
use Rattle.std.specs.Int.{w32}
use Rattle.std.proofs.Common.{to_z}
use Rattle.priors.specs.Address.{lift}
use Rattle.priors.specs.Priors.{record_at, record_count, point_of, found_by}

-- the floor below which this many scales lie
abbrev pub floor_of : ℕ → ℤ
floor_of layer = to_z w32 (lift layer)

-- no record from `to` on has a rank below k
abbrev pub NoneBelow : List ℕ → ℕ → ℕ → Type 0
NoneBelow s to k = (j : ℕ) → to ≤ j → j < record_count s → k ≤ (record_at s j).rank

-- r is the first place from `from` on whose rank is not below k
abbrev pub FirstFrom : List ℕ → ℕ → ℕ → ℕ → Type 0
FirstFrom s from k r = (from ≤ r) × (r ≤ record_count s) × ((j : ℕ) → from ≤ j → j < r → (record_at s j).rank < k) × NoneBelow s r k

-- no record has the rank k
abbrev pub Absent : List ℕ → ℕ → Type 0
Absent s k = (j : ℕ) → j < record_count s → (record_at s j).rank ≡ k → ⊥

-- a look-up of k finds no record
abbrev pub Nowhere : List ℕ → ℕ → ℕ → Type 0
Nowhere s layer k = (j : ℕ) → j < record_count s → found_by layer k (record_at s j).rank ≡ true → ⊥

-- the place of a record that a look-up of k finds; none where it finds none
abbrev pub FoundAt : List ℕ → ℕ → ℕ → Option ℕ → Type 0
FoundAt s layer k None = Nowhere s layer k
FoundAt s layer k (Some r) = (r < record_count s) × (found_by layer k (record_at s r).rank ≡ true)

-- the slot of a rank, by its point alone: twelve bits of a product, which spreads points with most common steps
abbrev pub slot : ℕ → ℕ
slot r = point_of r * 2654435761 / 1048576 % 4096

abbrev pub slot_of : List ℕ → ℕ → ℕ
slot_of s j = slot (record_at s j).rank

-- v is 1 + the last place before i with the slot x, or 0 where there is none
abbrev pub Latest : List ℕ → ℕ → ℕ → ℕ → Type 0
Latest s i x v = (v ≤ i) × ((j : ℕ) → v ≤ j → j < i → slot_of s j ≡ x → ⊥) × (0 < v → slot_of s (v - 1) ≡ x)

-- each place before i is linked to the last one before it with its slot
abbrev pub Linked : List ℕ → ℕ → List ℕ → Type 0
Linked s i links = (k : ℕ) → k < i → Latest s k (slot_of s k) (get_or links k 0)
