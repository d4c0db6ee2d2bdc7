-- What the floor of priors promises: what a look-up finds, in scales and points; that this is goko's layers; when 22 comes; that at most one record fits; and that
-- the least floor is document 01 as it was. Assumes nothing.
use Rattle.std.specs.Prelude.{ℕ, ◌^◌, ◌<◌, ◌≡◌, Bool, true, cond, not, ◌&&◌, List, [], ◌∷◌, eqb, ℤ, pos, negsuc, ◌+ℤ◌, ◌-ℤ◌}
use Rattle.std.specs.Prelude.{Option, None, Some, option_map}
use Rattle.std.specs.Int.Signed.{lt_z}
use Rattle.std.specs.Int.{w32}
use Rattle.std.proofs.Common.{SFits}
use Rattle.priors.specs.Address.{rank_of}
use Rattle.priors.specs.Priors.{record_at, record_count, records, layer_of, one_point, found_by, prior_of, prior_of_node, points_differ, records_refusal, priors_refusal}
use Rattle.priors.specs.declared.records.Record.{Record}

-- neither scale is below the other
abbrev pub same_scale : ℤ → ℤ → Bool
same_scale s t = not (lt_z s t) && not (lt_z t s)

-- a look-up of (s, p) finds the record of (t, q): where s is strictly below the floor, if t is too, else if t is s; and if q is p
abbrev pub FoundBy : Type 0
FoundBy =
    (floor s t : ℤ) (p q : ℕ) → SFits w32 floor → SFits w32 s → SFits w32 t → p < 2 ^ 32 → q < 2 ^ 32
    → found_by (layer_of floor) (rank_of s p) (rank_of t q) ≡ cond (lt_z s floor) (lt_z t floor) (same_scale s t) && eqb p q

-- goko's `internal_index`, with the floor as its `min_res_index`: the layer of a scale
abbrev pub internal_index : ℤ → ℤ → ℤ
internal_index floor scale = cond (lt_z scale floor) (pos 0) (scale -ℤ floor +ℤ pos 1)

-- that is: if both have one layer of goko's, and one point
abbrev pub GokosLayers : Type 0
GokosLayers =
    (floor s t : ℤ) (p q : ℕ) → SFits w32 floor → SFits w32 s → SFits w32 t → p < 2 ^ 32 → q < 2 ^ 32
    → (found_by (layer_of floor) (rank_of s p) (rank_of t q) ≡ true → (internal_index floor s ≡ internal_index floor t) × (p ≡ q))
    × (internal_index floor s ≡ internal_index floor t → p ≡ q → found_by (layer_of floor) (rank_of s p) (rank_of t q) ≡ true)

-- an address has the prior of a record that its look-up finds, and none where it finds none
abbrev pub PriorIsThatFound : Type 0
PriorIsThatFound =
    (nodes children : List ℕ) (layer rank : ℕ) → priors_refusal nodes children layer ≡ 0
    → ((i : ℕ) → i < record_count nodes → found_by layer rank (record_at nodes i).rank ≡ true → prior_of nodes children layer rank ≡ Some (prior_of_node children (record_at nodes i)))
    × (((i : ℕ) → i < record_count nodes → found_by layer rank (record_at nodes i).rank ≡ true → ⊥) → prior_of nodes children layer rank ≡ None)

-- two addresses have one point in the layer where both scales are strictly below the floor and the points are one
abbrev pub OnePoint : Type 0
OnePoint =
    (floor s t : ℤ) (p q : ℕ) → SFits w32 floor → SFits w32 s → SFits w32 t → p < 2 ^ 32 → q < 2 ^ 32
    → one_point (layer_of floor) (rank_of s p) (rank_of t q) ≡ lt_z s floor && (lt_z t floor && eqb p q)

-- 22 is passed exactly if no two node records have one point in the layer
abbrev pub SharedPoint : Type 0
SharedPoint =
    (nodes : List ℕ) (layer : ℕ)
    → (points_differ nodes layer ≡ true → (j i : ℕ) → j < i → i < record_count nodes → one_point layer (record_at nodes i).rank (record_at nodes j).rank ≡ true → ⊥)
    × (((j i : ℕ) → j < i → i < record_count nodes → one_point layer (record_at nodes i).rank (record_at nodes j).rank ≡ true → ⊥) → points_differ nodes layer ≡ true)

-- where no number refuses the priors, a look-up finds at most one record
abbrev pub OneFound : Type 0
OneFound =
    (nodes children : List ℕ) (layer rank i j : ℕ) → priors_refusal nodes children layer ≡ 0 → i < record_count nodes → j < record_count nodes
    → found_by layer rank (record_at nodes i).rank ≡ true
    → found_by layer rank (record_at nodes j).rank ≡ true
    → i ≡ j

-- the least floor, -2,147,483,648
abbrev pub least_floor : ℤ
least_floor = negsuc 2147483647

-- document 01's look-up: a record by its exact address
unfoldable pub exact_record : ℕ → List Record → Option Record
exact_record rank [] = None
exact_record rank (r ∷ rs) = cond (eqb r.rank rank) (Some r) (exact_record rank rs)

-- with the least floor a node is looked up by its exact address, and 22 refuses nothing
abbrev pub LeastFloor : Type 0
LeastFloor =
    (nodes children : List ℕ) (rank : ℕ)
    → (prior_of nodes children (layer_of least_floor) rank ≡ option_map (prior_of_node children) (exact_record rank (records nodes)))
    × (priors_refusal nodes children (layer_of least_floor) ≡ records_refusal nodes children)
