-- Priors: node records and child records in lent bytes, the chain of a node, its prior, and numbers 3 to 7 and 22. Assumes nothing.
use Rattle.std.specs.Prelude.{ℕ, zero, suc, ◌+◌, ◌*◌, ◌/◌, ◌%◌, ◌^◌, Bool, true, cond, not, ◌&&◌, ◌||◌, List, [], ◌∷◌, ◌++◌, map, eqb, leb, ltb, ℤ, length}
use Rattle.std.specs.Prelude.{Option, None, Some, option_map}
use Rattle.std.specs.Int.{w32}
use Rattle.std.proofs.Common.{of_z}
use Rattle.priors.specs.Word.{word}
use Rattle.priors.specs.Address.{lift, rank_at}
use Rattle.priors.specs.Rows.{Row, row}
use Rattle.priors.specs.Below.{all_below, list_of}
use Rattle.priors.specs.Rules.{Rule, rule, first_broken}
use Rattle.priors.specs.Limits.{max_nodes, max_children, max_chain, record_size}
use Rattle.priors.specs.declared.records.Record.{Record}

-- what a call is lent as priors: node records, child records and a floor scale
pub record LentPriors : Type 0 where
  pub nodes : List ℕ
  pub children : List ℕ
  pub floor : ℤ

abbrev pub lent_priors : List ℕ → List ℕ → ℤ → LentPriors
lent_priors nodes children floor = record { nodes = nodes; children = children; floor = floor }

-- ---- records

-- the record numbered i from 0. A node record: address, singleton count, first link. A child record: address, count, next link
unfoldable pub record_at : List ℕ → ℕ → Record
record_at s i = record { rank = rank_at s (record_size * i); count = word s (record_size * i + 8); link = word s (record_size * i + 12) }

abbrev pub record_count : List ℕ → ℕ
record_count s = length s / record_size

unfoldable pub records : List ℕ → List Record
records s = list_of (record_count s) (record_at s)

-- each address is above the one before it
unfoldable pub ascends_after : ℕ → List Record → Bool
ascends_after k [] = true
ascends_after k (r ∷ rs) = ltb k r.rank && ascends_after r.rank rs

unfoldable pub ascends : List Record → Bool
ascends [] = true
ascends (r ∷ rs) = ascends_after r.rank rs

-- ---- chains: a link is 0, the end, or the number from 1 of a child record

-- up to n records of the chain that a link starts
unfoldable pub chain : List ℕ → ℕ → ℕ → List Record
chain children zero link = []
chain children (suc n) zero = []
chain children (suc n) (suc i) = record_at children i ∷ chain children n (record_at children i).link

-- the whole chain: where the links rise (5), it has no more records than there are
unfoldable pub chain_of : List ℕ → ℕ → List Record
chain_of children link = chain children (record_count children) link

-- ---- a node's prior

-- a node's ending and its children, ascending, each with its count
pub record Counts : Type 0 where
  pub ending : ℕ
  pub children : List Row

-- the children that a link starts, each with its count; ascending where 6 is passed
abbrev pub children_of : List ℕ → ℕ → List Row
children_of children link = map (λ (r : Record). row r.rank r.count) (chain_of children link)

abbrev pub prior_of_node : List ℕ → Record → Counts
prior_of_node children node = record { ending = node.count; children = children_of children node.link }

-- the scales below the floor share a layer; how many there are
abbrev pub layer_of : ℤ → ℕ
layer_of floor = lift (of_z w32 floor)

-- an address in the layer: its scale is below the floor (`below_floor` of proofs/LayerLaws.antt)
abbrev pub in_layer : (layer rank : ℕ) → Bool
in_layer layer rank = ltb (rank / 2 ^ 32) layer

abbrev pub point_of : ℕ → ℕ
point_of rank = rank % 2 ^ 32

-- two addresses in the layer with one point
unfoldable pub one_point : (layer a b : ℕ) → Bool
one_point layer a b = in_layer layer a && (in_layer layer b && eqb (point_of a) (point_of b))

-- a look-up of the address `wanted` finds the node record with the address `own`: in the layer by point among those in it, else by exact address
unfoldable pub found_by : (layer wanted own : ℕ) → Bool
found_by layer wanted own = cond (in_layer layer wanted) (one_point layer wanted own) (eqb own wanted)

-- the first such record; where 4 and 22 pass there is at most one (`OneFound` of specs/Floors.antt)
unfoldable pub find_record : (layer wanted : ℕ) → List Record → Option Record
find_record layer wanted [] = None
find_record layer wanted (r ∷ rs) = cond (found_by layer wanted r.rank) (Some r) (find_record layer wanted rs)

-- the prior of an address: that of the record that its look-up finds, if there is one
unfoldable pub prior_of : (nodes children : List ℕ) (layer rank : ℕ) → Option Counts
prior_of nodes children layer rank = option_map (prior_of_node children) (find_record layer rank (records nodes))

unfoldable pub count_sum : List Row → ℕ
count_sum [] = 0
count_sum (r ∷ rs) = r.count + count_sum rs

-- the total of all counts
unfoldable pub total : Counts → ℕ
total p = p.ending + count_sum p.children

-- ---- the rules

-- 3: whole records, and not too many
unfoldable pub whole_records : List ℕ → ℕ → Bool
whole_records s most = eqb (length s % record_size) 0 && leb (record_count s) most

-- 5: the first link of the node record i is 0 or a record's number
unfoldable pub first_link_fits : List ℕ → List ℕ → ℕ → Bool
first_link_fits nodes children i = leb (record_at nodes i).link (record_count children)

-- 5: the next link of the child record i, whose number is i + 1, is 0, or exceeds that number and is a record's
unfoldable pub next_link_fits : List ℕ → ℕ → Bool
next_link_fits children i =
    eqb (record_at children i).link 0 || (ltb (i + 1) (record_at children i).link && leb (record_at children i).link (record_count children))

-- 5: the chain of the node record i has at most 64 records
unfoldable pub chain_fits : List ℕ → List ℕ → ℕ → Bool
chain_fits nodes children i = leb (length (chain_of children (record_at nodes i).link)) max_chain

-- 6: it ascends
unfoldable pub chain_ascends : List ℕ → List ℕ → ℕ → Bool
chain_ascends nodes children i = ascends (chain_of children (record_at nodes i).link)

-- 7: the count of the child record i is not 0
unfoldable pub record_count_fits : List ℕ → ℕ → Bool
record_count_fits children i = ltb 0 (record_at children i).count

-- 7: the total of the node record i is not 0
unfoldable pub total_fits : List ℕ → List ℕ → ℕ → Bool
total_fits nodes children i = ltb 0 (total (prior_of_node children (record_at nodes i)))

-- a rule for every node record, and for every child record, reached or not
abbrev pub every_node : List ℕ → (ℕ → Bool) → Bool
every_node nodes test = all_below (record_count nodes) test

abbrev pub every_child : List ℕ → (ℕ → Bool) → Bool
every_child children test = all_below (record_count children) test

-- 22: the node record i has one point with none before it
unfoldable pub clear_before : (nodes : List ℕ) (layer i : ℕ) → Bool
clear_before nodes layer i = all_below i (λ j. not (one_point layer (record_at nodes i).rank (record_at nodes j).rank))

-- 22: no two node records below the floor have one point
unfoldable pub points_differ : (nodes : List ℕ) (layer : ℕ) → Bool
points_differ nodes layer = every_node nodes (clear_before nodes layer)

-- document 01's rules, then the floor's
abbrev pub record_rules : (nodes children : List ℕ) → List Rule
record_rules nodes children =
    rule 3 (whole_records nodes max_nodes)
    ∷ rule 3 (whole_records children max_children)
    ∷ rule 4 (ascends (records nodes))
    ∷ rule 5 (every_node nodes (first_link_fits nodes children))
    ∷ rule 5 (every_child children (next_link_fits children))
    ∷ rule 5 (every_node nodes (chain_fits nodes children))
    ∷ rule 6 (every_node nodes (chain_ascends nodes children))
    ∷ rule 7 (every_child children (record_count_fits children))
    ∷ rule 7 (every_node nodes (total_fits nodes children))
    ∷ []

unfoldable pub records_refusal : (nodes children : List ℕ) → ℕ
records_refusal nodes children = first_broken (record_rules nodes children)

abbrev pub prior_rules : (nodes children : List ℕ) (layer : ℕ) → List Rule
prior_rules nodes children layer = record_rules nodes children ++ rule 22 (points_differ nodes layer) ∷ []

unfoldable pub priors_refusal : (nodes children : List ℕ) (layer : ℕ) → ℕ
priors_refusal nodes children layer = first_broken (prior_rules nodes children layer)
