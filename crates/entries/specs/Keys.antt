-- An entry's node, kind and child as one number, whose order is 'nodes ascend; in a node the ending comes first, then children ascending'
-- (`key_order` of proofs/KeyLaws.antt). Nodes and children are ranks of addresses, below 2 ^ 64; keys are told apart only for these. Assumes nothing.
use Rattle.std.specs.Prelude.{ℕ, ◌+◌, ◌*◌, ◌/◌, ◌%◌, ◌^◌}
use Rattle.priors.specs.Address.{rank}
use Rattle.entries.specs.declared.keys.Key.{Key}

unfoldable pub key_of : ℕ → ℕ → ℕ → ℕ
key_of node kind child = node * 2 ^ 96 + kind * 2 ^ 64 + child

-- an ending's child address is zeros, whose rank is 2 ^ 63
abbrev pub no_child : ℕ
no_child = rank 0 0

-- a node's ending has the kind 0
unfoldable pub end_key : ℕ → ℕ
end_key node = key_of node 0 no_child

-- a child under a node has the kind 1
unfoldable pub child_key : ℕ → ℕ → ℕ
child_key node child = key_of node 1 child

-- a key's parts
unfoldable pub node_of : ℕ → ℕ
node_of key = key / 2 ^ 96

unfoldable pub kind_of : ℕ → ℕ
kind_of key = key / 2 ^ 64 % 2 ^ 32

unfoldable pub child_of : ℕ → ℕ
child_of key = key % 2 ^ 64

-- the key that the code holds as three fields
unfoldable pub key_value : Key → ℕ
key_value k = key_of k.node k.kind k.child
