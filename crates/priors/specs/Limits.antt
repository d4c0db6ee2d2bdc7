-- The limits of document 01 for tables and priors. Assumes nothing.
use Rattle.std.specs.Prelude.{ℕ}

abbrev pub max_table : ℕ
max_table = 1048576

abbrev pub max_nodes : ℕ
max_nodes = 4096

abbrev pub max_children : ℕ
max_children = 16384

abbrev pub max_chain : ℕ
max_chain = 64

-- bytes of a prior record
abbrev pub record_size : ℕ
record_size = 16
