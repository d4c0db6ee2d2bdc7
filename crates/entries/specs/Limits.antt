-- The limits of document 01 for a tracker. Assumes nothing.
use Rattle.std.specs.Prelude.{ℕ, ◌^◌}

abbrev pub max_window : ℕ
max_window = 1024

abbrev pub max_entries : ℕ
max_entries = 16384

abbrev pub max_accepted : ℕ
max_accepted = 16777216

abbrev pub max_count : ℕ
max_count = 2 ^ 30

abbrev pub max_steps : ℕ
max_steps = 64

-- bytes of an entry, of a step and of a place of the queue
abbrev pub entry_size : ℕ
entry_size = 24

abbrev pub step_size : ℕ
step_size = 8

abbrev pub place_size : ℕ
place_size = 516
