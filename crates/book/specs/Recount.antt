-- The plain recount: W and H, a list of paths, and what is listed and counted for them, from the paths alone. L are those of H that list: all of them, until a tidy
-- leaves out what had left the window. It looks at no book and no queue; the images at the end say what bytes stand for W, H and L. Assumes nothing.
use Prim.Native.Nat.{ℕ, zero, suc, ◌-◌, ◌*◌, ◌%◌, compare}
use mathlib.Core.List.{List, [], ◌∷◌, ◌++◌, map, flat_map}
use Rattle.std.specs.Prelude.{Option, None, Some}
use Rattle.std.specs.Prelude.{cond, eqb, length, drop}
use Rattle.priors.specs.Word.{word_bytes}
use Rattle.priors.specs.Rows.{Row, row, choose}
use Rattle.entries.specs.Limits.{max_steps, step_size, place_size}
use Rattle.book.specs.Path.{Steps, step_bytes, listed_keys, counted_keys}
use Rattle.book.specs.Calls.{zeros, book_of}

-- how often k stands in a list
unfoldable pub occurrences : ℕ → List ℕ → ℕ
occurrences k [] = 0
occurrences k (x ∷ xs) = cond (eqb k x) (suc (occurrences k xs)) (occurrences k xs)

-- the window part: the last W of H, or all of H if W is 0 or H is shorter
unfoldable pub window_part : ℕ → List Steps → List Steps
window_part zero H = H
window_part (suc w) H = drop (length H - suc w) H

-- sequence length: the number of paths in the window part
unfoldable pub sequence_length : ℕ → List Steps → ℕ
sequence_length W H = length (window_part W H)

-- how many paths of H lie before the window part
unfoldable pub before_window : ℕ → List Steps → ℕ
before_window W H = length H - sequence_length W H

-- an ascending list of keys with k in it, once
unfoldable pub enter : ℕ → List ℕ → List ℕ
enter k [] = k ∷ []
enter k (x ∷ xs) = choose (compare k x) (k ∷ x ∷ xs) (x ∷ xs) (x ∷ enter k xs)

unfoldable pub enter_all : List ℕ → List ℕ → List ℕ
enter_all [] xs = xs
enter_all (k ∷ ks) xs = enter_all ks (enter k xs)

-- what the paths of L list, each key once, ascending
unfoldable pub listing : List Steps → List ℕ
listing L = enter_all (flat_map listed_keys L) []

-- a key's count: its occurrences, with repeats, in the window part
unfoldable pub counted : ℕ → List Steps → ℕ → ℕ
counted W H k = occurrences k (flat_map counted_keys (window_part W H))

-- the nodes and transitions that L lists, with their counts in the window part of H
unfoldable pub rows_of : ℕ → List Steps → List Steps → List Row
rows_of W H L = map (λ k. row k (counted W H k)) (listing L)

-- ---- the images of W, H and L

-- the book's bytes: entries ascending, zeros after
abbrev pub book_image : ℕ → List Steps → List Steps → ℕ → List ℕ
book_image W H L size = book_of (rows_of W H L) size

-- the latest of the paths, numbered from k on, that lies in place j of W; `before` where none does. For H as a whole k starts at 0 and `before` as none
unfoldable pub held : ℕ → ℕ → ℕ → Option Steps → List Steps → Option Steps
held W j k before [] = before
held W j k before (p ∷ H) = held W j (suc k) (cond (eqb (k % W) j) (Some p) before) H

-- a place's bytes: length, steps, zeros; zeros where no path lies
abbrev pub place_image : Option Steps → List ℕ
place_image None = zeros place_size
place_image (Some p) = word_bytes (length p) ++ (step_bytes p ++ zeros (step_size * (max_steps - length p)))

-- the places 0, 1, .. below n, one after another
unfoldable pub places_image : ℕ → List Steps → ℕ → List ℕ
places_image W H zero = []
places_image W H (suc n) = places_image W H n ++ place_image (held W n 0 None H)

-- the queue's bytes: the path numbered k lies in place k mod W, zeros elsewhere
unfoldable pub queue_image : ℕ → List Steps → ℕ → List ℕ
queue_image W H size = places_image W H W ++ zeros (size - place_size * W)
