-- The bounds of table entries are the numbers meant; and the entries as a list. Assumes nothing.
use mathlib.Core.Path.{◌≡◌, refl, sym, ◌∙◌}
use Prim.Native.Nat.{ℕ, suc, ◌+◌, ◌^◌, ◌-◌}
use native.Mathlib.Omega.{arith}
use mathlib.Core.List.{List, [], ◌∷◌}
use lib.ListN.{length, get_or, drop}
use Rattle.std.specs.List.{list_all}
use Rattle.std.specs.Float.{nan}
use Rattle.priors.specs.Below.{all_below}
use Rattle.priors.proofs.BelowLaws.{list_all_at}
use lib.IntN.{pos, negsuc}
use lib.Ieee.{Float, binary64, of_bits, of_int}
use Rattle.priors.specs.Tables.{lowest, highest, within, entry_fits, table_entries_fit}

pub highest_is : highest ≡ of_int binary64 (pos (2 ^ 40))
unfolding of_bits of_int
highest_is = refl

pub lowest_is : lowest ≡ of_int binary64 (negsuc (2 ^ 40 - 1))
unfolding of_bits of_int
lowest_is = refl

-- the entries from index 1 on, one after another
pub entries_listed : (t : List Float) → list_all within (drop 1 t) ≡ table_entries_fit t
unfolding table_entries_fit entry_fits
entries_listed [] = list_all_at within nan []
entries_listed (x ∷ xs) =
    let rest : length (x ∷ xs) - 1 ≡ length xs = omega arith in
    let next : (i : ℕ) → i + 1 ≡ suc i = λ i. omega arith in
    list_all_at within nan xs ∙ (λ k. all_below (sym rest k) (λ i. within (get_or (x ∷ xs) (sym (next i) k) nan)))
