-- Records as a list: what stands at an index, and when the list ascends. Assumes nothing.
use mathlib.Core.Path.{◌≡◌, ap}
use mathlib.Core.Logic.{⊎_elim}
use mathlib.Core.Bool.{true}
use Prim.Native.Nat.{ℕ, zero, suc, ◌≤◌, ◌<◌}
use native.Mathlib.Omega.{arith}
use mathlib.Core.List.{List, [], ◌∷◌}
use lib.Dec.{ltb}
use lib.ListN.{length, get_or}
use borrow.Author.Tests.{ltb-true}
use Rattle.priors.specs.declared.records.Record.{Record}
use Rattle.priors.specs.Priors.{record_at, record_count, records, ascends_after, ascends}
use Rattle.priors.proofs.Tests.{split}
use Rattle.priors.proofs.BelowLaws.{first_true, second_true, length_list_of, get_d_list_of}

-- a record that stands past the end
abbrev pub no_record : Record
no_record = record { rank = 0; count = 0; link = 0 }

module _ (s : List ℕ) where
  pub length_records : length (records s) ≡ record_count s
  unfolding records
  length_records = length_list_of (record_count s) (record_at s)

  pub get_d_records : (i : ℕ) → i < record_count s → get_or (records s) i no_record ≡ record_at s i
  unfolding records
  get_d_records i h = get_d_list_of (record_count s) (record_at s) i no_record h

-- ---- an ascending list

above : (k : ℕ) (rs : List Record) (j : ℕ) → ascends_after k rs ≡ true → j < length rs → k < (get_or rs j no_record).rank
unfolding ascends_after
above k [] j h l = absurd (omega arith)
above k (r ∷ rs) zero h l = ltb-true k r.rank (first_true (ltb k r.rank) (ascends_after r.rank rs) h)
above k (r ∷ rs) (suc j) h l =
    omega (arith, ltb-true k r.rank (first_true (ltb k r.rank) (ascends_after r.rank rs) h), above r.rank rs j (second_true (ltb k r.rank) (ascends_after r.rank rs) h) (omega arith))

ordered_after : (k : ℕ) (rs : List Record) (i j : ℕ) → ascends_after k rs ≡ true → i < j → j < length rs → (get_or rs i no_record).rank < (get_or rs j no_record).rank
unfolding ascends_after
ordered_after k [] i j h l m = absurd (omega arith)
ordered_after k (r ∷ rs) i zero h l m = absurd (omega arith)
ordered_after k (r ∷ rs) zero (suc j) h l m = above r.rank rs j (second_true (ltb k r.rank) (ascends_after r.rank rs) h) (omega arith)
ordered_after k (r ∷ rs) (suc i) (suc j) h l m = ordered_after r.rank rs i j (second_true (ltb k r.rank) (ascends_after r.rank rs) h) (omega arith) (omega arith)

ordered_list : (rs : List Record) (i j : ℕ) → ascends rs ≡ true → i < j → j < length rs → (get_or rs i no_record).rank < (get_or rs j no_record).rank
unfolding ascends
ordered_list [] i j h l m = absurd (omega arith)
ordered_list (r ∷ rs) i zero h l m = absurd (omega arith)
ordered_list (r ∷ rs) zero (suc j) h l m = above r.rank rs j h (omega arith)
ordered_list (r ∷ rs) (suc i) (suc j) h l m = ordered_after r.rank rs i j h (omega arith) (omega arith)

pub ordered : (s : List ℕ) (i j : ℕ) → ascends (records s) ≡ true → i < j → j < record_count s → (record_at s i).rank < (record_at s j).rank
ordered s i j h l m =
    omega (arith, ap (λ (r : Record). r.rank) (get_d_records s i (omega arith)), ap (λ (r : Record). r.rank) (get_d_records s j m), ordered_list (records s) i j h l (omega (arith, length_records s)))

-- not strictly
pub not_below : (s : List ℕ) → ascends (records s) ≡ true → (i j : ℕ) → i ≤ j → j < record_count s → (record_at s i).rank ≤ (record_at s j).rank
not_below s up i j l m =
    ⊎_elim (λ b. omega (arith, ordered s i j up b m)) (λ b. let e : i ≡ j = omega arith in omega (arith, ap (λ (k : ℕ). (record_at s k).rank) e)) (split i j)
