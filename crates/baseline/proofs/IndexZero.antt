-- A training never reads index 0 of the tables: the checks before the work do not, and each record is what `kl_div_stats` tells the recount, which does not either.
-- Assumes nothing.
use mathlib.Core.Path.{◌≡◌, refl, ap, ap₂}
use Prim.Native.Nat.{ℕ, zero, suc, ◌+◌, ◌*◌, ◌%◌}
use mathlib.Core.Bool.{cond}
use mathlib.Core.List.{List, [], ◌∷◌}
use lib.Dec.{eqb}
use lib.ListN.{length}
use lib.Ieee.{Float}
use lib.IntN.{ℤ}
use Rattle.priors.specs.Priors.{lent_priors, layer_of, priors_refusal}
use Rattle.book.specs.Path.{path_of}
use Rattle.book.specs.Claims.{Recount, since, restarted, joined, add_refusal}
use Rattle.book.specs.Batches.{path_in}
use Rattle.divergence.specs.declared.statistics.KLDivergenceStats.{KLDivergenceStats}
use Rattle.divergence.specs.Checks.{or_else}
use Rattle.divergence.specs.Asked.{lent_output}
use Rattle.divergence.specs.Claims.{recount_seen}
use Rattle.divergence.proofs.IndexZero.{same_tables, index_zero_unread}
use Rattle.baseline.specs.Training.{Lent, Input, lent_of, input_of, knot_room, sizes_refusal, train_refusal, Until, and_then, recorded, recount_stats, unless_stopped, records_from, sequence_records, all_records, knots_of, trained_reading, book_left, knots_left, values_left, TrainAnswer, train_asked}
use Rattle.baseline.specs.Claims.{IndexZeroUnread}

module _ (g g' d d' : Float) (G D : List Float) (nodes children : List ℕ) (floor : ℤ) (sequences : List ℕ) (s n rate : ℕ) where
  abbrev one : Lent
  one = lent_of (g ∷ G) (d ∷ D) nodes children floor sequences rate

  abbrev other : Lent
  other = lent_of (g' ∷ G) (d' ∷ D) nodes children floor sequences rate

  same_stats : (r : Recount) → recount_stats one r ≡ recount_stats other r
  unfolding recount_stats
  same_stats r = ap recorded ((index_zero_unread (recount_seen r.window r.paths (since r)) (lent_priors nodes children floor) 0 (lent_output [] [])).2 g g' d d' G D)

  same_records : (first : ℕ) (r : Recount) (i m : ℕ) → records_from one first r i m ≡ records_from other first r i m
  unfolding records_from
  same_records first r i zero = refl
  same_records first r i (suc m) =
      let path = path_in sequences (first + i) in
      let after = joined r (path_of path) in
      ap₂ (λ (a : Until KLDivergenceStats) (rest : Until (List KLDivergenceStats)). unless_stopped (add_refusal r path) (cond (eqb (i % rate) 0) (and_then a rest) rest)) (same_stats after)
      (same_records first after (suc i) m)

  abbrev one_input : Input
  one_input = input_of (g ∷ G) (d ∷ D) nodes children floor sequences s n rate

  abbrev other_input : Input
  other_input = input_of (g' ∷ G) (d' ∷ D) nodes children floor sequences s n rate

  same_all : (book_size q m : ℕ) → all_records one_input book_size q m ≡ all_records other_input book_size q m
  unfolding all_records sequence_records
  same_all book_size q zero = refl
  same_all book_size q (suc m) = ap₂ and_then (same_records (q * n) (restarted 0 book_size 0) 0 n) (same_all book_size (suc q) m)

  module _ (book knots : List ℕ) (values : List Float) where
    same_refusal : train_refusal one_input book knots values ≡ train_refusal other_input book knots values
    unfolding train_refusal
    same_refusal =
        ap (λ (m : ℕ). or_else m (or_else (priors_refusal nodes children (layer_of floor)) (sizes_refusal sequences s n rate book (knot_room knots values)))) (same_tables g g' d d' G D)

    same_training : train_asked one_input book knots values ≡ train_asked other_input book knots values
    unfolding train_asked
    same_training =
        ap₂ told same_refusal (same_all (length book) 0 s)
      where
        told : ℕ → Until (List (List KLDivergenceStats)) → TrainAnswer
        told m u = record {
          answer = trained_reading m (knots_of one_input) u;
          book = book_left m book;
          knots = knots_left m (knots_of one_input) rate u knots;
          values = values_left m (knots_of one_input) u values;
        }

pub index_zero_unread_in_training : IndexZeroUnread
index_zero_unread_in_training nodes children floor sequences s n rate book knots values g g' d d' G D = same_training g g' d d' G D nodes children floor sequences s n rate book knots values
