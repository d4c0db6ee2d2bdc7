-- The checks that come before a reading, in this order: tables, priors, the tracker's form. Assumes nothing.
use Rattle.std.specs.Prelude.{◌≡◌, ℕ, zero, suc, List, Float}
use Rattle.priors.specs.Tables.{tables_refusal}
use Rattle.priors.specs.Priors.{priors_refusal}
use Rattle.book.specs.declared.trackers.Tracker.{Tracker}
use Rattle.book.specs.declared.trackers.Seen.{Seen}
use Rattle.priors.specs.declared.tables.LentTables.{LentTables}
use Rattle.priors.specs.declared.lookups.LentPriors.{LentPriors}
use Rattle.priors.specs.Priors.{layer_of}
use Rattle.divergence.specs.declared.kl_readings.Passed.{Passed}
use Rattle.divergence.specs.Readings.{form_refusal}

-- the first number that is not 0
abbrev pub or_else : ℕ → ℕ → ℕ
or_else zero m = m
or_else (suc n) m = suc n

abbrev pub checks_refusal : Tracker → List ℕ → List ℕ → List ℕ → List ℕ → ℕ → List Float → List Float → ℕ
checks_refusal t book queue nodes children layer G D = or_else (tables_refusal G D) (or_else (priors_refusal nodes children layer) (form_refusal t book queue))

-- what passed is what was lent
pub record IsLent (seen : Seen) (tables : LentTables) (priors : LentPriors) (t : Passed) : Type 0 where
  pub g_is : t.by.tables.g.now ≡ tables.g.now
  pub d_is : t.by.tables.d.now ≡ tables.d.now
  pub nodes_are : t.by.priors.nodes.now ≡ priors.nodes.now
  pub children_are : t.by.priors.children.now ≡ priors.children.now
  pub layer_is : t.by.priors.layer ≡ layer_of priors.floor
  pub book_is : t.listing.bytes.now ≡ seen.book.now
  pub used_is : t.listing.used ≡ seen.tracker.used
