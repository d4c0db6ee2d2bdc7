-- The filling of an output, place by place: after each write, what is left to be written at the next place gives the same whole. Assumes nothing.
use Rattle.std.proofs.Common.{◌≡◌, ℕ, suc, ◌+◌, ◌*◌, ◌≤◌, List, [], ◌∷◌, ◌++◌, length, take, drop, set, sym, refl, ap, ◌∙◌, append_assoc, add-zero, zero-add, arith, length-append, take-append-drop, take-suc-set, drop-set-lt}
use mathlib.Core.List.{flat_map}
use lib.Ieee.{Float}
use Rattle.priors.specs.Word.{store}
use Rattle.priors.specs.Address.{address_bytes}
use Rattle.priors.proofs.Fields.{store_store}
use Rattle.divergence.specs.Readings.{filled_addresses, filled_figures}

-- ---- addresses

pub addresses_length : (ranks : List ℕ) → length (flat_map address_bytes ranks) ≡ 8 * length ranks
unfolding flat_map
addresses_length [] = refl
addresses_length (r ∷ ranks) = length-append (address_bytes r) (flat_map address_bytes ranks) ∙ omega (arith, addresses_length ranks)

module _ (addresses : List ℕ) where
  pub addresses_start : (ranks : List ℕ) → store addresses 0 (flat_map address_bytes ranks) ≡ filled_addresses ranks addresses
  unfolding store filled_addresses
  addresses_start ranks = ap (λ (n : ℕ). flat_map address_bytes ranks ++ drop n addresses) (zero-add (length (flat_map address_bytes ranks)) ∙ addresses_length ranks)

  pub addresses_on : (place rank : ℕ) (ranks : List ℕ) → 8 * place + 8 * suc (length ranks) ≤ length addresses
      → store (store addresses (8 * place) (address_bytes rank)) (8 * (place + 1)) (flat_map address_bytes ranks) ≡ store addresses (8 * place) (flat_map address_bytes (rank ∷ ranks))
  unfolding flat_map
  addresses_on place rank ranks h =
      store_store addresses (8 * place) (address_bytes rank) (flat_map address_bytes ranks) (8 * (place + 1)) (omega arith) (omega (arith, addresses_length ranks))

  pub addresses_end : (at : ℕ) → store addresses at [] ≡ addresses
  unfolding store
  addresses_end at = ap (λ (n : ℕ). take at addresses ++ drop n addresses) (add-zero at) ∙ take-append-drop at addresses

  -- with nothing left they are what they were to become
  pub addresses_full : (at : ℕ) (left whole : List ℕ) → left ≡ [] → store addresses at (flat_map address_bytes left) ≡ whole → addresses ≡ whole
  unfolding flat_map
  addresses_full at left whole none is = sym (addresses_end at) ∙ sym (ap (λ (rs : List ℕ). store addresses at (flat_map address_bytes rs)) none) ∙ is

-- ---- figures

-- the figures with these values from a place on
unfoldable pub filled_from : ℕ → List Float → List Float → List Float
filled_from place values figures = take place figures ++ (values ++ drop (place + length values) figures)

module _ (figures : List Float) where
  pub figures_start : (values : List Float) → filled_from 0 values figures ≡ filled_figures values figures
  unfolding filled_from filled_figures
  figures_start values = ap (λ (n : ℕ). values ++ drop n figures) (zero-add (length values))

  pub figures_on : (place : ℕ) (x : Float) (values : List Float) → place + suc (length values) ≤ length figures
      → filled_from (place + 1) values (set figures place x) ≡ filled_from place (x ∷ values) figures
  unfolding filled_from
  figures_on place x values h =
      let one : place + 1 ≡ suc place = omega arith in
      let past : suc place + length values ≡ place + suc (length values) = omega arith in
      rw (one, take-suc-set figures place x (omega arith), drop-set-lt (suc place + length values) figures place x (omega arith), past) (simp append_assoc)

  pub figures_end : (place : ℕ) → filled_from place [] figures ≡ figures
  unfolding filled_from
  figures_end place = ap (λ (n : ℕ). take place figures ++ drop n figures) (add-zero place) ∙ take-append-drop place figures

  pub figures_full : (place : ℕ) (left whole : List Float) → left ≡ [] → filled_from place left figures ≡ whole → figures ≡ whole
  figures_full place left whole none is = sym (figures_end place) ∙ sym (ap (λ (xs : List Float). filled_from place xs figures) none) ∙ is
