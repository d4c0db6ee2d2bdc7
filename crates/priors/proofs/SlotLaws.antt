-- 22 along slots: a record has one point only with one of its slot, and the links lead to all of those before it. Assumes nothing.
use mathlib.Core.Path.{◌≡◌, sym, ap, ◌∙◌}
use mathlib.Core.Logic.{⊎_elim}
use mathlib.Core.Bool.{true, false, not}
use Prim.Native.Nat.{ℕ, suc, ◌+◌, ◌-◌, ◌*◌, ◌/◌, ◌%◌, ◌^◌, ◌≤◌, ◌<◌}
use native.Mathlib.Omega.{arith}
use mathlib.Core.List.{List}
use lib.ListN.{length, get_or, set, replicate, get_or-replicate}
use lib.Seq.{get_or-set_same, get_or-set_other}
use Rattle.priors.specs.Below.{all_below}
use Rattle.priors.specs.Priors.{record_at, record_count, records, ascends, point_of, one_point, clear_before, points_differ}
use Rattle.priors.specs.Layer.{slot, slot_of, Latest, Linked}
use Rattle.priors.proofs.Tests.{split, three}
use Rattle.priors.proofs.BelowLaws.{all_from, all_at, all_fails}
use Rattle.priors.proofs.RecordLaws.{not_below}
use Rattle.priors.proofs.LayerLaws.{no_answer, not_both, point_parts}

one_slot : (a b : ℕ) → point_of a ≡ point_of b → slot b ≡ slot a
one_slot a b e = ap (λ (p : ℕ). p * 2654435761 / 1048576 % 4096) (sym e)

-- the record i has one point with none from this place on
abbrev pub ClearFrom : List ℕ → ℕ → ℕ → ℕ → Type 0
ClearFrom s layer i at = (j : ℕ) → at ≤ j → j < i → one_point layer (record_at s i).rank (record_at s j).rank ≡ true → ⊥

module _ (s : List ℕ) (layer i : ℕ) where
  other_slot : (j : ℕ) → one_point layer (record_at s i).rank (record_at s j).rank ≡ true → slot_of s j ≡ slot_of s i
  other_slot j t = one_slot (record_at s i).rank (record_at s j).rank (point_parts layer (record_at s i).rank (record_at s j).rank t).2

  -- from the last one with its slot on
  pub clear_last : (v : ℕ) → Latest s i (slot_of s i) v → ClearFrom s layer i v
  clear_last v h j l m t = h.1 j l m (other_slot j t)

  -- the record k before it, by the ranks that were read: it has one point with i, or not
  module _ (k own that : ℕ) (own_is : own ≡ (record_at s i).rank) (that_is : that ≡ (record_at s k).rank) where
    pub clear_fails : one_point layer own that ≡ true → k < i → clear_before s layer i ≡ false
    unfolding clear_before
    clear_fails t l = all_fails (λ k. not (one_point layer (record_at s i).rank (record_at s k).rank)) i k l (ap not (rw (own_is, that_is) at t))

    -- from one on to the one before it in its slot
    pub clear_on : (at v : ℕ) → ClearFrom s layer i at → one_point layer own that ≡ false → slot_of s k ≡ slot_of s i → Latest s k (slot_of s k) v → at ≡ suc k → ClearFrom s layer i v
    clear_on at v h f x latest e j l m t =
        ⊎_elim
        (λ (b : j < k). latest.1 j l b (other_slot j t ∙ sym x))
        (⊎_elim
        (λ (b : j ≡ k). not_both (one_point layer (record_at s i).rank (record_at s k).rank) (ap not (rw (own_is, that_is) at f)) (ap (λ (n : ℕ). one_point layer (record_at s i).rank (record_at s n).rank) (sym b) ∙ t))
        (λ (b : k < j). h j (omega arith) m t))
        (three j k)

  pub clear_all : ClearFrom s layer i 0 → clear_before s layer i ≡ true
  unfolding clear_before
  clear_all h =
      all_from (λ j. not (one_point layer (record_at s i).rank (record_at s j).rank)) i (λ j l.
      ap not (no_answer (one_point layer (record_at s i).rank (record_at s j).rank) (h j (omega arith) l)))

  -- a record that is not in the layer has one point with none
  clear_high : layer ≤ (record_at s i).rank / 2 ^ 32 → clear_before s layer i ≡ true
  clear_high h = clear_all (λ j l m t. omega (arith, (point_parts layer (record_at s i).rank (record_at s j).rank t).0))

-- where the record i is not in the layer, nor is any after it
pub rest_clear : (s : List ℕ) (layer i : ℕ) → ascends (records s) ≡ true → layer ≤ (record_at s i).rank / 2 ^ 32 → all_below i (clear_before s layer) ≡ true → points_differ s layer ≡ true
unfolding points_differ
rest_clear s layer i up h done =
    all_from (clear_before s layer) (record_count s) (λ k l.
    ⊎_elim (λ b. all_at (clear_before s layer) i k done b) (λ b. clear_high s layer k (omega (arith, not_below s up i k b l))) (split k i))

-- the first record has none before it
first_clear : (s : List ℕ) (layer n : ℕ) → n < 2 → all_below n (clear_before s layer) ≡ true
first_clear s layer n l = all_from (clear_before s layer) n (λ j m. clear_all s layer j (λ k a b t. omega arith))

pub few_clear : (s : List ℕ) (layer : ℕ) → record_count s < 2 → points_differ s layer ≡ true
unfolding points_differ
few_clear s layer l = first_clear s layer (record_count s) l

pub second_high : (s : List ℕ) (layer : ℕ) → ascends (records s) ≡ true → layer ≤ (record_at s 1).rank / 2 ^ 32 → points_differ s layer ≡ true
second_high s layer up h = rest_clear s layer 1 up h (first_clear s layer 1 (omega arith))

-- where no two have one point, 22 is passed
pub points_differ_lem : (s : List ℕ) (layer : ℕ) → ((j i : ℕ) → j < i → i < record_count s → one_point layer (record_at s i).rank (record_at s j).rank ≡ true → ⊥) → points_differ s layer ≡ true
unfolding points_differ
points_differ_lem s layer h = all_from (clear_before s layer) (record_count s) (λ i l. clear_all s layer i (λ j a b t. h j i b l t))

-- nothing lies in a layer of no scales
pub empty_layer : (s : List ℕ) → points_differ s 0 ≡ true
unfolding points_differ
empty_layer s = all_from (clear_before s 0) (record_count s) (λ j l. clear_high s 0 j (omega arith))

-- ---- the links as they grow

pub latest_is : (s : List ℕ) (i x v w : ℕ) → v ≡ w → Latest s i x w → Latest s i x v
latest_is s i x v w e h = rw e h

-- the link of a place before i
pub linked_at : (s : List ℕ) (i k v : ℕ) (links : List ℕ) → Linked s i links → v ≡ get_or links k 0 → k < i → Latest s k (slot_of s k) v
linked_at s i k v links h e l = latest_is s k (slot_of s k) v (get_or links k 0) e (h k l)

pub heads_start : (s : List ℕ) (n x : ℕ) → x < n → Latest s 0 x (get_or (replicate n 0) x 0)
heads_start s n x l = latest_is s 0 x (get_or (replicate n 0) x 0) 0 (get_or-replicate n x 0 0 l) (omega arith, (λ j a b e. absurd (omega arith)), λ b. absurd (omega arith))

module _ (s : List ℕ) (i : ℕ) where
  -- the place i is now the last one with its slot
  latest_own : Latest s (i + 1) (slot_of s i) (i + 1)
  latest_own = (omega arith, (λ j l m e. absurd (omega arith)), λ l. let e : i + 1 - 1 ≡ i = omega arith in ap (slot_of s) e)

  -- for another slot nothing changes
  latest_other : (x v : ℕ) → Latest s i x v → (slot_of s i ≡ x → ⊥) → Latest s (i + 1) x v
  latest_other x v h n =
      (omega (arith, h.0), (λ j l m e. ⊎_elim (λ (b : j < i). h.1 j l b e) (λ (b : i ≤ j). let q : j ≡ i = omega arith in n (ap (slot_of s) (sym q) ∙ e)) (split j i)), h.2)

  -- the head of its slot
  pub head_at : (heads : List ℕ) (slot : ℕ) → slot ≡ slot_of s i → ((x : ℕ) → x < 4096 → Latest s i x (get_or heads x 0)) → Latest s i (slot_of s i) (get_or heads slot 0)
  head_at heads slot is h = rw is (h (slot_of s i) (omega arith))

  pub heads_next : (heads : List ℕ) (slot : ℕ) → length heads ≡ 4096 → slot ≡ slot_of s i → ((x : ℕ) → x < 4096 → Latest s i x (get_or heads x 0)) → (x : ℕ) → x < 4096 → Latest s (i + 1) x (get_or (set heads slot (i + 1)) x 0)
  heads_next heads slot long is h x l = ⊎_elim (λ b. other (λ e. omega arith)) (⊎_elim same (λ b. other (λ e. omega arith))) (three x slot)
    where
      other : (x ≡ slot → ⊥) → Latest s (i + 1) x (get_or (set heads slot (i + 1)) x 0)
      other n = latest_is s (i + 1) x (get_or (set heads slot (i + 1)) x 0) (get_or heads x 0) (get_or-set_other heads slot x (i + 1) 0 n) (latest_other x (get_or heads x 0) (h x l) (λ e. n (sym (is ∙ e))))

      same : x ≡ slot → Latest s (i + 1) x (get_or (set heads slot (i + 1)) x 0)
      same e = latest_is s (i + 1) x (get_or (set heads slot (i + 1)) x 0) (i + 1) (ap (λ (k : ℕ). get_or (set heads slot (i + 1)) k 0) e ∙ get_or-set_same heads slot (i + 1) 0 (omega (arith, long, e, l))) (rw (e ∙ is) latest_own)

  pub links_next : (links : List ℕ) (v : ℕ) → length links ≡ 4096 → i < 4096 → Linked s i links → Latest s i (slot_of s i) v → Linked s (i + 1) (set links i v)
  links_next links v long low h latest k l =
      ⊎_elim
      (λ (b : k < i). latest_is s k (slot_of s k) (get_or (set links i v) k 0) (get_or links k 0) (get_or-set_other links i k v 0 (λ e. omega arith)) (h k b))
      (λ (b : i ≤ k). let e : k ≡ i = omega arith in rw e (latest_is s i (slot_of s i) (get_or (set links i v) i 0) v (get_or-set_same links i v 0 (omega (arith, long))) latest))
      (split k i)
