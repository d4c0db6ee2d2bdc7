-- Keys order by node, then kind, then child; the parts of a key come back from it, and a key is made of its parts. Assumes nothing.
use mathlib.Core.Path.{◌≡◌, refl, sym, ◌∙◌}
use mathlib.Core.Logic.{◌⊎◌, inl, inr}
use mathlib.Core.Bool.{Bool, true, false, cond, ◌&&◌, ◌||◌}
use Prim.Native.Nat.{ℕ, ◌^◌, ◌<◌}
use native.Mathlib.Nat.{div-lt_iff_lt-mul}
use native.Mathlib.Omega.{arith}
use lib.Dec.{ltb, eqb}
use borrow.Author.Tests.{lt-ltb, le-ltb, eq-eqb, ne_eqb}
use Rattle.priors.proofs.Tests.{three, ltb_same, eqb_same}
use Rattle.std.specs.Prelude.{Some}
use Rattle.std.proofs.Common.{Less, Equal, Greater}
use Rattle.std.specs.Ordering.{is_lt, is_some_and, partial_lt, partial_ordering_then}
use Rattle.entries.specs.declared.keys.Key.{Key}
use Rattle.entries.specs.contracts.keys.KeyPartialOrd.TheImpl.{partial_cmp-value}
use Rattle.entries.specs.Keys.{key_of, node_of, kind_of, child_of, key_value}

-- ---- the order

module _ (n k c n' k' c' : ℕ) (hk : k < 2 ^ 32) (hc : c < 2 ^ 64) (hk' : k' < 2 ^ 32) (hc' : c' < 2 ^ 64) where
  pub key_order : ltb (key_of n k c) (key_of n' k' c') ≡ ltb n n' || (eqb n n' && (ltb k k' || (eqb k k' && ltb c c')))
  unfolding key_of
  key_order = go (three n n') (three k k')
    where
      go : (n < n') ⊎ ((n ≡ n') ⊎ (n' < n)) → (k < k') ⊎ ((k ≡ k') ⊎ (k' < k)) → ltb (key_of n k c) (key_of n' k' c') ≡ ltb n n' || (eqb n n' && (ltb k k' || (eqb k k' && ltb c c')))
      go (inl l) o = rw (lt-ltb n n' l) (lt-ltb (key_of n k c) (key_of n' k' c') (omega arith))
      go (inr (inr l)) o = rw (le-ltb n n' (omega arith), ne_eqb n n' (λ e. omega arith)) (le-ltb (key_of n k c) (key_of n' k' c') (omega arith))
      go (inr (inl e)) (inl l) = rw (le-ltb n n' (omega arith), eq-eqb n n' e, lt-ltb k k' l) (lt-ltb (key_of n k c) (key_of n' k' c') (omega arith))
      go (inr (inl e)) (inr (inr l)) = rw (le-ltb n n' (omega arith), eq-eqb n n' e, le-ltb k k' (omega arith), ne_eqb k k' (λ d. omega arith)) (le-ltb (key_of n k c) (key_of n' k' c') (omega arith))
      go (inr (inl e)) (inr (inl d)) = rw (le-ltb n n' (omega arith), eq-eqb n n' e, le-ltb k k' (omega arith), eq-eqb k k' d) (ltb_same (key_of n k c) (key_of n' k' c') c c' (λ l. omega arith) (λ l. omega arith))

  pub key_same : eqb (key_of n k c) (key_of n' k' c') ≡ eqb n n' && (eqb k k' && eqb c c')
  unfolding key_of
  key_same = go (three n n') (three k k')
    where
      differ : (n ≡ n' → k ≡ k' → ⊥) → eqb (key_of n k c) (key_of n' k' c') ≡ false
      differ d = ne_eqb (key_of n k c) (key_of n' k' c') (λ e. d (omega arith) (omega arith))

      go : (n < n') ⊎ ((n ≡ n') ⊎ (n' < n)) → (k < k') ⊎ ((k ≡ k') ⊎ (k' < k)) → eqb (key_of n k c) (key_of n' k' c') ≡ eqb n n' && (eqb k k' && eqb c c')
      go (inl l) o = rw (ne_eqb n n' (λ e. omega arith)) (differ (λ e d. omega arith))
      go (inr (inr l)) o = rw (ne_eqb n n' (λ e. omega arith)) (differ (λ e d. omega arith))
      go (inr (inl e)) (inl l) = rw (eq-eqb n n' e, ne_eqb k k' (λ d. omega arith)) (differ (λ e d. omega arith))
      go (inr (inl e)) (inr (inr l)) = rw (eq-eqb n n' e, ne_eqb k k' (λ d. omega arith)) (differ (λ e d. omega arith))
      go (inr (inl e)) (inr (inl d)) = rw (eq-eqb n n' e, eq-eqb k k' d) (eqb_same (key_of n k c) (key_of n' k' c') c c' (λ l. omega arith) (λ l. omega arith))

-- three tests of two numbers, one after the other
by_tests : (l e l' e' l'' e'' : Bool)
    → is_some_and is_lt (partial_ordering_then (Some (cond l Less (cond e Equal Greater))) (partial_ordering_then (Some (cond l' Less (cond e' Equal Greater))) (Some (cond l'' Less (cond e'' Equal Greater)))))
    ≡ l || (e && (l' || (e' && l'')))
by_tests true e l' e' l'' e'' = refl
by_tests false false l' e' l'' e'' = refl
by_tests false true true e' l'' e'' = refl
by_tests false true false false l'' e'' = refl
by_tests false true false true true e'' = refl
by_tests false true false true false true = refl
by_tests false true false true false false = refl

by_fields : (a k : Key) → partial_lt partial_cmp-value.it a k ≡ ltb a.node k.node || (eqb a.node k.node && (ltb a.kind k.kind || (eqb a.kind k.kind && ltb a.child k.child)))
by_fields a k = by_tests (ltb a.node k.node) (eqb a.node k.node) (ltb a.kind k.kind) (eqb a.kind k.kind) (ltb a.child k.child) (eqb a.child k.child)

-- keys as the code compares them, by `<` and `==`
module _ (a k : Key) (hk : a.kind < 2 ^ 32) (hc : a.child < 2 ^ 64) (hk' : k.kind < 2 ^ 32) (hc' : k.child < 2 ^ 64) where
  pub keys_below : partial_lt partial_cmp-value.it a k ≡ ltb (key_value a) (key_value k)
  unfolding key_value
  keys_below = by_fields a k ∙ sym (key_order a.node a.kind a.child k.node k.kind k.child hk hc hk' hc')

  pub keys_same : eqb a.node k.node && (eqb a.kind k.kind && eqb a.child k.child) ≡ eqb (key_value a) (key_value k)
  unfolding key_value
  keys_same = sym (key_same a.node a.kind a.child k.node k.kind k.child hk hc hk' hc')

-- ---- the parts

module _ (n k c : ℕ) (hk : k < 2 ^ 32) (hc : c < 2 ^ 64) where
  pub key_node : node_of (key_of n k c) ≡ n
  unfolding key_of node_of
  key_node = omega arith

  pub key_kind : kind_of (key_of n k c) ≡ k
  unfolding key_of kind_of
  key_kind = omega arith

  pub key_child : child_of (key_of n k c) ≡ c
  unfolding key_of child_of
  key_child = omega arith

pub key_parts : (k : ℕ) → key_of (node_of k) (kind_of k) (child_of k) ≡ k
unfolding key_of node_of kind_of child_of
key_parts k = omega arith

-- ---- bounds

pub kind_lt : (k : ℕ) → kind_of k < 2 ^ 32
unfolding kind_of
kind_lt k = omega arith

pub child_lt : (k : ℕ) → child_of k < 2 ^ 64
unfolding child_of
child_lt k = omega arith

pub node_lt : (k : ℕ) → k < 2 ^ 160 → node_of k < 2 ^ 64
unfolding node_of
node_lt k h = (div-lt_iff_lt-mul {k = 2 ^ 96} {x = k} {y = 2 ^ 64} (omega arith)).1 h

pub key_lt : (n k c : ℕ) → n < 2 ^ 64 → k < 2 ^ 32 → c < 2 ^ 64 → key_of n k c < 2 ^ 160
unfolding node_of
key_lt n k c hn hk hc = (div-lt_iff_lt-mul {k = 2 ^ 96} {x = key_of n k c} {y = 2 ^ 64} (omega arith)).0 (rw (key_node n k c hk hc) hn)
