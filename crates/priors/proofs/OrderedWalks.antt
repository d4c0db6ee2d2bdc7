-- Where a walk gives each item of a list, `is_sorted_by` with a test of two records' addresses is whether the list ascends. Assumes nothing.
use mathlib.Core.Path.{◌≡◌, refl, sym, ap, subst, ◌∙◌}
use mathlib.Core.Logic.{inl, inr}
use mathlib.Core.Bool.{Bool, true, false, ◌&&◌}
use mathlib.Core.List.{List, [], ◌∷◌, ◌++◌, map}
use Prim.Native.Nat.{ℕ, zero, suc, ◌+◌}
use native.Mathlib.Omega.{arith}
use denote.Ref.{Bor}
use denote.Param.Members.{Mut}
use lib.Dec.{ltb}
use Rattle.std.specs.Prelude.{Option, None, Some, MatchOption}
use Rattle.std.specs.List.{FoldsTo, range_with_len}
use Rattle.std.specs.Fn.{CalledAtTwo}
use Rattle.std.specs.Iterator.{Yields, AlwaysYields}
use Rattle.std.specs.Iterator.Order.{OrderTurn, ChecksNeighbours}
use Rattle.std.proofs.lemmas.Iterator.{YieldsList}
use Rattle.priors.specs.Below.{list_of}
use Rattle.priors.specs.declared.records.Record.{Record}
use Rattle.priors.specs.Priors.{record_at, record_count, records, ascends, ascends_after}

-- the values at the places of a range
from : {X : Type 0} (f g : ℕ → X) (a n : ℕ) → ((i : ℕ) → f (a + i) ≡ g i) → map f (range_with_len a n) ≡ list_of n g
from f g a zero e = refl
from f g a (suc n) e =
    let here : a ≡ a + 0 = omega arith in
    let later : (i : ℕ) → a + 1 + i ≡ a + suc i = λ i. omega arith in
    λ k. (ap f here ∙ e 0) k ∷ from f (λ i. g (suc i)) (a + 1) n (λ i. ap f (later i) ∙ e (suc i)) k

pub records_listed : (s : List ℕ) → map (record_at s) (range_with_len 0 (record_count s)) ≡ records s
unfolding records
records_listed s = from (record_at s) (record_at s) 0 (record_count s) (λ i. let e : 0 + i ≡ i = omega arith in ap (record_at s) e)

-- what a walk gave, and what it has still to come, are what it had
module _ {S A : Type 0} (steps : S → Option A → S → Type 0) where
  given : (xs all : List A) (s t : S) → AlwaysYields steps (λ y. y) s all → Yields steps s xs t → (more : List A) × (all ≡ xs ++ more) × AlwaysYields steps (λ y. y) t more
  given [] all s t road y = (all, refl, subst (λ k. AlwaysYields steps (λ z. z) k all) y road)
  given (x ∷ xs) [] s t road y = absurd (road x y.0 y.1)
  given (x ∷ xs) (z ∷ all) s t road y =
      let here = road.1 x y.0 y.1 in
      let rest = given xs all y.0 t here.1 y.2 in
      (rest.0, (λ k. sym here.0 k ∷ rest.1 k), rest.2)

  none_left : (more : List A) (t u : S) → AlwaysYields steps (λ y. y) t more → steps t None u → more ≡ []
  none_left [] t u road y = refl
  none_left (z ∷ more) t u road y = absurd (road.0 u y)

module _ {F : Type 0} (g : Mut F (Bor Record × (Bor Record × Unit {0})) Bool)
    (below : (f : F) (a b : Record) (r : Bool) (q : F) → CalledAtTwo g f a b r q → r ≡ ltb a.rank b.rank) where
  -- turns that go on leave the order of the rest to tell
  turned : (xs more : List Record) (p q : F × Record) → FoldsTo {P = F × Record} (OrderTurn g) p xs q → ascends_after p.1.rank (xs ++ more) ≡ ascends_after q.1.rank more
  unfolding ascends_after
  turned [] more p q h = ap (λ (w : F × Record). ascends_after w.1.rank more) h
  turned (x ∷ xs) more p q h =
      ap (λ b. b && ascends_after x.rank (xs ++ more)) (sym (below p.0 p.1 x true h.0.0 h.1.0))
      ∙ ap (λ (y : Record). ascends_after y.rank (xs ++ more)) (sym h.1.1) ∙ turned xs more h.0 q h.2

  module _ {S : Type 0} (steps : S → Option Record → S → Type 0) (f : F) where
    last : (xs more : List Record) (o : Option Record) (x : Record) (t u : S) (q : F × Record) (r : Bool) → AlwaysYields steps (λ y. y) t more → steps t o u → FoldsTo {P = F × Record} (OrderTurn g) (f, x) xs q
        → MatchOption o (r ≡ true) (λ y. (r ≡ false) × ((h : F) × CalledAtTwo g q.0 q.1 y false h)) → r ≡ ascends_after x.rank (xs ++ more)
    unfolding ascends_after
    last xs more None x t u q r road y h e = e ∙ sym (turned xs more (f, x) q h ∙ ap (ascends_after q.1.rank) (none_left steps more t u road y))
    last xs [] (Some z) x t u q r road y h e = absurd (road z u y)
    last xs (w ∷ more) (Some z) x t u q r road y h e =
        e.0 ∙ sym (turned xs (w ∷ more) (f, x) q h ∙ ap (λ (v : Record). ltb q.1.rank v.rank && ascends_after v.rank more) (sym (road.1 z u y).0) ∙ ap (λ b. b && ascends_after z.rank more) (sym (below q.0 q.1 z false e.1.0 e.1.1)))

    pub sorted_walk : {s : S} {all : List Record} (r : Bool) → ChecksNeighbours g steps s f r → YieldsList steps (λ y. y) s all → r ≡ ascends all
    unfolding ascends
    sorted_walk {s} {all} r (inl ((u, (t, y, none)), e)) road =
        let left = given steps [] all s t road.runs y in
        e ∙ sym (ap ascends (left.1 ∙ none_left steps left.0 t u left.2 none))
    sorted_walk {s} {all} r (inr (x, xs, o, u, q, (t, y, next), h, e)) road =
        let left = given steps (x ∷ xs) all s t road.runs y in
        last xs left.0 o x t u q r left.2 next h e ∙ sym (ap ascends left.1)
