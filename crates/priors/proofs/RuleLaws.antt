-- Which numbers a list of rules can give, and what a refusal's number says of it: it is not 0, and only 14 and 15 name a node; so
-- what a check refuses is an answer. Assumes nothing.
use mathlib.Core.Path.{◌≡◌, refl, sym, ap, ◌∙◌}
use Prim.Native.Nat.{ℕ, suc}
use native.Mathlib.Omega.{arith}
use mathlib.Core.Bool.{Bool, true, false, cond, not, ◌&&◌, ◌||◌}
use mathlib.Core.List.{List, [], ◌∷◌}
use Rattle.std.specs.Prelude.{None}
use lib.Dec.{eqb}
use lib.Ieee.{Float}
use Rattle.priors.specs.declared.refusals.Refusal.{Refusal}
use Rattle.priors.specs.declared.refusals.Refusal.TheVariants.{Plain, AtNode}
use Rattle.priors.specs.declared.refusals.Reason.{Reason}
use Rattle.priors.specs.declared.refusals.Reason.TheVariants.{TableLengths, TableEntry, PriorSizes, NodeOrder, Links, ChainOrder, ZeroPrior, Window, Form, PathLength, PathsFull, BookFull, OutputShort, TrainingInput, BaselineInput, OneKnot, SharedPoint}
use Rattle.priors.specs.declared.refusals.NodeReason.TheVariants.{MissingChild, PastTable}
use Rattle.priors.specs.Rules.{Rule, first_broken}
use Rattle.priors.specs.Refusals.{reason_number, number_of, named_node}
use Rattle.priors.specs.Reading.{Reading, refused, unless}
use Rattle.priors.specs.Tables.{table_rules, tables_refusal}
use Rattle.priors.specs.Priors.{prior_rules, priors_refusal}
use Rattle.priors.proofs.Tests.{both}

-- ---- the numbers of rules

-- the number of each rule has the property
abbrev pub numbers_keep : (ℕ → Bool) → List Rule → Bool
numbers_keep test [] = true
numbers_keep test (r ∷ rules) = test r.number && numbers_keep test rules

-- then the first broken one's has it, if 0 has
pub broken_keeps : (test : ℕ → Bool) (rules : List Rule) → test 0 ≡ true → numbers_keep test rules ≡ true → test (first_broken rules) ≡ true
broken_keeps test [] z h = z
broken_keeps test (r ∷ rules) z h = let parts = both (test r.number) (numbers_keep test rules) h in go r.holds parts.0 (broken_keeps test rules z parts.1)
  where
    go : (b : Bool) → test r.number ≡ true → test (first_broken rules) ≡ true → test (cond b (first_broken rules) r.number) ≡ true
    go true l ih = ih
    go false l ih = l

abbrev pub not_nine : ℕ → Bool
not_nine n = not (eqb n 9)

abbrev pub names_none : ℕ → Bool
names_none n = not (eqb n 14 || eqb n 15)

pub tables_keep : (test : ℕ → Bool) (g d : List Float) → test 0 ≡ true → numbers_keep test (table_rules g d) ≡ true → test (tables_refusal g d) ≡ true
unfolding tables_refusal
tables_keep test g d z h = broken_keeps test (table_rules g d) z h

pub priors_keep : (test : ℕ → Bool) (nodes children : List ℕ) (layer : ℕ) → test 0 ≡ true → numbers_keep test (prior_rules nodes children layer) ≡ true → test (priors_refusal nodes children layer) ≡ true
unfolding priors_refusal
priors_keep test nodes children layer z h = broken_keeps test (prior_rules nodes children layer) z h

-- ---- refusals

pub reason_some : (r : Reason) → (m : ℕ) × (reason_number r ≡ suc m)
reason_some TableLengths = (0, refl)
reason_some TableEntry = (1, refl)
reason_some PriorSizes = (2, refl)
reason_some NodeOrder = (3, refl)
reason_some Links = (4, refl)
reason_some ChainOrder = (5, refl)
reason_some ZeroPrior = (6, refl)
reason_some Window = (7, refl)
reason_some Form = (8, refl)
reason_some PathLength = (9, refl)
reason_some PathsFull = (10, refl)
reason_some BookFull = (11, refl)
reason_some OutputShort = (12, refl)
reason_some TrainingInput = (15, refl)
reason_some BaselineInput = (16, refl)
reason_some OneKnot = (17, refl)
reason_some SharedPoint = (21, refl)

-- a refusal's number is not 0
pub some_number : (r : Refusal) → (m : ℕ) × (number_of r ≡ suc m)
some_number (Plain reason) = reason_some reason
some_number (AtNode MissingChild node) = (13, refl)
some_number (AtNode PastTable node) = (14, refl)

-- what holds of every number but 0 holds of a refusal's
pub by_number {ℓ} : {X : Type ℓ} (P Q : ℕ → X) → ((m : ℕ) → P (suc m) ≡ Q (suc m)) → (r : Refusal) → P (number_of r) ≡ Q (number_of r)
by_number P Q f r = let n = some_number r in ap P n.1 ∙ f n.0 ∙ ap Q (sym n.1)

-- only 14 and 15 name a node
pub unnamed : (r : Refusal) → names_none (number_of r) ≡ true → named_node r ≡ None
unnamed (Plain reason) h = refl
unnamed (AtNode MissingChild node) h = let z : ◌≡◌ {A = ℕ} 0 1 = cc in absurd (omega arith)
unnamed (AtNode PastTable node) h = let z : ◌≡◌ {A = ℕ} 0 1 = cc in absurd (omega arith)

-- ---- a check's refusal as an answer

pub priors_unnamed : (nodes children : List ℕ) (layer : ℕ) → names_none (priors_refusal nodes children layer) ≡ true
priors_unnamed nodes children layer = priors_keep names_none nodes children layer refl refl

-- a refusal that names no node, with the number of a check, is what the check answers
pub unless_refused_lem : {X : Type 0} (q : Refusal) (n : ℕ) (r : Reading X) → number_of q ≡ n → names_none n ≡ true → refused (number_of q) (named_node q) ≡ unless n r
unless_refused_lem q n r e h =
    ap (refused (number_of q)) (unnamed q (ap names_none e ∙ h)) ∙ by_number (λ m. refused m None) (λ m. unless m r) (λ m. refl) q ∙ ap (λ (m : ℕ). unless m r) e
