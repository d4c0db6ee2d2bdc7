-- The divergence of a node: KL(prior ‖ posterior) of the two Dirichlet distributions, with G = ln gamma and D = digamma from lent tables, as a fixed chain of
-- operations rounded once each. Three departures from the textbook, as in goko: with a prior singleton of 0 the ending's term is dropped, though the textbook's is
-- infinite; prior children outside the evidence enter no sum, though the textbook writes terms for them that cancel but for rounding; a result below 0 becomes 0.
-- Assumes nothing.
use Rattle.std.specs.Prelude.{ℕ, ◌+◌, Bool, false, cond, ◌||◌, List, [], ◌∷◌, length, nat_le, nat_lt, Float, Option, None, Some, is_none, unwrap_or, Result, Ok, Err}
use Rattle.std.specs.Float.Ieee.{lt}
use Rattle.priors.specs.Rows.{Row, count_of}
use Rattle.priors.specs.Tables.{table_at}
use Rattle.priors.specs.Priors.{Counts, total}
use Rattle.divergence.specs.declared.sums.Sums.{Sums}
use Rattle.priors.specs.declared.refusals.NodeReason.{NodeReason}
use Rattle.priors.specs.declared.refusals.NodeReason.TheVariants.{MissingChild, PastTable}
use Rattle.divergence.specs.Numbers.{fadd, fsub, fmul, flt, zero64}

-- the three sums start at 0
abbrev pub no_sums : Sums
no_sums = record { mine = zero64; other = zero64; dig = zero64 }

-- one more term, of a prior count a with evidence e; T is the prior total
unfoldable pub term : List Float → List Float → ℕ → Sums → ℕ → ℕ → Sums
term G D T s a e = record {
  mine = fadd s.mine (table_at G a);
  other = fadd s.other (table_at G (e + a));
  dig = fsub s.dig (fmul (flt e) (fsub (table_at D a) (table_at D T)));
}

-- the ending's term, if the prior singleton is positive
unfoldable pub ending_term : List Float → List Float → ℕ → Sums → ℕ → ℕ → Sums
ending_term G D T s a e = cond (nat_lt 0 a) (term G D T s a e) s

-- a child's count in the prior; one that is missing is refused before any term is made
abbrev pub prior_count : Option ℕ → ℕ
prior_count o = unwrap_or o 0

-- a term for each evidence child, ascending
unfoldable pub child_terms : List Float → List Float → ℕ → List Row → Sums → List Row → Sums
child_terms G D T prior s [] = s
child_terms G D T prior s (e ∷ es) = child_terms G D T prior (term G D T s (prior_count (count_of e.key prior)) e.count) es

-- a figure below 0 becomes 0
unfoldable pub no_less : Float → Float
no_less x = cond (lt x zero64) zero64 x

-- G(T) - mine - G(U) + other + dig, left to right, and 0 where that is below 0
unfoldable pub closed : List Float → ℕ → ℕ → Sums → Float
closed G T U s = no_less (fadd (fadd (fsub (fsub (table_at G T) s.mine) (table_at G U)) s.other) s.dig)

unfoldable pub divergence : List Float → List Float → Counts → Counts → Float
divergence G D p e =
    let T = total p in
    closed G T (T + total e) (child_terms G D T p.children (ending_term G D T no_sums p.ending e.ending) e.children)

-- some evidence child, zero count included, is not in the prior
unfoldable pub lacks_child : List Row → List Row → Bool
lacks_child prior [] = false
lacks_child prior (e ∷ es) = is_none (count_of e.key prior) || lacks_child prior es

-- a listed node with evidence e: none where it has no prior; a missing child (14); U past the last table index (15); else its divergence
unfoldable pub node_divergence : List Float → List Float → Option Counts → Counts → Result (Option Float) NodeReason
node_divergence G D None e = Ok None
node_divergence G D (Some p) e =
    cond (lacks_child p.children e.children) (Err MissingChild)
    (cond (nat_le (length G) (total p + total e)) (Err PastTable)
    (Ok (Some (divergence G D p e))))
