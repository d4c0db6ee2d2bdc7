-- goko's `Categorical` and `Dirichlet`, whose counts are f64, by its own methods in its own order of operations (categorical.rs, dirichlet.rs, tracker.rs); and that
-- what a reading tells of the evidence in the book is what they give of it, and that where it is refused by 14 they give none. The readings' own definitions keep
-- whole numbers and make floats of them where they enter a figure. Assumes nothing.
use Rattle.std.specs.Prelude.{◌≡◌, ℕ, suc, ◌+◌, ◌-◌, ◌^◌, ◌<◌, ◌≤◌, min, Bool, true, false, cond, List, [], ◌∷◌, map, length, pos, ◌==◌, Float}
use Prim.Native.Nat.{compare}
use Rattle.std.specs.Prelude.{Option, None, Some, option_map}
use Rattle.std.specs.Float.{fin, binary64}
use Rattle.std.specs.Float.Ieee.{round, lt}
use Rattle.priors.specs.Rows.{Row, choose}
use Rattle.priors.specs.Tables.{LentTables, table_at}
use Rattle.priors.specs.Priors.{LentPriors, layer_of, Counts, prior_of}
use Rattle.book.specs.declared.trackers.Tracker.{Tracker}
use Rattle.book.specs.Figures.{All}
use Rattle.divergence.specs.declared.sums.Sums.{Sums}
use Rattle.divergence.specs.declared.statistics.KLDivergenceStats.{KLDivergenceStats}
use Rattle.divergence.specs.Numbers.{fadd, fsub, fmul, fdiv, flt, zero64}
use Rattle.divergence.specs.Nodes.{Node, evidence_of}
use Rattle.divergence.specs.Statistics.{Place}
use Rattle.divergence.specs.Readings.{Reading, nothing, answered, filled_addresses, filled_figures, Divergences, Statistics}
use Rattle.divergence.specs.Answers.{VectorResult}
use Rattle.divergence.specs.Asked.{seen_of, Output, lent_output, Telling, all_telling, prob_asked, evidence_asked, kl_asked, all_asked, stats_asked}
use Rattle.divergence.specs.Corollaries.{reading_number}

-- ---- counts

-- a child's address, by rank, and its f64
pub record FloatRow : Type 0 where
  pub key : ℕ
  pub count : Float

abbrev pub float_row : ℕ → Float → FloatRow
float_row k x = record { key = k; count = x }

-- `singleton_count` and `child_counts`, which ascend
pub record FloatCounts : Type 0 where
  pub singleton : Float
  pub children : List FloatRow

-- whole counts made floats
abbrev pub float_rows : List Row → List FloatRow
float_rows rs = map (λ (r : Row). float_row r.key (flt r.count)) rs

abbrev pub float_counts : Counts → FloatCounts
float_counts c = record { singleton = flt c.ending; children = float_rows c.children }

-- nothing is lost in that: up to 2 ^ 53 no two numbers have one float
abbrev pub MadeWithoutLoss : Type 0
MadeWithoutLoss = (m n : ℕ) → m ≤ 2 ^ 53 → n ≤ 2 ^ 53 → flt m ≡ flt n → m ≡ n

-- ---- `total`, `add_evidence`, `prob_vector`

-- the children's counts, added to x one after another
unfoldable pub child_sum : Float → List FloatRow → Float
child_sum x [] = x
child_sum x (r ∷ rs) = child_sum (fadd x r.count) rs

-- `total`: the singleton plus the sum of the children, which starts at 0
unfoldable pub float_total : FloatCounts → Float
float_total c = fadd c.singleton (child_sum zero64 c.children)

-- `add_child_pop` of a child: its count grows, or it comes in at its place. `child_counts` ascend strictly, and goko finds the place by halving
unfoldable pub add_child_pop : ℕ → Float → List FloatRow → List FloatRow
add_child_pop k x [] = float_row k x ∷ []
add_child_pop k x (r ∷ rs) = choose (compare k r.key) (float_row k x ∷ r ∷ rs) (float_row r.key (fadd r.count x) ∷ rs) (r ∷ add_child_pop k x rs)

unfoldable pub add_children : List FloatRow → List FloatRow → List FloatRow
add_children [] known = known
add_children (e ∷ es) known = add_children es (add_child_pop e.key e.count known)

-- `add_evidence`: the children one after another, then the singleton
unfoldable pub add_evidence : FloatCounts → FloatCounts → FloatCounts
add_evidence p e = record { singleton = fadd p.singleton e.singleton; children = add_children e.children p.children }

-- `prob_vector` of either: each count divided by the total, and none where that is not above 0
unfoldable pub divided : FloatCounts → Float → FloatCounts
divided c t = record { singleton = fdiv c.singleton t; children = map (λ (r : FloatRow). float_row r.key (fdiv r.count t)) c.children }

unfoldable pub float_vector : FloatCounts → Option FloatCounts
float_vector c = let t = float_total c in cond (lt zero64 t) (Some (divided c t)) None

-- the tracker's `prob_vector`: the prior, if there is one, with the evidence, if there is any
unfoldable pub goko_prob_vector : Option Counts → Option Counts → Option FloatCounts
goko_prob_vector None evidence = None
goko_prob_vector (Some p) None = float_vector (float_counts p)
goko_prob_vector (Some p) (Some e) = float_vector (add_evidence (float_counts p) (float_counts e))

-- the tracker's `evidence_prob_vector`
unfoldable pub goko_evidence_vector : Option Counts → Option FloatCounts
goko_evidence_vector None = None
goko_evidence_vector (Some e) = float_vector (float_counts e)

-- ---- `posterior_kl_divergence`

-- on with what there is; none where there is none
abbrev pub where_found : {X Y : Type 0} → Option X → (X → Option Y) → Option Y
where_found None f = None
where_found (Some x) f = f x

-- a child's count in `child_counts`, which ascend strictly; goko finds it by halving
unfoldable pub float_of : ℕ → List FloatRow → Option Float
float_of k [] = None
float_of k (r ∷ rs) = cond (r.key == k) (Some r.count) (float_of k rs)

-- the three sums before any term
abbrev pub no_floats : Sums
no_floats = record { mine = zero64; other = zero64; dig = zero64 }

-- with ln gamma and digamma as functions of an f64
module _ (lnGamma digamma : Float → Float) where
  -- one more term, of a prior count a with evidence e
  unfoldable pub float_term : Float → Sums → Float → Float → Sums
  float_term T s a e = record {
    mine = fadd s.mine (lnGamma a);
    other = fadd s.other (lnGamma (fadd e a));
    dig = fsub s.dig (fmul e (fsub (digamma a) (digamma T)));
  }

  -- the singleton's, if the prior's is above 0
  unfoldable pub float_ending : Float → Float → Float → Sums
  float_ending T a e = cond (lt zero64 a) (float_term T no_floats a e) no_floats

  -- a term for each child of the evidence; none at one that the prior lacks
  unfoldable pub float_terms : Float → List FloatRow → Sums → List FloatRow → Option Sums
  float_terms T prior s [] = Some s
  float_terms T prior s (e ∷ es) = where_found (float_of e.key prior) (λ a. float_terms T prior (float_term T s a e.count) es)

  unfoldable pub float_closed : Float → Float → Sums → Float
  float_closed T U s = let kld = fadd (fadd (fsub (fsub (lnGamma T) s.mine) (lnGamma U)) s.other) s.dig in cond (lt kld zero64) zero64 kld

  -- the evidence's total stands first in the sum of the two
  unfoldable pub goko_kl : FloatCounts → FloatCounts → Option Float
  goko_kl p e =
      let T = float_total p in
      option_map (float_closed T (fadd (float_total e) T)) (float_terms T p.children (float_ending T p.singleton e.singleton) e.children)

  -- of a node that may lack a prior or evidence
  unfoldable pub goko_node_kl : Option Counts → Option Counts → Option Float
  goko_node_kl prior evidence = where_found prior (λ p. where_found evidence (λ e. goko_kl (float_counts p) (float_counts e)))

  -- ---- `all_node_kl`, over the nodes in order

  -- a node without a prior is passed over, with a line printed; where `posterior_kl_divergence` gives none goko panics, and there is no list
  abbrev pub goko_visited : ℕ → Option Counts → Counts → Option Divergences → Option Divergences
  goko_visited node None e rest = option_map (λ (d : Divergences). record { places = d.places; skipped = suc d.skipped }) rest
  goko_visited node (Some p) e rest =
      where_found (goko_kl (float_counts p) (float_counts e))
      (λ x. option_map (λ (d : Divergences). record { places = record { address = node; value = x } ∷ d.places; skipped = d.skipped }) rest)

  unfoldable pub goko_all_kl : (ℕ → Option Counts) → List Node → Option Divergences
  goko_all_kl prior [] = Some (record { places = []; skipped = 0 })
  goko_all_kl prior (n ∷ ns) = goko_visited n.address (prior n.address) n.evidence (goko_all_kl prior ns)

-- ---- `kl_div_stats`

-- the loop over the list: what is above 1.0e-10 enters sum, sum of squares, maximum, minimum and number
unfoldable pub goko_noted : KLDivergenceStats → Float → KLDivergenceStats
goko_noted s kl =
    cond (lt (round binary64 false 1 (10 ^ 10)) kl)
    (record {
      max = cond (lt s.max kl) kl s.max;
      min = cond (lt kl s.min) kl s.min;
      nz_count = s.nz_count + 1;
      moment1_nz = fadd s.moment1_nz kl;
      moment2_nz = fadd s.moment2_nz (fmul kl kl);
      sequence_len = s.sequence_len;
    })
    s

unfoldable pub goko_noted_all : KLDivergenceStats → List Place → KLDivergenceStats
goko_noted_all s [] = s
goko_noted_all s (p ∷ ps) = goko_noted_all (goko_noted s p.value) ps

-- f64::MAX; f64::MIN is the same with a minus
abbrev pub max_of : Bool → Float
max_of minus = fin minus (2 ^ 53 - 1) (pos 971)

unfoldable pub goko_stats : ℕ → List Place → KLDivergenceStats
goko_stats len ps = goko_noted_all (record { max = max_of true; min = max_of false; nz_count = 0; moment1_nz = flt 0; moment2_nz = flt 0; sequence_len = len }) ps

-- `sequence_len`: the queue's length, or the number of paths where the queue is empty. It holds the last `window` paths, and with a window of 0 none
unfoldable pub goko_sequence_len : ℕ → ℕ → ℕ
goko_sequence_len window paths = let queued = cond (window == 0) 0 (min window paths) in cond (queued == 0) paths queued

-- ---- what the readings tell is what these give

-- the function has the table's values at whole numbers from 1 on
abbrev pub Tabled : (Float → Float) → List Float → Type 0
Tabled f t = (k : ℕ) → 1 ≤ k → k < length t → f (flt k) ≡ table_at t k

-- what a vector of goko's tells, and what its none does
abbrev pub vector_given : Output → Option FloatCounts → Telling VectorResult
vector_given o None = record { answer = nothing; output = o }
vector_given o (Some v) = record {
  answer = answered (record { places = length v.children; ending = v.singleton });
  output = lent_output
      (filled_addresses (map (λ (r : FloatRow). r.key) v.children) o.addresses)
      (filled_figures (map (λ (r : FloatRow). r.count) v.children) o.figures);
}

abbrev pub figure_given : Option Float → Reading Float
figure_given None = nothing
figure_given (Some x) = answered x

-- `kl_div_stats` of goko's list
abbrev pub stats_given : Tracker → Divergences → Reading Statistics
stats_given t d = answered (record { stats = goko_stats (goko_sequence_len t.window t.accepted) d.places; skipped = d.skipped })

-- whatever tracker, tables and priors are lent, and whatever ln gamma and digamma are between the whole numbers: a reading that is not refused tells what goko gives.
-- One that is refused by 14 is one for which goko has none, of one node, or panics, of all
abbrev pub GokoGivesTheSame : Type 0
GokoGivesTheSame =
    (t : Tracker) (book queue : List ℕ) (tables : LentTables) (priors : LentPriors) → All (λ b. b < 256) priors.nodes → All (λ b. b < 256) priors.children
    → (lnGamma digamma : Float → Float) → Tabled lnGamma tables.G → Tabled digamma tables.D
    → (rank : ℕ) (o : Output)
    → let s = seen_of t book queue in
    let prior = prior_of priors.nodes priors.children (layer_of priors.floor) in
    let evidence = evidence_of rank s.listed in
    let one = goko_node_kl lnGamma digamma (prior rank) evidence in
    let list = goko_all_kl lnGamma digamma prior s.listed in
    (reading_number (prob_asked s priors rank o).answer ≡ 0 → prob_asked s priors rank o ≡ vector_given o (goko_prob_vector (prior rank) evidence))
    × (reading_number (evidence_asked s rank o).answer ≡ 0 → evidence_asked s rank o ≡ vector_given o (goko_evidence_vector evidence))
    × (reading_number (kl_asked s tables priors rank) ≡ 0 → kl_asked s tables priors rank ≡ figure_given one)
    × (reading_number (all_asked s tables priors o).answer ≡ 0 → (d : Divergences) × (list ≡ Some d) × (all_asked s tables priors o ≡ all_telling o (answered d)))
    × (reading_number (stats_asked s tables priors) ≡ 0 → (d : Divergences) × (list ≡ Some d) × (stats_asked s tables priors ≡ stats_given t d))
    × (reading_number (kl_asked s tables priors rank) ≡ 14 → one ≡ None)
    × (reading_number (all_asked s tables priors o).answer ≡ 14 → list ≡ None)
    × (reading_number (stats_asked s tables priors) ≡ 14 → list ≡ None)
