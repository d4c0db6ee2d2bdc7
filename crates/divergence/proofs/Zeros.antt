-- `≡` of figures is equality of their bits, any NaN equal to any NaN. And no reading tells minus zero: every sum of a divergence and of the statistics starts at plus
-- zero, and no term that is added or taken away makes minus zero of that; a probability is a quotient without a minus. Assumes nothing.
use Rattle.std.proofs.Common.{◌≡◌, ℕ, zero, suc, ◌+◌, ◌^◌, ◌<◌, Bool, true, false, cond, not, T, ltb, leb, List, [], ◌∷◌, ◌++◌, length, take, drop, sym, refl, ap, ◌∙◌, subst, inl, inr, true≢false}
use Rattle.std.specs.Prelude.{Option, None, Some}
use lib.ListN.{length-map}
use lib.Seq.{take-append_seam}
use lib.Ieee.{Float, nan, inf, fin, binary64, of_bits, to_bits, is_nan, fits, sub, neg, of_int, lt}
use lib.Ieee.Fits.{add-fits, mul-fits, neg-fits}
use lib.Ieee.Bits.{nan_bits_is, to_bits-of_bits}
use Rattle.priors.specs.Rows.{Row, count_of}
use Rattle.priors.specs.Tables.{tables_refusal, table_at, LentTables}
use Rattle.priors.specs.Priors.{LentPriors, layer_of, Counts, total, prior_of, priors_refusal}
use Rattle.book.specs.Figures.{All}
use Rattle.divergence.specs.declared.sums.Sums.{Sums}
use Rattle.std.specs.Prelude.{Result, Ok, Err}
use Rattle.priors.specs.declared.refusals.NodeReason.{NodeReason}
use Rattle.priors.specs.declared.refusals.NodeReason.TheVariants.{MissingChild, PastTable}
use Rattle.divergence.specs.declared.statistics.KLDivergenceStats.{KLDivergenceStats}
use Rattle.divergence.specs.Numbers.{fadd, fsub, fmul, flt, zero64, tiny64, min64, max64}
use Rattle.divergence.specs.Nodes.{Node, evidence_of}
use Rattle.divergence.specs.Probability.{figure, figures_of}
use Rattle.divergence.specs.Divergence.{no_sums, term, ending_term, prior_count, child_terms, no_less, closed, divergence, lacks_child, node_divergence}
use Rattle.divergence.specs.Statistics.{Place, Walk, stopped, walked, visited, walk, no_stats, counted, noted, stats_over}
use Rattle.divergence.specs.Readings.{Reading, refused, nothing, answered, unless, filled_figures, fitting, divergence_reading, of_listed, kl_reading, prob_reading, evidence_reading, Divergences, with_prior, walk_reading, all_listed, all_reading, values_of, stats_reading_of, stats_reading}
use Rattle.divergence.specs.Asked.{Seen, Output, room_in, vector_telling, all_telling, kl_asked, stats_asked}
use Rattle.divergence.specs.Zeros.{SameBits, EqualByBits, NotMinusZero, NoDivergenceIsMinusZero, NoProbabilityIsMinusZero, ToldWithout, figure_of, statistics_of, divergences_in, probabilities_in, TellingWithout, NoMinusZero}
use Rattle.divergence.proofs.Constants.{minus_is}
use Rattle.divergence.proofs.SignLaws.{sign_of, round_signed, add_minus, div_signed}

-- ---- equality of figures

one_nan : (x : Float) → is_nan x ≡ true → x ≡ nan
unfolding is_nan
one_nan nan h = refl
one_nan (inf s) h = absurd (true≢false (sym h))
one_nan (fin s m e) h = absurd (true≢false (sym h))

pub equal_by_bits : EqualByBits
equal_by_bits a b A B = (same, equal)
  where
    of_pattern : (n : ℕ) → n < 2 ^ 64 → is_nan (of_bits binary64 n) ≡ false → to_bits binary64 (of_bits binary64 n) ≡ n
    of_pattern n N h = to_bits-of_bits binary64 n N (subst (λ (b : Bool). T (not b)) (sym h) tt)

    go : (x : Bool) → is_nan (of_bits binary64 a) ≡ x → of_bits binary64 a ≡ of_bits binary64 b → SameBits a b
    go true h e = inr (nan_bits_is binary64 a ∙ h, nan_bits_is binary64 b ∙ ap is_nan (sym e) ∙ h)
    go false h e = inl (sym (of_pattern a A h) ∙ ap (to_bits binary64) e ∙ of_pattern b B (ap is_nan (sym e) ∙ h))

    same : of_bits binary64 a ≡ of_bits binary64 b → SameBits a b
    same e = go (is_nan (of_bits binary64 a)) refl e

    equal : SameBits a b → of_bits binary64 a ≡ of_bits binary64 b
    equal (inl e) = ap (of_bits binary64) e
    equal (inr (h, k)) = one_nan (of_bits binary64 a) (sym (nan_bits_is binary64 a) ∙ h) ∙ sym (one_nan (of_bits binary64 b) (sym (nan_bits_is binary64 b) ∙ k))

-- ---- figures that are not minus zero

-- a value of the format that is not minus zero
abbrev Clear : Float → Type 0
Clear x = T (fits binary64 x) × NotMinusZero x

zero_clear : Clear zero64
unfolding of_bits fits
zero_clear = (tt, λ e. true≢false (sym (ap sign_of e)))

max_clear : Clear max64
unfolding of_bits fits
max_clear = (tt, λ e. true≢false (sym (ap sign_of e)))

abbrev is_zero : Float → Bool
is_zero nan = false
is_zero (inf s) = false
is_zero (fin s zero e) = true
is_zero (fin s (suc m) e) = false

min_clear : Clear min64
unfolding of_bits fits
min_clear = (tt, λ e. true≢false (sym (ap is_zero e)))

clear_left : (x y : Float) → Clear x → T (fits binary64 y) → Clear (fadd x y)
clear_left x y h k = (add-fits binary64 x y, λ e. h.1 ((add_minus binary64 x y h.0 k (e ∙ minus_is)).0 ∙ sym minus_is))

clear_right : (x y : Float) → T (fits binary64 x) → Clear y → Clear (fadd x y)
clear_right x y h k = (add-fits binary64 x y, λ e. k.1 ((add_minus binary64 x y h k.0 (e ∙ minus_is)).1 ∙ sym minus_is))

clear_less : (x y : Float) → Clear x → T (fits binary64 y) → Clear (fsub x y)
unfolding sub
clear_less x y h k = clear_left x (neg y) h (neg-fits binary64 y k)

clear_cond : (b : Bool) (x y : Float) → Clear x → Clear y → Clear (cond b x y)
clear_cond true x y h k = h
clear_cond false x y h k = k

-- ---- divergences

module _ (G D : List Float) (T' : ℕ) where
  term_clear : (s : Sums) (a e : ℕ) → Clear s.dig → Clear (term G D T' s a e).dig
  unfolding term
  term_clear s a e h = clear_less s.dig (fmul (flt e) (fsub (table_at D a) (table_at D T'))) h (mul-fits binary64 (flt e) (fsub (table_at D a) (table_at D T')))

  ending_clear : (s : Sums) (a e : ℕ) → Clear s.dig → Clear (ending_term G D T' s a e).dig
  unfolding ending_term
  ending_clear s a e h = go (ltb 0 a)
    where
      go : (b : Bool) → Clear (cond b (term G D T' s a e) s).dig
      go true = term_clear s a e h
      go false = h

  children_clear : (prior : List Row) (s : Sums) (es : List Row) → Clear s.dig → Clear (child_terms G D T' prior s es).dig
  unfolding child_terms
  children_clear prior s [] h = h
  children_clear prior s (e ∷ es) h =
      let a = prior_count (count_of e.key prior) in
      children_clear prior (term G D T' s a e.count) es (term_clear s a e.count h)

closed_clear : (G : List Float) (t u : ℕ) (s : Sums) → Clear s.dig → Clear (closed G t u s)
unfolding closed no_less
closed_clear G t u s h =
    let before = fadd (fsub (fsub (table_at G t) s.mine) (table_at G u)) s.other in
    clear_cond (lt (fadd before s.dig) zero64) zero64 (fadd before s.dig) zero_clear
    (clear_right before s.dig (add-fits binary64 (fsub (fsub (table_at G t) s.mine) (table_at G u)) s.other) h)

divergence_clear : (G D : List Float) (p e : Counts) → Clear (divergence G D p e)
unfolding divergence
divergence_clear G D p e =
    let t = total p in
    let s = ending_term G D t no_sums p.ending e.ending in
    closed_clear G t (t + total e) (child_terms G D t p.children s e.children)
    (children_clear G D t p.children s e.children (ending_clear G D t no_sums p.ending e.ending zero_clear))

pub no_divergence : NoDivergenceIsMinusZero
no_divergence G D p e = (divergence_clear G D p e).1

-- ---- probabilities

pub no_probability : NoProbabilityIsMinusZero
unfolding of_int
no_probability count whole e =
    true≢false (sym (ap sign_of (e ∙ minus_is)) ∙ div_signed binary64 (flt count) (flt whole) (round_signed binary64 false count 1) (round_signed binary64 false whole 1))

-- ---- one node, and the walk over the listed nodes

abbrev ClearNode : (Result (Option Float) NodeReason) → Type 0
ClearNode (Ok (Some x)) = Clear x
ClearNode (Ok None) = Unit {0}
ClearNode (Err MissingChild) = Unit {0}
ClearNode (Err PastTable) = Unit {0}

abbrev ClearWalk : Walk → Type 0
ClearWalk (stopped n node) = Unit {0}
ClearWalk (walked ps k) = All (λ (p : Place). Clear p.value) ps

visited_clear : (node : ℕ) (d : (Result (Option Float) NodeReason)) (w : Walk) → ClearNode d → ClearWalk w → ClearWalk (visited node d w)
visited_clear node (Ok (Some x)) (stopped n m) h k = tt
visited_clear node (Ok (Some x)) (walked ps j) h k = (h, k)
visited_clear node (Ok None) (stopped n m) h k = tt
visited_clear node (Ok None) (walked ps j) h k = k
visited_clear node (Err MissingChild) w h k = tt
visited_clear node (Err PastTable) w h k = tt

module _ (G D : List Float) where
  node_clear : (prior : Option Counts) (e : Counts) → ClearNode (node_divergence G D prior e)
  unfolding node_divergence
  node_clear None e = tt
  node_clear (Some p) e = go (lacks_child p.children e.children) (leb (length G) (total p + total e))
    where
      go : (b c : Bool) → ClearNode (cond b (Err MissingChild) (cond c (Err PastTable) (Ok (Some (divergence G D p e)))))
      go true c = tt
      go false true = tt
      go false false = divergence_clear G D p e

  walk_clear : (nodes children : List ℕ) (layer : ℕ) (ns : List Node) → ClearWalk (walk G D nodes children layer ns)
  unfolding walk
  walk_clear nodes children layer [] = tt
  walk_clear nodes children layer (n ∷ ns) =
      visited_clear n.address (node_divergence G D (prior_of nodes children layer n.address) n.evidence) (walk G D nodes children layer ns)
      (node_clear (prior_of nodes children layer n.address) n.evidence) (walk_clear nodes children layer ns)

-- ---- statistics

record ClearStats (s : KLDivergenceStats) : Type 0 where
  max_is : Clear s.max
  min_is : Clear s.min
  sum_is : Clear s.moment1_nz
  squares_are : Clear s.moment2_nz

noted_clear : (s : KLDivergenceStats) (x : Float) → ClearStats s → Clear x → ClearStats (noted s x)
unfolding noted counted
noted_clear s x h k = go (lt tiny64 x)
  where
    go : (b : Bool) → ClearStats (cond b (counted s x) s)
    go true = record {
      max_is = clear_cond (lt s.max x) x s.max k h.max_is;
      min_is = clear_cond (lt x s.min) x s.min k h.min_is;
      sum_is = clear_left s.moment1_nz x h.sum_is k.0;
      squares_are = clear_left s.moment2_nz (fmul x x) h.squares_are (mul-fits binary64 x x);
    }
    go false = h

stats_clear : (s : KLDivergenceStats) (ps : List Place) → ClearStats s → All (λ (p : Place). Clear p.value) ps → ClearStats (stats_over s ps)
unfolding stats_over
stats_clear s [] h k = h
stats_clear s (p ∷ ps) h k = stats_clear (noted s p.value) ps (noted_clear s p.value h k.0) k.1

-- ---- what readings tell

-- the places that are filled hold what they are filled with
filled_without : (values lent : List Float) (n : ℕ) → length values ≡ n → All NotMinusZero values → All NotMinusZero (take n (filled_figures values lent))
unfolding filled_figures
filled_without values lent n e h =
    subst (All NotMinusZero) (sym (ap (λ (k : ℕ). take k (values ++ drop (length values) lent)) (sym e) ∙ take-append_seam values (drop (length values) lent))) h

module _ {X : Type 0} (figures : X → List Float) where
  told_unless : (n : ℕ) (r : Reading X) → ToldWithout figures r → ToldWithout figures (unless n r)
  told_unless zero r h = h
  told_unless (suc n) r h = tt

  checked : (a b c : ℕ) (r : Reading X) → ToldWithout figures r → ToldWithout figures (unless a (unless b (unless c r)))
  checked a b c r h = told_unless a (unless b (unless c r)) (told_unless b (unless c r) (told_unless c r h))

  told_fitting : (places have : ℕ) (r : Reading X) → ToldWithout figures r → ToldWithout figures (fitting places have r)
  told_fitting places have r h = go (ltb have places)
    where
      go : (b : Bool) → ToldWithout figures (cond b (refused 13 None) r)
      go true = tt
      go false = h

-- ---- the readings

rows_without : (whole : ℕ) (rs : List Row) → All NotMinusZero (figures_of whole rs)
rows_without whole [] = tt
rows_without whole (r ∷ rs) = (no_probability r.count whole, rows_without whole rs)

vector_told_lem : (o : Output) (r : Reading Counts) → TellingWithout probabilities_in (vector_telling o r)
vector_told_lem o (refused n at) = tt
vector_told_lem o nothing = tt
vector_told_lem o (answered c) = (
  no_probability c.ending (total c),
  filled_without (figures_of (total c) c.children) o.figures (length c.children) (length-map c.children (λ (r : Row). figure r.count (total c))) (rows_without (total c) c.children),
)

values_without : (ps : List Place) → All (λ (p : Place). Clear p.value) ps → All NotMinusZero (values_of ps)
values_without [] h = tt
values_without (p ∷ ps) h = (h.0.1, values_without ps h.1)

walk_told : (w : Walk) → ClearWalk w → ToldWithout (λ (a : Divergences). values_of a.places) (walk_reading w)
walk_told (stopped n node) h = tt
walk_told (walked ps k) h = values_without ps h

walk_stats : (sequence_length : ℕ) (w : Walk) → ClearWalk w → ToldWithout statistics_of (stats_reading_of sequence_length w)
walk_stats sequence_length (stopped n node) h = tt
walk_stats sequence_length (walked ps k) h =
    let None : ClearStats (no_stats sequence_length) = record { max_is = min_clear; min_is = max_clear; sum_is = zero_clear; squares_are = zero_clear } in
    let c = stats_clear (no_stats sequence_length) ps None h in
    (c.max_is.1, (c.min_is.1, (c.sum_is.1, (c.squares_are.1, tt))))

module _ (s : Seen) (t : LentTables) (p : LentPriors) (rank : ℕ) (o : Output) where
  one_told : ToldWithout figure_of (kl_asked s t p rank)
  unfolding kl_reading
  one_told = checked figure_of (tables_refusal t.G t.D) (priors_refusal p.nodes p.children (layer_of p.floor)) s.form (of_listed t.G t.D p.nodes p.children (layer_of p.floor) rank (evidence_of rank s.listed)) (of_listed_lem (evidence_of rank s.listed))
    where
      of_node : (d : (Result (Option Float) NodeReason)) → ClearNode d → ToldWithout figure_of (divergence_reading rank d)
      of_node (Ok (Some x)) h = (h.1, tt)
      of_node (Ok None) h = tt
      of_node (Err MissingChild) h = tt
      of_node (Err PastTable) h = tt

      of_listed_lem : (e : Option Counts) → ToldWithout figure_of (of_listed t.G t.D p.nodes p.children (layer_of p.floor) rank e)
      of_listed_lem None = tt
      of_listed_lem (Some e) = of_node (node_divergence t.G t.D (prior_of p.nodes p.children (layer_of p.floor) rank) e) (node_clear t.G t.D (prior_of p.nodes p.children (layer_of p.floor) rank) e)

  abbrev walked_over : Walk
  walked_over = walk t.G t.D p.nodes p.children (layer_of p.floor) s.listed

  walked_clear : ClearWalk walked_over
  walked_clear = walk_clear t.G t.D p.nodes p.children (layer_of p.floor) s.listed

  all_told : ToldWithout (λ (a : Divergences). values_of a.places) (all_reading s.form t.G t.D p.nodes p.children (layer_of p.floor) s.listed (room_in o))
  unfolding all_reading
  all_told =
      checked (λ (a : Divergences). values_of a.places) (tables_refusal t.G t.D) (priors_refusal p.nodes p.children (layer_of p.floor)) s.form
      (all_listed t.G t.D p.nodes p.children (layer_of p.floor) s.listed (room_in o))
      (told_fitting (λ (a : Divergences). values_of a.places) (with_prior p.nodes p.children (layer_of p.floor) s.listed) (room_in o) (walk_reading walked_over) (walk_told walked_over walked_clear))

  stats_told : ToldWithout statistics_of (stats_asked s t p)
  unfolding stats_reading
  stats_told =
      checked statistics_of (tables_refusal t.G t.D) (priors_refusal p.nodes p.children (layer_of p.floor)) s.form (stats_reading_of s.sequence_length walked_over)
      (walk_stats s.sequence_length walked_over walked_clear)

-- what is told of all nodes fills the output
all_filled : (o : Output) (r : Reading Divergences) → ToldWithout (λ (a : Divergences). values_of a.places) r → TellingWithout divergences_in (all_telling o r)
all_filled o (refused n at) h = tt
all_filled o nothing h = tt
all_filled o (answered a) h = filled_without (values_of a.places) o.figures (length a.places) (length-map a.places (λ (p : Place). p.value)) h

pub no_minus_zero : NoMinusZero
no_minus_zero s t p rank o = (
  one_told s t p rank o,
  all_filled o (all_reading s.form t.G t.D p.nodes p.children (layer_of p.floor) s.listed (room_in o)) (all_told s t p rank o),
  stats_told s t p rank o,
  vector_told_lem o (prob_reading s.form p.nodes p.children (layer_of p.floor) s.listed rank (room_in o)),
  vector_told_lem o (evidence_reading s.form s.listed rank (room_in o)),
)
