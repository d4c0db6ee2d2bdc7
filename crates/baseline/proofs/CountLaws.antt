-- The statistics over the nodes of the used entries are the book's. Assumes nothing.
use mathlib.Core.Path.{◌≡◌, sym, ap, ◌∙◌}
use Prim.Native.Nat.{ℕ, ◌-◌}
use native.Mathlib.Omega.{arith}
use mathlib.Core.List.{List}
use Rattle.entries.specs.Entries.{rows}
use Rattle.divergence.specs.Nodes.{Node, listed_nodes}
use Rattle.divergence.specs.Parts.{nodes_from}
use Rattle.divergence.specs.Statistics.{walk}
use Rattle.divergence.specs.Readings.{Reading, Statistics, stats_reading_of}
use Rattle.baseline.specs.declared.training.Training.{Training}
use Rattle.baseline.specs.Training.{recorded}
use Rattle.baseline.specs.Courses.{lent_in, book_stats}

module _ (t : Training) (paths : ℕ) where
  abbrev read : List Node → Reading Statistics
  read ns = stats_reading_of paths (walk t.by.tables.g.now t.by.tables.d.now t.by.priors.nodes.now t.by.priors.children.now t.by.priors.layer ns)

  pub stats_read : (book : List ℕ) (used : ℕ) (ns : List Node) → ns ≡ nodes_from book 0 used → (r : Reading Statistics) → r ≡ read ns → book_stats (lent_in t) (rows book used) paths ≡ recorded r
  unfolding book_stats
  stats_read book used ns all r is =
      let e : used - 0 ≡ used = omega arith in
      ap (λ (layer : ℕ). recorded (stats_reading_of paths (walk t.by.tables.g.now t.by.tables.d.now t.by.priors.nodes.now t.by.priors.children.now layer (listed_nodes (rows book used))))) t.floored
      ∙ ap recorded (sym (is ∙ ap read all ∙ ap (λ (n : ℕ). read (listed_nodes (rows book n))) e))
