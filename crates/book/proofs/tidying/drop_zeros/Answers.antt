-- What the pass leaves, and zeros to the end.
-- Assumes nothing.
use mathlib.Core.Path.{◌≡◌}
use mathlib.Core.List.{List, ◌++◌}
use Prim.Native.Nat.{ℕ, ◌*◌, ◌≤◌}
use native.Mathlib.Omega.{arith}
use borrow.Author.Rules.{rules}
use lib.ListN.{length, drop}
use Rattle.book.proofs.TidyLaws.{whole_length, passed_le, passed_rows, number_kept, cleared}
use Rattle.book.proofs.tidying.drop_zeros.Goals as goal

pub returns : goal.returns
returns c =
    let s₀ = c.args.book.now in
    let used = c.args.used in
    let front = c.close_gaps-n.new.entries in
    let n = c.close_gaps-n.result in
    let fits = c.requires.used_in_bounds in
    let s : List ℕ = front ++ drop (24 * used) s₀ in
    let len : length s ≡ length s₀ = whole_length s₀ used fits front (omega arith) in
    let low : n ≤ used = passed_le s₀ used fits front (omega arith) n c.close_gaps-n.ensures.upper_bound in
    let kept = passed_rows s₀ used fits front (omega arith) n c.close_gaps-n.ensures.upper_bound c.close_gaps-n.ensures.result_after in
    record {
      value = number_kept s₀ used c.requires.used_value s (search rules) len n (omega arith) kept;
      upper_bound = low;
      book_after = cleared s₀ used c.requires.used_value s (search rules) len n (omega arith) kept c.fill.new.self (c.fill.ensures.after (search rules));
    }
