-- W, H and L, read off the answers, are the recount's, and the rows of its image tell what its paths hold; and what single calls leave. Assumes nothing.
use mathlib.Core.Path.{◌≡◌, refl, sym, ap, ap₂, ◌∙◌}
use Prim.Native.Nat.{ℕ, zero, suc, ◌+◌, ◌*◌, ◌/◌, ◌%◌, ◌≤◌}
use native.Mathlib.Numerals.{add-one}
use native.Mathlib.Omega.{arith}
use mathlib.Core.List.{List, [], ◌∷◌, ◌++◌, append-nil, append_assoc}
use Rattle.std.specs.Prelude.{Option, None, Some}
use mathlib.Core.Bool.{Bool, true, false, cond, ◌&&◌}
use lib.Dec.{leb, ltb, eqb}
use lib.ListN.{length, drop}
use mathlib.Core.Logic.{◌↔◌}
use Rattle.priors.specs.Rows.{look, count_of}
use Rattle.priors.proofs.Exactly.{look_exact}
use Rattle.entries.specs.Keys.{end_key, child_key}
use Rattle.book.specs.Path.{Steps, path_of, step_bytes}
use Rattle.book.specs.Calls.{Machine, unless_refused, open_book, open_queue, add_state, add_book, add_queue}
use Rattle.book.specs.Batches.{Batched, lent_path, places_in, lent_paths, tried, batched}
use Rattle.book.specs.Tidy.{tidy_state, tidy_book}
use Rattle.book.specs.Recount.{occurrences, window_part, before_window, listing, rows_of}
use Rattle.book.specs.Figures.{AllWhole, Ranks, AllRanks, total, transitions, endings, Listed}
use Rattle.book.specs.Claims.{BookCall, opening, add, add_paths, tidy, runs, book_step, Recount, since, open_refusal, add_refusal, restarted, joined, joined_by, tidied, recount_step, image}
use Rattle.book.specs.Corollaries.{Heard, heard_more, heard_taken, heard_with, heard_of, NoTidy, AllListWithoutTidies, HasRow, Told, OpeningStartsAfresh, RefusedOpeningLeavesAll, RefusedAddLeavesAll, RefusedTidyLeavesAll, FormReadsNoOther}
use Rattle.book.proofs.Passes.{found}
use Rattle.book.proofs.Meaning.{look_ending, look_child, node_listed, child_listed_iff}
use Rattle.book.proofs.VisitLaws.{all_counts_lem, total_visits, total_none, never_visited}
use Rattle.book.proofs.Image.{ascends_rows}
use Rattle.book.proofs.LeastLaws.{listing_least, least_le}
use Rattle.book.proofs.Window.{EndsWith}
use Rattle.book.proofs.BaseLaws.{drop_before, before_all}
use Rattle.book.proofs.Kept.{Early, Kept, since_ends, since_whole, since_ranks, since_joined, early_batch, early_step, all_snoc, kept_tidied}
use Rattle.book.proofs.BatchLaws.{batch_taken}
use Rattle.book.proofs.FormLaws.{form_reads}
use Rattle.book.proofs.FormImage.{book_size_lem, rows_are, add_number_lem}
use Rattle.book.proofs.Claimed.{opened, tidy_leaves}
use Rattle.book.proofs.RefusalLaws.{add_fits}

-- ---- W, H and L

abbrev pub heard_in : Recount → Heard
heard_in r = record { window = r.window; paths = r.paths; lists = since r }

unless_field : {X Y : Type 0} (f : X → Y) (n : ℕ) (a b : X) → f (unless_refused n a b) ≡ unless_refused n (f a) (f b)
unless_field f zero a b = refl
unless_field f (suc n) a b = refl

-- a path that joins H joins what lists
heard_joined : (r : Recount) → Early r → (p : Steps) → heard_more (heard_in r) (p ∷ []) ≡ heard_in (joined r p)
heard_joined r e p = λ i. record { window = r.window; paths = r.paths ++ p ∷ []; lists = sym (since_joined r e p) i }

heard_more_lem : (h : Heard) (ps qs : List Steps) → heard_more h (ps ++ qs) ≡ heard_more (heard_more h ps) qs
heard_more_lem h ps qs = λ i. record { window = h.window; paths = sym (append_assoc h.paths ps qs) i; lists = sym (append_assoc h.lists ps qs) i }

heard_none : (h : Heard) → h ≡ heard_more h []
heard_none h = λ i. record { window = h.window; paths = sym (append-nil h.paths) i; lists = sym (append-nil h.lists) i }

-- the paths of a list that were taken have joined
heard_batch : (r : Recount) → Early r → (places : List ℕ) (k : ℕ) → let b = batched add_refusal joined_by r places k in heard_more (heard_in r) (lent_paths places b.taken) ≡ heard_in b.left
unfolding batched lent_paths
heard_batch r e places zero = sym (heard_none (heard_in r))
heard_batch r e places (suc k) =
    go (batched add_refusal joined_by r places k) (heard_batch r e places k) (batch_taken add_refusal joined_by r places k) (early_batch r places e k)
  where
    one : (b : Batched Recount) → heard_more (heard_in r) (lent_paths places b.taken) ≡ heard_in b.left → b.taken ≡ k → Early b.left → (n : ℕ)
        → heard_more (heard_in r) (lent_paths places (unless_refused n (b.taken + 1) b.taken)) ≡ heard_in (unless_refused n (joined b.left (path_of (lent_path places k))) b.left)
    one b h t l zero =
        ap (λ (m : ℕ). heard_more (heard_in r) (lent_paths places m)) (add-one b.taken ∙ ap suc t)
        ∙ heard_more_lem (heard_in r) (lent_paths places k) (path_of (lent_path places k) ∷ [])
        ∙ ap (λ (m : ℕ). heard_more (heard_more (heard_in r) (lent_paths places m)) (path_of (lent_path places k) ∷ [])) (sym t)
        ∙ ap (λ (x : Heard). heard_more x (path_of (lent_path places k) ∷ [])) h
        ∙ heard_joined b.left l (path_of (lent_path places k))
    one b h t l (suc n) = h

    turn : (b : Batched Recount) → heard_more (heard_in r) (lent_paths places b.taken) ≡ heard_in b.left → Early b.left → (n : ℕ) → (n ≡ 0 → b.taken ≡ k)
        → let c = unless_refused n (tried add_refusal joined_by b (lent_path places k)) b in heard_more (heard_in r) (lent_paths places c.taken) ≡ heard_in c.left
    turn b h l zero t = one b h (t refl) l (add_refusal b.left (lent_path places k))
    turn b h l (suc n) t = h

    go : (b : Batched Recount) → heard_more (heard_in r) (lent_paths places b.taken) ≡ heard_in b.left → (b.number ≡ 0 → b.taken ≡ k) → Early b.left
        → let c = unless_refused b.number (tried add_refusal joined_by b (lent_path places k)) b in heard_more (heard_in r) (lent_paths places c.taken) ≡ heard_in c.left
    go b h t l = turn b h l b.number t

-- what one call makes of them is what it makes of the recount's
heard_step : (r : Recount) → Early r → (c : BookCall) → heard_with (heard_in r) c (recount_step r c).0 ≡ heard_in (recount_step r c).1
unfolding recount_step
heard_step r e (opening w book queue) = sym (unless_field heard_in (open_refusal w (length book) (length queue)) (restarted w (length book) (length queue)) r)
heard_step r e (add path) =
    (λ i. unless_refused (add_refusal r path) (heard_joined r e (path_of path) i) (heard_in r))
    ∙ sym (unless_field heard_in (add_refusal r path) (joined r (path_of path)) r)
heard_step r e (add_paths places) = heard_batch r e places (places_in places)
heard_step r e tidy = λ i. record { window = r.window; paths = r.paths; lists = sym (drop_before r.window r.paths) i }

pub heard_runs : (r : Recount) → Early r → (cs : List BookCall) → heard_of (heard_in r) cs (runs recount_step r cs).0 ≡ heard_in (runs recount_step r cs).1
unfolding runs heard_of
heard_runs r e [] = refl
heard_runs r e (c ∷ cs) =
    let after = (recount_step r c).1 in
    ap (λ (h : Heard). heard_of h cs (runs recount_step after cs).0) (heard_step r e c) ∙ heard_runs after (early_step r c e) cs

pub all_list_without_tidies : AllListWithoutTidies
unfolding heard_of
all_list_without_tidies h e [] n answers = e
all_list_without_tidies h e (c ∷ cs) n [] = e
all_list_without_tidies h e (c ∷ cs) n (a ∷ answers) = all_list_without_tidies (heard_with h c a) (one c n.0) cs n.1 answers
  where
    unless : (k : ℕ) (x : Heard) → x.lists ≡ x.paths → (unless_refused k x h).lists ≡ (unless_refused k x h).paths
    unless zero x q = q
    unless (suc k) x q = e

    more : (t : Option ℕ) (places : List ℕ) → (heard_taken h places t).lists ≡ (heard_taken h places t).paths
    more None places = e
    more (Some k) places = ap (λ (P : List Steps). P ++ lent_paths places k) e

    one : (c : BookCall) → NoTidy c → (heard_with h c a).lists ≡ (heard_with h c a).paths
    one (opening w book queue) t = unless a.number (record { window = w; paths = []; lists = [] }) refl
    one (add path) t = unless a.number (heard_more h (path_of path ∷ [])) (ap (λ (P : List Steps). P ++ path_of path ∷ []) e)
    one (add_paths places) t = more a.taken places
    one tidy t = absurd t

-- ---- 9

pub add_not_nine : (r : Recount) (path : List ℕ) → add_refusal r path ≡ 9 → ⊥
unfolding add_refusal
add_not_nine r path = go (leb 8 (length path) && (leb (length path) 512 && eqb (length path % 8) 0)) (ltb (length r.paths) 16777216) (leb (length (listing (since r ++ path_of path ∷ []))) (r.book_size / 24))
  where
    go : (a b c : Bool) → ◌≡◌ {A = ℕ} (cond a (cond b (cond c 0 12) 11) 10) 9 → ⊥
    go true true true h = omega arith
    go true true false h = omega arith
    go true false c h = omega arith
    go false b c h = omega arith

pub batch_not_nine : (r : Recount) (places : List ℕ) (k : ℕ) → (batched add_refusal joined_by r places k).number ≡ 9 → ⊥
unfolding batched
batch_not_nine r places zero h = omega arith
batch_not_nine r places (suc k) h = turn (batched add_refusal joined_by r places k) (batch_not_nine r places k) (batched add_refusal joined_by r places k).number h
  where
    turn : (b : Batched Recount) → (b.number ≡ 9 → ⊥) → (n : ℕ) → (unless_refused n (tried add_refusal joined_by b (lent_path places k)) b).number ≡ 9 → ⊥
    turn b never zero e = add_not_nine b.left (lent_path places k) e
    turn b never (suc n) e = never e

-- ---- what the book tells

-- paths left out have at least as many steps as they are
fewer_steps : (n : ℕ) (H : List Steps) → AllWhole H → length H + 2 * total length (drop n H) ≤ 2 * total length H + length (drop n H)
unfolding total
fewer_steps zero H w = omega arith
fewer_steps (suc n) [] w = omega arith
fewer_steps (suc n) (p ∷ H) w = omega (arith, w.0.0, fewer_steps n H w.1)

-- with a window of 0 no path lies before the window part
none_before : (r : Recount) → Early r → r.window ≡ 0 → tidied r ≡ r
none_before r e z =
    let same : before_window r.window r.paths ≡ r.base = omega (arith, e, ap (λ (W : ℕ). before_window W r.paths) z, before_all r.paths) in
    λ i. record { window = r.window; paths = r.paths; base = same i; book_size = r.book_size; queue_size = r.queue_size }

found_is : (n c d : ℕ) → found n c ≡ Some d → d ≡ c
found_is zero c d h = let z : ◌≡◌ {A = ℕ} 0 1 = cc in absurd (omega arith)
found_is (suc n) c d h = cc

-- a look-up by exact key finds what a search of the recount's rows does, since they ascend
exact : (W : ℕ) (H L : List Steps) (j : ℕ) → look j (rows_of W H L) ≡ count_of j (rows_of W H L)
exact W H L j = look_exact j 0 (rows_of W H L) (ascends_rows W H L)

exactly : (W : ℕ) (H L : List Steps) (j : ℕ) {X : Type 0} → Listed j (rows_of W H L) ↔ X → HasRow j (rows_of W H L) ↔ X
exactly W H L j e = (λ h. e.0 (h.0, exact W H L j ∙ h.1), λ x. let l = e.1 x in (l.0, sym (exact W H L j) ∙ l.1))

pub told : (r : Recount) → Kept r → Told (image r) r.window r.paths (since r)
unfolding image recount_step
told r k = record {
  transition_listed = λ a b h. rw (rows_are r k) (exactly W H L (child_key a b) (child_listed_iff W H L ends ranks a b h));
  transition_count = λ a b h c e. found_is (total (transitions a b) L) (total (transitions a b) (window_part W H)) c (sym (look_child W H L ends ranks a b h) ∙ exact W H L (child_key a b) ∙ (rw (rows_are r k) at e));
  node_listed = λ a. rw (rows_are r k) (exactly W H L (end_key a) (node_listed W H L ends ranks a));
  ending_count = λ a c e. found_is (total (occurrences a) L) (total (endings a) (window_part W H)) c (sym (look_ending W H L ends ranks a) ∙ exact W H L (end_key a) ∙ (rw (rows_are r k) at e));
  used_least = listing_least L ranks;
  used_le = omega (arith, listing_least L ranks, least_le L (since_whole r k), fewer_steps r.base H k.whole);
  twelve = λ p w h l. add_number_lem r k (step_bytes p) ∙ add_fits r p w h l ∙ ap₂ (λ (a b : ℕ). cond (leb a (b / 24)) 0 12) (listing_least (L ++ p ∷ []) (all_snoc Ranks L p ranks h)) (sym (book_size_lem r k));
  tidy_again = ap (λ (m : Machine). (book_step m tidy).1) (tidy_leaves r k) ∙ tidy_leaves (tidied r) (kept_tidied r k) ∙ sym (tidy_leaves r k);
  tidy_of_all = λ z. tidy_leaves r k ∙ ap image (none_before r k.early z);
  total_visits = λ a. rw (rows_are r k) (total_visits W H L ends ranks a);
  total_none = λ a. rw (rows_are r k) (total_none W H L ends ranks a);
  unlisted = λ a h. never_visited W H L ends a (λ s. h (rw (rows_are r k) ((exactly W H L (end_key a) (node_listed W H L ends ranks a)).1 s)));
  all_counted = rw (rows_are r k) (all_counts_lem W H L ends);
}
  where
    W : ℕ
    W = r.window

    H : List Steps
    H = r.paths

    L : List Steps
    L = since r

    ends : EndsWith W H L
    ends = since_ends r k

    ranks : AllRanks L
    ranks = since_ranks r k

-- ---- single calls

pub opening_starts_afresh : OpeningStartsAfresh
opening_starts_afresh m w book queue e = opened m (restarted 0 0 0) w book queue ∙ rw e

pub refused_opening_leaves_all : RefusedOpeningLeavesAll
unfolding open_book open_queue
refused_opening_leaves_all m w book queue n e = (opened m (restarted 0 0 0) w book queue ∙ rw e, rw e, rw e)

pub refused_add_leaves_all : RefusedAddLeavesAll
unfolding book_step add_state add_book add_queue
refused_add_leaves_all m path n e = rw e

pub refused_tidy_leaves_all : RefusedTidyLeavesAll
unfolding book_step tidy_state tidy_book
refused_tidy_leaves_all m n e = rw e

-- ---- the form

pub form_reads_no_other : FormReadsNoOther
form_reads_no_other = form_reads
