-- The corollaries, proved: the claim says of which recount the machine is the image and which answers it gave, and without its readings a list of calls runs as its
-- changes do, of which W, H and the paths that list are read off. Assumes nothing.
use Rattle.std.proofs.Common.{◌≡◌, ℕ, ◌≤◌, List, [], ◌∷◌, ◌++◌, length, sym, refl, ap, ◌∙◌, zero-le, arith}
use Rattle.book.specs.Path.{Steps}
use Rattle.book.specs.Calls.{Machine, BookAnswer}
use Rattle.book.specs.Figures.{Whole, AllWhole, Ranks, AllRanks}
use Rattle.book.specs.Memory.{least, adds, numbers}
use Rattle.book.specs.Claims.{BookCall, opening, add, add_paths, tidy, book_step, Recount, since, restarted, tidied, recount_step, image, runs}
use Rattle.book.specs.Corollaries.{Heard, nothing_heard, heard_of}
use Rattle.book.proofs.Kept.{Kept, since_ends, since_ranks}
use Rattle.book.proofs.RefusalLaws.{open_number_lem}
use Rattle.book.specs.Batches.{places_in}
use Rattle.book.proofs.Corollaries.{heard_in, heard_runs, add_not_nine, batch_not_nine, told as book-told}
use Rattle.book.proofs.LeastLaws.{listing_least, needs_some, order_length, order_all, order_least}
use Rattle.book.proofs.MemoryLaws.{serves, lacks}
use Rattle.divergence.specs.Asked.{Seen}
use Rattle.divergence.specs.Claims.{called, ReadingCall, prob_vector, evidence_prob_vector, posterior_kl_divergence, all_node_kl, kl_div_stats, Call, change, read, Answer, reading, step, recount_seen, recounted}
use Rattle.divergence.specs.Corollaries.{changes_of, changed_answers, WithoutReadings, NeverNine, TotalsAreVisits, Corollary, Adds, numbers_of, MemoryToTheEntry}
use Rattle.divergence.proofs.NumberLaws.{reading_not_nine}
use Rattle.divergence.proofs.VisitedNodes.{evidence_visits, evidence_missing}
use Rattle.divergence.proofs.Claimed.{nodes_are, read_answer, claim_kept}

-- ---- readings leave no trace

-- an answer to a reading is none to a change
reading_passed : (s : Seen) (c : ReadingCall) (answers : List Answer) → changed_answers (reading s c ∷ answers) ≡ changed_answers answers
unfolding reading changed_answers
reading_passed s (prob_vector p scale point o) answers = refl
reading_passed s (evidence_prob_vector scale point o) answers = refl
reading_passed s (posterior_kl_divergence t p scale point) answers = refl
reading_passed s (all_node_kl t p o) answers = refl
reading_passed s (kl_div_stats t p) answers = refl

module _ {State : Type 0} (book : State → BookCall → BookAnswer × State) (seen : State → Seen) where
  -- without its readings a list has the same answers to the others, and leaves the same
  only_changes : (s : State) (cs : List Call)
      → (changed_answers (runs (called book seen) s cs).0 ≡ (runs book s (changes_of cs)).0) × ((runs (called book seen) s cs).1 ≡ (runs book s (changes_of cs)).1)
  unfolding runs changes_of changed_answers
  only_changes s [] = (refl, refl)
  only_changes s (change c ∷ cs) =
      let rest = only_changes (book s c).1 cs in
      (ap (λ (l : List BookAnswer). (book s c).0 ∷ l) rest.0, rest.1)
  only_changes s (read c ∷ cs) =
      let rest = only_changes s cs in
      (reading_passed (seen s) c (runs (called book seen) s cs).0 ∙ rest.0, rest.1)

pub without_readings : WithoutReadings
unfolding step
without_readings m cs = only_changes book_step _ m cs

-- ---- 9

never_nine : (r : Recount) (cs : List Call) → NeverNine cs (runs recounted r cs).0
unfolding runs recounted recount_step
never_nine r [] = tt
never_nine r (change (opening w book queue) ∷ cs) = never_nine (recount_step r (opening w book queue)).1 cs
never_nine r (change (add path) ∷ cs) = (add_not_nine r path, never_nine (recount_step r (add path)).1 cs)
never_nine r (change (add_paths places) ∷ cs) = (batch_not_nine r places (places_in places), never_nine (recount_step r (add_paths places)).1 cs)
never_nine r (change tidy ∷ cs) = (refl, never_nine (tidied r) cs)
never_nine r (read c ∷ cs) = (reading_not_nine r.window r.paths (since r) c, never_nine r cs)

-- ---- memory quoted to the entry

-- readings leave no trace, so the calls are answered and leave what the opening and the adds by themselves do
only_adds : (n : ℕ) (L : List Steps) (m : Machine) (cs : List Call) (a : Adds n L cs)
    → (numbers_of m cs ≡ numbers (runs book_step m (opening a.window a.book a.queue ∷ adds L)).0) × ((runs step m cs).1 ≡ (runs book_step m (opening a.window a.book a.queue ∷ adds L)).1)
only_adds n L m cs a =
    let plain = without_readings m cs in
    (ap numbers (plain.0 ∙ ap (λ (bs : List BookCall). (runs book_step m bs).0) a.changes), plain.1 ∙ ap (λ (bs : List BookCall). (runs book_step m bs).1) a.changes)

pub memory_to_the_entry : MemoryToTheEntry
memory_to_the_entry L whole ranks number = (
  needs_some L whole,
  λ L' o n some most m cs a.
      let whole' : AllWhole L' = order_all Whole o whole in
      let ranks' : AllRanks L' = order_all Ranks o ranks in
      let number' : length L' ≤ 16777216 = rw (order_length o) number in
      let same : least L' ≡ least L = order_least o ranks in
      let plain = only_adds n L' m cs a in (
        λ l. let s = serves m a.window a.book a.queue n a.window_le a.queue_serves some most a.book_length L' whole' ranks' number' (omega arith) in
            (rw plain.0 s.0, ap (λ (t : Machine). t.state.used) plain.1 ∙ s.1 ∙ same),
        λ l. rw plain.0 (lacks m a.window a.book a.queue n a.window_le a.queue_serves some most a.book_length L' whole' ranks' number' (omega arith)),
      ),
)

-- ---- what book and readings tell

totals : (r : Recount) → Kept r → TotalsAreVisits (image r) r.window r.paths
totals r k a =
    let listed = (book-told r k).node_listed a in
    (λ h. rw (nodes_are r k) (evidence_visits r.window r.paths (since r) (since_ends r k) (since_ranks r k) a (listed.0 h)), λ h. rw (nodes_are r k) (evidence_missing r.window r.paths (since r) (since_ends r k) (since_ranks r k) a (λ s. h (listed.1 s))))

pub corollary : Corollary
unfolding recounted
corollary m first openings w book queue e cs bytes =
    let none : Recount = restarted 0 0 0 in
    let all : List Call = first ++ change (opening w book queue) ∷ cs in
    let alike = claim_kept m none first openings w book queue (sym (open_number_lem w book queue) ∙ e) cs bytes in
    let last : Recount = (runs recounted none all).1 in
    let plain = only_changes recount_step (λ (r : Recount). recount_seen r.window r.paths (since r)) none all in
    let answers : changed_answers (runs step m all).0 ≡ (runs recount_step none (changes_of all)).0 = ap changed_answers alike.0 ∙ plain.0 in
    let heard : Heard = heard_of nothing_heard (changes_of all) (changed_answers (runs step m all).0) in
    let is : heard ≡ heard_in last = ap (heard_of nothing_heard (changes_of all)) answers ∙ heard_runs none zero-le (changes_of all) ∙ ap heard_in (sym plain.1) in
    let W-is : heard.window ≡ last.window = ap (λ (h : Heard). h.window) is in
    let H-is : heard.paths ≡ last.paths = ap (λ (h : Heard). h.paths) is in
    let L-is : heard.lists ≡ since last = ap (λ (h : Heard). h.lists) is in (
      rw (alike.1, W-is, H-is, L-is) (book-told last alike.2),
      rw (alike.1, W-is, H-is) (totals last alike.2),
      λ c. ap (λ (n : Machine). (step n (read c)).0) alike.1 ∙ read_answer last alike.2 c ∙ known last c _ _ _ W-is H-is L-is,
      rw alike.0 (never_nine none all),
      rw L-is (omega (arith, listing_least (since last) (since_ranks last alike.2), alike.2.listed_le, alike.2.sizes.book_le)),
      rw H-is (memory_to_the_entry last.paths alike.2.whole alike.2.ranks alike.2.paths_le),
    )
  where
    known : (r : Recount) (c : ReadingCall) (W : ℕ) (H L : List Steps) → W ≡ r.window → H ≡ r.paths → L ≡ since r → (recounted r (read c)).0 ≡ reading (recount_seen W H L) c
    known r c W H L p q l = rw (p, q, l)
