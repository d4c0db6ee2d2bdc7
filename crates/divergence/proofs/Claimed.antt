-- The claim over lists of changes and readings, proved: an opening, an add, a list of paths or a tidy goes as book says of it, and a reading of a recount's image sees the form,
-- the nodes and the sequence length that the recount has. Assumes nothing.
use Rattle.std.proofs.Common.{◌≡◌, ℕ, Bool, cond, List, ◌∷◌, ◌++◌, length, sym, refl, ap, ◌∙◌}
use Rattle.book.specs.Recount.{sequence_length}
use Rattle.book.specs.Figures.{All}
use Rattle.book.specs.Claims as Book
use Rattle.book.specs.Calls.{Machine}
use Rattle.book.specs.Claims.{BookCall, opening, book_step, Recount, since, open_refusal, recount_step, image}
use Rattle.book.proofs.Window.{sequence_length_lem}
use Rattle.book.proofs.Kept.{Kept, since_ends, since_ranks}
use Rattle.book.proofs.FormImage.{rows_are, in_form_lem}
use Rattle.book.proofs.Simulation.{Alike, AllAlike, runs_first, runs_after, runs_image}
use Rattle.book.proofs.Claimed as Opened
use Rattle.divergence.specs.Nodes.{listed_nodes}
use Rattle.divergence.specs.RecountNodes.{recount_nodes}
use Rattle.divergence.specs.Readings.{form_refusal, nodes_of, sequence_len}
use Rattle.divergence.specs.Asked.{Seen, seen_of}
use Rattle.divergence.specs.Claims.{ReadingCall, Call, change, read, changed, reading, step, recount_seen, recounted, IsOpening, InBytes, Claim}
use Rattle.divergence.proofs.RecountNodeLaws.{listed_nodes_lem}

-- ---- a reading of a recount's image

module _ (r : Recount) (k : Kept r) where
  pub form_fits : form_refusal (image r).state (image r).book (image r).queue ≡ 0
  form_fits = ap (λ (b : Bool). cond b 0 9) (in_form_lem r k)

  pub nodes_are : nodes_of (image r).state (image r).book ≡ recount_nodes r.window r.paths (since r)
  unfolding image
  nodes_are = ap listed_nodes (rows_are r k) ∙ listed_nodes_lem r.window r.paths (since r) (since_ends r k) (since_ranks r k)

  pub length_is : sequence_len (image r).state ≡ sequence_length r.window r.paths
  unfolding image
  length_is = sym (sequence_length_lem r.window r.paths)

  seen_is : seen_of (image r).state (image r).book (image r).queue ≡ recount_seen r.window r.paths (since r)
  seen_is = λ i. record { form = form_fits i; listed = nodes_are i; sequence_length = length_is i }

  pub read_answer : (c : ReadingCall) → (step (image r) (read c)).0 ≡ (recounted r (read c)).0
  unfolding step recounted
  read_answer c = ap (λ (s : Seen). reading s c) seen_is

-- ---- one call, and any calls

-- a change: as book says of it
change_alike : (m : Machine) (r : Recount) (c : BookCall) → Alike book_step recount_step image Kept Book.InBytes m r c → Alike step recounted image Kept InBytes m r (change c)
unfolding step recounted
change_alike m r c a = (ap changed a.0, a.1, a.2)

step_image : (r : Recount) (c : Call) → Kept r → InBytes c → Alike step recounted image Kept InBytes (image r) r c
unfolding step recounted
step_image r (change c) k b = change_alike (image r) r c (Opened.step_image r c k b)
step_image r (read c) k b = (read_answer r k c, refl, k)

opening_answer : (m : Machine) (r : Recount) (c : Call) → IsOpening c → (step m c).0 ≡ (recounted r c).0
unfolding step recounted
opening_answer m r (change c) is = ap changed (Opened.opening_answer m r c is)
opening_answer m r (read c) is = absurd is

-- the claim, and that what is left is within the limits
pub claim_kept : (m : Machine) (r : Recount) (first : List Call) → All IsOpening first → (w : ℕ) (book queue : List ℕ) → open_refusal w (length book) (length queue) ≡ 0
    → (cs : List Call) → All InBytes cs → AllAlike step recounted image Kept InBytes m r (first ++ change (opening w book queue) ∷ cs)
claim_kept m r first openings w book queue e cs bytes = runs_first step recounted image Kept InBytes IsOpening opening_answer first (change (opening w book queue) ∷ cs) openings from m r
  where
    from : (m : Machine) (r : Recount) → AllAlike step recounted image Kept InBytes m r (change (opening w book queue) ∷ cs)
    from m r =
        let one : Alike step recounted image Kept InBytes m r (change (opening w book queue)) = change_alike m r (opening w book queue) (Opened.accepted_opening m r w book queue e) in
        runs_after step recounted image Kept InBytes step_image m r (change (opening w book queue)) one cs
        (runs_image step recounted image Kept InBytes step_image (recounted r (change (opening w book queue))).1 cs one.2 bytes)

pub claim : Claim
claim m r first openings w book queue e cs bytes = let all = claim_kept m r first openings w book queue e cs bytes in (all.0, all.1)
