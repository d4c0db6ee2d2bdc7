-- A list of paths, place after place: one more that is taken, one that is refused, and the end; and what two such lists have in common, step by step. Assumes nothing.
use mathlib.Core.Path.{◌≡◌, refl, sym, ap, ◌∙◌, subst}
use mathlib.Core.Logic.{⊎_elim}
use mathlib.Core.Bool.{Bool, true, false, cond}
use Prim.Native.Nat.{ℕ, zero, suc, ◌+◌, ◌*◌, ◌/◌, ◌%◌, ◌≤◌, ◌<◌, min}
use native.Mathlib.Nat.{eq-or-lt_of_le}
use native.Mathlib.Numerals.{add-one}
use native.Mathlib.Omega.{arith}
use mathlib.Core.List.{List, []}
use lib.Dec.{leb}
use lib.ListN.{length, take, drop}
use Rattle.std.specs.Prelude.{Result, Ok, Err, MatchResult, if◌then◌else◌}
use Rattle.priors.specs.Word.{word}
use Rattle.priors.specs.declared.refusals.Reason.{Reason}
use Rattle.priors.specs.Refusals.{reason_number, checked_number}
use Rattle.priors.proofs.RuleLaws.{reason_some}
use Rattle.book.specs.declared.trackers.Tracker.{Tracker}
use Rattle.book.specs.declared.trackers.Stopped.{Stopped}
use Rattle.book.specs.Form.{in_form}
use Rattle.book.specs.Figures.{All}
use Rattle.book.specs.Calls.{Machine, unless_refused, state_after, book_after, queue_with}
use Rattle.book.specs.Batches.{Batched, path_in, lent_path, places_in, tried, nothing_tried, batched, next_number, with_path, batch_of, batch_told, batch_answer, batched_answer}
use Rattle.book.specs.Adding.{Gone}
use Rattle.book.proofs.Window.{all_take, all_drop}
use Rattle.book.proofs.CallLaws.{passes, fails}
use Rattle.book.proofs.GoingLaws.{machine}

-- ---- lent places

-- a path is bytes as the places are
pub path_bytes : (places : List ℕ) (k : ℕ) → All (λ b. b < 256) places → All (λ b. b < 256) (path_in places k)
unfolding path_in
path_bytes places k h = go (leb (word places (516 * k)) 64)
  where
    go : (b : Bool) → All (λ b. b < 256) (cond b (take (8 * word places (516 * k)) (drop (516 * k + 4) places)) [])
    go true = all_take (λ b. b < 256) (8 * word places (516 * k)) (drop (516 * k + 4) places) (all_drop (λ b. b < 256) (516 * k + 4) places h)
    go false = tt

pub lent_bytes : (places : List ℕ) (k : ℕ) → All (λ b. b < 256) places → All (λ b. b < 256) (lent_path places k)
unfolding lent_path
lent_bytes places k h = go (leb (516 * k + 516) (length places))
  where
    go : (b : Bool) → All (λ b. b < 256) (cond b (path_in places k) [])
    go true = path_bytes places k h
    go false = tt

-- ---- any adds

-- k paths taken, and none refused so far
abbrev pub so_far : {S : Type 0} → ℕ → S → Batched S
so_far k x = record { number = 0; taken = k; left = x }

module _ {S : Type 0} (refusal : S → List ℕ → ℕ) (after : S → List ℕ → S) (s : S) (places : List ℕ) where
  abbrev up_to : ℕ → Batched S
  up_to = batched refusal after s places

  module _ (k : ℕ) (x : S) (e : up_to k ≡ so_far k x) where
    next : up_to (suc k) ≡ tried refusal after (so_far k x) (lent_path places k)
    unfolding batched
    next = ap (λ (b : Batched S). unless_refused b.number (tried refusal after b (lent_path places k)) b) e

    stays : (b : Batched S) (n : ℕ) → b.number ≡ suc n → up_to (suc k) ≡ b → (m : ℕ) → suc k ≤ m → up_to m ≡ b
    unfolding batched
    stays b n r f zero l = absurd (omega arith)
    stays b n r f (suc m) l =
        ⊎_elim (λ q. ap up_to (sym q) ∙ f)
        (λ q. ap (λ (y : Batched S). unless_refused y.number (tried refusal after y (lent_path places m)) y) (stays b n r f m (omega arith)) ∙ ap (λ (j : ℕ). unless_refused j (tried refusal after b (lent_path places m)) b) r)
        (eq-or-lt_of_le l)

    pub batch_on : refusal x (lent_path places k) ≡ 0 → up_to (k + 1) ≡ so_far (k + 1) (after x (lent_path places k))
    batch_on h = ap up_to (add-one k) ∙ next ∙ rw h

    pub batch_stopped : (n : ℕ) → refusal x (lent_path places k) ≡ suc n → 516 * k < length places → up_to (places_in places) ≡ record { number = suc n; taken = k; left = x }
    batch_stopped n h l = stays (record { number = suc n; taken = k; left = x }) n refl (next ∙ rw h) (places_in places) (omega arith)

  -- what holds at the start, and after each path that is taken, holds of what is left
  pub batch_keeps : (P : S → Type 0) → P s → ((x : S) (k : ℕ) → P x → refusal x (lent_path places k) ≡ 0 → P (after x (lent_path places k))) → (k : ℕ) → P (up_to k).left
  unfolding batched
  batch_keeps P h on zero = h
  batch_keeps P h on (suc k) = go (up_to k) (batch_keeps P h on k)
    where
      taken : (x : S) → P x → (m : ℕ) → refusal x (lent_path places k) ≡ m → P (unless_refused m (after x (lent_path places k)) x)
      taken x hx zero e = on x k hx e
      taken x hx (suc m) e = hx

      one : (b : Batched S) → P b.left → (n : ℕ) → P (unless_refused n (tried refusal after b (lent_path places k)) b).left
      one b hb zero = taken b.left hb (refusal b.left (lent_path places k)) refl
      one b hb (suc n) = hb

      go : (b : Batched S) → P b.left → P (unless_refused b.number (tried refusal after b (lent_path places k)) b).left
      go b hb = one b hb b.number

  -- where none was refused, all were taken
  pub batch_taken : (k : ℕ) → (up_to k).number ≡ 0 → (up_to k).taken ≡ k
  unfolding batched
  batch_taken zero e = refl
  batch_taken (suc k) e = go (up_to k) (batch_taken k) e
    where
      tries : (b : Batched S) → b.taken ≡ k → (m : ℕ) → m ≡ 0 → unless_refused m (b.taken + 1) b.taken ≡ suc k
      tries b t zero z = omega arith
      tries b t (suc m) z = absurd (omega arith)

      one : (b : Batched S) (n : ℕ) → b.number ≡ n → (b.number ≡ 0 → b.taken ≡ k) → (unless_refused n (tried refusal after b (lent_path places k)) b).number ≡ 0 → (unless_refused n (tried refusal after b (lent_path places k)) b).taken ≡ suc k
      one b zero q t z = tries b (t q) (refusal b.left (lent_path places k)) z
      one b (suc n) q t z = absurd (omega arith)

      go : (b : Batched S) → (b.number ≡ 0 → b.taken ≡ k) → (unless_refused b.number (tried refusal after b (lent_path places k)) b).number ≡ 0
          → (unless_refused b.number (tried refusal after b (lent_path places k)) b).taken ≡ suc k
      go b t z = one b b.number refl t z

  -- the places that were taken leave by themselves what is left
  pub batch_taken_alone : (k : ℕ) → up_to (up_to k).taken ≡ so_far (up_to k).taken (up_to k).left
  unfolding batched
  batch_taken_alone zero = refl
  batch_taken_alone (suc k) = turn (batch_taken_alone k) (up_to k).number refl
    where
      so_far_lem : (up_to k).number ≡ 0 → up_to k ≡ so_far k (up_to k).left
      so_far_lem e = λ i. record { number = e i; taken = batch_taken k e i; left = (up_to k).left }

      tries : up_to (up_to k).taken ≡ so_far (up_to k).taken (up_to k).left → (up_to k).number ≡ 0 → (m : ℕ) → refusal (up_to k).left (lent_path places k) ≡ m
          → up_to (unless_refused m ((up_to k).taken + 1) (up_to k).taken) ≡ so_far (unless_refused m ((up_to k).taken + 1) (up_to k).taken) (unless_refused m (after (up_to k).left (lent_path places k)) (up_to k).left)
      tries ih e zero z = rw (batch_taken k e) (batch_on k (up_to k).left (so_far_lem e) z)
      tries ih e (suc m) z = ih

      turn : up_to (up_to k).taken ≡ so_far (up_to k).taken (up_to k).left → (n : ℕ) → (up_to k).number ≡ n
          → up_to (unless_refused n (tried refusal after (up_to k) (lent_path places k)) (up_to k)).taken ≡ so_far (unless_refused n (tried refusal after (up_to k) (lent_path places k)) (up_to k)).taken (unless_refused n (tried refusal after (up_to k) (lent_path places k)) (up_to k)).left
      turn ih zero e = tries ih e (refusal (up_to k).left (lent_path places k)) refl
      turn ih (suc n) e = ih

-- what is left, seen another way
abbrev pub seen_as : {S T : Type 0} → (T → S) → Batched T → Batched S
seen_as f b = record { number = b.number; taken = b.taken; left = f b.left }

-- two kinds of adds that agree one by one agree in a list
module _
    {S T : Type 0}
    (refusal : S → List ℕ → ℕ)
    (after : S → List ℕ → S)
    (refusal' : T → List ℕ → ℕ)
    (after' : T → List ℕ → T)
    (f : T → S)
    (P : T → Type 0)
    (places : List ℕ)
    (same : (x : T) (k : ℕ) → P x → refusal (f x) (lent_path places k) ≡ refusal' x (lent_path places k))
    (leaves : (x : T) (k : ℕ) → P x → refusal' x (lent_path places k) ≡ 0 → after (f x) (lent_path places k) ≡ f (after' x (lent_path places k)))
    (keeps : (x : T) (k : ℕ) → P x → refusal' x (lent_path places k) ≡ 0 → P (after' x (lent_path places k)))
    (start : T)
    (holds : P start)
  where
    tried_alike : (k : ℕ) (b : Batched T) → P b.left → tried refusal after (seen_as f b) (lent_path places k) ≡ seen_as f (tried refusal' after' b (lent_path places k))
    tried_alike k b h =
        ap (λ (n : ℕ). record { number = n; taken = unless_refused n (b.taken + 1) b.taken; left = unless_refused n (after (f b.left) (lent_path places k)) (f b.left) }) (same b.left k h)
        ∙ go (refusal' b.left (lent_path places k)) refl
      where
        go : (n : ℕ) → refusal' b.left (lent_path places k) ≡ n
            → ◌≡◌ {A = Batched S} (record { number = n; taken = unless_refused n (b.taken + 1) b.taken; left = unless_refused n (after (f b.left) (lent_path places k)) (f b.left) })
            (record { number = n; taken = unless_refused n (b.taken + 1) b.taken; left = f (unless_refused n (after' b.left (lent_path places k)) b.left) })
        go zero e = λ i. record { number = 0; taken = b.taken + 1; left = leaves b.left k h e i }
        go (suc n) e = refl

    pub batch_alike : (k : ℕ) → batched refusal after (f start) places k ≡ seen_as f (batched refusal' after' start places k)
    unfolding batched
    batch_alike zero = refl
    batch_alike (suc k) =
        ap (λ (b : Batched S). unless_refused b.number (tried refusal after b (lent_path places k)) b) (batch_alike k)
        ∙ go (batched refusal' after' start places k) (batch_keeps refusal' after' start places P holds keeps k)
      where
        one : (b : Batched T) → P b.left → (n : ℕ) → unless_refused n (tried refusal after (seen_as f b) (lent_path places k)) (seen_as f b) ≡ seen_as f (unless_refused n (tried refusal' after' b (lent_path places k)) b)
        one b h zero = tried_alike k b h
        one b h (suc n) = refl

        go : (b : Batched T) → P b.left → unless_refused b.number (tried refusal after (seen_as f b) (lent_path places k)) (seen_as f b) ≡ seen_as f (unless_refused b.number (tried refusal' after' b (lent_path places k)) b)
        go b h = one b h b.number

pub batch_end : (places : List ℕ) (k : ℕ) → k ≡ length places / 516 + min 1 (length places % 516) → k ≡ places_in places
batch_end places k e = omega arith

-- ---- a tracker's

module _ (t : Tracker) (book queue path : List ℕ) (t' : Tracker) (book' queue' : List ℕ) where
  pub gone_on : Gone t book queue path 0 t' book' queue' → with_path (machine t book queue) path ≡ machine t' book' queue'
  unfolding with_path
  gone_on g = λ i. record { state = sym g.state_is i; book = sym g.book_is i; queue = sym g.queue_is i }

  -- one that is taken is accepted
  pub gone_accepted : Gone t book queue path 0 t' book' queue' → t'.accepted ≡ t.accepted + 1
  unfolding state_after
  gone_accepted g = ap (λ (x : Tracker). x.accepted) g.state_is

  pub gone_nowhere : (n m : ℕ) → n ≡ suc m → Gone t book queue path n t' book' queue' → machine t book queue ≡ machine t' book' queue'
  gone_nowhere n m e g =
      let state : t' ≡ t = g.state_is ∙ ap (λ (k : ℕ). unless_refused k (state_after t book queue path) t) e in
      let left : book' ≡ book = g.book_is ∙ ap (λ (k : ℕ). unless_refused k (book_after t book queue path) book) e in
      let places : queue' ≡ queue = g.queue_is ∙ ap (λ (k : ℕ). unless_refused k (queue_with t queue path) queue) e in
      λ i. record { state = sym state i; book = sym left i; queue = sym places i }

module _ (t : Tracker) (book queue places : List ℕ) where
  pub batch_unformed : in_form t book queue ≡ false → batch_told (nothing_tried 9 (machine t book queue)) ≡ batch_answer t book queue places
  unfolding batch_of
  batch_unformed e = rw e

  pub batch_formed : in_form t book queue ≡ true → (b : Batched Machine) → batched next_number with_path (machine t book queue) places (places_in places) ≡ b
      → batch_told b ≡ batch_answer t book queue places
  unfolding batch_of
  batch_formed e b h = rw (e, h)

-- ---- what the code tells of it

-- a list of paths stops at this reason, with so many taken
abbrev pub stopped : Tracker → ℕ → Reason → Stopped
stopped t n r = record { reason = r; taken = record { tracker = t; paths = n } }

pub goes_on : {X : Type 0} (P : X → Type 0) (a : Result X Reason) → MatchResult a P (λ r. ⊥) → checked_number a ≡ 0
goes_on P (Ok x) h = refl
goes_on P (Err r) h = absurd h

pub formed_on : (t : Tracker) (book queue : List ℕ) {X : Type 0} (P : X → Type 0) (a : Result X Reason) → checked_number a ≡ (if in_form t book queue then 0 else 9) → MatchResult a P (λ r. ⊥) → in_form t book queue ≡ true
formed_on t book queue P a e h = passes (in_form t book queue) 8 (sym (goes_on P a h) ∙ e)

-- a refusal is no answer
pub no_answer : {X : Type 0} (z : Stopped) (x : X) → Err z ≡ Ok x → ⊥
no_answer z x h = subst (λ a. MatchResult a (λ y. ⊥) (λ e. Unit {0})) h tt

module _ (t : Tracker) (book queue places : List ℕ) {X : Type 0} (a : Result X Reason) (z : Stopped) where
  pub stopped_unformed : checked_number a ≡ (if in_form t book queue then 0 else 9) → MatchResult a (λ x. ⊥) (λ r. z ≡ stopped t 0 r) → batched_answer (Err z) book queue ≡ batch_answer t book queue places
  stopped_unformed = go a
    where
      go : (b : Result X Reason) → checked_number b ≡ (if in_form t book queue then 0 else 9) → MatchResult b (λ x. ⊥) (λ r. z ≡ stopped t 0 r) → batched_answer (Err z) book queue ≡ batch_answer t book queue places
      go (Ok x) e h = absurd h
      go (Err r) e h = let f = fails (in_form t book queue) 9 r e in rw (h, f.1) (batch_unformed t book queue places f.0)

  module _ (form : in_form t book queue ≡ true) (k : ℕ) (more : 516 * k < length places) (u : Tracker) (s q : List ℕ)
      (fold : batched next_number with_path (machine t book queue) places k ≡ so_far k (machine u s q)) (u' : Tracker) (s' q' : List ℕ) where
    pub stopped_at : Gone u s q (lent_path places k) (checked_number a) u' s' q' → MatchResult a (λ x. ⊥) (λ r. z ≡ stopped u' k r) → batched_answer (Err z) s' q' ≡ batch_answer t book queue places
    stopped_at = go a
      where
        go : (b : Result X Reason) → Gone u s q (lent_path places k) (checked_number b) u' s' q' → MatchResult b (λ x. ⊥) (λ r. z ≡ stopped u' k r) → batched_answer (Err z) s' q' ≡ batch_answer t book queue places
        go (Ok x) g h = absurd h
        go (Err r) g h =
            let m = reason_some r in
            let end = batch_stopped next_number with_path (machine t book queue) places k (machine u s q) fold m.0 (sym g.number_is ∙ m.1) more in
            let same = gone_nowhere u s q (lent_path places k) u' s' q' (reason_number r) m.0 m.1 g in
            rw h
            (batch_formed t book queue places form (record { number = reason_number r; taken = k; left = machine u' s' q' })
            (end ∙ (λ i. record { number = sym m.1 i; taken = k; left = same i })))
