-- Any calls, one after another: if each call takes the image of one state to the image of the next with the same answer, so does every list of calls. Said for calls
-- of any kind, so that the layers above use it for theirs. Assumes nothing.
use mathlib.Core.Path.{◌≡◌, refl, ap, ap₂, ◌∙◌}
use mathlib.Core.List.{List, [], ◌∷◌, ◌++◌}
use Rattle.book.specs.Figures.{All}
use Rattle.book.specs.Claims.{runs}

-- one call, and then the others
runs_on : {Call Answer State : Type 0} (step : State → Call → Answer × State) (s : State) (c : Call) (cs : List Call) (a : Answer) (t : State) → (step s c).0 ≡ a → (step s c).1 ≡ t
    → runs step s (c ∷ cs) ≡ (a ∷ (runs step t cs).0, (runs step t cs).1)
unfolding runs
runs_on {Call} {Answer} {State} step s c cs a t p q = ap₂ (λ (x : Answer) (y : State). (x ∷ (runs step y cs).0, (runs step y cs).1)) p q

module _
    {Call Answer State Short : Type 0}
    (step : State → Call → Answer × State)
    (short : Short → Call → Answer × Short)
    (image : Short → State)
    (Kept : Short → Type 0)
    (Fine : Call → Type 0)
  where
    -- the call c, made of s and of r, has one answer and leaves r's image
    abbrev pub Alike : State → Short → Call → Type 0
    Alike s r c = ((step s c).0 ≡ (short r c).0) × ((step s c).1 ≡ image (short r c).1) × Kept (short r c).1

    -- and so for a list of calls
    abbrev pub AllAlike : State → Short → List Call → Type 0
    AllAlike s r cs = ((runs step s cs).0 ≡ (runs short r cs).0) × ((runs step s cs).1 ≡ image (runs short r cs).1) × Kept (runs short r cs).1

    -- a first call that is answered alike, whatever it is made of, and then any
    pub runs_from : (s : State) (r : Short) (c : Call) → (step s c).0 ≡ (short r c).0 → (cs : List Call) → AllAlike (step s c).1 (short r c).1 cs → AllAlike s r (c ∷ cs)
    unfolding runs
    runs_from s r c h cs t = (ap₂ (λ (a : Answer) (l : List Answer). a ∷ l) h t.0, t.1, t.2)

    -- first calls that are answered alike, whatever they are made of, and then others that are so
    pub runs_first : (First : Call → Type 0) → ((s : State) (r : Short) (c : Call) → First c → (step s c).0 ≡ (short r c).0)
        → (first cs : List Call) → All First first → ((s : State) (r : Short) → AllAlike s r cs) → (s : State) (r : Short) → AllAlike s r (first ++ cs)
    runs_first First h [] cs f t s r = t s r
    runs_first First h (c ∷ first) cs f t s r = runs_from s r c (h s r c f.0) (first ++ cs) (runs_first First h first cs f.1 t (step s c).1 (short r c).1)

    module _ (one : (r : Short) (c : Call) → Kept r → Fine c → Alike (image r) r c) where
      -- a first call whose answers agree, and then any
      pub runs_after : (s : State) (r : Short) (c : Call) → Alike s r c → (cs : List Call) → AllAlike (image (short r c).1) (short r c).1 cs → AllAlike s r (c ∷ cs)
      unfolding runs
      runs_after s r c h cs t =
          let on = runs_on step s c cs _ _ h.0 h.1 in
          (ap (λ x. x.0) on ∙ ap (λ (l : List Answer). (short r c).0 ∷ l) t.0, ap (λ x. x.1) on ∙ t.1, t.2)

      pub runs_image : (r : Short) (cs : List Call) → Kept r → All Fine cs → AllAlike (image r) r cs
      unfolding runs
      runs_image r [] k h = (refl, refl, k)
      runs_image r (c ∷ cs) k h =
          let o = one r c k h.0 in
          runs_after (image r) r c o cs (runs_image (short r c).1 cs o.2 h.1)
