-- Every listed key has its node's ending listed: the form says so, and what adds a path keeps it. So a child that is found spares the touch of its node's ending.
-- Assumes nothing.
use mathlib.Core.Path.{◌≡◌, refl, sym, ap, ◌∙◌}
use mathlib.Core.Logic.{◌⊎◌, inl, inr, ⊎_elim}
use Prim.Native.Nat.{ℕ, zero, suc, ◌*◌, ◌^◌, ◌≤◌, ◌<◌}
use native.Mathlib.Nat.{not-suc-le-zero}
use native.Mathlib.Omega.{arith}
use mathlib.Core.Bool.{Bool, true, false, ◌&&◌, ◌||◌}
use mathlib.Core.List.{List, [], ◌∷◌}
use Rattle.std.specs.Prelude.{Option, None, Some}
use lib.Dec.{ltb, eqb}
use lib.ListN.{length, take}
use borrow.Author.Tests.{eqb-true}
use Rattle.priors.specs.Rows.{Row, keys, Ascends, look, change, touch}
use Rattle.entries.specs.Keys.{end_key, child_key, node_of, kind_of}
use Rattle.book.specs.Path.{Steps, listed_keys}
use Rattle.book.specs.Figures.{Listed, Ranks}
use Rattle.book.specs.Form.{plain, follows, formed_after, formed}
use Rattle.book.specs.Changes.{EndingsListed, change_all, touch_all}
use Rattle.priors.proofs.Orders.{Side, below, same, above, side, Alike, alike, unlike, compared}
use Rattle.priors.proofs.Tests.{both}
use Rattle.priors.proofs.RowLaws.{after_touch, look_other, look_touch, touch_found}
use Rattle.priors.proofs.Ext.{never, look_first, look_rest, look_low}
use Rattle.book.proofs.Membership.{In, in_head, in_tail, in_cons, in_none}
use Rattle.book.proofs.ListingForm.{node_end, node_child}
use Rattle.book.proofs.Lengths.{listed_change}
use Rattle.book.proofs.FormLaws.{ascends_after_lem, ending_key}

-- ---- the form

either : (a b : Bool) → a || b ≡ true → (a ≡ true) ⊎ (b ≡ true)
either true b h = inl refl
either false b h = inr h

-- a key that has a row is that of the first, or has one behind it
listed_cases : (j : ℕ) (r : Row) (rs : List Row) → Listed j (r ∷ rs) → (j ≡ r.key) ⊎ Listed j rs
unfolding look
listed_cases j r rs l = go (side j r.key)
  where
    go : Side j r.key → (j ≡ r.key) ⊎ Listed j rs
    go (below m e) = let z : ◌≡◌ {A = ℕ} 0 1 = cc (rw e at l.1) in absurd (omega arith)
    go (same q e) = inl q
    go (above m e) = inr (l.0, rw e at l.1)

module _ (r : Row) (rs : List Row) (ascends : Ascends (suc r.key) (keys rs)) where
  listed_behind : (j : ℕ) → Listed j rs → Listed j (r ∷ rs)
  listed_behind j l = go (side r.key j)
    where
      low : j ≤ r.key → Listed j (r ∷ rs)
      low m = absurd (never l.0 (look j rs) l.1 (look_low j (suc r.key) rs (omega arith) ascends))

      go : Side r.key j → Listed j (r ∷ rs)
      go (below m e) = (l.0, look_rest j r rs m ∙ l.1)
      go (same q e) = low (omega arith)
      go (above m e) = low (omega arith)

  -- an ending, and rows behind it of its node or with endings of their own
  module _ (rest : (j : ℕ) → Listed j rs → (node_of j ≡ node_of r.key) ⊎ Listed (end_key (node_of j)) rs) where
    endings_behind : r.key ≡ end_key (node_of r.key) → EndingsListed (r ∷ rs)
    endings_behind e j l = ⊎_elim (λ q. own (ap node_of q)) (λ m. ⊎_elim own (listed_behind (end_key (node_of j))) (rest j m)) (listed_cases j r rs l)
      where
        own : node_of j ≡ node_of r.key → Listed (end_key (node_of j)) (r ∷ rs)
        own q = rw (q, ← e) (r.count, look_first r rs)

    -- a row of the node of k, or an ending
    endings_begin : (k : ℕ) → (node_of k ≡ node_of r.key) ⊎ (r.key ≡ end_key (node_of r.key)) → (j : ℕ) → Listed j (r ∷ rs) → (node_of j ≡ node_of k) ⊎ Listed (end_key (node_of j)) (r ∷ rs)
    endings_begin k (inl n) j l = ⊎_elim (λ q. inl (ap node_of q ∙ sym n)) (λ m. ⊎_elim (λ q. inl (q ∙ sym n)) (λ x. inr (listed_behind (end_key (node_of j)) x)) (rest j m)) (listed_cases j r rs l)
    endings_begin k (inr e) j l = inr (endings_behind e j l)

-- a key is listed where it is one of the rows' keys
pub listed_in : (j : ℕ) (rs : List Row) → Listed j rs → In j (keys rs)
unfolding look
listed_in j [] l = let z : ◌≡◌ {A = ℕ} 0 1 = cc in absurd (omega arith)
listed_in j (r ∷ rs) l = ⊎_elim (λ q. in_head j r.key (keys rs) q) (λ m. in_tail j r.key (keys rs) (listed_in j rs m)) (listed_cases j r rs l)

pub in_listed : (a j : ℕ) (rs : List Row) → Ascends a (keys rs) → In j (keys rs) → Listed j rs
in_listed a j [] h i = in_none j i
in_listed a j (r ∷ rs) h i = ⊎_elim (λ q. rw q (r.count, look_first r rs)) (λ m. listed_behind r rs h.1 j (in_listed (suc r.key) j rs h.1 m)) (in_cons j r.key (keys rs) i)

-- after the key k, a row's node is that of k or has its ending among the rows
endings_after : (k : ℕ) (rs : List Row) → formed_after k rs ≡ true → (j : ℕ) → Listed j rs → (node_of j ≡ node_of k) ⊎ Listed (end_key (node_of j)) rs
unfolding formed_after follows look
endings_after k [] h j l = let z : ◌≡◌ {A = ℕ} 0 1 = cc in absurd (omega arith)
endings_after k (r ∷ rs) h j l =
    let node : Bool = eqb (node_of k) (node_of r.key) in
    let kind : Bool = eqb (kind_of r.key) 0 in
    let p = both (plain r) (follows k r && formed_after r.key rs) h in
    let f = both (follows k r) (formed_after r.key rs) p.1 in
    endings_begin r rs (ascends_after_lem r.key rs f.1) (endings_after r.key rs f.1) k
    (⊎_elim (λ e. inl (eqb-true (node_of k) (node_of r.key) e)) (λ e. inr (ending_key r p.0 (eqb-true (kind_of r.key) 0 e))) (either node kind (both (ltb k r.key) (node || kind) f.0).1)) j l

-- a book in form
pub formed_endings : (rs : List Row) → formed rs ≡ true → EndingsListed rs
unfolding formed look
formed_endings [] h j l = let z : ◌≡◌ {A = ℕ} 0 1 = cc in absurd (omega arith)
formed_endings (r ∷ rs) h j l =
    let kind : Bool = eqb (kind_of r.key) 0 in
    let p = both (plain r) (kind && formed_after r.key rs) h in
    let f = both kind (formed_after r.key rs) p.1 in
    endings_behind r rs (ascends_after_lem r.key rs f.1) (endings_after r.key rs f.1) (ending_key r p.0 (eqb-true (kind_of r.key) 0 f.0)) j l

-- ---- one change

-- of a key whose node's ending is listed afterwards
pub change_keeps : (new : Option ℕ) (step : ℕ → ℕ) (k : ℕ) (rs : List Row) → Listed (end_key (node_of k)) (change new step k rs) → EndingsListed rs → EndingsListed (change new step k rs)
change_keeps new step k rs own h j l = go (compared j k)
  where
    go : Alike j k → Listed (end_key (node_of j)) (change new step k rs)
    go (alike q e) = rw q own
    go (unlike q e) = listed_change new step k (end_key (node_of j)) rs (h j (l.0, sym (look_other new step k j q rs) ∙ l.1))

listed_touch : (k : ℕ) (rs : List Row) → Listed k (touch k rs)
listed_touch k rs = go (look k rs) (look_touch k rs)
  where
    go : (o : Option ℕ) → look k (touch k rs) ≡ after_touch o → Listed k (touch k rs)
    go None e = (0, e)
    go (Some c) e = (c, e)

ending_keeps : (a : ℕ) (rs : List Row) → EndingsListed rs → EndingsListed (touch (end_key a) rs)
ending_keeps a rs h = change_keeps (Some 0) (λ c. c) (end_key a) rs (rw (node_end a) (listed_touch (end_key a) rs)) h

-- an ending is listed, and then a child under it changes
pub pair_keeps : (new : Option ℕ) (step : ℕ → ℕ) (a b : ℕ) (rs : List Row) → b < 2 ^ 64 → EndingsListed rs → EndingsListed (change new step (child_key a b) (touch (end_key a) rs))
pair_keeps new step a b rs m h = change_keeps new step (child_key a b) (touch (end_key a) rs) (rw (node_child a b m) (listed_change new step (child_key a b) (end_key a) (touch (end_key a) rs) (listed_touch (end_key a) rs))) (ending_keeps a rs h)

-- ---- a child that is found

module _ (a b : ℕ) (rs : List Row) (m : b < 2 ^ 64) (h : EndingsListed rs) (l : Listed (child_key a b) rs) where
  pub ending_listed : Listed (end_key a) rs
  ending_listed = rw (node_child a b m) at (h (child_key a b) l)

  pub ending_touched : touch (end_key a) rs ≡ rs
  ending_touched = touch_found (end_key a) ending_listed.0 rs ending_listed.1

-- ---- the pairs of a path

-- after the keys of its first i pairs
pub pairs_keep : (p : Steps) (i : ℕ) (rs : List Row) → i < length p → Ranks p → EndingsListed rs → EndingsListed (touch_all (take (2 * i) (listed_keys p)) rs)
unfolding listed_keys change_all
pairs_keep [] i rs l r h = absurd (not-suc-le-zero l)
pairs_keep (a ∷ []) zero rs l r h = h
pairs_keep (a ∷ []) (suc i) rs l r h = absurd (omega arith)
pairs_keep (a ∷ b ∷ p) zero rs l r h = h
pairs_keep (a ∷ b ∷ p) (suc i) rs l r h =
    let e : 2 * suc i ≡ suc (suc (2 * i)) = omega arith in
    rw e (pairs_keep (b ∷ p) i (touch (child_key a b) (touch (end_key a) rs)) (omega arith) r.1 (pair_keeps (Some 0) (λ c. c) a b rs r.1.0 h))
