-- Ranks order as addresses do, by signed scale and then by point; a rank has one address, and its bytes are the address's. Assumes nothing.
use mathlib.Core.Path.{◌≡◌, sym, ap, ap₂, ◌∙◌}
use mathlib.Core.Logic.{⊎_elim}
use mathlib.Core.Bool.{not, ◌&&◌, ◌||◌}
use Prim.Native.Nat.{ℕ, suc, ◌+◌, ◌-◌, ◌*◌, ◌/◌, ◌%◌, ◌^◌, ◌≤◌, ◌<◌}
use native.Mathlib.Numerals.{towards_suc}
use native.Mathlib.Omega.{arith}
use mathlib.Core.List.{List, [], ◌∷◌, ◌++◌}
use lib.Dec.{ltb}
use lib.ListN.{get_or, length, drop}
use lib.Seq.{drop-cons}
use lib.IntN.{ℤ}
use lib.Signed.{lt_z}
use mir.Syntax.{w8, w32}
use mir.Val.{to_z, of_z, Fits, SFits}
use mir.ValLaws.{to_z-of_z, of_z-to_z, of_z_fits}
use borrow.Author.Tests.{lt-ltb, le-ltb}
use Rattle.priors.specs.Word.{word, word_bytes}
use Rattle.priors.specs.Address.{before, lift, rank, rank_of, address_of, rank_at, address_bytes}
use Rattle.priors.proofs.Tests.{split, three, ltb_same}
use Rattle.priors.proofs.Fields.{word_bytes_lem, word_append_add}

-- ---- bounds

-- what owning a slice of bytes tells: each is below 256
abbrev pub Bytes : List ℕ → Type 0
Bytes s = (i : ℕ) → Fits w8 (get_or s i 0)

pub word_lt : (s : List ℕ) → Bytes s → (at : ℕ) → word s at < 2 ^ 32
unfolding word
word_lt s bytes at = omega (arith, bytes at, bytes (at + 1), bytes (at + 2), bytes (at + 3))

pub lift_lt : (bits : ℕ) → lift bits < 2 ^ 32
unfolding lift
lift_lt bits = omega arith

pub rank_lt : (bits point : ℕ) → point < 2 ^ 32 → rank bits point < 2 ^ 64
unfolding lift rank
rank_lt bits point h = omega arith

pub rank_at_lt : (s : List ℕ) → Bytes s → (at : ℕ) → rank_at s at < 2 ^ 64
rank_at_lt s bytes at = rank_lt (word s at) (word s (at + 4)) (word_lt s bytes (at + 4))

-- ---- the order

lift_order : (s t : ℕ) → s < 2 ^ 32 → t < 2 ^ 32 → lt_z (to_z w32 s) (to_z w32 t) ≡ ltb (lift s) (lift t)
unfolding lift
lift_order s t hs ht =
    ⊎_elim
    (λ ls. ⊎_elim
    (λ lt. rw (lt-ltb s (2 ^ 31) ls, lt-ltb t (2 ^ 31) lt) (ltb_same s t (lift s) (lift t) (λ l. omega arith) (λ l. omega arith)))
    (λ gt. rw (lt-ltb s (2 ^ 31) ls, le-ltb t (2 ^ 31) gt) (sym (le-ltb (lift s) (lift t) (omega arith))))
    (split t (2 ^ 31)))
    (λ gs. ⊎_elim
    (λ lt. rw (le-ltb s (2 ^ 31) gs, lt-ltb t (2 ^ 31) lt) (sym (lt-ltb (lift s) (lift t) (omega arith))))
    (λ gt. rw (le-ltb s (2 ^ 31) gs, le-ltb t (2 ^ 31) gt) (ltb_same (2 ^ 32 - suc t) (2 ^ 32 - suc s) (lift s) (lift t) (λ l. omega arith) (λ l. omega arith)))
    (split t (2 ^ 31)))
    (split s (2 ^ 31))

-- two numbers, the second below 2 ^ 32, compare as one number
lex : (a b p q : ℕ) → p < 2 ^ 32 → q < 2 ^ 32 → ltb (a * 2 ^ 32 + p) (b * 2 ^ 32 + q) ≡ ltb a b || (not (ltb b a) && ltb p q)
lex a b p q hp hq =
    ⊎_elim
    (λ l. rw (lt-ltb a b l) (lt-ltb (a * 2 ^ 32 + p) (b * 2 ^ 32 + q) (omega arith)))
    (⊎_elim
    (λ e. rw (le-ltb a b (omega arith), le-ltb b a (omega arith)) (ltb_same (a * 2 ^ 32 + p) (b * 2 ^ 32 + q) p q (λ l. omega arith) (λ l. omega arith)))
    (λ g. rw (le-ltb a b (omega arith), lt-ltb b a g) (le-ltb (a * 2 ^ 32 + p) (b * 2 ^ 32 + q) (omega arith))))
    (three a b)

pub lift_signed : (s t : ℤ) → SFits w32 s → SFits w32 t → lt_z s t ≡ ltb (lift (of_z w32 s)) (lift (of_z w32 t))
lift_signed s t f g =
    ap₂ lt_z (sym (to_z-of_z w32 s f)) (sym (to_z-of_z w32 t g))
    ∙ lift_order (of_z w32 s) (of_z w32 t) (omega (arith, of_z_fits w32 s f)) (omega (arith, of_z_fits w32 t g))

-- ranks order as addresses do: by signed scale, then by point
pub rank_order : (s : ℤ) (p : ℕ) (t : ℤ) (q : ℕ) → SFits w32 s → p < 2 ^ 32 → SFits w32 t → q < 2 ^ 32 → ltb (rank_of s p) (rank_of t q) ≡ before s p t q
unfolding rank before
rank_order s p t q f hp g hq =
    lex (lift (of_z w32 s)) (lift (of_z w32 t)) p q hp hq ∙ rw (lift_signed s t f g, lift_signed t s g f)

-- ---- a rank's address and bytes

pub lift_back : (bits : ℕ) → bits < 2 ^ 32 → lift (lift bits) ≡ bits
unfolding lift
lift_back bits h = omega arith

pub rank_parts : (r : ℕ) → r < 2 ^ 64 → rank (lift (r / 2 ^ 32)) (r % 2 ^ 32) ≡ r
unfolding rank
rank_parts r h = rw (lift_back (r / 2 ^ 32) (omega arith)) (omega arith)

-- an address read where its bytes were put is the address
pub rank_bytes : (r : ℕ) (q : List ℕ) → r < 2 ^ 64 → rank_at (address_bytes r ++ q) 0 ≡ r
rank_bytes r q h =
    ap₂ rank
    (word_bytes_lem (lift (r / 2 ^ 32)) (word_bytes (r % 2 ^ 32) ++ q) (lift_lt (r / 2 ^ 32)))
    (word_append_add (word_bytes (lift (r / 2 ^ 32))) (word_bytes (r % 2 ^ 32) ++ q) 0 ∙ word_bytes_lem (r % 2 ^ 32) q (omega arith))
    ∙ rank_parts r h

-- the address of a rank has it
pub rank_back : (r : ℕ) → r < 2 ^ 64 → rank_of (address_of r).scale (address_of r).point ≡ r
unfolding address_of
rank_back r h = rw (of_z-to_z w32 (lift (r / 2 ^ 32)) (record { fits = lift_lt (r / 2 ^ 32) })) (rank_parts r h)

-- ---- from bytes to numbers and back

-- the bytes of the number that four bytes spell are those
bytes_word : (a b c d : ℕ) → a < 256 → b < 256 → c < 256 → d < 256 → word_bytes (a + 256 * b + 65536 * c + 16777216 * d) ≡ a ∷ b ∷ c ∷ d ∷ []
bytes_word a b c d ha hb hc hd = λ i. e₀ i ∷ e₁ i ∷ e₂ i ∷ e₃ i ∷ []
  where
    v : ℕ
    v = a + 256 * b + 65536 * c + 16777216 * d

    e₀ : v % 256 ≡ a
    e₀ = omega arith

    q₁ : v / 256 ≡ b + 256 * c + 65536 * d
    q₁ = omega arith

    e₁ : v / 256 % 256 ≡ b
    e₁ = omega (arith, q₁)

    q₂ : v / 65536 ≡ c + 256 * d
    q₂ = omega arith

    e₂ : v / 65536 % 256 ≡ c
    e₂ = omega (arith, q₂)

    e₃ : v / 16777216 % 256 ≡ d
    e₃ = omega arith

pub word_back : (s : List ℕ) → Bytes s → (at : ℕ) → at + 4 ≤ length s → word_bytes (word s at) ++ drop (at + 4) s ≡ drop at s
unfolding word
word_back s bytes at h =
    ap (λ (l : List ℕ). l ++ drop (at + 4) s)
    (bytes_word (get_or s at 0) (get_or s (at + 1) 0) (get_or s (at + 2) 0) (get_or s (at + 3) 0) (bytes at).fits (bytes (at + 1)).fits (bytes (at + 2)).fits (bytes (at + 3)).fits)
    ∙ sym (simp towards_suc (rw (drop-cons s at 0 (omega arith), drop-cons s (suc at) 0 (omega arith), drop-cons s (suc (suc at)) 0 (omega arith), drop-cons s (suc (suc (suc at))) 0 (omega arith))))

pub rank_forth : (s : List ℕ) → Bytes s → (at : ℕ) → at + 8 ≤ length s → address_bytes (rank_at s at) ++ drop (at + 8) s ≡ drop at s
unfolding rank
rank_forth s bytes at h =
    let low : word s (at + 4) < 2 ^ 32 = word_lt s bytes (at + 4) in
    let high : rank_at s at / 2 ^ 32 ≡ lift (word s at) = omega arith in
    let point : rank_at s at % 2 ^ 32 ≡ word s (at + 4) = omega arith in
    let next : at + 8 ≡ at + 4 + 4 = omega arith in
    rw (high, point, lift_back (word s at) (word_lt s bytes at))
    (rw next (ap (λ (l : List ℕ). word_bytes (word s at) ++ l) (word_back s bytes (at + 4) (omega arith)) ∙ word_back s bytes at (omega arith)))
