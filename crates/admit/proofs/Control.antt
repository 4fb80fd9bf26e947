-- Control bytes: what the code tests of a byte, and what a text without them is, byte by byte and character by character.
-- Assumes nothing.
use mathlib.Core.Path.{◌≡◌, refl, sym, ◌∙◌}
use mathlib.Core.Bool.{Bool, true, false, cond, not, ◌&&◌, ◌||◌, or-false, and-true, and_assoc, and-eq-true_iff, false≢true}
use mathlib.Core.List.{List, [], ◌∷◌, flatten}
use Prim.Native.Nat.{ℕ, ◌+◌, ◌%◌, ◌/◌, ◌≤◌, ◌<◌, min, max}
use native.Mathlib.Omega.{arith}
use mathlib.Core.Logic.{⊎_elim}
use lib.Dec.{eqb, ltb}
use borrow.Author.Tests.{lt-leb, ne_eqb, lt-ltb, le-ltb, ltb-true, ltb-false}
use Rattle.std.specs.Prelude.{ℤ, pos, int_lt}
use Rattle.std.specs.List.{fold}
use Rattle.std.proofs.Math.Bool.{or_assoc}
use Rattle.std.specs.Int.{cast_signed, cast_unsigned, w8}
use Rattle.lists.specs.Bytes.{any, all}
use Rattle.lists.specs.Classes.{ascii, one_of}
use Rattle.lists.proofs.Scan.{any_append}
use Rattle.lists.proofs.Sets.{le_or_lt}
use Rattle.lists.proofs.Table.{upto, below}
use Rattle.admit.specs.Scalars.{low6, encode, text_of}
use Rattle.admit.specs.Refusals.{control, has_control, ascii_text, control_rank}
use Rattle.admit.proofs.Scalars.{encode_elim}

-- ---- one byte

-- two tests that agree on every byte
same_tests : (f g : ℕ → Bool) → upto (λ b. cond (f b) (g b) (not (g b))) 256 ≡ true → (b : ℕ) → b < 256 → f b ≡ g b
same_tests f g t b h = go (f b) (g b) (below (λ b. cond (f b) (g b) (not (g b))) 256 t b h)
  where
    go : (p q : Bool) → cond p q (not q) ≡ true → p ≡ q
    go true q e = sym e
    go false true e = e
    go false false e = refl

-- what `is_ascii_text` tests: x is b with 1 added, as a signed number
pub ascii_text_tested : (b : ℕ) → b < 256 → {x : ℤ} → x ≡ cast_signed w8 ((b + 1) % 256)
    → (((int_lt (pos 32) (cast_signed w8 (cast_unsigned w8 x)) || eqb b 9) || eqb b 10) || eqb b 13) ≡ ascii_text b
unfolding any
ascii_text_tested b h e = rw e (same_tests (λ b. f (cast_signed w8 (cast_unsigned w8 (cast_signed w8 ((b + 1) % 256)))) b) ascii_text refl b h)
  where
    f : ℤ → ℕ → Bool
    f x b = ((int_lt (pos 32) x || eqb b 9) || eqb b 10) || eqb b 13

-- the bytes that number 6 bars, one by one
abbrev control_bytes : List ℕ
control_bytes =
    0 ∷ 1 ∷ 2 ∷ 3 ∷ 4 ∷ 5 ∷ 6 ∷ 7 ∷ 8 ∷ 11 ∷ 12 ∷ 14 ∷ 15 ∷ 16 ∷ 17 ∷ 18 ∷ 19 ∷ 20 ∷ 21 ∷ 22 ∷ 23 ∷ 24 ∷ 25 ∷ 26 ∷ 27 ∷ 28 ∷ 29 ∷ 30 ∷ 31 ∷ 127 ∷ []

pub control_listed : (b : ℕ) → b < 256 → control b ≡ one_of control_bytes b
unfolding any
control_listed = same_tests control (one_of control_bytes) refl

-- a byte above ASCII is no control byte
high_no_control : (b : ℕ) → 0x80 ≤ b → control b ≡ false
high_no_control b h = rw (lt-leb b 0x1F (omega arith), ne_eqb b 0x7F (omega arith))

-- the rank of a control byte alone is below the space
rank_control : (b : ℕ) → ltb (control_rank b) 0x20 ≡ control b
unfolding any
rank_control b =
    ⊎_elim (λ (h : 0x80 ≤ b). rw (
      ne_eqb b 0x09 (omega arith),
      ne_eqb b 0x0A (omega arith),
      ne_eqb b 0x0D (omega arith),
      ne_eqb b 0x7F (omega arith),
      le-ltb b 0x20 (omega arith),
      lt-leb b 0x1F (omega arith),
    ) refl)
    (λ (h : b < 0x80). same_tests (λ b. ltb (control_rank b) 0x20) control refl b (omega arith)) (le_or_lt 0x80 b)

-- ---- whole texts

-- in ASCII text no byte is a control byte
pub ascii_text_clear : (s : List ℕ) → all ascii_text s ≡ true → has_control s ≡ false
unfolding all any
ascii_text_clear [] h = refl
ascii_text_clear (b ∷ s) h =
    let k = (and-eq-true_iff (ascii_text b) (all ascii_text s)).0 h in
    rw (no_control (ascii b) (control b) k.0, ascii_text_clear s k.1) refl
  where
    no_control : (a c : Bool) → (a && not c) ≡ true → c ≡ false
    no_control a false h = refl
    no_control true true h = absurd (false≢true h)
    no_control false true h = absurd (false≢true h)

-- the larger of two numbers is below n if both are, the smaller one if one of them is
max_below : (a b n : ℕ) → ltb (max a b) n ≡ (ltb a n && ltb b n)
max_below a b n = go (ltb a n) (ltb b n) refl refl
  where
    go : (p q : Bool) → ltb a n ≡ p → ltb b n ≡ q → ltb (max a b) n ≡ (p && q)
    go true true e f = lt-ltb (max a b) n (omega (arith, ltb-true a n e, ltb-true b n f))
    go true false e f = le-ltb (max a b) n (omega (arith, ltb-false b n f))
    go false q e f = le-ltb (max a b) n (omega (arith, ltb-false a n e))

min_below : (a b n : ℕ) → ltb (min a b) n ≡ (ltb a n || ltb b n)
min_below a b n = go (ltb a n) (ltb b n) refl refl
  where
    go : (p q : Bool) → ltb a n ≡ p → ltb b n ≡ q → ltb (min a b) n ≡ (p || q)
    go true q e f = lt-ltb (min a b) n (omega (arith, ltb-true a n e))
    go false true e f = lt-ltb (min a b) n (omega (arith, ltb-true b n f))
    go false false e f = le-ltb (min a b) n (omega (arith, ltb-false a n e, ltb-false b n f))

-- what `survey` tests of the highest byte and the lowest rank
abbrev pub tested : ℕ × ℕ → Bool × Bool
tested f = (ltb f.0 0x80, ltb f.1 0x20)

-- what it tests after more bytes
pub survey_folded : (f : ℕ × ℕ) (s : List ℕ)
    → tested (fold (λ f b. (max f.0 b, min f.1 (control_rank b))) f s) ≡ (ltb f.0 0x80 && all ascii s, ltb f.1 0x20 || has_control s)
unfolding all any
survey_folded f [] = rw (and-true (ltb f.0 0x80), or-false (ltb f.1 0x20)) refl
survey_folded f (b ∷ s) =
    survey_folded (max f.0 b, min f.1 (control_rank b)) s
    ∙ rw (max_below f.0 b 0x80, min_below f.1 (control_rank b) 0x20, rank_control b) (rw (and_assoc (ltb f.0 0x80) (ascii b) (all ascii s), or_assoc (ltb f.1 0x20) (control b) (any control s)) refl)

-- the encoding of a character has a control byte exactly if the character is one
encode_control : (c : ℕ) → has_control (encode c) ≡ control c
unfolding any
encode_control c =
    encode_elim (λ s. has_control s ≡ control c) c (λ h. or-false (control c))
    (λ h. rw (high_no_control (0xC0 + c / 64) (omega arith), high_no_control (low6 c) (omega arith), high_no_control c (omega arith)) refl)
    (λ h. rw (
      high_no_control (0xE0 + c / 4096) (omega arith),
      high_no_control (low6 (c / 64)) (omega arith),
      high_no_control (low6 c) (omega arith),
      high_no_control c (omega arith),
    ) refl)
    (λ h. rw (
      high_no_control (0xF0 + c / 262144) (omega arith),
      high_no_control (low6 (c / 4096)) (omega arith),
      high_no_control (low6 (c / 64)) (omega arith),
      high_no_control (low6 c) (omega arith),
      high_no_control c (omega arith),
    ) refl)

-- a text that encodes characters has a control byte exactly if one of them is U+0000 to U+001F other than U+0009, U+000A and
-- U+000D, or U+007F
pub control_characters : (cs : List ℕ) → has_control (text_of cs) ≡ any control cs
unfolding any flatten
control_characters [] = refl
control_characters (c ∷ cs) = any_append control (encode c) (text_of cs) ∙ rw (encode_control c, control_characters cs)
