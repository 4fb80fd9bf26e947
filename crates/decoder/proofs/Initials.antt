-- Capitals with single dots between: row 2 takes them, and they are decoded from their letters. Assumes nothing.
use mathlib.Core.Path.{◌≡◌, refl, ap, ap₂, ◌∙◌}
use mathlib.Core.Bool.{Bool, true, ◌&&◌, and-eq-true_iff, not}
use mathlib.Core.List.{List, [], ◌∷◌, map}
use Prim.Native.Nat.{ℕ, ◌+◌, ◌-◌, ◌≤◌}
use Prim.Native.Char.{code}
use native.Mathlib.Omega.{arith}
use lib.Dec.{eqb, leb}
use lib.ListN.{length}
use borrow.Author.Tests.{leb-true, eqb-true, ne_eqb}
use Rattle.lists.specs.Bytes.{all, filter_if, same_by, uppercase, ends_with}
use Rattle.lists.specs.Classes.{letter, except}
use Rattle.lists.proofs.Scan.{all_within, class_apart}
use Rattle.lists.proofs.Table.{below}
use Rattle.shapes.specs.Shapes.{is_dotted_abbrev}
use Rattle.numerals.specs.Words.{other, spell, spelled}
use Rattle.letters.specs.Letters.{letter_word}
use Rattle.rows.specs.Rows.{by, read_step, read_with}
use Rattle.rows.specs.declared.Row.TheVariants.{Dotted}
use Rattle.rows.proofs.Laws.{step_eq}
use Rattle.rows.proofs.Dotted.{letter_chars}
use Rattle.clear.specs.Test.{uppercase_or_point}
use Rattle.clear.proofs.Initials.{initials_test}
use Rattle.clear.specs.Clear.{dotted_initials}
use Rattle.decoder.specs.Decode.{is_letter_word, letter_of_word, decode_initials, decode}
use Rattle.decoder.proofs.Decoded.{DecodedWith}
use Rattle.decoder.proofs.Dispatch.{not_one_word, decoded}

-- ---- capitals

-- the word of a letter
abbrev initial : ℕ → List ℕ
initial b = letter_word (b ∷ [])

is_read_back : ℕ → Bool
is_read_back b = is_letter_word (initial b) && eqb (letter_of_word (initial b)) b

uppercase_range : (b : ℕ) → uppercase b ≡ true → (65 ≤ b) × (b ≤ 90)
uppercase_range b h = (leb-true 65 b ((and-eq-true_iff (leb 65 b) (leb b 90)).0 h).0, leb-true b 90 ((and-eq-true_iff (leb 65 b) (leb b 90)).0 h).1)

uppercase_letter : (b : ℕ) → uppercase b ≡ true → letter b ≡ true
uppercase_letter b h = rw h

-- the word of a capital is a letter's word, and the capital is decoded from it
uppercase_read_back : (b : ℕ) → uppercase b ≡ true → is_read_back b ≡ true
unfolding is_read_back letter_word same_by all
uppercase_read_back b h =
    let r = uppercase_range b h in
    let e : b - 65 + 65 ≡ b = omega arith in
    rw e at (below (λ k. is_read_back (k + 65)) 26 refl (b - 65) (omega arith))

module _ (b : ℕ) (h : uppercase b ≡ true) where
  is_letter : is_letter_word (initial b) ≡ true
  unfolding is_read_back
  is_letter = ((and-eq-true_iff (is_letter_word (initial b)) _).0 (uppercase_read_back b h)).0

  same_uppercase : letter_of_word (initial b) ≡ b
  unfolding is_read_back
  same_uppercase = eqb-true _ b ((and-eq-true_iff (is_letter_word (initial b)) _).0 (uppercase_read_back b h)).1

-- ---- the name

dotted_initials_some : (c : ℕ) (cs : List ℕ) → 1 ≤ length (dotted_initials c cs)
unfolding dotted_initials
dotted_initials_some c [] = omega arith
dotted_initials_some c (d ∷ cs) = omega arith

dotted_initials_filter_if : (c : ℕ) (cs : List ℕ) → all uppercase (c ∷ cs) ≡ true → filter_if (except (code ".")) (dotted_initials c cs) ≡ c ∷ cs
unfolding dotted_initials filter_if all
dotted_initials_filter_if c [] h = rw (class_apart uppercase (code ".") c refl ((and-eq-true_iff (uppercase c) true).0 h).0)
dotted_initials_filter_if c (d ∷ cs) h =
    rw (class_apart uppercase (code ".") c refl ((and-eq-true_iff (uppercase c) (all uppercase (d ∷ cs))).0 h).0)
    (ap (λ (s : List ℕ). c ∷ s) (dotted_initials_filter_if d cs ((and-eq-true_iff (uppercase c) (all uppercase (d ∷ cs))).0 h).1))

-- ---- its letters

spelled_initials : (s : List ℕ) → spelled (map (λ b. other (initial b)) s) ≡ map initial s
unfolding spelled spell
spelled_initials [] = refl
spelled_initials (b ∷ s) = ap (λ (ws : List (List ℕ)). initial b ∷ ws) (spelled_initials s)

initials_read_back : (s : List ℕ) → all uppercase s ≡ true → map letter_of_word (map initial s) ≡ s
unfolding all
initials_read_back [] h = refl
initials_read_back (b ∷ s) h =
    ap₂ (λ (x : ℕ) (t : List ℕ). x ∷ t) (same_uppercase b ((and-eq-true_iff (uppercase b) (all uppercase s)).0 h).0)
    (initials_read_back s ((and-eq-true_iff (uppercase b) (all uppercase s)).0 h).1)

module _ (c d : ℕ) (cs : List ℕ) (h : all uppercase (c ∷ d ∷ cs) ≡ true) where
  abbrev name : List ℕ
  name = dotted_initials c (d ∷ cs)

  uppercase_letters : all letter (c ∷ d ∷ cs) ≡ true
  uppercase_letters = all_within uppercase letter uppercase_letter (c ∷ d ∷ cs) h

  is_dotted : is_dotted_abbrev name ≡ true
  is_dotted =
      let name_dotted = is_dotted_abbrev name && not (ends_with (code ".") name) in
      ((and-eq-true_iff (is_dotted_abbrev name) (not (ends_with (code ".") name))).0
      ((and-eq-true_iff name_dotted (all uppercase_or_point name)).0 (initials_test c d cs h)).0).0

  initials_row : (word : List ℕ → List ℕ) → read_with word name ≡ by Dotted (map (λ b. other (initial b)) (c ∷ d ∷ cs))
  unfolding read_step
  initials_row word =
      step_eq word name
      ∙ rw (
        ne_eqb (length name) 0 (λ z. omega (arith, dotted_initials_some c (d ∷ cs))),
        is_dotted,
        dotted_initials_filter_if c (d ∷ cs) h,
        letter_chars (c ∷ d ∷ cs) uppercase_letters,
      )

  letters_decoded : decode (map initial (c ∷ d ∷ cs)) ≡ name
  unfolding decode decode_initials all
  letters_decoded =
      let p = ((and-eq-true_iff (uppercase c) (all uppercase (d ∷ cs))).0 h).0 in
      rw (not_one_word (map initial (c ∷ d ∷ cs)) (omega arith), is_letter c p)
      (ap₂ dotted_initials (same_uppercase c p) (initials_read_back (d ∷ cs) ((and-eq-true_iff (uppercase c) (all uppercase (d ∷ cs))).0 h).1))

-- capitals with dots between are decoded
pub initials_decoded : {word : List ℕ → List ℕ} (c d : ℕ) (cs : List ℕ) → all uppercase (c ∷ d ∷ cs) ≡ true → DecodedWith word (dotted_initials c (d ∷ cs))
initials_decoded {word} c d cs h =
    let e = spelled_initials (c ∷ d ∷ cs) in
    decoded (dotted_initials c (d ∷ cs)) (map (λ b. other (initial b)) (c ∷ d ∷ cs)) (ap (λ r. r.words) (initials_row c d cs h word))
    (rw e (letters_decoded c d cs h))
