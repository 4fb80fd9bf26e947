-- What a fraction is, from its numerator and its denominator. Assumes nothing.
use mathlib.Core.Path.{◌≡◌, refl, sym, ap, ◌∙◌}
use mathlib.Core.Bool.{Bool, true, false, cond}
use mathlib.Core.List.{List, [], ◌∷◌, ◌++◌}
use mathlib.Core.Option.{some}
use Prim.Native.Nat.{ℕ, ◌+◌, ◌≤◌, ◌<◌}
use native.Mathlib.Omega.{arith}
use lib.ListN.{length, drop}
use lib.Seq.{take-append_seam, drop-append_seam, drop-append-add}
use lib.Dec.{ltb}
use borrow.Author.Tests.{not-false}
use Rattle.std.proofs.lemmas.Bool.Decides.{nat_tests}
use Rattle.lists.specs.Bytes.{bytes, all, same, same_by, span, after_last, filter_if, Every}
use Rattle.lists.specs.Classes.{digit, non_digit}
use Rattle.lists.proofs.Every.{every_append}
use Rattle.lists.proofs.Recursion.{cond_elim}
use Rattle.lists.proofs.Scan.{span_all, all_span, span_before, last_rest, last_none, last_drop}
use Rattle.lists.proofs.Table.{same_true}
use Rattle.numerals.specs.Words.{Word, other, spelled}
use Rattle.numerals.specs.Cardinal.{digit_values, cardinal}
use Rattle.numerals.specs.Ordinal.{ordinal}
use Rattle.numerals.specs.Value.{decimal, decimal_from, value_of, ordinal_value_of}
use Rattle.numerals.proofs.Value.{cardinal_names, ordinal_names}
use Rattle.fractions.specs.Fraction.{numerator, denominator, value, plural, fraction_of, fraction}
use Rattle.numerals.proofs.Digits.{digit_values_count}

-- ---- numerator and denominator

-- two runs of digits with a slash between them
abbrev pub over : List ℕ → List ℕ → List ℕ
over a b = a ++ (bytes "/" ++ b)

-- what stands before the slash is the numerator
pub numerator_over : (a b : List ℕ) → all digit a ≡ true → numerator (over a b) ≡ a
numerator_over a b h =
    let n : span digit (over a b) ≡ length a = span_before digit a 47 b refl ∙ all_span digit a h in
    rw n (take-append_seam a (bytes "/" ++ b))

-- what stands after it is the denominator
pub denominator_over : (a b : List ℕ) → all digit b ≡ true → denominator (over a b) ≡ b
unfolding after_last
denominator_over a b k =
    let none : after_last non_digit b ≡ 0 = last_none non_digit digit (λ c e. rw e) b k in
    let rest : drop (length a) (over a b) ≡ bytes "/" ++ b = drop-append_seam a (bytes "/" ++ b) in
    let one : after_last non_digit (drop (length a) (over a b)) ≡ 1 = rw (rest, none) in
    let n : after_last non_digit (over a b) ≡ length a + 1 = last_drop non_digit (over a b) (length a) (omega arith) ∙ rw one in
    rw n (drop-append-add a (bytes "/" ++ b) 1)

-- the numerator is digits
pub numerator_digits : (s : List ℕ) → all digit (numerator s) ≡ true
numerator_digits s = span_all digit s

-- the denominator is digits
pub denominator_digits : (s : List ℕ) → all digit (denominator s) ≡ true
denominator_digits s = last_rest non_digit digit (λ b e. not-false (digit b) e) s

-- ---- the words

-- the word "'s" follows if the numerator exceeds 1
pub plural_said : (a : List ℕ) → 1 < value a → plural a ≡ other (bytes "'s") ∷ []
unfolding plural
plural_said a h = grind (arith, nat_tests)

-- and nothing if it does not
pub plural_unsaid : (a : List ℕ) → value a ≤ 1 → plural a ≡ []
unfolding plural
plural_unsaid a h = grind (arith, nat_tests)

-- with a numerator below the denominator it is the cardinal, the ordinal, and the word "'s" if need be
pub proper_of : (a b : List ℕ) → value a < value b → fraction_of a b ≡ cardinal a ++ (ordinal b ++ plural a)
unfolding fraction_of
proper_of a b h = grind (arith, nat_tests)

-- else it is both cardinals, with the word "slash" between them
pub improper_of : (a b : List ℕ) → value b ≤ value a → fraction_of a b ≡ cardinal a ++ other (bytes "slash") ∷ cardinal b
unfolding fraction_of
improper_of a b h = grind (arith, nat_tests)

-- the name "1/2" is "a half"
pub half_read : fraction (bytes "1/2") ≡ other (bytes "a") ∷ other (bytes "half") ∷ []
unfolding fraction same_by
half_read = refl

-- any other name is read by its numerator and its denominator
pub parts_read : (s : List ℕ) → same s (bytes "1/2") ≡ false → fraction s ≡ fraction_of (numerator s) (denominator s)
unfolding fraction
parts_read s e = rw e

other_read : (s : List ℕ) → (s ≡ bytes "1/2" → ⊥) → fraction s ≡ fraction_of (numerator s) (denominator s)
other_read s n = go (same s (bytes "1/2")) refl
  where
    go : (t : Bool) → same s (bytes "1/2") ≡ t → fraction s ≡ fraction_of (numerator s) (denominator s)
    go true e = absurd (n (same_true s (bytes "1/2") e))
    go false e = parts_read s e

-- a proper fraction other than "1/2" is read as a cardinal number, an ordinal number, and the word "'s" if need be
pub proper_read : (a b : List ℕ) → all digit a ≡ true → all digit b ≡ true → (over a b ≡ bytes "1/2" → ⊥) → value a < value b
    → fraction (over a b) ≡ cardinal a ++ (ordinal b ++ plural a)
proper_read a b h k n l = other_read (over a b) n ∙ rw (numerator_over a b h, denominator_over a b k) (proper_of a b l)

-- a fraction whose numerator is not below its denominator is read as two cardinal numbers
pub improper_read : (a b : List ℕ) → all digit a ≡ true → all digit b ≡ true → value b ≤ value a
    → fraction (over a b) ≡ cardinal a ++ other (bytes "slash") ∷ cardinal b
unfolding digit_values filter_if decimal decimal_from span after_last
improper_read a b h k l = other_read (over a b) no_half ∙ rw (numerator_over a b h, denominator_over a b k) (improper_of a b l)
  where
    no_half : over a b ≡ bytes "1/2" → ⊥
    no_half e =
        let one : a ≡ bytes "1" = sym (numerator_over a b h) ∙ ap numerator e in
        let two : b ≡ bytes "2" = sym (denominator_over a b k) ∙ ap denominator e in
        let wrong : value (bytes "2") ≤ value (bytes "1") = rw (one, two) at l in
        absurd (omega (arith, wrong))

-- ---- the value

-- words of the proper fraction n / d: a cardinal number that names n, an ordinal number that names d, and "'s" if n exceeds 1
pub record NamesProper (n d : ℕ) (ws : List Word) : Type 0 where
  pub cardinal_words : List Word
  pub ordinal_words : List Word
  pub words : ws ≡ cardinal_words ++ (ordinal_words ++ cond (ltb 1 n) (other (bytes "'s") ∷ []) [])
  pub names_numerator : value_of (spelled cardinal_words) ≡ some n
  pub names_denominator : ordinal_value_of (spelled ordinal_words) ≡ some d

-- the words of a proper fraction of up to twelve digits each name the values of its numerator and its denominator
pub proper_names : (a b : List ℕ) → all digit a ≡ true → all digit b ≡ true → (over a b ≡ bytes "1/2" → ⊥) → value a < value b
    → length a ≤ 12 → length b ≤ 12 → NamesProper (value a) (value b) (fraction (over a b))
unfolding plural
proper_names a b h k n l p q =
    record {
      cardinal_words = cardinal a;
      ordinal_words = ordinal b;
      words = proper_read a b h k n l;
      names_numerator = cardinal_names a (rw (digit_values_count a h) p);
      names_denominator = ordinal_names b (rw (digit_values_count b k) q);
    }

-- words of any other fraction n / d: cardinal numbers that name n and d, with the word "slash" between them
pub record NamesImproper (n d : ℕ) (ws : List Word) : Type 0 where
  pub over_words : List Word
  pub under_words : List Word
  pub words : ws ≡ over_words ++ other (bytes "slash") ∷ under_words
  pub names_numerator : value_of (spelled over_words) ≡ some n
  pub names_denominator : value_of (spelled under_words) ≡ some d

-- the words of such a fraction name the values of its numerator and its denominator too
pub improper_names : (a b : List ℕ) → all digit a ≡ true → all digit b ≡ true → value b ≤ value a → length a ≤ 12 → length b ≤ 12
    → NamesImproper (value a) (value b) (fraction (over a b))
improper_names a b h k l p q =
    record {
      over_words = cardinal a;
      under_words = cardinal b;
      words = improper_read a b h k l;
      names_numerator = cardinal_names a (rw (digit_values_count a h) p);
      names_denominator = cardinal_names b (rw (digit_values_count b k) q);
    }

-- ---- what holds of all words

-- the words of fractions that no number has
abbrev pub fraction_words : List Word
fraction_words = other (bytes "a") ∷ other (bytes "half") ∷ other (bytes "'s") ∷ other (bytes "slash") ∷ []

-- all words of a fraction have a property if these have it and all words of cardinal and ordinal numbers do
pub fraction_elim : (P : Word → Type 0) → Every P fraction_words → ((t : List ℕ) → Every P (cardinal t)) → ((t : List ℕ) → Every P (ordinal t))
    → (s : List ℕ) → Every P (fraction s)
unfolding fraction fraction_of plural
fraction_elim P w c o s =
    let a = numerator s in
    let b = denominator s in
    let slash : P (other (bytes "slash")) = w.1.1.1.0 in
    let said : Every P (plural a) = cond_elim (Every P) (ltb 1 (value a)) (λ e. (w.1.1.0, tt)) (λ e. tt) in
    let under : Every P (ordinal b ++ plural a) = every_append P (ordinal b) (plural a) (o b) said in
    cond_elim (Every P) (same s (bytes "1/2")) (λ e. (w.0, (w.1.0, tt)))
    (λ e. cond_elim (Every P) (ltb (value a) (value b)) (λ e. every_append P (cardinal a) (ordinal b ++ plural a) (c a) under)
    (λ e. every_append P (cardinal a) (other (bytes "slash") ∷ cardinal b) (c a) (slash, c b)))
