-- Which bytes a clear name has. So no fraction is clear, and no range with % behind it. Assumes nothing.
use mathlib.Core.Path.{◌≡◌, refl, sym, ap, ◌∙◌}
use mathlib.Core.Bool.{Bool, true, false, ◌||◌, and-false, or-true, and-eq-true_iff, false≢true}
use mathlib.Core.List.{List, [], ◌∷◌, ◌++◌}
use mathlib.Core.Logic.{◌⊎◌, inl, inr, ⊎_elim}
use Prim.Native.Nat.{ℕ, suc, ◌-◌, ◌<◌}
use Prim.Native.Char.{code}
use native.Mathlib.Omega.{arith}
use lib.Dec.{eqb, leb}
use lib.ListN.{length, get_or, take}
use borrow.Author.Tests.{ne_eqb}
use Rattle.lists.specs.Bytes.{bytes, all, any, span, take_while, strip_prefix, uppercase, lowercase}
use Rattle.lists.specs.Classes.{digit, letter, one_of}
use Rattle.lists.proofs.Bools.{or_true_elim}
use Rattle.lists.proofs.Scan.{all_append, all_within, all_at}
use Rattle.units.specs.Units.{unit_abbreviations, abbreviations, unit_words}
use Rattle.shapes.specs.Shapes.{is_digits, is_n_digits, is_range, is_digits_slash_digits}
use Rattle.shapes.specs.Grammar.{SeparatedForm, separated}
use Rattle.shapes.proofs.Grammar.{slashed_form, range_form}
use Rattle.shapes.proofs.Laws.{digits_all}
use Rattle.clear.specs.Clear.{plain, OptionalMinus, no_minus, a_minus, Decimals, no_point, a_point, ExponentSign, no_sign, plus_sign, minus_sign}
use Rattle.clear.specs.Clear.{Exponent, no_exponent, an_exponent, Number, number_digits, number_figure, is_hour, is_minute, AmPm, am, pm, suffix, dotted_initials}
use Rattle.clear.specs.Clear.{Clear, clear_number, clear_percent, clear_time, clear_meridiem, clear_ordinal, clear_unit, clear_range, clear_initials, clear_word}
use Rattle.clear.specs.Test.{is_exponent_clear, is_decimals_clear, is_figure_clear, is_number_clear, is_clear}
use Rattle.clear.proofs.Cuts.{cut_front, drop_while_seam, starts_with_digits}
use Rattle.clear.proofs.Figures.{plain_digits, number_test}
use Rattle.clear.proofs.Times.{hour_parts}
use Rattle.clear.proofs.Suffixes.{suffix_elim}
use Rattle.clear.proofs.Tested.{test_clear}

-- the bytes of clear names, but for the % at the end of some
abbrev name_byte : ℕ → Bool
name_byte b = digit b || letter b || one_of (bytes ".:+-") b

abbrev NameBytes : List ℕ → Type 0
NameBytes s = all name_byte s ≡ true

joined : (s t : List ℕ) → NameBytes s → NameBytes t → NameBytes (s ++ t)
joined s t h k = all_append name_byte s t ∙ rw (h, k)

digits_in : (s : List ℕ) → is_digits s ≡ true → NameBytes s
digits_in s h = all_within digit name_byte (λ b e. rw e) s (digits_all s h)

letters_in : (p : ℕ → Bool) → ((b : ℕ) → p b ≡ true → letter b ≡ true) → (s : List ℕ) → all p s ≡ true → NameBytes s
letters_in p f = all_within p name_byte (λ b e. rw (f b e, or-true (digit b)))

-- ---- the parts of clear names

plain_in : (s : List ℕ) → plain s ≡ true → NameBytes s
plain_in s h = digits_in s (plain_digits s h)

minus_in : (m : List ℕ) → OptionalMinus m → NameBytes m
unfolding all any
minus_in _ no_minus = refl
minus_in _ a_minus = refl

decimals_in : (f : List ℕ) → Decimals f → NameBytes f
unfolding all any
decimals_in _ no_point = refl
decimals_in _ (a_point f h) = digits_in f h

sign_in : (g : List ℕ) → ExponentSign g → NameBytes g
unfolding all any
sign_in _ no_sign = refl
sign_in _ plus_sign = refl
sign_in _ minus_sign = refl

exponent_in : (x : List ℕ) → Exponent x → NameBytes x
unfolding all any
exponent_in _ no_exponent = refl
exponent_in _ (an_exponent g x s h) = joined g x (sign_in g s) (plain_in x h)

number_in : (s : List ℕ) → Number s → NameBytes s
number_in _ (number_digits s h) = digits_in s h
number_in _ (number_figure m a f x p h t e) =
    joined m (a ++ (f ++ x)) (minus_in m p) (joined a (f ++ x) (plain_in a h) (joined f x (decimals_in f t) (exponent_in x e)))

hour_in : (h : List ℕ) → is_hour h ≡ true → NameBytes h
hour_in h p = plain_in h (hour_parts h p).0

minute_in : (m : List ℕ) → is_minute m ≡ true → NameBytes m
minute_in m q =
    let two = ((and-eq-true_iff (is_n_digits 2 m) (leb (get_or m 0 0) (code "5"))).0 q).0 in
    digits_in m ((and-eq-true_iff (eqb (length m) 2) (is_digits m)).0 two).1

am_pm_in : (x : List ℕ) → AmPm x → NameBytes x
unfolding all any
am_pm_in _ am = refl
am_pm_in _ pm = refl

initials_in : (c : ℕ) (cs : List ℕ) → all uppercase (c ∷ cs) ≡ true → NameBytes (dotted_initials c cs)
unfolding all any dotted_initials
initials_in c [] h = letters_in uppercase (λ b e. rw e) (c ∷ []) h
initials_in c (d ∷ cs) h =
    let k = (and-eq-true_iff (uppercase c) (all uppercase (d ∷ cs))).0 h in
    rw (k.0, or-true (digit c)) (initials_in d cs k.1)

abbreviation_in : (k : ℕ) → k < length unit_words → NameBytes (get_or abbreviations k [])
unfolding all any unit_words abbreviations unit_abbreviations
abbreviation_in k l = all_at (all name_byte) [] abbreviations k refl (omega arith)

-- a clear name has no other byte, or it is a number with % behind it
pub clear_bytes : (n : List ℕ) → Clear n → NameBytes n ⊎ ((s : List ℕ) × Number s × (n ≡ s ++ bytes "%"))
unfolding all any
clear_bytes _ (clear_number s a) = inl (number_in s a)
clear_bytes _ (clear_percent s a) = inr (s, a, refl)
clear_bytes _ (clear_time h m p q) = inl (joined h (bytes ":" ++ m) (hour_in h p) (minute_in m q))
clear_bytes _ (clear_meridiem h m x p q d) = inl (joined h (bytes ":" ++ (m ++ x)) (hour_in h p) (joined m x (minute_in m q) (am_pm_in x d)))
clear_bytes _ (clear_ordinal s h) = inl (joined s (suffix s) (plain_in s h) (suffix_elim NameBytes refl refl refl refl s))
clear_bytes _ (clear_unit s k h l w) = inl (joined s (get_or abbreviations k []) (plain_in s h) (abbreviation_in k l))
clear_bytes _ (clear_range a b p q) = inl (joined a (bytes "-" ++ b) (digits_in a p) (digits_in b q))
clear_bytes _ (clear_initials c d cs h) = inl (initials_in c (d ∷ cs) h)
clear_bytes _ (clear_word s l h n c o) = inl (letters_in lowercase (λ b e. rw (e, or-true (uppercase b))) s h)

-- ---- names that are not clear

-- no text around a byte outside a class makes up for it
byte_outside : (p : ℕ → Bool) (s : List ℕ) (c : ℕ) (t : List ℕ) → p c ≡ false → all p (s ++ (c ∷ t)) ≡ true → ⊥
unfolding all
byte_outside p s c t n k = false≢true (sym (all_append p s (c ∷ t) ∙ rw n (and-false (all p s))) ∙ k)

unclear : (n : List ℕ) → (Clear n → ⊥) → is_clear n ≡ false
unclear n h = go (is_clear n) refl
  where
    go : (t : Bool) → is_clear n ≡ t → t ≡ false
    go true e = absurd (h (test_clear n e))
    go false e = refl

-- the bytes of all clear names
abbrev clear_byte : ℕ → Bool
clear_byte b = name_byte b || eqb b (code "%")

clear_all : (n : List ℕ) → Clear n → all clear_byte n ≡ true
unfolding all any
clear_all n k = ⊎_elim (within n) (λ o. rw o.2 (all_append clear_byte o.0 (bytes "%") ∙ rw (within o.0 (number_in o.0 o.1)))) (clear_bytes n k)
  where
    within : (s : List ℕ) → NameBytes s → all clear_byte s ≡ true
    within = all_within name_byte clear_byte (λ b e. rw e)

-- 02, A2: "Ranges join the clear entries; fractions don't"
pub fraction_unclear : (s : List ℕ) → is_digits_slash_digits s ≡ true → is_clear s ≡ false
unfolding any
fraction_unclear s h = unclear s (λ k. go s ((slashed_form s).0 h) k)
  where
    go : (s : List ℕ) → SeparatedForm (code "/") s → Clear s → ⊥
    go _ (separated a b p q) k = byte_outside clear_byte a (code "/") b refl (clear_all (a ++ (code "/" ∷ b)) k)

-- no number is a range
pub number_no_range : (s : List ℕ) → Number s → is_range s ≡ true → ⊥
unfolding is_figure_clear is_decimals_clear is_exponent_clear span
number_no_range s n h = go s n ((range_form s).0 h)
  where
    no_figure : (a b : List ℕ) → is_digits a ≡ true → is_figure_clear (a ++ (code "-" ∷ b)) ≡ false
    no_figure a b p =
        rw (drop_while_seam digit a (code "-" ∷ b) (digits_all a p) refl, ne_eqb (suc (length b)) 0 (omega arith))
        (and-false (plain (take_while digit (a ++ (code "-" ∷ b)))))

    no_number : (a b : List ℕ) → is_digits a ≡ true → is_number_clear (a ++ (code "-" ∷ b)) ≡ true → ⊥
    no_number a b p =
        or_true_elim (is_digits (a ++ (code "-" ∷ b))) (is_figure_clear (strip_prefix (code "-") (a ++ (code "-" ∷ b))))
        (λ e. byte_outside digit a (code "-") b refl (digits_all (a ++ (code "-" ∷ b)) e))
        (λ e. false≢true (sym (no_figure a b p) ∙ (rw (starts_with_digits (code "-") a (code "-" ∷ b) refl p) at e)))

    go : (s : List ℕ) → Number s → SeparatedForm (code "-") s → ⊥
    go _ n (separated a b p q) = no_number a b p (number_test (a ++ (code "-" ∷ b)) n)

-- nor is a range with % behind it clear
pub percent_range_unclear : (s : List ℕ) → is_range s ≡ true → is_clear (s ++ bytes "%") ≡ false
unfolding any
percent_range_unclear s h =
    unclear (s ++ bytes "%") (λ k. ⊎_elim (byte_outside name_byte s (code "%") [] refl) (λ o. other o.0 o.1 o.2) (clear_bytes (s ++ bytes "%") k))
  where
    other : (t : List ℕ) → Number t → s ++ bytes "%" ≡ t ++ bytes "%" → ⊥
    other t n e =
        let same : s ≡ t = sym (cut_front s (bytes "%") 1 refl) ∙ ap (λ (r : List ℕ). take (length r - 1) r) e ∙ cut_front t (bytes "%") 1 refl in
        number_no_range t n (rw same at h)
