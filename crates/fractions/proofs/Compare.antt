-- Numbers in decimal digits are compared by their digits: of two numbers without leading zeros the longer one is larger, and of
-- two numbers of the same length the first digits that differ decide. Assumes nothing.
use mathlib.Core.Path.{◌≡◌, refl, sym, ap, ◌∙◌}
use mathlib.Core.Bool.{Bool, true, false, cond, ◌&&◌, ◌||◌, and-eq-true_iff}
use mathlib.Core.List.{List, [], ◌∷◌}
use Prim.Native.Nat.{ℕ, suc, ◌+◌, ◌*◌, ◌^◌, ◌≤◌, ◌<◌}
use Prim.Native.Char.{code}
use native.Mathlib.Nat.{pow-suc}
use native.Mathlib.Omega.{arith}
use lib.Dec.{eqb, ltb, leb}
use lib.ListN.{length, drop, get_or}
use borrow.Author.Tests.{eqb-true, eqb-false, leb-true, ltb-true, ltb-false, lt-ltb, le-ltb, not-true}
use Rattle.std.proofs.Math.Nat.{mul-le-mul_right, pow-le-pow_right}
use Rattle.std.specs.Prelude.{Some}
use Rattle.std.specs.Ordering.{nat_cmp, is_lt, is_some_and}
use Rattle.std.specs.Cmp.Lexicographic.{slice_partial_cmp}
use Rattle.std.proofs.lemmas.Cmp.{same_from_slice_cmp_tested}
use Rattle.std.proofs.lemmas.Bool.Decides.{nat_tests}
use Rattle.lists.specs.Bytes.{all, span, filter_if}
use Rattle.lists.specs.Classes.{digit, only, except}
use Rattle.lists.proofs.Scan.{all_split, span_front}
use Rattle.numerals.specs.Cardinal.{digit_value, digit_values}
use Rattle.numerals.specs.Value.{decimal, decimal_from}
use Rattle.numerals.proofs.Digits.{digit_values_count}
use Rattle.numerals.proofs.Value.{decimal_append}
use Rattle.fractions.specs.Fraction.{value}
use Rattle.fractions.specs.Walk.{significant}

-- leading zeros add nothing to the value
pub value_significant : (s : List ℕ) → value (significant s) ≡ value s
unfolding digit_values filter_if span decimal decimal_from
value_significant [] = refl
value_significant (b ∷ s) = go (eqb b (code "0")) refl (value_significant s)
  where
    go : (t : Bool) → eqb b (code "0") ≡ t → value (significant s) ≡ value s
        → value (drop (cond t (suc (span (only (code "0")) s)) 0) (b ∷ s)) ≡ value (b ∷ s)
    go true e i = i ∙ rw (eqb-true b (code "0") e)
    go false e i = refl

-- a digit is a byte from 0 to 9
digit_bounds : (b : ℕ) → digit b ≡ true → (code "0" ≤ b) × (b ≤ code "9")
digit_bounds b h = let k = (and-eq-true_iff (leb (code "0") b) (leb b (code "9"))).0 h in (leb-true (code "0") b k.0, leb-true b (code "9") k.1)

decimal_cons : (d : ℕ) (ds : List ℕ) → decimal (d ∷ ds) ≡ d * 10 ^ length ds + decimal ds
unfolding decimal decimal_from
decimal_cons d ds =
    let one : decimal (d ∷ []) ≡ d = omega arith in
    decimal_append (d ∷ []) ds ∙ ap (λ (n : ℕ). n * 10 ^ length ds + decimal ds) one

-- the first of n + 1 digits counts 10 ^ n times
pub value_cons : (b : ℕ) (s : List ℕ) → all digit (b ∷ s) ≡ true → value (b ∷ s) ≡ digit_value b * 10 ^ length s + value s
unfolding all digit_values filter_if
value_cons b s h =
    let k = (and-eq-true_iff (digit b) (all digit s)).0 h in
    rw (k.0, ← digit_values_count s k.1) (decimal_cons (digit_value b) (digit_values s))

-- n digits have a value below 10 ^ n
pub value_below : (s : List ℕ) → all digit s ≡ true → value s < 10 ^ length s
unfolding all digit_values filter_if decimal decimal_from
value_below [] h = omega arith
value_below (b ∷ s) h =
    let k = (and-eq-true_iff (digit b) (all digit s)).0 h in
    let few : digit_value b ≤ 9 = omega (arith, digit_bounds b k.0) in
    rw (value_cons b s h, pow-suc) (omega (arith, value_below s k.1, mul-le-mul_right (10 ^ length s) few))

-- n + 1 digits without a leading zero have a value of at least 10 ^ n
pub value_least : (b : ℕ) (s : List ℕ) → all digit (b ∷ s) ≡ true → except (code "0") b ≡ true → 10 ^ length s ≤ value (b ∷ s)
unfolding all
value_least b s h n =
    let k = (and-eq-true_iff (digit b) (all digit s)).0 h in
    let apart = eqb-false b (code "0") (not-true (eqb b (code "0")) n) in
    let some : 1 ≤ digit_value b = omega (arith, digit_bounds b k.0, apart) in
    rw (value_cons b s h) (omega (arith, mul-le-mul_right (10 ^ length s) some))

-- so the shorter of two numbers is smaller if the longer one has no leading zero
pub shorter_below : (a b : List ℕ) → all digit a ≡ true → all digit b ≡ true → except (code "0") (get_or b 0 0) ≡ true
    → length a < length b → value a < value b
shorter_below a [] h k n l = absurd (omega arith)
shorter_below a (c ∷ b) h k n l =
    let longer : 10 ^ length a ≤ 10 ^ length b = pow-le-pow_right (omega arith) (omega arith) in
    omega (arith, value_below a h, value_least c b k n)

-- the first bytes that differ decide, and else the shorter text is before the longer one
abbrev pub lex_less : List ℕ → List ℕ → Bool
lex_less [] [] = false
lex_less [] (y ∷ ys) = true
lex_less (x ∷ xs) [] = false
lex_less (x ∷ xs) (y ∷ ys) = ltb x y || (eqb x y && lex_less xs ys)

-- what `<` answers for two slices of bytes
pub slice_lex_less : (a b : List ℕ) {r : Bool} → r ≡ is_some_and is_lt (slice_partial_cmp (λ x y. Some (nat_cmp x y)) a b) → r ≡ lex_less a b
slice_lex_less a b {r} = same_from_slice_cmp_tested nat_cmp is_lt lex_less refl (λ _ _. refl) (λ _ _. refl) (λ x y xs ys o h. grind (arith, nat_tests)) a b r

ltb_add : (n a b : ℕ) → ltb (n + a) (n + b) ≡ ltb a b
ltb_add n a b = go (ltb a b) refl
  where
    go : (t : Bool) → ltb a b ≡ t → ltb (n + a) (n + b) ≡ t
    go true e = lt-ltb (n + a) (n + b) (omega (arith, ltb-true a b e))
    go false e = le-ltb (n + a) (n + b) (omega (arith, ltb-false a b e))

-- if the first digit of two numbers of the same length is smaller, so is the number
first_decides : (x y : ℕ) (s t : List ℕ) → all digit (x ∷ s) ≡ true → all digit (y ∷ t) ≡ true → length s ≡ length t → x < y
    → value (x ∷ s) < value (y ∷ t)
unfolding all
first_decides x y s t h k e l =
    let d = (and-eq-true_iff (digit x) (all digit s)).0 h in
    let f = (and-eq-true_iff (digit y) (all digit t)).0 k in
    let more : suc (digit_value x) ≤ digit_value y = omega (arith, digit_bounds x d.0, digit_bounds y f.0) in
    rw (value_cons x s h, value_cons y t k, ← e) (omega (arith, value_below s d.1, mul-le-mul_right (10 ^ length s) more))

-- of two numbers of the same length the first digits that differ decide
pub same_length_below : (a b : List ℕ) → all digit a ≡ true → all digit b ≡ true → length a ≡ length b
    → ltb (value a) (value b) ≡ lex_less a b
unfolding all
same_length_below [] [] h k e = le-ltb (value []) (value []) (omega arith)
same_length_below [] (y ∷ b) h k e = absurd (omega arith)
same_length_below (x ∷ a) [] h k e = absurd (omega arith)
same_length_below (x ∷ a) (y ∷ b) h k e =
    let d = (and-eq-true_iff (digit x) (all digit a)).0 h in
    let f = (and-eq-true_iff (digit y) (all digit b)).0 k in
    go (ltb x y) (eqb x y) refl refl (same_length_below a b d.1 f.1 (omega arith))
  where
    l : length a ≡ length b
    l = omega arith

    go : (t u : Bool) → ltb x y ≡ t → eqb x y ≡ u → ltb (value a) (value b) ≡ lex_less a b
        → ltb (value (x ∷ a)) (value (y ∷ b)) ≡ t || (u && lex_less a b)
    go true u p q i = lt-ltb _ _ (first_decides x y a b h k l (ltb-true x y p))
    go false true p q i =
        rw (value_cons x a h, value_cons y b k, ← l, eqb-true x y q) (ltb_add (digit_value y * 10 ^ length a) (value a) (value b) ∙ i)
    go false false p q i =
        let larger : y < x = omega (arith, ltb-false x y p, eqb-false x y q) in
        le-ltb _ _ (omega (arith, first_decides y x b a k h (sym l) larger))

-- the order of decimal numbers without leading zeros: by length, and at the same length by the first digits that differ
abbrev pub shortlex : List ℕ → List ℕ → Bool
shortlex a b = cond (eqb (length a) (length b)) (lex_less a b) (ltb (length a) (length b))

-- it is the order of the values, once the leading zeros are taken off
pub shortlex_below : (a b : List ℕ) → all digit a ≡ true → all digit b ≡ true
    → shortlex (significant a) (significant b) ≡ ltb (value a) (value b)
shortlex_below a b h k = rw (← value_significant a, ← value_significant b) (go (eqb (length x) (length y)) (ltb (length x) (length y)) refl refl)
  where
    x : List ℕ
    x = significant a

    y : List ℕ
    y = significant b

    digits_left : (s : List ℕ) → all digit s ≡ true → all digit (significant s) ≡ true
    digits_left s h = (all_split digit s (span (only (code "0")) s) h).1

    no_zero : (s : List ℕ) → except (code "0") (get_or (significant s) 0 0) ≡ true
    no_zero = span_front (only (code "0")) (except (code "0")) refl (λ b e. rw e)

    go : (t u : Bool) → eqb (length x) (length y) ≡ t → ltb (length x) (length y) ≡ u → cond t (lex_less x y) u ≡ ltb (value x) (value y)
    go true u p q = sym (same_length_below x y (digits_left a h) (digits_left b k) (eqb-true _ _ p))
    go false true p q = sym (lt-ltb _ _ (shorter_below x y (digits_left a h) (digits_left b k) (no_zero b) (ltb-true _ _ q)))
    go false false p q =
        let longer : length y < length x = omega (arith, eqb-false (length x) (length y) p, ltb-false (length x) (length y) q) in
        sym (le-ltb _ _ (omega (arith, shorter_below y x (digits_left b k) (digits_left a h) (no_zero a) longer)))

-- the same for two texts that are the significant digits of a and of b
pub shortlex_of : (a b : List ℕ) {x y : List ℕ} → (all digit a ≡ true) × (all digit b ≡ true) → x ≡ significant a → y ≡ significant b
    → shortlex x y ≡ ltb (value a) (value b)
shortlex_of a b d p q = rw (p, q) (shortlex_below a b d.0 d.1)
