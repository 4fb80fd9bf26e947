-- A standard roman numeral is read as its number; and which texts give 0. Assumes nothing.
use mathlib.Core.Path.{◌≡◌, refl, sym, ap, ◌∙◌}
use mathlib.Core.Bool.{Bool, true, false, cond, ◌&&◌, or-false, or-true, and-eq-true_iff}
use mathlib.Core.List.{List, [], ◌∷◌, ◌++◌, map, map-append}
use Prim.Native.Nat.{ℕ, ◌+◌, ◌-◌, ◌*◌, ◌/◌, ◌%◌, ◌≤◌, ◌<◌}
use Prim.Native.String.{String}
use native.Mathlib.Omega.{arith}
use lib.Dec.{eqb, leb, ltb}
use lib.ListN.{take, drop, take-append-drop}
use borrow.Author.Tests.{le-ltb, leb-true, eqb-true, ne_eqb}
use Rattle.lists.specs.Bytes.{bytes, all, any, elem, to_lower, Every}
use Rattle.lists.proofs.Bools.{or_false_both}
use Rattle.lists.proofs.Every.{every_append, every_imply, every_tested}
use Rattle.lists.proofs.Recursion.{cond_elim}
use Rattle.lists.proofs.Scan.{any_append}
use Rattle.lists.proofs.Table.{upto, below}
use Rattle.admit.specs.Utf8.{in_range}
use Rattle.admit.proofs.Scalars.{bounds}
use Rattle.roman.specs.Roman.{roman_letter_value, any_larger, sum_added, sum_subtracted, roman_value, roman_thousands, roman_hundreds, roman_tens, roman_ones, roman_digit, standard_numeral}

-- no value is larger than v if each is at most v
none_larger : (v : ℕ) (vs : List ℕ) → Every (λ w. w ≤ v) vs → any_larger v vs ≡ false
unfolding any
none_larger v [] h = refl
none_larger v (w ∷ vs) h = rw (le-ltb v w h.0, none_larger v vs h.1)

-- if y has no value larger than v, x alone decides whether a larger one follows v
any_larger_append : (v : ℕ) (x y : List ℕ) → Every (λ w. w ≤ v) y → any_larger v (x ++ y) ≡ any_larger v x
any_larger_append v x y h = any_append (ltb v) x y ∙ rw (none_larger v y h) (or-false (any_larger v x))

-- values of at least m before others of at most m: the sums of both parts add up
sums_append : (m : ℕ) (x y : List ℕ) → Every (λ v. m ≤ v) x → Every (λ w. w ≤ m) y → (sum_added (x ++ y) ≡ sum_added x + sum_added y)
    × (sum_subtracted (x ++ y) ≡ sum_subtracted x + sum_subtracted y)
unfolding sum_added sum_subtracted
sums_append m [] y h k = omega arith
sums_append m (v ∷ x) y h k =
    let i = sums_append m x y h.1 k in
    rw (any_larger_append v x y (every_imply (λ w. w ≤ m) (λ w. w ≤ v) (λ w l. omega arith) y k), i.0, i.1) (omega arith)

-- values from lo to hi; what they add is n more than what they subtract
record ComesTo (lo hi n : ℕ) (vs : List ℕ) : Type 0 where
  sizes : Every (λ v. (lo ≤ v) × (v ≤ hi)) vs
  sum : sum_added vs ≡ sum_subtracted vs + n

-- if smaller values follow larger ones, the numbers that both come to add up
comes_to_append : {l m h a b : ℕ} {x y : List ℕ} → (l ≤ m) × (m ≤ h) → ComesTo m h a x → ComesTo l m b y → ComesTo l h (a + b) (x ++ y)
comes_to_append {l} {m} {h} {a} {b} {x} {y} o r q =
    let s = sums_append m x y (every_imply _ _ (λ v k. k.0) x r.sizes) (every_imply _ _ (λ v k. k.1) y q.sizes) in
    record {
      sizes = every_append _ x y (every_imply _ _ (λ v k. (omega arith, k.1)) x r.sizes) (every_imply _ _ (λ v k. (k.0, omega arith)) y q.sizes);
      sum = omega (arith, s, r.sum, q.sum);
    }

-- the numerals of one decimal place: a test is computed for each, so each comes to its digit times `unit`
module _ (lo hi unit : ℕ) (table : List String) where
  digit_test : ℕ → Bool
  digit_test d =
      all (in_range lo hi) (map roman_letter_value (roman_digit table d)) && eqb (sum_added (map roman_letter_value (roman_digit table d)))
      (sum_subtracted (map roman_letter_value (roman_digit table d)) + d * unit)

  digit_reads : (n : ℕ) → upto digit_test n ≡ true → (d : ℕ) → d < n → ComesTo lo hi (d * unit) (map roman_letter_value (roman_digit table d))
  unfolding digit_test
  digit_reads n t d h =
      let k = (and-eq-true_iff (all (in_range lo hi) (map roman_letter_value (roman_digit table d))) _).0 (below digit_test n t d h) in
      record { sizes = every_tested _ _ (bounds lo hi) _ k.0; sum = eqb-true _ _ k.1 }

-- if each value is at least 1, no letter is foreign, so the numeral's value is the number that they come to
comes_to_value : (s : List ℕ) (n hi : ℕ) → ComesTo 1 hi n (map roman_letter_value s) → roman_value s ≡ n
unfolding roman_value any
comes_to_value s n hi r = rw (no_zero (map roman_letter_value s) r.sizes) (omega (arith, r.sum))
  where
    no_zero : (vs : List ℕ) → Every (λ v. (1 ≤ v) × (v ≤ hi)) vs → elem 0 vs ≡ false
    no_zero [] h = refl
    no_zero (v ∷ vs) h = rw (ne_eqb v 0 (omega arith), no_zero vs h.1)

-- a standard numeral is read as its number
pub standard_value : (n : ℕ) → n < 4000 → roman_value (standard_numeral n) ≡ n
unfolding digit_test all any sum_added sum_subtracted roman_letter_value
standard_value n h =
    comes_to_value (standard_numeral n) n 1000
    (simp map-append
    (rw e at
    (comes_to_append (omega arith)
    (comes_to_append (omega arith)
    (comes_to_append (omega arith) (digit_reads 1000 1000 1000 roman_thousands 4 refl (n / 1000) (omega arith))
    (digit_reads 100 1000 100 roman_hundreds 10 refl (n / 100 % 10) (omega arith)))
    (digit_reads 10 100 10 roman_tens 10 refl (n / 10 % 10) (omega arith)))
    (digit_reads 1 10 1 roman_ones 10 refl (n % 10) (omega arith)))))
  where
    e : n / 1000 * 1000 + n / 100 % 10 * 100 + n / 10 % 10 * 10 + n % 10 * 1 ≡ n
    e = omega arith

-- ---- what gives 0

-- if no element passes p, no element of a part does
any_split : (p : ℕ → Bool) (n : ℕ) (s : List ℕ) → any p s ≡ false → (any p (take n s) ≡ false) × (any p (drop n s) ≡ false)
any_split p n s h = or_false_both (any p (take n s)) (any p (drop n s)) (sym (any_append p (take n s) (drop n s)) ∙ ap (any p) (take-append-drop n s) ∙ h)

-- a byte that is no roman letter has the value 0
no_roman_letter : (b : ℕ) → elem b (bytes "IiVvXxLlCcDdMm") ≡ false → roman_letter_value b ≡ 0
unfolding roman_letter_value
no_roman_letter b h = rw (pair 0, pair 2, pair 4, pair 6, pair 8, pair 10, pair 12)
  where
    s : List ℕ
    s = bytes "IiVvXxLlCcDdMm"

    pair : (k : ℕ) → elem b (take 2 (drop k s)) ≡ false
    pair k = (any_split (λ c. eqb c b) 2 (drop k s) (any_split (λ c. eqb c b) k s h).1).0

-- "one foreign character gives 0", wherever it stands
pub foreign_zero : (x : List ℕ) (b : ℕ) (y : List ℕ) → elem b (bytes "IiVvXxLlCcDdMm") ≡ false → roman_value (x ++ b ∷ y) ≡ 0
unfolding roman_value any
foreign_zero x b y h = rw (map-append, any_append, no_roman_letter b h, or-true)

-- "below 0 gives 0": the letters subtract as much as they add, or more
pub below_zero : (s : List ℕ) → sum_added (map roman_letter_value s) ≤ sum_subtracted (map roman_letter_value s) → roman_value s ≡ 0
unfolding roman_value
below_zero s h = cond_elim (λ n. n ≡ 0) (elem 0 (map roman_letter_value s)) (λ e. refl) (λ e. omega arith)

same_value_lowered : ℕ → Bool
same_value_lowered k = eqb (roman_letter_value (to_lower (k + 65))) (roman_letter_value (k + 65))

-- a letter has the same value in both cases
letter_value_lower : (b : ℕ) → roman_letter_value (to_lower b) ≡ roman_letter_value b
unfolding same_value_lowered roman_letter_value any
letter_value_lower b = go (leb 65 b) (leb b 90) refl refl
  where
    go : (t u : Bool) → leb 65 b ≡ t → leb b 90 ≡ u → roman_letter_value (cond (t && u) (b + 32) b) ≡ roman_letter_value b
    go true true p q =
        let e : b - 65 + 65 ≡ b = omega (arith, leb-true 65 b p) in
        let k = eqb-true (roman_letter_value (to_lower (b - 65 + 65))) (roman_letter_value (b - 65 + 65))
        (below same_value_lowered 26 refl (b - 65) (omega (arith, leb-true 65 b p, leb-true b 90 q))) in
        rw (p, q) at (rw e at k)
    go true false p q = refl
    go false u p q = refl

-- so small letters are read like capitals
pub lower_value : (s : List ℕ) → roman_value (map to_lower s) ≡ roman_value s
unfolding roman_value
lower_value s = rw (go s)
  where
    go : (s : List ℕ) → map roman_letter_value (map to_lower s) ≡ map roman_letter_value s
    go [] = refl
    go (b ∷ s) = rw (letter_value_lower b, go s)
