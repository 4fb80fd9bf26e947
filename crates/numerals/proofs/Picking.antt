-- The values of a text's first twelve digits. Assumes nothing.
use mathlib.Core.Path.{◌≡◌, refl, sym, ap, ◌∙◌}
use mathlib.Core.List.{List, [], ◌∷◌, ◌++◌, append-nil}
use Prim.Native.Nat.{ℕ, zero, suc, ◌+◌, ◌≤◌, ◌<◌, zero-le}
use native.Mathlib.Numerals.{add-one}
use native.Mathlib.Omega.{arith}
use lib.ListN.{length, take, drop, set, get_or, length-append, take-append-drop}
use lib.Seq.{take-suc}
use Rattle.lists.specs.Bytes.{filter_if}
use Rattle.numerals.specs.Cardinal.{digit_values, digit_value}
use Rattle.numerals.specs.Walk.{BelowTen}
use Rattle.numerals.specs.FirstDigits.{padded, HasDigitsOf, HasTwelveOf}
use Rattle.numerals.specs.declared.digit_values.FirstDigits.{FirstDigits}
use Rattle.numerals.proofs.NumberWords.{digit_values_below_ten}
use Rattle.numerals.proofs.Digits.{digit_values_append, digit_values_at, digit_values_digit}

-- up to k values stand at the front of the padded list
padded_front : (k : ℕ) (ds : List ℕ) → length ds ≤ k → take (length ds) (padded k ds) ≡ ds
unfolding padded
padded_front k [] h = refl
padded_front zero (d ∷ ds) h = absurd (omega arith)
padded_front (suc k) (d ∷ ds) h = ap (λ (r : List ℕ). d ∷ r) (padded_front k ds (omega arith))

-- one more value takes the place of the 0 that follows them
padded_snoc : (k : ℕ) (ds : List ℕ) (v : ℕ) → set (padded k ds) (length ds) v ≡ padded k (ds ++ v ∷ [])
unfolding padded
padded_snoc zero ds v = refl
padded_snoc (suc k) [] v = refl
padded_snoc (suc k) (d ∷ ds) v = ap (λ (r : List ℕ). d ∷ r) (padded_snoc k ds v)

-- values after the first k are left out
padded_more : (k : ℕ) (ds r : List ℕ) → k ≤ length ds → padded k (ds ++ r) ≡ padded k ds
unfolding padded
padded_more zero ds r h = refl
padded_more (suc k) [] r h = absurd (omega arith)
padded_more (suc k) (d ∷ ds) r h = ap (λ (t : List ℕ). d ∷ t) (padded_more k ds r (omega arith))

-- values below ten stay so
padded_below_ten : (k : ℕ) (ds : List ℕ) → BelowTen ds → BelowTen (padded k ds)
unfolding padded
padded_below_ten zero ds h = tt
padded_below_ten (suc k) [] h = (omega arith, padded_below_ten k [] tt)
padded_below_ten (suc k) (d ∷ ds) h = (h.0, padded_below_ten k ds h.1)

-- the digits before i are picked, at most twelve
pub record PickedDigits (s d : List ℕ) (n i : ℕ) : Type 0 where
  pub within : i ≤ length s
  pub few : n ≤ 12
  pub count : n ≡ length (digit_values (take i s))
  pub values : d ≡ padded 12 (digit_values (take i s))

-- before the first byte there are none
pub pick_start : (s : List ℕ) → PickedDigits s (0 ∷ 0 ∷ 0 ∷ 0 ∷ 0 ∷ 0 ∷ 0 ∷ 0 ∷ 0 ∷ 0 ∷ 0 ∷ 0 ∷ []) 0 0
unfolding digit_values filter_if padded
pick_start s = record { within = zero-le; few = zero-le; count = refl; values = refl }

module _ (s d : List ℕ) (n i : ℕ) (h : i < length s) (p : PickedDigits s d n i) where
  before_next : digit_values (take (i + 1) s) ≡ digit_values (take i s) ++ digit_values (get_or s i 0 ∷ [])
  before_next = rw (add-one i, take-suc s i 0 h) (digit_values_append (take i s) (get_or s i 0 ∷ []))

  -- a byte that is no digit is passed over
  pub pick_none : digit_values (get_or s i 0 ∷ []) ≡ [] → PickedDigits s d n (i + 1)
  pick_none z =
      let e : digit_values (take (i + 1) s) ≡ digit_values (take i s) = before_next ∙ rw (z, append-nil) in
      record { within = omega arith; few = p.few; count = p.count ∙ rw e; values = p.values ∙ rw e }

  module _ (v : 48 ≤ get_or s i 0) (u : get_or s i 0 ≤ 57) where
    abbrev b : ℕ
    b = digit_value (get_or s i 0)

    -- a digit is put in the next place
    pub pick_digit : n < 12 → PickedDigits s (set d n b) (n + 1) (i + 1)
    pick_digit k =
        let e : digit_values (take (i + 1) s) ≡ digit_values (take i s) ++ b ∷ [] = before_next ∙ rw (digit_values_digit (get_or s i 0) v u) in
        record {
          within = omega arith;
          few = omega arith;
          count = rw e (omega (arith, length-append (digit_values (take i s)) (b ∷ []), p.count));
          values = rw (e, p.values, p.count) (padded_snoc 12 (digit_values (take i s)) b);
        }

    -- the digits of the text: those picked, this one, and those after it
    with_next : digit_values s ≡ digit_values (take i s) ++ (b ∷ digit_values (drop (i + 1) s))
    with_next =
        let whole = digit_values_append (take i s) (drop i s) in
        rw (take-append-drop i s, digit_values_at s i h, digit_values_digit (get_or s i 0) v u) at whole

    -- a digit after twelve others: there are more than twelve
    pub pick_beyond : n ≡ 12 → 12 < length (digit_values s)
    pick_beyond k =
        let ds = digit_values (take i s) in
        let r = b ∷ digit_values (drop (i + 1) s) in
        omega (arith, ap length with_next, length-append ds r, p.count)

    -- and those picked are the first twelve
    pub pick_twelve : n ≡ 12 → {f : FirstDigits} → f.values ≡ d → f.count ≡ n → HasTwelveOf s f
    pick_twelve k x y =
        let ds = digit_values (take i s) in
        let r = b ∷ digit_values (drop (i + 1) s) in
        record {
          more = pick_beyond k;
          values = rw (x, p.values, with_next) (sym (padded_more 12 ds r (omega (arith, p.count))));
          count = y ∙ k;
        }

-- each value is below ten
pub picked_below_ten : (s d : List ℕ) (n i : ℕ) → PickedDigits s d n i → BelowTen d
picked_below_ten s d n i p = rw p.values (padded_below_ten 12 (digit_values (take i s)) (digit_values_below_ten (take i s)))

-- the values that stand in front are all digits of the text
pub picked_digits : (s : List ℕ) {d : FirstDigits} → HasDigitsOf s d → take d.count d.values ≡ digit_values s
picked_digits s h = rw (h.values, h.count) (padded_front 12 (digit_values s) h.few)
