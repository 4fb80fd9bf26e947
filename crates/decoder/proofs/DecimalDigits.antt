-- Digits as bytes and as values, and the decimal digits of a number. Assumes nothing.
use mathlib.Core.Path.{◌≡◌, refl, sym, ap, ap₂, ◌∙◌}
use mathlib.Core.Bool.{true, not, and-eq-true_iff, true≢false}
use mathlib.Core.List.{List, [], ◌∷◌, ◌++◌, map, append-nil}
use Prim.Native.Nat.{ℕ, zero, suc, ◌+◌, ◌-◌, ◌*◌, ◌≤◌, ◌<◌}
use Prim.Native.Char.{code}
use native.Mathlib.Nat.{suc-add, add-suc, zero-add}
use native.Mathlib.Omega.{arith}
use lib.Dec.{leb}
use lib.ListN.{length, get_or, length-map}
use borrow.Author.Tests.{lt-ltb, le-ltb, eq-eqb, ne_eqb, leb-true, not-true}
use Rattle.lists.specs.Bytes.{all, filter_if}
use Rattle.lists.specs.Classes.{digit}
use Rattle.shapes.specs.Shapes.{is_digits, is_leading_zero_digits}
use Rattle.shapes.proofs.Laws.{digits_all, digits_some}
use Rattle.numerals.specs.Cardinal.{digit_values, digit_value}
use Rattle.numerals.specs.Value.{decimal_from, decimal}
use Rattle.numerals.specs.Walk.{BelowTen}
use Rattle.numerals.proofs.Digits.{digit_values_count}
use Rattle.clear.specs.Clear.{plain}
use Rattle.clear.proofs.Figures.{plain_digits}
use Rattle.decoder.specs.Decode.{digit_bytes, decimal_digits}

-- ---- bytes and values

-- the values of a text that is all digits
pub digit_values_all : (s : List ℕ) → all digit s ≡ true → digit_values s ≡ map digit_value s
unfolding digit_values filter_if all
digit_values_all [] h = refl
digit_values_all (b ∷ s) h =
    let k = (and-eq-true_iff (digit b) (all digit s)).0 h in
    rw k.0 (ap (λ (r : List ℕ). digit_value b ∷ r) (digit_values_all s k.1))

digit_least : (b : ℕ) → digit b ≡ true → code "0" ≤ b
digit_least b h = leb-true (code "0") b ((and-eq-true_iff (leb (code "0") b) (leb b (code "9"))).0 h).0

digit_bytes_values : (s : List ℕ) → all digit s ≡ true → digit_bytes (map digit_value s) ≡ s
unfolding digit_bytes all
digit_bytes_values [] h = refl
digit_bytes_values (b ∷ s) h =
    let k = (and-eq-true_iff (digit b) (all digit s)).0 h in
    let e = digit_least b k.0 in
    ap₂ (λ (x : ℕ) (r : List ℕ). x ∷ r) (omega arith) (digit_bytes_values s k.1)

-- digits are written back as they were
pub digit_bytes_digit_values : (s : List ℕ) → is_digits s ≡ true → digit_bytes (digit_values s) ≡ s
digit_bytes_digit_values s h = ap digit_bytes (digit_values_all s (digits_all s h)) ∙ digit_bytes_values s (digits_all s h)

-- there are as many values as digits
pub digit_values_length : (s : List ℕ) → is_digits s ≡ true → length (digit_values s) ≡ length s
digit_values_length s h = digit_values_count s (digits_all s h)

-- ---- plain digits

plain_first : (b : ℕ) (r : List ℕ) → plain (b ∷ r) ≡ true → 0 < length r → b ≡ code "0" → ⊥
plain_first b r h l e =
    let i = plain_digits (b ∷ r) h in
    let n = not-true (is_leading_zero_digits (b ∷ r)) ((and-eq-true_iff (is_digits (b ∷ r)) (not (is_leading_zero_digits (b ∷ r)))).0 h).1 in
    let z : is_leading_zero_digits (b ∷ r) ≡ true =
    rw (lt-ltb 1 (suc (length r)) (omega arith), ne_eqb (suc (length r)) 0 (omega arith), eq-eqb b (code "0") e, i) in
    true≢false (sym z ∙ n)

-- values of digits, at least one; if there are more, the first is not 0
abbrev pub PlainValues : List ℕ → Type 0
PlainValues d = (0 < length d) × (1 < length d → 0 < get_or d 0 0)

-- this holds of the values of plain digits
pub plain_values : (s : List ℕ) → plain s ≡ true → PlainValues (digit_values s)
unfolding all
plain_values s h = rw (digit_values_all s (digits_all s (plain_digits s h))) (go s h)
  where
    go : (s : List ℕ) → plain s ≡ true → PlainValues (map digit_value s)
    go [] h = absurd (omega (arith, digits_some [] (plain_digits [] h)))
    go (b ∷ r) h =
        let e = digit_least b ((and-eq-true_iff (digit b) (all digit r)).0 (digits_all (b ∷ r) (plain_digits (b ∷ r) h))).0 in
        (omega arith, λ l. let n = plain_first b r h (omega (arith, length-map r digit_value)) in omega arith)

-- ---- a number's digits

decimal_digits_step : (f n d : ℕ) (acc : List ℕ) → 0 < n → d < 10 → decimal_digits (suc f) (n * 10 + d) acc ≡ decimal_digits f n (d ∷ acc)
unfolding decimal_digits
decimal_digits_step f n d acc h l = rw (le-ltb (n * 10 + d) 10 (omega arith), decimal_digits)
    (ap₂ (λ (x y : ℕ). decimal_digits f x (y ∷ acc)) (omega arith) (omega arith))

decimal_digits_decimal : (s : List ℕ) (f n : ℕ) (acc : List ℕ) → 0 < n → BelowTen s
    → decimal_digits (length s + f) (decimal_from n s) acc ≡ decimal_digits f n (s ++ acc)
unfolding decimal_from
decimal_digits_decimal [] f n acc h t = rw zero-add
decimal_digits_decimal (d ∷ s) f n acc h t =
    let l : d < 10 = t.0 in
    rw (suc-add, ← add-suc) (decimal_digits_decimal s (suc f) (n * 10 + d) acc (omega arith) t.1 ∙ decimal_digits_step f n d (s ++ acc) h l)

decimal_digits_last : (f a : ℕ) (acc : List ℕ) → a < 10 → decimal_digits f a acc ≡ a ∷ acc
unfolding decimal_digits
decimal_digits_last zero a acc h = refl
decimal_digits_last (suc f) a acc h = rw (lt-ltb a 10 h, decimal_digits)

-- the decimal digits of a number are those that it was read from
pub decimal_digits_plain : (s : List ℕ) (f : ℕ) → BelowTen s → PlainValues s → length s ≤ suc f → decimal_digits f (decimal s) [] ≡ s
unfolding decimal decimal_from
decimal_digits_plain [] f t p h = absurd (omega arith)
decimal_digits_plain (a ∷ []) f t p h = let l : a < 10 = t.0 in decimal_digits_last f (0 * 10 + a) [] (omega arith) ∙ ap (λ (x : ℕ). x ∷ []) (omega arith)
decimal_digits_plain (a ∷ b ∷ s) f t p h =
    let l : a < 10 = t.0 in
    let z : 0 < a = p.1 (omega arith) in
    let e : f ≡ suc (length s) + (f - suc (length s)) = omega arith in
    ap (λ (x : ℕ). decimal_digits x (decimal_from (0 * 10 + a) (b ∷ s)) []) e
    ∙ decimal_digits_decimal (b ∷ s) (f - suc (length s)) (0 * 10 + a) [] (omega arith) t.1
    ∙ decimal_digits_last (f - suc (length s)) (0 * 10 + a) ((b ∷ s) ++ []) (omega arith)
    ∙ ap₂ (λ (x : ℕ) (y : List ℕ). x ∷ y) (omega arith) (append-nil (b ∷ s))
