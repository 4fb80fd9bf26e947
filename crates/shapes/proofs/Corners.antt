-- Document 01's corners of the shape verdicts, proved by evaluating the definitions. Assumes nothing.
use mathlib.Core.Path.{◌≡◌, refl}
use mathlib.Core.Bool.{Bool, true, not}
use mathlib.Core.List.{List, [], ◌∷◌}
use Prim.Native.Nat.{ℕ}
use Prim.Native.String.{String}
use Rattle.lists.specs.Bytes.{bytes, all, any, span, split, onto, non_empty, same_by}
use Rattle.shapes.specs.Shapes.{is_digits, is_alpha, is_exponent, is_unsigned, is_double, is_ordinal, is_amount, is_us_money, is_roman, is_dr_or_st, is_dotted_abbrev, is_digits_dash_digits}

-- a verdict that takes a text, or that does not
pub data VerdictCorner : Type 0 where
  accepts rejects : (List ℕ → Bool) → String → VerdictCorner

abbrev pub corner_holds : VerdictCorner → Bool
corner_holds (accepts shape s) = shape (bytes s)
corner_holds (rejects shape s) = not (shape (bytes s))

-- "`is_double` takes one leading minus and no plus; "1." and ".5" pass, "." and "1e" don't. `is_us_money` passes "$,".
-- `is_ordinal` passes "1,,th". `is_digits_dash_digits` drops empty parts, so "-5-6" passes."; and, from the Rust, corners of
-- shapes that have no form in specs/Grammar.antt
unfoldable pub verdict_corners : List VerdictCorner
verdict_corners =
    accepts is_double "-1" ∷ rejects is_double "--1" ∷ rejects is_double "+1" ∷ accepts is_double "1." ∷ accepts is_double ".5" ∷ rejects is_double "."
    ∷ rejects is_double "1e"
    ∷ accepts is_double "1e+5" ∷ accepts is_double "1.5E-5" ∷ rejects is_double "1e5.5" ∷ accepts is_us_money "$," ∷ accepts is_ordinal "1,,th" ∷ accepts is_ordinal "1TH"
    ∷ accepts is_digits_dash_digits "-5-6" ∷ accepts is_digits_dash_digits "5--6" ∷ rejects is_digits_dash_digits "5-" ∷ rejects is_digits_dash_digits "56"
    ∷ accepts is_roman "IX" ∷ rejects is_roman "IIX" ∷ accepts is_roman "XVI" ∷ accepts is_roman "X" ∷ rejects is_roman "XL" ∷ rejects is_roman "ix"
    ∷ accepts is_dr_or_st "Dr" ∷ accepts is_dr_or_st "sT" ∷ rejects is_dr_or_st "Dr." ∷ accepts is_alpha "aZ" ∷ rejects is_alpha "a1" ∷ rejects is_alpha ""
    ∷ accepts is_dotted_abbrev "a.B." ∷ accepts is_dotted_abbrev "a.B" ∷ rejects is_dotted_abbrev "a." ∷ rejects is_dotted_abbrev "a..b" ∷ rejects is_dotted_abbrev "ab.c" ∷ []

-- every corner of the table holds
pub verdict_corners_hold : all corner_holds verdict_corners ≡ true
unfolding verdict_corners all any span split onto non_empty same_by is_digits is_alpha is_exponent is_unsigned is_ordinal is_amount is_dotted_abbrev is_digits_dash_digits
verdict_corners_hold = refl
