-- How many words a fraction has at most, and how many bytes of a line they take. Assumes nothing.
use mathlib.Core.Path.{◌≡◌, refl, ◌∙◌}
use mathlib.Core.Bool.{Bool, true, false, cond, not, ◌&&◌, and-false, true≢false}
use mathlib.Core.List.{List, [], ◌∷◌, ◌++◌}
use Prim.Native.Nat.{ℕ, suc, ◌+◌, ◌≤◌, ◌<◌}
use native.Mathlib.Omega.{arith}
use lib.Dec.{eqb, ltb}
use lib.ListN.{length, length-take, length-drop}
use borrow.Author.Tests.{eqb-true}
use Rattle.lists.specs.Bytes.{bytes, all, span, after_last, same}
use Rattle.lists.specs.Classes.{digit, non_digit}
use Rattle.lists.proofs.Recursion.{cond_elim}
use Rattle.lists.proofs.Scan.{last_le, all_append}
use Rattle.numerals.specs.Words.{other, spell}
use Rattle.numerals.specs.Cardinal.{cardinal}
use Rattle.numerals.specs.Ordinal.{ordinal}
use Rattle.numerals.proofs.Room.{RoomFor, together, cardinal_room, ordinal_room}
use Rattle.fractions.specs.Fraction.{numerator, denominator, value, plural, fraction_of, fraction}
use Rattle.fractions.proofs.Read.{over}

-- the words of a proper fraction fit in the room for its name
proper_room : (a b : List ℕ) → RoomFor (length a + 1 + length b) (cardinal a ++ (ordinal b ++ plural a))
unfolding plural spell
proper_room a b =
    let n = length a + 1 + length b in
    let over_room = cardinal_room a in
    let under_room = ordinal_room b in
    cond_elim (λ ws. RoomFor n (cardinal a ++ (ordinal b ++ ws))) (ltb 1 (value a))
    (λ e. let s = other (bytes "'s") ∷ [] in omega (arith, together (cardinal a) (ordinal b ++ s), together (ordinal b) s))
    (λ e. omega (arith, together (cardinal a) (ordinal b ++ []), together (ordinal b) []))

-- so do those of any other
improper_room : (a b : List ℕ) → RoomFor (length a + 1 + length b) (cardinal a ++ other (bytes "slash") ∷ cardinal b)
unfolding spell
improper_room a b = omega (arith, together (cardinal a) (other (bytes "slash") ∷ cardinal b), cardinal_room a, cardinal_room b)

-- the first byte that is no digit does not stand after the last one
first_before_last : (s : List ℕ) → all digit s ≡ false → span digit s < after_last non_digit s
unfolding all span after_last
first_before_last [] h = absurd (true≢false h)
first_before_last (b ∷ s) h = go (digit b) (eqb (after_last non_digit s) 0) refl h (first_before_last s)
  where
    go : (t u : Bool) → eqb (after_last non_digit s) 0 ≡ u → (t && all digit s) ≡ false
        → (all digit s ≡ false → span digit s < after_last non_digit s)
        → cond t (suc (span digit s)) 0 < cond u (cond (not t) 1 0) (suc (after_last non_digit s))
    go true true e h i = let k = i h in absurd (omega (arith, eqb-true (after_last non_digit s) 0 e))
    go true false e h i = let k = i h in omega arith
    go false true e h i = omega arith
    go false false e h i = omega arith

-- so numerator and denominator leave out that byte, at least
pub parts_shorter : (s : List ℕ) → all digit s ≡ false → length (numerator s) + 1 + length (denominator s) ≤ length s
parts_shorter s h =
    omega (arith, first_before_last s h, last_le non_digit s, length-take (span digit s) s, length-drop (after_last non_digit s) s)

-- the words of a fraction fit in the room for its name, if some byte of the name is no digit
pub fraction_room : (s : List ℕ) → all digit s ≡ false → RoomFor (length s) (fraction s)
unfolding fraction fraction_of spell
fraction_room s h =
    let a = numerator s in
    let b = denominator s in
    let shorter = parts_shorter s h in
    cond_elim (RoomFor (length s)) (same s (bytes "1/2")) (λ e. omega arith)
    (λ e. cond_elim (RoomFor (length s)) (ltb (value a) (value b)) (λ e. omega (arith, proper_room a b))
    (λ e. omega (arith, improper_room a b)))

-- for example if a slash stands between numerator and denominator
pub over_room : (a b : List ℕ) → RoomFor (length (over a b)) (fraction (over a b))
unfolding all
over_room a b = fraction_room (over a b) (all_append digit a (bytes "/" ++ b) ∙ and-false (all digit a))
