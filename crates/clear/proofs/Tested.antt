-- The test passes a name if and only if the definition by kinds says that it is clear. Assumes nothing.
use mathlib.Core.Path.{◌≡◌}
use mathlib.Core.Bool.{Bool, true, ◌||◌, or-true}
use mathlib.Core.List.{List, ◌++◌}
use mathlib.Core.Logic.{◌↔◌}
use Prim.Native.Nat.{ℕ}
use Prim.Native.Char.{code}
use Rattle.lists.specs.Bytes.{bytes}
use Rattle.lists.proofs.Bools.{or_true_elim}
use Rattle.shapes.specs.Shapes.{is_digits, is_range}
use Rattle.shapes.specs.Grammar.{SeparatedForm, separated}
use Rattle.shapes.proofs.Grammar.{range_form}
use Rattle.clear.specs.Clear.{Clear, clear_number, clear_percent, clear_time, clear_meridiem, clear_ordinal, clear_unit, clear_range, clear_initials, clear_word}
use Rattle.clear.specs.Test.{is_clear}
use Rattle.clear.proofs.Figures.{test_number, number_test, test_percent, percent_test}
use Rattle.clear.proofs.Times.{test_time, time_test, test_meridiem, meridiem_test}
use Rattle.clear.proofs.Suffixes.{test_ordinal, ordinal_test, test_unit, unit_test}
use Rattle.clear.proofs.Initials.{test_initials, initials_test}
use Rattle.clear.proofs.Words.{test_word, word_test}

-- ---- ranges

-- 02, A2: "Ranges join the clear entries"
pub range_clear : (s : List ℕ) → is_range s ≡ true → Clear s
range_clear s h = go s ((range_form s).0 h)
  where
    go : (s : List ℕ) → SeparatedForm (code "-") s → Clear s
    go _ (separated a b p q) = clear_range a b p q

range_test : (a b : List ℕ) → is_digits a ≡ true → is_digits b ≡ true → is_range (a ++ (bytes "-" ++ b)) ≡ true
range_test a b p q = (range_form (a ++ (bytes "-" ++ b))).1 (separated a b p q)

-- ---- all kinds

-- a name that passes the test is clear
pub test_clear : (s : List ℕ) → is_clear s ≡ true → Clear s
unfolding is_clear
test_clear s =
    either (either (either (either (either (either (either (either (λ h. clear_number s (test_number s h)) (test_percent s)) (test_time s))
    (test_meridiem s)) (test_ordinal s)) (test_unit s)) (range_clear s)) (test_initials s)) (test_word s)
  where
    either : {a b : Bool} → (a ≡ true → Clear s) → (b ≡ true → Clear s) → (a || b) ≡ true → Clear s
    either {a} {b} = or_true_elim a b

-- a clear name passes the test
pub clear_test : (s : List ℕ) → Clear s → is_clear s ≡ true
unfolding is_clear
clear_test s (clear_number t n) = rw (number_test t n)
clear_test s (clear_percent t n) = rw (percent_test t n, or-true)
clear_test s (clear_time h m p q) = rw (time_test h m p q, or-true)
clear_test s (clear_meridiem h m x p q r) = rw (meridiem_test h m x p q r, or-true)
clear_test s (clear_ordinal t h) = rw (ordinal_test t h, or-true)
clear_test s (clear_unit t k h l w) = rw (unit_test t k h l w, or-true)
clear_test s (clear_range a b p q) = rw (range_test a b p q, or-true)
clear_test s (clear_initials c d cs h) = rw (initials_test c d cs h, or-true)
clear_test s (clear_word t h a n c o) = rw (word_test t h a n, or-true)

-- the test passes exactly the clear names
pub clear_tested : (s : List ℕ) → (is_clear s ≡ true) ↔ Clear s
clear_tested s = (test_clear s, clear_test s)
