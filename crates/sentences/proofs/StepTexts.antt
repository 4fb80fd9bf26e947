-- The refusal of the three texts of a step. Assumes nothing.
use mathlib.Core.Path.{◌≡◌, refl, ap, ◌∙◌}
use mathlib.Core.Bool.{Bool, true, false, cond, ◌||◌, and-eq-true_iff}
use mathlib.Core.List.{List, [], ◌∷◌, ◌++◌}
use mathlib.Core.Logic.{inl, inr}
use Prim.Native.Nat.{ℕ, zero, suc, ◌<◌}
use native.Mathlib.Omega.{arith}
use lib.Dec.{ltb}
use borrow.Author.Tests.{ltb-true}
use Rattle.std.specs.Prelude.{◌⊎◌}
use Rattle.lists.specs.Bytes.{any}
use Rattle.lists.proofs.Scan.{any_append}
use Rattle.admit.specs.Refusals.{refusal_number, Test, ◌when◌, first_refusal, text_limit, text_tests, text_refusal, test_place, in_order, is_too_long, is_not_utf8, has_control}
use Rattle.admit.specs.declared.Refusal.{Refusal}
use Rattle.admit.specs.declared.Refusal.TheVariants.{TextTooLong, NotUtf8, ControlByte}
use Rattle.admit.proofs.Calls.{numbered}
use Rattle.sentences.specs.Calls.{smaller_refusal, step_tests}

-- the tests of a step run in their order
pub step_in_order : (whitespace name punctuation : List ℕ) → in_order (step_tests whitespace name punctuation) ≡ true
unfolding text_tests
step_in_order whitespace name punctuation = refl

-- if tests run in their order, what a later one refuses has a place further back than a test before it
pub later_refusal : (r : Refusal) (holds : Bool) (tests : List Test) → in_order (r when holds ∷ tests) ≡ true → (first_refusal tests ≡ 0 → ⊥)
    → test_place (refusal_number r) < test_place (first_refusal tests)
later_refusal r holds [] o z = absurd (z refl)
later_refusal r holds (q when true ∷ tests) o z = ltb-true _ _ ((and-eq-true_iff _ _).0 o).0
later_refusal r holds (q when false ∷ tests) o z =
    let k = (and-eq-true_iff (ltb (test_place (refusal_number r)) (test_place (refusal_number q))) (in_order (q when false ∷ tests))).0 o in
    omega (arith, ltb-true _ _ k.0, later_refusal q false tests k.1 z)

-- ---- two texts, or more

-- a test of some texts and of others: its refusal, whether it holds of one of the first, and of one of the others
abbrev TwoFold : Type 0
TwoFold = Refusal × (Bool × Bool)

-- the tests, each with what f makes of the two
abbrev tests_by : (Bool × Bool → Bool) → List TwoFold → List Test
tests_by f [] = []
tests_by f ((r, holds) ∷ tests) = r when f holds ∷ tests_by f tests

-- the refusals' numbers are above n, each above the one before
abbrev Ascending : ℕ → List TwoFold → Type 0
Ascending n [] = Unit
Ascending n ((r, holds) ∷ tests) = (n < refusal_number r) × Ascending (refusal_number r) tests

-- so is the number that the tests give, if one holds
ascending_first : (f : Bool × Bool → Bool) (n : ℕ) (tests : List TwoFold) → Ascending n tests
    → (first_refusal (tests_by f tests) ≡ 0) ⊎ (n < first_refusal (tests_by f tests))
ascending_first f n [] h = inl refl
ascending_first f n ((r, holds) ∷ tests) h = go (f holds) (ascending_first f (refusal_number r) tests h.1)
  where
    go : (t : Bool) {m : ℕ} → (m ≡ 0) ⊎ (refusal_number r < m) → (cond t (refusal_number r) m ≡ 0) ⊎ (n < cond t (refusal_number r) m)
    go true k = inr h.0
    go false (inl e) = inl e
    go false (inr k) = inr (omega (arith, h.0, k))

-- of two numbers, the other being none or larger
smaller_left : (n m : ℕ) → (n ≡ 0 → ⊥) → (m ≡ 0) ⊎ (n < m) → n ≡ smaller_refusal n m
smaller_left zero m z h = absurd (z refl)
smaller_left (suc n) zero z h = refl
smaller_left (suc n) (suc m) z (inl e) = absurd (omega arith)
smaller_left (suc n) (suc m) z (inr k) = omega arith

smaller_right : (n m : ℕ) → (n ≡ 0 → ⊥) → (m ≡ 0) ⊎ (n < m) → n ≡ smaller_refusal m n
smaller_right zero m z h = absurd (z refl)
smaller_right (suc n) zero z h = refl
smaller_right (suc n) (suc m) z (inl e) = absurd (omega arith)
smaller_right (suc n) (suc m) z (inr k) = omega arith

-- if the numbers ascend, the first test that holds of either is the one of the smaller number
two_fold : (n : ℕ) (tests : List TwoFold) → Ascending n tests → first_refusal (tests_by (λ h. h.0 || h.1) tests)
    ≡ smaller_refusal (first_refusal (tests_by (λ h. h.0) tests)) (first_refusal (tests_by (λ h. h.1) tests))
two_fold n [] h = refl
two_fold n ((r, (true, true)) ∷ tests) h = same (refusal_number r) (numbered r)
  where
    same : (n : ℕ) → (n ≡ 0 → ⊥) → n ≡ smaller_refusal n n
    same zero z = absurd (z refl)
    same (suc n) z = omega arith
two_fold n ((r, (true, false)) ∷ tests) h = smaller_left (refusal_number r) _ (numbered r) (ascending_first (λ h. h.1) (refusal_number r) tests h.1)
two_fold n ((r, (false, true)) ∷ tests) h = smaller_right (refusal_number r) _ (numbered r) (ascending_first (λ h. h.0) (refusal_number r) tests h.1)
two_fold n ((r, (false, false)) ∷ tests) h = two_fold (refusal_number r) tests h.1

-- what some texts and others are refused for, by what each are
pub texts_append : (limit : ℕ) (ss ts : List (List ℕ))
    → first_refusal (text_tests limit (ss ++ ts)) ≡ smaller_refusal (first_refusal (text_tests limit ss)) (first_refusal (text_tests limit ts))
unfolding text_tests
texts_append limit ss ts =
    rw (any_append (is_too_long limit) ss ts, any_append is_not_utf8 ss ts, any_append has_control ss ts)
    (two_fold 0
    ((TextTooLong, (any (is_too_long limit) ss, any (is_too_long limit) ts)) ∷ (NotUtf8, (any is_not_utf8 ss, any is_not_utf8 ts)) ∷
    (ControlByte, (any has_control ss, any has_control ts)) ∷ [])
    (omega arith, (omega arith, (omega arith, tt))))

-- the three texts of a step
pub step_texts : (w n p : List ℕ) → first_refusal (step_tests w n p)
    ≡ smaller_refusal (smaller_refusal (text_refusal text_limit w) (text_refusal text_limit n)) (text_refusal text_limit p)
step_texts w n p =
    texts_append text_limit (w ∷ n ∷ []) (p ∷ [])
    ∙ ap (λ (k : ℕ). smaller_refusal k (text_refusal text_limit p)) (texts_append text_limit (w ∷ []) (n ∷ []))
