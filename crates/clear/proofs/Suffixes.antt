-- Plain digits with a suffix: ordinals, and the first abbreviations of the units. Assumes nothing.
use mathlib.Core.Path.{◌≡◌, refl, sym, ◌∙◌}
use mathlib.Core.Bool.{Bool, true, false, cond, ◌&&◌, and-eq-true_iff}
use mathlib.Core.List.{List, [], ◌∷◌, ◌++◌}
use Prim.Native.Nat.{ℕ, suc, ◌-◌, ◌<◌}
use Prim.Native.Char.{code}
use native.Mathlib.Nat.{add-zero}
use native.Mathlib.Omega.{arith}
use lib.Dec.{ltb, eqb}
use lib.ListN.{length, take, drop, get_or, take-append-drop}
use lib.Seq.{take_at, drop_at}
use borrow.Author.Tests.{eqb-true, eq-eqb, ltb-true, lt-ltb}
use Rattle.lists.specs.Bytes.{bytes, span, after_last, same_by, same}
use Rattle.lists.specs.Classes.{digit}
use Rattle.lists.proofs.Recursion.{cond_elim}
use Rattle.lists.proofs.Scan.{last_span}
use Rattle.lists.proofs.Table.{below, same_true}
use Rattle.units.proofs.Laws.{unit_in_table}
use Rattle.units.specs.Units.{unit_abbreviations, abbreviations, unit_words, index_of, unit_index, is_unit, unit_word}
use Rattle.shapes.specs.Shapes.{unit_at}
use Rattle.shapes.proofs.Laws.{digits_all}
use Rattle.clear.specs.Clear.{plain, suffix, Clear, clear_ordinal, clear_unit}
use Rattle.clear.specs.Test.{but_last_two, last_two, is_ordinal_clear, is_first_abbreviation, is_unit_clear}
use Rattle.clear.proofs.Cuts.{same_self, cut_front, cut_back, span_seam, drop_while_seam}
use Rattle.clear.proofs.Figures.{plain_digits}

-- what holds of each suffix holds of the suffix of any digits
pub suffix_elim : (P : List ℕ → Type 0) → P (bytes "st") → P (bytes "nd") → P (bytes "rd") → P (bytes "th") → (s : List ℕ) → P (suffix s)
unfolding suffix
suffix_elim P st nd rd th s =
    let b = get_or s (length s - 1) 0 in
    cond_elim P (ltb 1 (length s) && eqb (get_or s (length s - 2) 0) (code "1")) (λ e. th)
    (λ e. cond_elim P (eqb b (code "1")) (λ e. st) (λ e. cond_elim P (eqb b (code "2")) (λ e. nd) (λ e. cond_elim P (eqb b (code "3")) (λ e. rd) (λ e. th))))

-- a suffix has two bytes
pub suffix_two : (s : List ℕ) → length (suffix s) ≡ 2
suffix_two = suffix_elim (λ u. length u ≡ 2) refl refl refl refl

-- a name that passes the test is clear
pub test_ordinal : (s : List ℕ) → is_ordinal_clear s ≡ true → Clear s
test_ordinal s h =
    let p = (and-eq-true_iff (plain (but_last_two s)) (same (last_two s) (suffix (but_last_two s)))).0 h in
    let e : suffix (but_last_two s) ≡ last_two s = sym (same_true (last_two s) (suffix (but_last_two s)) p.1) in
    rw (e, take-append-drop) at (clear_ordinal (but_last_two s) p.0)

-- plain digits with their suffix pass the test
pub ordinal_test : (s : List ℕ) → plain s ≡ true → is_ordinal_clear (s ++ suffix s) ≡ true
ordinal_test s h =
    let l = suffix_two s in
    rw (cut_front s (suffix s) 2 l, cut_back s (suffix s) 2 l, h) (same_self (suffix s))

-- ---- units

-- a look-up finds the place of the text that was looked for
index_of_at : (t : List ℕ) (ss : List (List ℕ)) → index_of t ss < length ss → get_or ss (index_of t ss) [] ≡ t
unfolding index_of
index_of_at t [] h = absurd (omega arith)
index_of_at t (s ∷ ss) h = go (same s t) refl h (index_of_at t ss)
  where
    go : (b : Bool) → same s t ≡ b → cond b 0 (suc (index_of t ss)) < suc (length ss)
        → (index_of t ss < length ss → get_or ss (index_of t ss) [] ≡ t) → get_or (s ∷ ss) (cond b 0 (suc (index_of t ss))) [] ≡ t
    go true e h i = same_true s t e
    go false e h i = i (omega arith)

-- both columns of the table have 22 rows
columns : (length abbreviations ≡ 22) × (length unit_words ≡ 22)
unfolding abbreviations unit_words unit_abbreviations
columns = (refl, refl)

-- a name that passes the test is clear
pub test_unit : (s : List ℕ) → is_unit_clear s ≡ true → Clear s
test_unit s h =
    let u = drop (unit_at s) s in
    let p = (and-eq-true_iff (plain (take (unit_at s) s)) (is_first_abbreviation u)).0 h in
    let q = (and-eq-true_iff (is_unit u) (eqb (index_of (unit_word u) unit_words) (unit_index u))).0 p.1 in
    let l : unit_index u < 22 = ltb-true _ _ (sym (unit_in_table u) ∙ q.0) in
    let e : get_or abbreviations (unit_index u) [] ≡ u = index_of_at u abbreviations (rw columns.0 l) in
    rw (e, take-append-drop) at (clear_unit (take (unit_at s) s) (unit_index u) p.0 (rw columns.1 l) (eqb-true _ _ q.1))

-- a row's abbreviation stands in no row before it, and has no digit
pub record UnitFacts (k : ℕ) : Type 0 where
  pub first : unit_index (get_or abbreviations k []) ≡ k
  pub front : span digit (get_or abbreviations k []) ≡ 0
  pub last : after_last digit (get_or abbreviations k []) ≡ 0

unit_facts : ℕ → Bool
unit_facts k = let u = get_or abbreviations k [] in eqb (unit_index u) k && eqb (span digit u) 0 && eqb (after_last digit u) 0

-- this holds of every row of the table
pub unit_facts_lem : (k : ℕ) → k < length unit_words → UnitFacts k
unfolding unit_facts abbreviations unit_words unit_abbreviations index_of same_by span after_last
unit_facts_lem k l =
    let u = get_or abbreviations k [] in
    let y = (and-eq-true_iff (eqb (unit_index u) k && eqb (span digit u) 0) (eqb (after_last digit u) 0)).0 (below unit_facts 22 refl k l) in
    let z = (and-eq-true_iff (eqb (unit_index u) k) (eqb (span digit u) 0)).0 y.0 in
    record { first = eqb-true _ _ z.0; front = eqb-true _ _ z.1; last = eqb-true _ _ y.1 }

-- the unit starts after the digits
pub unit_at_lem : (s : List ℕ) (k : ℕ) → plain s ≡ true → k < length unit_words → unit_at (s ++ get_or abbreviations k []) ≡ length s
unit_at_lem s k h l =
    let u = get_or abbreviations k [] in
    let r = unit_facts_lem k l in
    let d = digits_all s (plain_digits s h) in
    last_span digit (s ++ u) ∙ rw (drop_while_seam digit s u d r.front, span_seam digit s u d r.front, r.last) (add-zero (length s))

-- plain digits with a unit pass the test, if no row before has the unit's word
pub unit_test : (s : List ℕ) (k : ℕ) → plain s ≡ true → k < length unit_words → index_of (get_or unit_words k []) unit_words ≡ k
    → is_unit_clear (s ++ get_or abbreviations k []) ≡ true
unit_test s k h l w =
    let u = get_or abbreviations k [] in
    let e = unit_at_lem s k h l in
    let r : k < 22 = rw columns.1 at l in
    rw (
      take_at s u (unit_at (s ++ u)) (sym e),
      drop_at s u (unit_at (s ++ u)) (sym e),
      h,
      unit_in_table u,
      (unit_facts_lem k l).first,
      lt-ltb k 22 r,
      w,
    )
    (eq-eqb k k refl)
