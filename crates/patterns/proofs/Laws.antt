-- The unit calls, case by case. Assumes nothing.
use mathlib.Core.Path.{◌≡◌, refl, sym, ◌∙◌}
use Rattle.std.specs.Prelude.{Some, None}
use mathlib.Core.Bool.{Bool, true, false, cond}
use mathlib.Core.List.{List, [], ◌∷◌}
use Prim.Native.Nat.{ℕ, ◌-◌, ◌≤◌}
use native.Mathlib.Omega.{arith}
use lib.Dec.{ltb}
use lib.ListN.{length, take, drop, get_or, length-drop}
use lib.Seq.{take-length}
use borrow.Author.Tests.{ltb-false, le-ltb}
use Rattle.admit.specs.Refusals.{text_limit, text_tests, text_refusal, in_order}
use Rattle.admit.proofs.Calls.{passed_first}
use Rattle.vocabulary.specs.Vocabulary.{word_of}
use Rattle.units.specs.Units.{unit_index, unit_row, unit_word, word_numbers}
use Rattle.units.proofs.Laws.{row_some, row_word, row_none, unit_in_table, miss_word}
use Rattle.shapes.specs.Shapes.{unit_at, has_unit, split_unit, unit_part}
use Rattle.shapes.proofs.Laws.{unit_some, split_unit_some, split_unit_none}
use Rattle.patterns.specs.Calls.{no_part, unit_found, store_tests, unit_word_tests, store_call, unit_word_call}

-- if there is no unit, none is found
pub unit_none : (s : List ℕ) → None ≡ split_unit s → no_part ≡ unit_found s
unfolding unit_found
unit_none s e = rw (split_unit_none s e)

-- if there is one, it is found at the end of the name
pub unit_found_lem : (s : List ℕ) {u : List ℕ} → Some u ≡ split_unit s → record { found = true; offset = length s - length u; size = length u } ≡ unit_found s
unfolding unit_found
unit_found_lem s e =
    let k = split_unit_some s e in
    let n = unit_some s k.0 in
    let l : length (drop (unit_at s) s) ≡ length s - unit_at s = length-drop (unit_at s) s in
    let o : length s - length (drop (unit_at s) s) ≡ unit_at s = omega arith in
    rw (k.1, k.0, o)

-- "the unit is a part of the caller's own bytes": what stands in the name at the unit's place is the unit
pub unit_stands : (s : List ℕ) → take (unit_found s).size (drop (unit_found s).offset s) ≡ unit_part s
unfolding unit_found
unit_stands s = go (has_unit s)
  where
    go : (t : Bool)
        → take (cond t (record { found = true; offset = unit_at s; size = length (cond t (drop (unit_at s) s) []) }) no_part).size
        (drop (cond t (record { found = true; offset = unit_at s; size = length (cond t (drop (unit_at s) s) []) }) no_part).offset s)
        ≡ cond t (drop (unit_at s) s) []
    go true = take-length (drop (unit_at s) s)
    go false = refl

-- a unit is not longer than its name
pub unit_le : (s : List ℕ) → length (unit_part s) ≤ length s
unit_le s = go (has_unit s)
  where
    go : (t : Bool) → length (cond t (drop (unit_at s) s) []) ≤ length s
    go true = simp length-drop (omega arith)
    go false = omega arith

-- the tests of unit_word run in their order
pub unit_word_in_order : (s store : List ℕ) → in_order (unit_word_tests s store) ≡ true
unfolding text_tests
unit_word_in_order s store = refl

-- the text s is accepted
module _ (s store : List ℕ) (accepted : 0 ≡ text_refusal text_limit s) where
  -- if it is a unit, the call answers what storing its word answers
  pub word_found : {k : ℕ} → Some k ≡ unit_row s → store_call (word_of (get_or word_numbers k 0)) store ≡ unit_word_call s store
  word_found {k = k} e =
      rw (row_word s k e, (row_some s k e).0, passed_first (text_tests text_limit (s ∷ [])) (store_tests (unit_word s) store) accepted refl)

  -- if it is no unit, the call answers no word
  pub word_none : None ≡ unit_row s → record { refusal = 0; value = record { found = false; size = 0; store = store } } ≡ unit_word_call s store
  word_none e =
      let n = row_none s e in
      let h : 22 ≤ unit_index s = ltb-false _ _ (sym (unit_in_table s) ∙ n) in
      let l : ltb (length store) 0 ≡ false = le-ltb (length store) 0 (omega arith) in
      rw (n, miss_word s h, passed_first (text_tests text_limit (s ∷ [])) (store_tests [] store) accepted refl, l)
