-- Call sheets distinguish their sheets: one theorem about two whole sheets. Assumes nothing.
use mathlib.Core.Path.{◌≡◌, refl, sym, ap, ◌∙◌}
use mathlib.Core.Bool.{Bool, false}
use mathlib.Core.List.{List, [], ◌∷◌, map, cons-eq-cons, flatten}
use mathlib.Core.Logic.{◌↔◌}
use Prim.Native.Nat.{ℕ, zero, suc, ◌≤◌}
use native.Mathlib.Omega.{arith}
use lib.ListN.{length, drop, length-map}
use lib.Seq.{take_at, ext_get_or}
use borrow.Author.Tests.{le-ltb}
use Rattle.lists.specs.Bytes.{overwrite, Every}
use Rattle.shapes.proofs.Laws.{same_truth}
use Rattle.tokens.specs.Tokens.{Token, tokens}
use Rattle.sentences.specs.Sentences.{sentence_starts}
use Rattle.sentences.specs.Calls.{flags}
use Rattle.sentences.proofs.Marking.{starts_length}
use Rattle.call_spec.specs.Sheet.{SheetEntry, entries_of, entries, line_of, call_sheet, count_words}
use Rattle.admit.specs.Refusals.{first_refusal, Call, call}
use Rattle.call_spec.specs.Calls.{sheet_tests, SheetResult, sheet_call, AcceptedSheet}
use Rattle.decoder.specs.Sheets.{names, AllClear, SameEntries, written_call_sheet, lines_in, words_in, decode_sheet}
use Rattle.decoder.proofs.Decoded.{Decoded}
use Rattle.decoder.proofs.Lines.{sheet_decoded}
use Rattle.decoder.proofs.SplitSheet.{entries_separator_free, sheet_counted}
use Rattle.decoder.proofs.ClearNames.{clear_decoded}

abbrev name_of : Token → List ℕ
name_of t = t.name

-- there is a mark for each token
marks_length : (s : List ℕ) → length (sentence_starts (tokens s)) ≡ length (tokens s)
unfolding flags
marks_length s = go (sentence_starts (tokens s)) ∙ starts_length s
  where
    go : (bs : List Bool) → length bs ≡ length (flags bs)
    go [] = refl
    go (b ∷ bs) = ap suc (go bs)

-- clear names are decoded
entries_decoded : (bs : List Bool) (ts : List Token) → AllClear (map name_of ts) → Every (λ (e : SheetEntry). Decoded e.name) (entries_of bs ts)
unfolding entries_of
entries_decoded [] ts h = tt
entries_decoded (b ∷ bs) [] h = tt
entries_decoded (b ∷ bs) (t ∷ ts) h = (clear_decoded t.name h.0, entries_decoded bs ts h.1)

-- the entries have the tokens' marks and names, and nothing else of them
entries_parts : (bs : List Bool) (ts : List Token) → length bs ≡ length ts
    → (map (λ (e : SheetEntry). e.starts) (entries_of bs ts) ≡ bs) × (map (λ (e : SheetEntry). e.name) (entries_of bs ts) ≡ map name_of ts)
unfolding entries_of
entries_parts [] [] h = (refl, refl)
entries_parts [] (t ∷ ts) h = absurd (omega arith)
entries_parts (b ∷ bs) [] h = absurd (omega arith)
entries_parts (b ∷ bs) (t ∷ ts) h =
    let k = entries_parts bs ts (omega arith) in
    (ap (λ (cs : List Bool). b ∷ cs) k.0, ap (λ (ns : List (List ℕ)). t.name ∷ ns) k.1)

entries_same : (bs : List Bool) (ts us : List Token) → map name_of ts ≡ map name_of us → entries_of bs ts ≡ entries_of bs us
unfolding entries_of
entries_same [] ts us h = refl
entries_same (b ∷ bs) [] [] h = refl
entries_same (b ∷ bs) [] (u ∷ us) h = cc
entries_same (b ∷ bs) (t ∷ ts) [] h = cc
entries_same (b ∷ bs) (t ∷ ts) (u ∷ us) h = let k = cons-eq-cons.0 h in rw (k.0, entries_same bs ts us k.1)

-- equal entries have the same marks and names
entries_same_parts : (s t : List ℕ) → entries s ≡ entries t → SameEntries s t
entries_same_parts s t e =
    let p = entries_parts (sentence_starts (tokens s)) (tokens s) (marks_length s) in
    let q = entries_parts (sentence_starts (tokens t)) (tokens t) (marks_length t) in
    let marks : sentence_starts (tokens s) ≡ sentence_starts (tokens t) = sym p.0 ∙ ap (map (λ (e : SheetEntry). e.starts)) e ∙ q.0 in
    let named : names s ≡ names t = sym p.1 ∙ ap (map (λ (e : SheetEntry). e.name)) e ∙ q.1 in
    record {
      same_count = sym (length-map (tokens s) name_of) ∙ ap length named ∙ length-map (tokens t) name_of;
      same_names = named;
      same_starts = λ k. rw marks (λ h. h, λ h. h);
    }

-- and those with the same marks and names are equal
entries_from : (s t : List ℕ) → SameEntries s t → entries s ≡ entries t
entries_from s t h =
    let marks : sentence_starts (tokens s) ≡ sentence_starts (tokens t) =
    ext_get_or false _ _ (marks_length s ∙ h.same_count ∙ sym (marks_length t)) (λ k l. same_truth _ _ (h.same_starts k)) in
    rw marks (entries_same (sentence_starts (tokens t)) (tokens s) (tokens t) h.same_names)

-- sheets with the same entries have the same call sheet, whether their names are clear or not
pub same_entries_same_call_sheet : (s t : List ℕ) → SameEntries s t → call_sheet s ≡ call_sheet t
same_entries_same_call_sheet s t h = ap (λ (es : List SheetEntry). flatten (map line_of es)) (entries_from s t h)

-- two accepted sheets made only of clear entries have the same call sheet exactly when they have equally many entries, the same
-- names in the same order, and sentences starting at the same entries. That they are accepted is part of the claim, but the proof
-- does not need it
pub call_sheets_distinguish_sheets : (s t : List ℕ) → AcceptedSheet s → AcceptedSheet t → AllClear (names s) → AllClear (names t)
    → (call_sheet s ≡ call_sheet t) ↔ SameEntries s t
call_sheets_distinguish_sheets s t a b p q = (
  λ e. entries_same_parts s t
      (sym (sheet_decoded (entries s) (entries_separator_free s) (entries_decoded _ _ p)) ∙ ap decode_sheet e
      ∙ sheet_decoded (entries t) (entries_separator_free t) (entries_decoded _ _ q)),
  same_entries_same_call_sheet s t,
)

-- "A sheet is accepted when calling it whole, with room for the result, isn't held back."
pub accepted_call : (s old : List ℕ) → length (call_sheet s) ≤ length old → ((sheet_call s old).refusal ≡ 0) ↔ AcceptedSheet s
unfolding sheet_call
accepted_call s old h = rw (le-ltb (length old) (length (call_sheet s)) h) (number_of (first_refusal (sheet_tests s false)) _ _)
  where
    number_of : (n : ℕ) (x y : SheetResult) → ((call x n y).refusal ≡ 0) ↔ (n ≡ 0)
    number_of zero x y = (λ e. e, λ e. e)
    number_of (suc n) x y = (λ e. e, λ e. e)

-- what the call of an accepted sheet answers and leaves in a buffer with room for the result
pub call_written : (s old : List ℕ) → AcceptedSheet s → length (call_sheet s) ≤ length old
    → sheet_call s old
    ≡ record {
      refusal = 0;
      value = record { tokens = length (tokens s); words = count_words (entries s); bytes = length (call_sheet s); buffer = overwrite (call_sheet s) old };
    }
unfolding sheet_call
call_written s old a h = rw (le-ltb (length old) (length (call_sheet s)) h, a)

-- the lines that it writes are the call sheet
written_sheet : (s old : List ℕ) → AcceptedSheet s → length (call_sheet s) ≤ length old → written_call_sheet (sheet_call s old) ≡ call_sheet s
written_sheet s old a h = rw (call_written s old a h) (take_at (call_sheet s) (drop (length (call_sheet s)) old) (length (call_sheet s)) refl)

-- the counts that the call answers are those of the lines that it writes, and of their words
pub call_counted : (s old : List ℕ) → AcceptedSheet s → length (call_sheet s) ≤ length old
    → ((sheet_call s old).value.tokens ≡ length (lines_in (written_call_sheet (sheet_call s old))))
    × ((sheet_call s old).value.words ≡ length (flatten (map words_in (lines_in (written_call_sheet (sheet_call s old))))))
call_counted s old a h =
    let c = call_written s old a h in
    let w = ap (λ (t : List ℕ). length (lines_in t)) (written_sheet s old a h) in
    let v = ap (λ (t : List ℕ). length (flatten (map words_in (lines_in t)))) (written_sheet s old a h) in
    let n = sheet_counted s in
    (ap (λ (r : Call SheetResult). r.value.tokens) c ∙ sym (w ∙ n.0), ap (λ (r : Call SheetResult). r.value.words) c ∙ sym (v ∙ n.1))

-- so what the two calls write distinguishes the sheets
pub calls_distinguish_sheets : (s t old new : List ℕ) → AcceptedSheet s → AcceptedSheet t → length (call_sheet s) ≤ length old → length (call_sheet t) ≤ length new
    → AllClear (names s) → AllClear (names t) → (written_call_sheet (sheet_call s old) ≡ written_call_sheet (sheet_call t new)) ↔ SameEntries s t
calls_distinguish_sheets s t old new a b h k p q = rw (written_sheet s old a h, written_sheet t new b k) (call_sheets_distinguish_sheets s t a b p q)
