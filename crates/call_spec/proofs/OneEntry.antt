-- What the call of one entry gives is what stands in the whole sheet's call. Assumes nothing.
use mathlib.Core.Path.{◌≡◌, refl, sym, ap, ◌∙◌}
use mathlib.Core.Bool.{Bool, false, true}
use mathlib.Core.List.{List, [], ◌∷◌, ◌++◌, flatten}
use Prim.Native.Nat.{ℕ, zero, suc, ◌+◌, ◌≤◌, ◌<◌}
use native.Mathlib.Omega.{arith}
use lib.Dec.{ltb, leb}
use lib.ListN.{length, take, drop, get_or}
use lib.Seq.{take-append_seam}
use borrow.Author.Tests.{le-ltb, lt-leb, le-leb}
use Rattle.lists.proofs.Bools.{or_false_both}
use Rattle.lists.specs.Bytes.{any}
use Rattle.admit.specs.Refusals.{◌when◌, first_refusal, text_limit, text_tests, text_refusal, Call, in_order, Test}
use Rattle.admit.specs.declared.Refusal.TheVariants.{NameTooLong, BufferTooShort, NoSuchEntry}
use Rattle.admit.proofs.Calls.{call_accepted, passed_first, both_passed, none_refused, call_number}
use Rattle.tokens.specs.Tokens.{tokens}
use Rattle.call_spec.specs.Sheet.{SheetEntry, entries, words_of, lines, call_sheet, count_words, no_entry}
use Rattle.call_spec.specs.Calls.{is_long, any_long, AcceptedSheet, entry_at, line_at, entry_tests, EntryResult, entry_call, sheet_tests}
use Rattle.call_spec.proofs.Entries.{entries_length, sheet_at}

-- the line and the words that a call of entry k gives, on the buffer `old`
abbrev pub called_line : List ℕ → ℕ → List ℕ → List ℕ
called_line s k old = take (entry_call s k old).value.bytes (entry_call s k old).value.buffer

abbrev pub called_words : List ℕ → ℕ → List ℕ → ℕ
called_words s k old = (entry_call s k old).value.words

-- "or would stand there if no other entry were held back by number 4": only the entry's own name is tested
pub entry_alone : (s old : List ℕ) (k : ℕ) → text_refusal text_limit s ≡ 0 → k < length (tokens s) → is_long (entry_at s k) ≡ false
    → length (line_at s k) ≤ length old
    → ((entry_call s k old).refusal ≡ 0) × (called_line s k old ≡ line_at s k) × (called_words s k old ≡ length (words_of (entry_at s k)))
unfolding entry_call
entry_alone s old k t h l r =
    let short : Bool = ltb (length old) (length (line_at s k)) in
    let d : first_refusal (entry_tests s k short) ≡ 0 =
    passed_first (text_tests text_limit (s ∷ [])) _ (sym t) refl
    ∙ rw (lt-leb (length (tokens s)) k h, l, le-ltb (length old) (length (line_at s k)) r) in
    let q = call_accepted _ _ _ (first_refusal (entry_tests s k short)) (sym d) refl in (
      sym (ap (λ (c : Call EntryResult). c.refusal) q),
      sym (ap (λ (c : Call EntryResult). take c.value.bytes c.value.buffer) q) ∙ take-append_seam (line_at s k) (drop (length (line_at s k)) old),
      sym (ap (λ (c : Call EntryResult). c.value.words) q),
    )

-- the tests of a whole sheet's call run in their order
pub sheet_in_order : (s : List ℕ) (short : Bool) → in_order (sheet_tests s short) ≡ true
unfolding text_tests
sheet_in_order s short = refl

-- so do the tests of an entry's call
pub entry_in_order : (s : List ℕ) (k : ℕ) (short : Bool) → in_order (entry_tests s k short) ≡ true
unfolding text_tests
entry_in_order s k short = refl

-- an accepted sheet passes the tests of its text, and none of its names is too long
accepted_tests : (s : List ℕ) → AcceptedSheet s → (text_refusal text_limit s ≡ 0) × (any_long (entries s) ≡ false)
accepted_tests s a =
    let k = both_passed (text_tests text_limit (s ∷ [])) _ a in
    (k.0, (none_refused (NameTooLong when any_long (entries s) ∷ BufferTooShort when false ∷ []) k.1).0)

short_at : (es : List SheetEntry) (k : ℕ) → k < length es → any_long es ≡ false → is_long (get_or es k no_entry) ≡ false
unfolding any
short_at [] k h e = absurd (omega arith)
short_at (x ∷ es) zero h e = (or_false_both (is_long x) (any_long es) e).0
short_at (x ∷ es) (suc k) h e = short_at es k (omega arith) (or_false_both (is_long x) (any_long es) e).1

-- "its line as it stands in the whole sheet's call", and its words are its share of "the count of words"
pub entry_line : (s old : List ℕ) (k : ℕ) → AcceptedSheet s → k < length (tokens s) → length (line_at s k) ≤ length old
    → ((entry_call s k old).refusal ≡ 0)
    × (call_sheet s ≡ flatten (take k (lines s)) ++ (called_line s k old ++ flatten (drop (suc k) (lines s))))
    × (count_words (entries s) ≡ count_words (take k (entries s)) + (called_words s k old + count_words (drop (suc k) (entries s))))
entry_line s old k a h r =
    let t = accepted_tests s a in
    let c = entry_alone s old k t.0 h (short_at (entries s) k (omega (arith, entries_length s)) t.1) r in
    rw (c.1, c.2) (c.0, (sheet_at s k h).0, (sheet_at s k h).1)

-- "its number, from 0, is not below the token count": such a call is refused with 3
pub no_such_entry : (s old : List ℕ) (k : ℕ) → text_refusal text_limit s ≡ 0 → length (tokens s) ≤ k → (entry_call s k old).refusal ≡ 3
unfolding entry_call
no_such_entry s old k t h =
    call_number _ _ (first_refusal (entry_tests s k (ltb (length old) (length (line_at s k)))))
    ∙ passed_first (text_tests text_limit (s ∷ [])) _ (sym t) refl ∙ rw (le-leb (length (tokens s)) k h)

-- if each entry passes the test of its name, no name is too long
none_long : (es : List SheetEntry) → ((k : ℕ) → k < length es → is_long (get_or es k no_entry) ≡ false) → any_long es ≡ false
unfolding any
none_long [] h = refl
none_long (e ∷ es) h = rw (h 0 (omega arith)) (none_long es (λ k l. h (suc k) (omega arith)))

-- a sheet whose entries can all be called, each by itself, is accepted
pub each_accepted : (s : List ℕ) → text_refusal text_limit s ≡ 0 → ((k : ℕ) → k < length (tokens s) → (entry_call s k (line_at s k)).refusal ≡ 0) → AcceptedSheet s
unfolding entry_call
each_accepted s t h =
    let text = text_tests text_limit (s ∷ []) in
    let later : ℕ → List Test = λ k.
    NoSuchEntry when leb (length (tokens s)) k ∷ NameTooLong when is_long (entry_at s k) ∷ BufferTooShort when ltb (length (line_at s k)) (length (line_at s k)) ∷ [] in
    let long : any_long (entries s) ≡ false =
    none_long (entries s) (λ k l.
    let e = sym (call_number _ _ (first_refusal (text ++ later k))) ∙ h k (omega (arith, entries_length s)) in
    (none_refused (later k) (both_passed text (later k) e).1).1.0) in
    passed_first text (NameTooLong when any_long (entries s) ∷ BufferTooShort when false ∷ []) (sym t) refl ∙ rw long
