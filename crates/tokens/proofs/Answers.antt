-- The answer of a call that fills a buffer token by token. Assumes nothing.
use mathlib.Core.Path.{◌≡◌, sym, ◌∙◌, refl}
use mathlib.Core.Bool.{Bool, true, false}
use mathlib.Core.Logic.{⊎_elim}
use mathlib.Core.List.{List, [], ◌∷◌}
use Prim.Native.Nat.{ℕ, zero, suc, ◌*◌, ◌/◌, ◌≤◌, ◌<◌}
use native.Mathlib.Omega.{arith}
use lib.Dec.{ltb}
use lib.ListN.{length}
use lib.Seq.{sets}
use borrow.Author.Tests.{lt-ltb, le-ltb, ltb-false}
use Rattle.std.specs.Prelude.{Result, Ok, Err, IsErrAnd}
use Rattle.lists.proofs.Sets.{sets_front, le_or_lt}
use Rattle.lists.specs.Bytes.{overwrite}
use Rattle.admit.specs.Refusals.{Test, ◌when◌, text_limit, text_tests, text_refusal, in_order, first_refusal, call, answer_number}
use Rattle.admit.specs.declared.Refusal.{Refusal}
use Rattle.admit.specs.declared.Refusal.TheVariants.{BufferTooShort}
use Rattle.admit.proofs.Calls.{both_passed, leaves_first, decides_next}
use Rattle.tokens.specs.Tokens.{tokens}
use Rattle.tokens.specs.Table.{record_size, records, tokens_call, as_tokens, tokens_tests}
use Rattle.tokens.proofs.Records.{records_length}

-- whether n records fit in `len` bytes
records_fit : (len n : ℕ) → ltb len (record_size * n) ≡ ltb (len / record_size) n
records_fit len n =
    ⊎_elim (λ (h : record_size * n ≤ len). le-ltb _ _ h ∙ sym (le-ltb (len / record_size) n (omega arith)))
    (λ (h : len < record_size * n). lt-ltb _ _ h ∙ sym (lt-ltb (len / record_size) n (omega arith))) (le_or_lt (record_size * n) len)

-- a table is too short for the records exactly if it has room for fewer records than there are tokens
pub records_short : (s old : List ℕ) → ltb (length old) (length (records 0 (tokens s))) ≡ ltb (length old / record_size) (length (tokens s))
records_short s old = rw (records_length 0 (tokens s)) (records_fit (length old) (length (tokens s)))

-- the tests of such a call run in their order
pub tokens_call_in_order : (s result old : List ℕ) → in_order (tokens_tests s result old) ≡ true
unfolding text_tests
tokens_call_in_order s result old = refl

-- a call that answers 0 has passed its tests, and gives the result
accepted_given : {A : Type 0} (nothing given : A) (n : ℕ) → (call nothing n given).refusal ≡ 0 → (n ≡ 0) × ((call nothing n given).value ≡ given)
accepted_given nothing given zero h = (refl, refl)
accepted_given nothing given (suc n) h = absurd (omega arith)

-- if the call is accepted, so is the text, and the result is written over the buffer
pub tokens_call_accepted : (s result old : List ℕ) → (tokens_call s result old).refusal ≡ 0
    → (text_refusal text_limit s ≡ 0) × ((tokens_call s result old).value ≡ record { tokens = length (tokens s); buffer = overwrite result old })
unfolding tokens_call
tokens_call_accepted s result old h =
    let k = accepted_given _ _ (first_refusal (tokens_tests s result old)) h in
    ((both_passed (text_tests text_limit (s ∷ [])) _ k.0).0, k.1)

-- `result` is what is written for the text s, over the buffer `old`
module _ (s result old : List ℕ) where
  abbrev is_short : Bool
  is_short = ltb (length old) (length result)

  abbrev text : List Test
  text = text_tests text_limit (s ∷ [])

  abbrev room : List Test
  room = BufferTooShort when is_short ∷ []

  -- `admitted` is what the tests of the text answer
  module _ {admitted : Result (Unit {0}) Refusal} (admitted_eq : answer_number admitted ≡ text_refusal text_limit s) where
    -- the text is refused, and `?` leaves
    pub fill_refused : (answer : Result ℕ Refusal) {r : Refusal} → admitted ≡ Err r → IsErrAnd answer (λ e. e ≡ r)
        → as_tokens answer old ≡ tokens_call s result old
    unfolding tokens_call
    fill_refused = leaves_first text room admitted_eq _ _ _

    -- the buffer is too short
    pub fill_short : admitted ≡ Ok tt → is_short ≡ true → as_tokens (Err BufferTooShort) old ≡ tokens_call s result old
    unfolding tokens_call
    fill_short o t = rw (decides_next text room admitted_eq o, t)

    -- the result is written
    pub fill_done : admitted ≡ Ok tt → is_short ≡ false → {k : ℕ} {new : List ℕ} → k ≡ length (tokens s) → new ≡ sets old 0 result
        → as_tokens (Ok k) new ≡ tokens_call s result old
    unfolding tokens_call
    fill_done o f {k} {new} e d =
        let w : new ≡ overwrite result old = d ∙ sets_front old result (ltb-false _ _ f) in
        rw (decides_next text room admitted_eq o, f) (λ j. record { refusal = 0; value = record { tokens = e j; buffer = w j } })
