-- What the public calls of patterns.rs' functions answer. Definitions only.
use Rattle.std.specs.Prelude.{Bool, true, false, cond, List, [], ◌∷◌, ◌++◌, ℕ, ltb, length, Result, Option, Some, None}
use Rattle.admit.specs.Refusals.{Test, ◌when◌, first_refusal, text_limit, text_tests, text_refusal, Call, call, answered}
use Rattle.admit.specs.declared.Refusal.{Refusal}
use Rattle.admit.specs.declared.Refusal.TheVariants.{BufferTooShort}
use Rattle.lists.specs.Bytes.{overwrite}
use Rattle.units.specs.Units.{is_unit, unit_word}
use Rattle.shapes.specs.Shapes.{unit_at, has_unit, unit_part}
use Rattle.shapes.specs.Times.{TimeParts, no_parts_of_time, time_parts, time_split, time_parts_at}
use Rattle.shapes.specs.declared.TimeSplit.{TimeSplit}
use Rattle.patterns.specs.declared.UnitPart.{UnitPart}

-- a verdict as a call's answer
abbrev pub as_verdict : Result Bool Refusal → Call Bool
as_verdict r = answered false (λ v. v) r

-- "every verdict no": a call that gives the verdict v of the text s
abbrev pub verdict_call : List ℕ → Bool → Call Bool
verdict_call s v = call false (text_refusal text_limit s) v

-- split_time_meridiem: "answers hour, minute and meridiem, or none", and "no part" if it is refused
abbrev pub time_call : List ℕ → Call TimeParts
time_call s = call no_parts_of_time (text_refusal text_limit s) (time_parts s)

-- the parts of the name s that an answer's offsets stand for
abbrev pub as_time : Result (Option TimeSplit) Refusal → List ℕ → Call TimeParts
as_time r s = answered no_parts_of_time (λ t. time_parts_at t s) r

-- the same call's offsets
abbrev pub offsets_call : List ℕ → Call (Option TimeSplit)
offsets_call s = call None (text_refusal text_limit s) (time_split s)

abbrev pub as_offsets : Result (Option TimeSplit) Refusal → Call (Option TimeSplit)
as_offsets r = answered None (λ t. t) r

-- a part of the lent name; if there is none: no, offset 0 and size 0
pub record FoundPart : Type 0 where
  pub found : Bool
  pub offset : ℕ
  pub size : ℕ

abbrev pub no_part : FoundPart
no_part = record { found = false; offset = 0; size = 0 }

-- the part of an accepted call's answer
abbrev pub found_part : Option UnitPart → FoundPart
found_part (Some p) = record { found = true; offset = p.offset; size = p.len }
found_part None = no_part

abbrev pub as_unit : Result (Option UnitPart) Refusal → Call FoundPart
as_unit r = answered no_part found_part r

-- split_unit: the unit's place in the name
unfoldable pub unit_found : List ℕ → FoundPart
unit_found s = cond (has_unit s) (record { found = true; offset = unit_at s; size = length (unit_part s) }) no_part

abbrev pub unit_call : List ℕ → Call FoundPart
unit_call s = call no_part (text_refusal text_limit s) (unit_found s)

-- a word in a lent store: whether there is one, its length, and the store's bytes as the call leaves them
pub record UnitWordResult : Type 0 where
  pub found : Bool
  pub size : ℕ
  pub store : List ℕ

-- the length of an accepted call's word, or no word, with the store as the call leaves it
abbrev pub word_in_store : Option ℕ → List ℕ → UnitWordResult
word_in_store (Some n) store = record { found = true; size = n; store = store }
word_in_store None store = record { found = false; size = 0; store = store }

abbrev pub as_unit_word : Result (Option ℕ) Refusal → List ℕ → Call UnitWordResult
as_unit_word r store = answered (word_in_store None store) (λ w. word_in_store w store) r

-- "a lent output buffer is smaller than the whole result": the buffer is the store, and the result is the word
abbrev pub store_tests : List ℕ → List ℕ → List Test
store_tests word store = BufferTooShort when ltb (length store) (length word) ∷ []

-- the tests of unit_word: of its text, and then of the store
abbrev pub unit_word_tests : List ℕ → List ℕ → List Test
unit_word_tests s store = text_tests text_limit (s ∷ []) ++ store_tests (unit_word s) store

abbrev pub unit_word_call : List ℕ → List ℕ → Call UnitWordResult
unit_word_call s store =
    call (record { found = false; size = 0; store = store })
    (first_refusal (unit_word_tests s store))
    (record { found = is_unit s; size = length (unit_word s); store = overwrite (unit_word s) store })

-- ---- no public promise is made of these

-- the word of an accepted text goes to the store, or the store is too short for it
abbrev pub store_call : List ℕ → List ℕ → Call UnitWordResult
store_call word store =
    call (record { found = false; size = 0; store = store })
    (first_refusal (store_tests word store))
    (record { found = true; size = length word; store = overwrite word store })

-- the answer of storing a word
abbrev pub as_stored : Result ℕ Refusal → List ℕ → Call UnitWordResult
as_stored r store = answered (word_in_store None store) (λ n. word_in_store (Some n) store) r
