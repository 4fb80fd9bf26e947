-- Document 01, "Calls held back", and number 6 of document 02: the refusals, their numbers, the tests of a call, and what a
-- refused call answers. Definitions only.
use Rattle.std.specs.Prelude.{Bool, true, cond, not, ◌&&◌, ◌||◌, List, [], ◌∷◌, ℕ, zero, suc, leb, ltb, eqb, length, Result, Ok, Err}
use Rattle.lists.specs.Bytes.{any}
use Rattle.lists.specs.Classes.{ascii, one_of}
use Rattle.admit.specs.Utf8.{utf8}
use Rattle.admit.specs.declared.Refusal.{Refusal}
use Rattle.admit.specs.declared.Refusal.TheVariants.{TextTooLong, NotUtf8, NoSuchEntry, NameTooLong, BufferTooShort, ControlByte}

-- the column "No." of the table
abbrev pub refusal_number : Refusal → ℕ
refusal_number TextTooLong = 1
refusal_number NotUtf8 = 2
refusal_number NoSuchEntry = 3
refusal_number NameTooLong = 4
refusal_number BufferTooShort = 5
-- document 02, A3
refusal_number ControlByte = 6

-- the number that a call answers, 0 if it is accepted
abbrev pub answer_number : {A : Type 0} → Result A Refusal → ℕ
answer_number (Ok a) = 0
answer_number (Err r) = refusal_number r

-- a test of a call: a refusal, and whether its condition holds, as in the table's column "When"
infix 70 ◌when◌
pub data Test : Type 0 where
  ◌when◌ : Refusal → Bool → Test

-- "Each refusal is given under its condition and never otherwise": the number of the first test that holds, in the order in which
-- a call makes its tests; 0 if none holds
abbrev pub first_refusal : List Test → ℕ
first_refusal [] = 0
first_refusal (refusal when holds ∷ tests) = cond holds (refusal_number refusal) (first_refusal tests)

-- "Tests run in the order 1 to 5"; and 6 is "tested after 2 and before 3"
abbrev pub test_order : List ℕ
test_order = 1 ∷ 2 ∷ 6 ∷ 3 ∷ 4 ∷ 5 ∷ []

-- the place of a number in a list, from 0
abbrev pub place_in : List ℕ → ℕ → ℕ
place_in [] number = 0
place_in (n ∷ list) number = cond (eqb n number) 0 (suc (place_in list number))

-- the place of a refusal's number in that order
abbrev pub test_place : ℕ → ℕ
test_place = place_in test_order

-- each test has its place behind that of the one before
abbrev pub in_order : List Test → Bool
in_order [] = true
in_order (a ∷ []) = true
in_order (refusal when holds ∷ next when too ∷ tests) =
    ltb (test_place (refusal_number refusal)) (test_place (refusal_number next)) && in_order (next when too ∷ tests)

-- ---- the tests that every call makes first

-- "a text has more than 65,536 bytes"
abbrev pub text_limit : ℕ
text_limit = 65536

-- the text has more bytes than the limit of its call
abbrev pub is_too_long : ℕ → List ℕ → Bool
is_too_long limit s = ltb limit (length s)

-- "a text isn't UTF-8"
abbrev pub is_not_utf8 : List ℕ → Bool
is_not_utf8 s = not (utf8 s)

-- "bytes 0x00 to 0x1F, except 0x09, 0x0A and 0x0D, and .. 0x7F"
abbrev pub control : ℕ → Bool
control b = (leb b 0x1F && not (one_of (0x09 ∷ 0x0A ∷ 0x0D ∷ []) b)) || eqb b 0x7F

-- "a text holds such a byte"
abbrev pub has_control : List ℕ → Bool
has_control s = any control s

-- the tests of the texts that a call is given, one or several
unfoldable pub text_tests : ℕ → List (List ℕ) → List Test
text_tests limit texts =
    TextTooLong when any (is_too_long limit) texts
    ∷ NotUtf8 when any is_not_utf8 texts
    ∷ ControlByte when any has_control texts
    ∷ []

-- the number that a call answers if it is given one text and makes no other tests
abbrev pub text_refusal : ℕ → List ℕ → ℕ
text_refusal limit s = first_refusal (text_tests limit (s ∷ []))

-- ---- what a call answers

-- its number, and its values, which include the final bytes of the buffers
pub record Call (A : Type 0) : Type 0 where
  pub refusal : ℕ
  pub value : A

-- "A refused call answers its number, with every count and value 0, every verdict no and no part, and writes nothing":
-- `nothing` is the value of a refused call, and `given` that of an accepted one
abbrev pub call : {A : Type 0} → A → ℕ → A → Call A
call nothing zero given = record { refusal = zero; value = given }
call nothing (suc n) given = record { refusal = suc n; value = nothing }

-- the answer r in that form: `given` has the values of an accepted call, and `nothing` is the value of a refused one
abbrev pub answered : {A B : Type 0} → B → (A → B) → Result A Refusal → Call B
answered nothing given (Ok a) = record { refusal = 0; value = given a }
answered nothing given (Err r) = record { refusal = refusal_number r; value = nothing }

-- ---- no public promise is made of these

-- ASCII, and no control byte
abbrev pub ascii_text : ℕ → Bool
ascii_text b = ascii b && not (control b)

-- a number that is below the space exactly if b is a control byte
abbrev pub control_rank : ℕ → ℕ
control_rank b = cond (eqb b 0x09 || eqb b 0x0A || eqb b 0x0D) 0x20 (cond (eqb b 0x7F) 0 b)
