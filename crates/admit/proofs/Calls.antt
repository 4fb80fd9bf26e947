-- A refused call answers its number and nothing else, an accepted one its value. And laws of the tests of a call.
-- Assumes nothing.
use mathlib.Core.Path.{◌≡◌, refl, sym, ap, ◌∙◌}
use mathlib.Core.Bool.{true, false, cond, not, or-false, and-eq-true_iff}
use mathlib.Core.List.{List, [], ◌∷◌, ◌++◌}
use Rattle.std.specs.Prelude.{Result, Ok, Err, IsErrAnd}
use Prim.Native.Nat.{ℕ, zero, suc, ◌≤◌}
use native.Mathlib.Omega.{arith}
use lib.Dec.{eqb}
use lib.ListN.{length}
use borrow.Author.Tests.{ltb-false, le-ltb, not-false}
use Rattle.lists.specs.Bytes.{all, any, Every}
use Rattle.lists.specs.Classes.{ascii}
use Rattle.lists.proofs.Scan.{all_within}
use Rattle.admit.specs.Utf8.{utf8}
use Rattle.admit.specs.Refusals.{refusal_number, Test, ◌when◌, first_refusal, text_tests, text_refusal, call, answer_number, answered, control, has_control, ascii_text}
use Rattle.admit.proofs.Utf8.{utf8_all}
use Rattle.admit.proofs.Control.{ascii_text_clear}
use Rattle.admit.specs.declared.Refusal.{Refusal}
use Rattle.admit.specs.declared.Refusal.TheVariants.{TextTooLong, NotUtf8, NoSuchEntry, NameTooLong, BufferTooShort, ControlByte}

-- no refusal has the number 0
pub numbered : (r : Refusal) → refusal_number r ≡ 0 → ⊥
numbered TextTooLong e = absurd (omega arith)
numbered NotUtf8 e = absurd (omega arith)
numbered NoSuchEntry e = absurd (omega arith)
numbered NameTooLong e = absurd (omega arith)
numbered BufferTooShort e = absurd (omega arith)
numbered ControlByte e = absurd (omega arith)

-- two refusals with one number are the same
pub numbers_apart : (r q : Refusal) → refusal_number r ≡ refusal_number q → r ≡ q
numbers_apart r q e = sym (refusal_of_number r) ∙ ap refusal_of e ∙ refusal_of_number q
  where
    refusal_of : ℕ → Refusal
    refusal_of n =
        cond (eqb n 1) TextTooLong
        (cond (eqb n 2) NotUtf8 (cond (eqb n 3) NoSuchEntry (cond (eqb n 4) NameTooLong (cond (eqb n 5) BufferTooShort ControlByte))))

    refusal_of_number : (r : Refusal) → refusal_of (refusal_number r) ≡ r
    refusal_of_number TextTooLong = refl
    refusal_of_number NotUtf8 = refl
    refusal_of_number NoSuchEntry = refl
    refusal_of_number NameTooLong = refl
    refusal_of_number BufferTooShort = refl
    refusal_of_number ControlByte = refl

refused_same : {A : Type 0} (nothing given : A) (n : ℕ) → (n ≡ 0 → ⊥) → record { refusal = n; value = nothing } ≡ call nothing n given
refused_same nothing given zero h = absurd (h refl)
refused_same nothing given (suc n) h = refl

-- the answer of a refused call. m is the number in the code, n that of the definition
pub call_refused : {A : Type 0} (nothing given : A) (m n : ℕ) → (m ≡ 0 → ⊥) → m ≡ n → record { refusal = m; value = nothing } ≡ call nothing n given
call_refused nothing given m n h e = rw (← e) (refused_same nothing given m h)

-- the answer of an accepted call
pub call_accepted : {A : Type 0} (nothing given value : A) (n : ℕ) → 0 ≡ n → value ≡ given → record { refusal = 0; value = value } ≡ call nothing n given
call_accepted nothing given value n e v = rw (← e, v)

-- a call answers its number
pub call_number : {A : Type 0} (nothing given : A) (n : ℕ) → (call nothing n given).refusal ≡ n
call_number nothing given zero = refl
call_number nothing given (suc n) = refl

-- ---- some tests after others

-- the first number, or the second if the first is 0
abbrev pub or_else : ℕ → ℕ → ℕ
or_else zero m = m
or_else (suc n) m = suc n

or_else_some : (n m : ℕ) → (n ≡ 0 → ⊥) → n ≡ or_else n m
or_else_some zero m h = absurd (h refl)
or_else_some (suc n) m h = refl

-- the tests a and then b give the refusal of a, or that of b if no test of a holds
pub first_refusal_append : (a b : List Test) → first_refusal (a ++ b) ≡ or_else (first_refusal a) (first_refusal b)
first_refusal_append [] b = refl
first_refusal_append (r when true ∷ a) b = or_else_some (refusal_number r) (first_refusal b) (numbered r)
first_refusal_append (r when false ∷ a) b = first_refusal_append a b

-- n is the number that the code has for the tests a; the tests b follow
module _ (a b : List Test) {n : ℕ} (refusal_eq : n ≡ first_refusal a) where
  -- if a test of a holds, the call answers n
  pub refused_first : {A : Type 0} (nothing given : A) → (n ≡ 0 → ⊥) → record { refusal = n; value = nothing } ≡ call nothing (first_refusal (a ++ b)) given
  refused_first nothing given z = rw (first_refusal_append a b, ← refusal_eq) (go n z)
    where
      go : (n : ℕ) → (n ≡ 0 → ⊥) → record { refusal = n; value = nothing } ≡ call nothing (or_else n (first_refusal b)) given
      go zero z = absurd (z refl)
      go (suc n) z = refl

  -- if no test of a holds, the tests b decide
  pub passed_first : n ≡ 0 → first_refusal (a ++ b) ≡ first_refusal b
  passed_first z = first_refusal_append a b ∙ ap (λ (k : ℕ). or_else k (first_refusal b)) (sym refusal_eq ∙ z)

-- if no test of both lists joined holds, none of a holds and none of b
pub both_passed : (a b : List Test) → first_refusal (a ++ b) ≡ 0 → (first_refusal a ≡ 0) × (first_refusal b ≡ 0)
both_passed a b h = go (first_refusal a) (sym (first_refusal_append a b) ∙ h)
  where
    go : (n : ℕ) → or_else n (first_refusal b) ≡ 0 → (n ≡ 0) × (first_refusal b ≡ 0)
    go zero h = (refl, h)
    go (suc n) h = absurd (omega arith)

-- the test does not hold
abbrev pub Fails : Test → Type 0
Fails (r when holds) = holds ≡ false

-- if a call is not refused, no test holds
pub none_refused : (tests : List Test) → first_refusal tests ≡ 0 → Every Fails tests
none_refused [] h = tt
none_refused (r when true ∷ tests) h = absurd (numbered r h)
none_refused (r when false ∷ tests) h = (refl, none_refused tests h)

-- ---- calls that answer a `Result`

-- `made` is what an earlier call answered, which made the tests a; the tests b follow
module _ (a b : List Test) {T : Type 0} {made : Result T Refusal} (made_eq : answer_number made ≡ first_refusal a) where
  -- if that call is refused, `?` leaves with its refusal
  pub leaves_first : {A B : Type 0} (nothing given : B) (f : A → B) (result : Result A Refusal) {r : Refusal} → made ≡ Err r → IsErrAnd result (λ e. e ≡ r)
      → answered nothing f result ≡ call nothing (first_refusal (a ++ b)) given
  leaves_first {A = A} nothing given f result {r = r} e h = go result h
    where
      n : refusal_number r ≡ first_refusal a
      n = sym (ap answer_number e) ∙ made_eq

      go : (result : Result A Refusal) → IsErrAnd result (λ e. e ≡ r) → answered nothing f result ≡ call nothing (first_refusal (a ++ b)) given
      go (Ok v) h = absurd h
      go (Err q) h = rw h (refused_first a b n nothing given (numbered r))

  -- if it is accepted, the tests b decide
  pub decides_next : {v : T} → made ≡ Ok v → first_refusal (a ++ b) ≡ first_refusal b
  decides_next e = passed_first a b made_eq (ap answer_number e)

-- if a call is left by the `?` after another, the answers of both are the same
pub leaves_same : {T A B : Type 0} (nothing : B) (f : T → B) (g : A → B) {made : Result T Refusal} (result : Result A Refusal) {r : Refusal}
    → made ≡ Err r → IsErrAnd result (λ e. e ≡ r) → answered nothing g result ≡ answered nothing f made
leaves_same nothing f g (Ok v) e h = absurd h
leaves_same nothing f g (Err q) e h = rw (e, h)

-- ---- one text

-- what an accepted text is: within the limit, UTF-8, and without control bytes
pub record ValidText (limit : ℕ) (s : List ℕ) : Type 0 where
  pub within_limit : length s ≤ limit
  pub valid_utf8 : utf8 s ≡ true
  pub no_control : has_control s ≡ false

-- an accepted text is valid
pub text_valid : (limit : ℕ) (s : List ℕ) → text_refusal limit s ≡ 0 → ValidText limit s
unfolding text_tests any
text_valid limit s h =
    let k = none_refused (text_tests limit (s ∷ [])) h in
    record {
      within_limit = ltb-false _ _ (sym (or-false _) ∙ k.0);
      valid_utf8 = not-false _ (sym (or-false _) ∙ k.1.0);
      no_control = sym (or-false _) ∙ k.1.1.0;
    }

-- a valid text is accepted
pub text_accepted : (limit : ℕ) (s : List ℕ) → ValidText limit s → text_refusal limit s ≡ 0
unfolding text_tests any
text_accepted limit s h = rw (le-ltb limit (length s) h.within_limit, h.valid_utf8, h.no_control)

-- ASCII text within the limit is accepted
pub ascii_text_accepted : (limit : ℕ) (s : List ℕ) → length s ≤ limit → all ascii_text s ≡ true → text_refusal limit s ≡ 0
ascii_text_accepted limit s h k =
    let ascii_s = all_within ascii_text ascii (λ b e. ((and-eq-true_iff (ascii b) (not (control b))).0 e).0) s k in
    text_accepted limit s (record { within_limit = h; valid_utf8 = utf8_all s ascii_s; no_control = ascii_text_clear s k })
