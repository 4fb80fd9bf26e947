-- How the test of UTF-8 goes on: past one character, or past a run of ASCII. Assumes nothing.
use mathlib.Core.Path.{◌≡◌, refl, ap, ◌∙◌}
use mathlib.Core.Bool.{Bool, true, false, cond, ◌&&◌}
use mathlib.Core.List.{List, [], ◌∷◌}
use Prim.Native.Nat.{ℕ, zero, suc, ◌≤◌, ◌<◌}
use native.Mathlib.Omega.{arith}
use lib.Dec.{eqb}
use lib.ListN.{length, take, drop, length-drop}
use lib.Seq.{take-length}
use borrow.Author.Tests.{ne_eqb, eqb-false}
use Rattle.lists.specs.Bytes.{all}
use Rattle.lists.proofs.Recursion.{Local, recur_eq, cond_cong}
use Rattle.lists.specs.Classes.{ascii}
use Rattle.admit.specs.Utf8.{sequence_len, char_len, utf8_step, utf8, utf8_chars_step, utf8_chars}

-- a step that goes on after the character at the front reads only shorter texts again
char_step_local : {A : Type 0} (x y : A) (f : List ℕ → A → A)
    → Local (λ rest s. cond (eqb (length s) 0) x (cond (eqb (char_len s) 0) y (f (take (char_len s) s) (rest (drop (char_len s) s)))))
char_step_local x y f g h s i =
    cond_cong (eqb (length s) 0) (λ e. refl) (λ n.
    cond_cong (eqb (char_len s) 0) (λ e. refl) (λ m.
    ap (f (take (char_len s) s)) (i (drop (char_len s) s) (simp length-drop (omega (arith, eqb-false (length s) 0 n, eqb-false (char_len s) 0 m))))))

utf8_eq : (s : List ℕ) → utf8 s ≡ utf8_step utf8 s
unfolding utf8 utf8_step
utf8_eq s = recur_eq false utf8_step (char_step_local true false (λ c t. t)) s

chars_eq : (s : List ℕ) → utf8_chars s ≡ utf8_chars_step utf8_chars s
unfolding utf8_chars utf8_chars_step
chars_eq s = recur_eq [] utf8_chars_step (char_step_local [] [] (λ c t. c ∷ t)) s

-- at the end of a text nothing is left, and that is UTF-8
pub utf8_end : (s : List ℕ) (i : ℕ) → length s ≤ i → utf8 (drop i s) ≡ true
unfolding utf8_step
utf8_end s i h =
    let e : length (drop i s) ≡ 0 = simp length-drop (omega arith) in
    utf8_eq (drop i s) ∙ rw e

-- a text is UTF-8 if a character stands at its front and what follows it is UTF-8
pub utf8_char : (s : List ℕ) (n : ℕ) → n ≡ char_len s → 0 < length s → utf8 s ≡ cond (eqb n 0) false (utf8 (drop n s))
unfolding utf8_step
utf8_char s n e h =
    let k : length s ≡ 0 → ⊥ = λ z. omega arith in
    utf8_eq s ∙ rw (ne_eqb (length s) 0 k, ← e)

-- an empty text has no characters
pub chars_end : utf8_chars [] ≡ []
unfolding utf8_chars_step
chars_end = chars_eq []

-- the characters of a text are the one at its front and those of what follows it
pub chars_char : (s : List ℕ) (n : ℕ) → n ≡ char_len s → 0 < length s → utf8_chars s ≡ cond (eqb n 0) [] (take n s ∷ utf8_chars (drop n s))
unfolding utf8_chars_step
chars_char s n e h =
    let k : length s ≡ 0 → ⊥ = λ z. omega arith in
    chars_eq s ∙ rw (ne_eqb (length s) 0 k, ← e)

utf8_ascii : (a : ℕ) (s : List ℕ) → ascii a ≡ true → utf8 (a ∷ s) ≡ utf8 s
unfolding sequence_len
utf8_ascii a s h = utf8_char (a ∷ s) 1 (rw h) (omega arith)

-- a run of ASCII at the front can be passed
pub utf8_run : (n : ℕ) (s : List ℕ) → all ascii (take n s) ≡ true → utf8 s ≡ utf8 (drop n s)
unfolding all
utf8_run zero s h = refl
utf8_run (suc n) [] h = refl
utf8_run (suc n) (a ∷ s) h = go (ascii a) refl h (utf8_run n s)
  where
    go : (t : Bool) → ascii a ≡ t → (t && all ascii (take n s)) ≡ true → (all ascii (take n s) ≡ true → utf8 s ≡ utf8 (drop n s)) → utf8 (a ∷ s) ≡ utf8 (drop n s)
    go true e h i = utf8_ascii a s e ∙ i h
    go false e h i = cc

-- a text that is all ASCII is UTF-8
pub utf8_all : (s : List ℕ) → all ascii s ≡ true → utf8 s ≡ true
utf8_all s h = utf8_run (length s) s (rw take-length h) ∙ utf8_end s (length s) (omega arith)
