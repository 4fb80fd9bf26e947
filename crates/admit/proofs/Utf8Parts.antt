-- A text that is cut before an ASCII byte, or at its end, is UTF-8 exactly when both parts are. Assumes nothing.
use mathlib.Core.Path.{◌≡◌, refl, sym, ap, ◌∙◌}
use mathlib.Core.Bool.{Bool, true, false, cond, ◌&&◌, and-false}
use mathlib.Core.List.{List, [], ◌∷◌, ◌++◌}
use Prim.Native.Nat.{ℕ, zero, suc, ◌≤◌, ◌<◌}
use native.Mathlib.Omega.{arith}
use lib.Dec.{eqb, leb}
use lib.ListN.{length, drop, get_or, length-drop}
use lib.Seq.{drop-append-le}
use borrow.Author.Tests.{ltb-true, lt-leb, eqb-false}
use Rattle.lists.specs.Classes.{ascii}
use Rattle.admit.specs.Utf8.{utf8_tail, lead2, lead3, lead4, sequence_len, char_len, utf8}
use Rattle.admit.proofs.Utf8.{utf8_end, utf8_char}

-- a character ends before an ASCII byte
module _ (z : ℕ) (h : ascii z ≡ true) where
  low : (lo : ℕ) → 128 ≤ lo → leb lo z ≡ false
  low lo k = lt-leb lo z (omega (arith, ltb-true z 128 h))

  char_1 : (a c d : ℕ) → sequence_len a z c d ≡ cond (ascii a) 1 0
  unfolding sequence_len
  char_1 a c d = simp (low 0x80 (omega arith), low 0x90 (omega arith), low 0xA0 (omega arith), and-false)

  char_2 : (a b d : ℕ) → sequence_len a b z d ≡ cond (ascii a) 1 (cond (lead2 a && utf8_tail b) 2 0)
  unfolding sequence_len
  char_2 a b d = simp (low 0x80 (omega arith), and-false)

  char_3 : (a b c : ℕ) → sequence_len a b c z ≡ cond (ascii a) 1 (cond (lead2 a && utf8_tail b) 2 (cond (lead3 a b && utf8_tail c) 3 0))
  unfolding sequence_len
  char_3 a b c = simp (low 0x80 (omega arith), and-false)

-- so the length of a character does not depend on what follows, if that starts with ASCII
char_append : (x y : List ℕ) → 0 < length x → ascii (get_or y 0 0) ≡ true → char_len (x ++ y) ≡ char_len x
char_append [] y k h = absurd (omega arith)
char_append (a ∷ []) y k h = char_1 (get_or y 0 0) h a (get_or y 1 0) (get_or y 2 0) ∙ sym (char_1 0 refl a 0 0)
char_append (a ∷ b ∷ []) y k h = char_2 (get_or y 0 0) h a b (get_or y 1 0) ∙ sym (char_2 0 refl a b 0)
char_append (a ∷ b ∷ c ∷ []) y k h = char_3 (get_or y 0 0) h a b c ∙ sym (char_3 0 refl a b c)
char_append (a ∷ b ∷ c ∷ d ∷ x) y k h = refl

cond_le : (t : Bool) {m n k : ℕ} → m ≤ k → n ≤ k → cond t m n ≤ k
cond_le true h l = h
cond_le false h l = l

-- the character at the front is within the text
pub char_within : (x : List ℕ) → 0 < length x → char_len x ≤ length x
unfolding sequence_len
char_within [] k = absurd (omega arith)
char_within (a ∷ []) k = rw (char_1 0 refl a 0 0) (cond_le (ascii a) (omega arith) (omega arith))
char_within (a ∷ b ∷ []) k = rw (char_2 0 refl a b 0) (cond_le (ascii a) (omega arith) (cond_le (lead2 a && utf8_tail b) (omega arith) (omega arith)))
char_within (a ∷ b ∷ c ∷ []) k =
    rw (char_3 0 refl a b c) (cond_le (ascii a) (omega arith)
    (cond_le (lead2 a && utf8_tail b) (omega arith) (cond_le (lead3 a b && utf8_tail c) (omega arith) (omega arith))))
char_within (a ∷ b ∷ c ∷ d ∷ x) k =
    cond_le (ascii a) (omega arith)
    (cond_le (lead2 a && utf8_tail b) (omega arith)
    (cond_le (lead3 a b && utf8_tail c) (omega arith) (cond_le (lead4 a b && utf8_tail c && utf8_tail d) (omega arith) (omega arith))))

-- if y is empty or starts with ASCII, x and y joined are UTF-8 exactly when both are
pub utf8_append : (x y : List ℕ) → ascii (get_or y 0 0) ≡ true → utf8 (x ++ y) ≡ utf8 x && utf8 y
utf8_append x y h = at (suc (length x)) x (omega arith)
  where
    go : (t : Bool) (u : List ℕ) → (t ≡ false → utf8 (u ++ y) ≡ utf8 u && utf8 y) → cond t false (utf8 (u ++ y)) ≡ cond t false (utf8 u) && utf8 y
    go true u i = refl
    go false u i = i refl

    at : (n : ℕ) (x : List ℕ) → length x < n → utf8 (x ++ y) ≡ utf8 x && utf8 y
    at zero x l = absurd (omega arith)
    at (suc n) [] l = ap (λ (t : Bool). t && utf8 y) (sym (utf8_end [] 0 (omega arith)))
    at (suc n) (a ∷ x) l =
        let k = char_len (a ∷ x) in
        utf8_char ((a ∷ x) ++ y) k (sym (char_append (a ∷ x) y (omega arith) h)) (omega arith)
        ∙ rw (utf8_char (a ∷ x) k refl (omega arith), drop-append-le k (a ∷ x) y (char_within (a ∷ x) (omega arith)))
        (go (eqb k 0) (drop k (a ∷ x)) (λ e. at n (drop k (a ∷ x)) (simp length-drop (omega (arith, eqb-false k 0 e)))))
