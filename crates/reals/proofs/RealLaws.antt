-- The equations of `real`: by its own step, and by one sign or one part at a time. Assumes nothing.
use mathlib.Core.Path.{◌≡◌, refl, sym, ap, ap₂, ◌∙◌}
use mathlib.Core.Bool.{Bool, true, false, cond}
use mathlib.Core.List.{List, [], ◌∷◌, ◌++◌, append-nil}
use Prim.Native.Nat.{ℕ, zero, suc, ◌+◌, ◌≤◌, ◌<◌}
use Prim.Native.Char.{code}
use native.Mathlib.Omega.{arith}
use lib.Dec.{ltb}
use lib.ListN.{length, take, drop, length-take, length-drop, drop_of_length-le}
use lib.Seq.{take_all, append_snoc}
use borrow.Author.Tests.{ltb-true, ltb-false, le-ltb}
use Rattle.lists.specs.Bytes.{bytes, span, starts_with, filter_if}
use Rattle.lists.specs.Classes.{not_e}
use Rattle.lists.specs.Recur.{recur_at, recur}
use Rattle.lists.proofs.Recursion.{Local, recur_eq, cond_cong}
use Rattle.lists.proofs.Scan.{span_le, span_again, starts_with_first}
use Rattle.numerals.specs.Words.{Word, other, spelled}
use Rattle.numerals.specs.Cardinal.{digit_values, cardinal_step, short_cardinal, cardinal_of, cardinal}
use Rattle.numerals.proofs.Digits.{spelled_append}
use Rattle.reals.specs.Real.{e_at, pointed, real_step, real}
use Rattle.reals.specs.Walk.{starts_with_sign, part_words, part_size}

-- a text that starts with a byte is not empty
starts_with_some : (c : ℕ) (s : List ℕ) → starts_with c s ≡ true → 0 < length s
starts_with_some c [] e = let z : ◌≡◌ {A = ℕ} 0 1 = cc in omega arith
starts_with_some c (b ∷ s) e = omega arith

-- if a text does not start with a byte, its first n bytes do not either
starts_with_take : (c n : ℕ) (s : List ℕ) → starts_with c s ≡ false → starts_with c (take n s) ≡ false
starts_with_take c zero s e = refl
starts_with_take c (suc n) [] e = refl
starts_with_take c (suc n) (b ∷ s) e = starts_with_first c b (take n s) ∙ sym (starts_with_first c b s) ∙ e

real_local : Local real_step
unfolding real_step
real_local f g s h =
    let rest : (c : ℕ) → starts_with c s ≡ true → f (drop 1 s) ≡ g (drop 1 s) = λ c e. h (drop 1 s) (simp length-drop (omega (arith, starts_with_some c s e))) in
    cond_cong (starts_with (code "-") s) (λ e. ap (λ (ws : List Word). other (bytes "minus") ∷ ws) (rest (code "-") e)) (λ n.
    cond_cong (starts_with (code "+") s) (λ e. ap (λ (ws : List Word). other (bytes "plus") ∷ ws) (rest (code "+") e)) (λ m.
    cond_cong (ltb (e_at s) (length s)) (λ e.
    let l : e_at s < length s = ltb-true _ _ e in
    ap₂ (λ (ws vs : List Word). ws ++ other (bytes "e") ∷ vs) (h (take (e_at s) s) (simp length-take (omega arith)))
    (h (drop (e_at s + 1) s) (simp length-drop (omega arith))))
    (λ k. refl)))

-- `real` reads a text by one step, and what is left by itself
pub real_eq : (s : List ℕ) → real s ≡ real_step real s
unfolding real
real_eq s = recur_eq [] real_step real_local s

real_none : real [] ≡ []
unfolding real real_step recur recur_at pointed span cardinal cardinal_of digit_values filter_if short_cardinal cardinal_step
real_none = refl

-- an empty text has no words
pub real_end : (s : List ℕ) → length s ≡ 0 → [] ≡ spelled (real s)
unfolding spelled
real_end [] h = ap spelled (sym real_none)
real_end (b ∷ s) h = absurd (omega arith)

-- a text with no leading sign and no "e"
pub real_plain : (s : List ℕ) → starts_with (code "-") s ≡ false → starts_with (code "+") s ≡ false → length s ≤ e_at s → real s ≡ pointed s
unfolding real_step
real_plain s m p h = real_eq s ∙ rw (m, p, le-ltb (e_at s) (length s) h)

-- the words of one step, and those of what is left
pub real_part : (s : List ℕ) → real s ≡ part_words s ++ real (drop (part_size s) s)
unfolding real_step part_words part_size
real_part s = real_eq s ∙ go (starts_with (code "-") s) (starts_with (code "+") s) (ltb (e_at s) (length s)) refl refl refl
  where
    go : (m p e : Bool) → starts_with (code "-") s ≡ m → starts_with (code "+") s ≡ p → ltb (e_at s) (length s) ≡ e
        → real_step real s ≡ part_words s ++ real (drop (part_size s) s)
    go true p e m q r = rw m
    go false true e m q r = rw (m, q)
    go false false true m q r =
        let t = take (e_at s) s in
        let plain = real_plain t (starts_with_take (code "-") (e_at s) s m) (starts_with_take (code "+") (e_at s) s q) (span_again not_e s) in
        rw (m, q, r, plain) (sym (append_snoc (pointed t) (other (bytes "e")) (real (drop (e_at s + 1) s))))
    go false false false m q r =
        let h : length s ≤ e_at s = ltb-false _ _ r in
        rw (m, q, r, take_all (e_at s) s h, drop_of_length-le s {i = e_at s} h, real_none) (sym (append-nil (pointed s ++ []) ∙ append-nil (pointed s)))

-- a step reads at least one byte, and no more than there are
part_bytes : (s : List ℕ) → 0 < length s → (0 < part_size s) × (part_size s ≤ length s)
unfolding part_size
part_bytes s h = go (starts_with_sign s) (ltb (e_at s) (length s)) refl (span_le not_e s)
  where
    go : (m e : Bool) → ltb (e_at s) (length s) ≡ e → e_at s ≤ length s → (0 < cond m 1 (cond e (e_at s + 1) (e_at s)))
        × (cond m 1 (cond e (e_at s + 1) (e_at s)) ≤ length s)
    go true e r l = (omega arith, omega arith)
    go false true r l = (omega arith, omega (arith, ltb-true (e_at s) (length s) r))
    go false false r l = (omega (arith, ltb-false (e_at s) (length s) r), omega arith)

-- what a step leaves is shorter
pub rest_shorter : (s : List ℕ) → 0 < length s → {t : List ℕ} → t ≡ drop (part_size s) s → length t < length s
rest_shorter s h e = omega (arith, ap length e, length-drop (part_size s) s, part_bytes s h)

-- the words of the step, and those of what is left
pub real_on : (s : List ℕ) {t : List ℕ} → t ≡ drop (part_size s) s → spelled (real s) ≡ spelled (part_words s) ++ spelled (real t)
real_on s e = rw e (ap spelled (real_part s) ∙ spelled_append (part_words s) (real (drop (part_size s) s)))
