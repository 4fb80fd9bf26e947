-- Where a name is cut: at its front, at its end, and past the bytes of a class. Assumes nothing.
use mathlib.Core.Path.{◌≡◌, refl, sym, ◌∙◌}
use mathlib.Core.Bool.{Bool, true, false, false≢true, and-eq-true_iff}
use mathlib.Core.List.{List, [], ◌∷◌, ◌++◌, append-nil}
use Prim.Native.Nat.{ℕ, suc, ◌-◌}
use native.Mathlib.Nat.{add-zero}
use native.Mathlib.Omega.{arith}
use lib.ListN.{length, take, drop, get_or, length-append}
use lib.Seq.{take_at, drop_at, get_or_at, split_at, drop-length}
use borrow.Author.Tests.{eqb-true, eq-eqb, ne_eqb}
use Rattle.lists.specs.Bytes.{all, span, same_by, same, starts_with, ends_with, take_while, drop_while}
use Rattle.lists.specs.Classes.{digit}
use Rattle.lists.proofs.Scan.{span_append, class_apart, starts_with_first}
use Rattle.shapes.specs.Shapes.{is_digits}
use Rattle.shapes.proofs.Laws.{digits_all}

-- ---- tests

-- a text is the same as itself
pub same_self : (s : List ℕ) → same s s ≡ true
unfolding same_by
same_self [] = refl
same_self (b ∷ s) = rw (eq-eqb b b refl, same_self s)

-- ---- at the end

module _ (s t : List ℕ) (n : ℕ) (e : length t ≡ n) where
  -- what stands before the last n bytes
  pub cut_front : take (length (s ++ t) - n) (s ++ t) ≡ s
  cut_front = take_at s t (length (s ++ t) - n) (omega (arith, length-append s t))

  -- the last n bytes
  pub cut_back : drop (length (s ++ t) - n) (s ++ t) ≡ t
  cut_back = drop_at s t (length (s ++ t) - n) (omega (arith, length-append s t))

-- a text that ends in c is the rest and c
pub ends_with_snoc : (c : ℕ) (s : List ℕ) → ends_with c s ≡ true → take (length s - 1) s ++ (c ∷ []) ≡ s
ends_with_snoc c [] h = absurd (false≢true h)
ends_with_snoc c (b ∷ s) h =
    let e : suc (length s) - 1 ≡ length s = omega arith in
    let l : get_or (b ∷ s) (length s) 0 ≡ c = eqb-true _ _ (rw (ne_eqb (suc (length s)) 0 (omega arith), e) at h) in
    rw e (sym (rw (l, drop-length s) at (split_at (b ∷ s) (length s) 0 (omega arith))))

-- a text with c after it ends in c
pub snoc_ends_with : (c : ℕ) (s : List ℕ) → ends_with c (s ++ (c ∷ [])) ≡ true
snoc_ends_with c s =
    let n = length-append s (c ∷ []) in
    rw (ne_eqb (length (s ++ (c ∷ []))) 0 (omega arith), get_or_at s c [] 0 (length (s ++ (c ∷ [])) - 1) (omega arith)) (eq-eqb c c refl)

-- ---- past the bytes of a class

module _ (p : ℕ → Bool) (s t : List ℕ) (h : all p s ≡ true) (z : span p t ≡ 0) where
  -- the scan stops where the second text begins
  pub span_seam : span p (s ++ t) ≡ length s
  span_seam = span_append p s t ∙ rw (h, z) (add-zero (length s))

  -- what it passed is the first text
  pub take_while_seam : take_while p (s ++ t) ≡ s
  take_while_seam = take_at s t _ (sym span_seam)

  -- what is left is the second
  pub drop_while_seam : drop_while p (s ++ t) ≡ t
  drop_while_seam = drop_at s t _ (sym span_seam)

-- ---- digits

-- digits do not start with a byte that is no digit
pub starts_with_digits : (c : ℕ) (s t : List ℕ) → digit c ≡ false → is_digits s ≡ true → starts_with c (s ++ t) ≡ false
unfolding is_digits all
starts_with_digits c [] t n h = absurd (false≢true h)
starts_with_digits c (b ∷ s) t n h = starts_with_first c b (s ++ t) ∙ class_apart digit c b n ((and-eq-true_iff (digit b) (all digit s)).0 (digits_all (b ∷ s) h)).0

-- also if nothing follows them
pub digits_alone : (c : ℕ) (s : List ℕ) → digit c ≡ false → is_digits s ≡ true → starts_with c s ≡ false
digits_alone c s n h = rw (append-nil s) at (starts_with_digits c s [] n h)
