-- The words of this crate and the library's, for the scans that iterators make. Assumes nothing.
use mathlib.Core.Path.{◌≡◌, refl, sym, ap, ◌∙◌}
use mathlib.Core.Bool.{Bool, true, false, cond, ◌&&◌, not}
use mathlib.Core.List.{List, [], ◌∷◌, reverse}
use Prim.Native.Nat.{ℕ, suc, ◌+◌, ◌-◌}
use native.Mathlib.Omega.{arith}
use Rattle.std.proofs.lemmas.List.Recursion.{is_count_by}
use lib.Dec.{eqb, ltb}
use lib.ListN.{length, take, drop}
use lib.Pointwise.{pointwise}
use Rattle.std.proofs.lemmas.Bool.Decides.{nat_tests}
use Rattle.std.specs.Char.{to_ascii_lowercase}
use Rattle.std.specs.Prelude.{Option, Some, None}
use Rattle.std.specs.Option.{option_map}
use Rattle.std.specs.List.{list_all, count_by, prefix_len, zip, position}
use Rattle.std.proofs.lemmas.Option.{cond_some}
use Rattle.lists.specs.Bytes.{all, span, around, count_if, after_last, same_by, same, to_lower}
use Rattle.std.proofs.lemmas.List.{length-reverse, reverse-reverse, reverse-append}
use Rattle.std.proofs.lemmas.List.Folds.{length-prefix_len}
use Rattle.lists.proofs.Scan.{last_snoc}

-- every element passes
pub all_is : (p : ℕ → Bool) (s : List ℕ) → list_all p s ≡ all p s
unfolding all
all_is p [] = refl
all_is p (b ∷ s) = ap (λ t. p b && t) (all_is p s)

-- how many at the front pass
pub span_is : (p : ℕ → Bool) (s : List ℕ) → prefix_len p s ≡ span p s
unfolding span
span_is p [] = refl
span_is p (b ∷ s) = ap (λ n. cond (p b) n 0) (omega (arith, span_is p s))

-- how many pass
pub count_is : (p : ℕ → Bool) (s : List ℕ) → count_by p s ≡ count_if p s
unfolding count_if
count_is p s = sym (is_count_by (count_if p) p refl (λ b t. step (p b) (count_if p t)) s)
  where
    step : (t : Bool) (n : ℕ) → cond t (suc n) n ≡ cond t (1 + n) n
    step true n = omega arith
    step false n = refl

-- the same bytes
pub equal_is : (s t : List ℕ) → pointwise eqb s t ≡ same s t
unfolding same_by
equal_is [] [] = refl
equal_is [] (c ∷ t) = refl
equal_is (b ∷ s) [] = refl
equal_is (b ∷ s) (c ∷ t) = ap (λ e. eqb b c && e) (equal_is s t)

-- the same bytes after those of the first text are lowered, for texts of one length
pub equal_lowered_is : (s t : List ℕ) → length s ≡ length t → list_all (λ p. eqb (to_lower p.0) p.1) (zip s t) ≡ same_by to_lower s t
unfolding same_by
equal_lowered_is [] [] e = refl
equal_lowered_is [] (c ∷ t) e = absurd (omega arith)
equal_lowered_is (b ∷ s) [] e = absurd (omega arith)
equal_lowered_is (b ∷ s) (c ∷ t) e = ap (λ r. eqb (to_lower b) c && r) (equal_lowered_is s t (omega arith))

-- the same, for the bytes that a `take_while` gives
pub span_count : (p : ℕ → Bool) (s : List ℕ) → length (take (prefix_len p s) s) ≡ span p s
span_count p s = length-prefix_len p s ∙ span_is p s

-- the last byte that passes is the first of the text read backwards
last_reversed : (p : ℕ → Bool) (s : List ℕ) → length s - span (λ b. not (p b)) s ≡ after_last p (reverse s)
unfolding span after_last
last_reversed p [] = refl
last_reversed p (b ∷ s) =
    rw (reverse-append (b ∷ []) s, last_snoc p (reverse s) b, length-reverse s) (go (p b) (last_reversed p s))
  where
    go : (t : Bool) → length s - span (λ b. not (p b)) s ≡ after_last p (reverse s)
        → suc (length s) - cond (not t) (suc (span (λ b. not (p b)) s)) 0 ≡ cond t (suc (length s)) (after_last p (reverse s))
    go true h = omega arith
    go false h = omega (arith, h)

-- what a `take_while` from the end passes over is what follows the last byte that passes
pub last_end_is : (p : ℕ → Bool) (s : List ℕ)
    → length s - length (take (prefix_len (λ b. not (p b)) (reverse s)) (reverse s)) ≡ after_last p s
last_end_is p s =
    rw (span_count (λ b. not (p b)) (reverse s), ← length-reverse s)
    (last_reversed p (reverse s) ∙ ap (after_last p) (reverse-reverse s))

-- A to Z lowered
pub lower_is : (b : ℕ) → to_ascii_lowercase b ≡ to_lower b
lower_is b = grind (arith, nat_tests)

-- what stands around the first byte that passes, by std's `position`
pub around_at : (p : ℕ → Bool) (s : List ℕ) {o : Option ℕ} → o ≡ position p s
    → around p s ≡ option_map {U = List ℕ × List ℕ} (λ i. (take i s, drop (i + 1) s)) o
unfolding around
around_at p s e = rw (e, span_is (λ b. not (p b)) s) (go (span (λ b. not (p b)) s) (ltb (span (λ b. not (p b)) s) (length s)))
  where
    go : (i : ℕ) (t : Bool) → cond {A = Option (List ℕ × List ℕ)} t (Some (take i s, drop (i + 1) s)) None
        ≡ option_map {U = List ℕ × List ℕ} (λ i. (take i s, drop (i + 1) s)) (cond t (Some i) None)
    go i true = refl
    go i false = refl

-- if there is such a byte, it stands where a scan over the others ends, and these are the parts around it
pub around_some : (p : ℕ → Bool) (s : List ℕ) {a b : List ℕ} → Some (a, b) ≡ around p s
    → (ltb (span (λ c. not (p c)) s) (length s) ≡ true) × (a ≡ take (span (λ c. not (p c)) s) s) × (b ≡ drop (span (λ c. not (p c)) s + 1) s)
unfolding around
around_some p s {a} {b} e =
    let at = span (λ c. not (p c)) s in
    let x = cond_some (ltb at (length s)) (take at s, drop (at + 1) s) (a, b) (sym e) in
    (x.0, sym (ap (λ w. w.0) x.1), sym (ap (λ w. w.1) x.1))

-- if there is none, a scan over the others goes to the end
pub around_none : (p : ℕ → Bool) (s : List ℕ) → None ≡ around p s → ltb (span (λ c. not (p c)) s) (length s) ≡ false
unfolding around
around_none p s e = go (ltb (span (λ c. not (p c)) s) (length s)) refl e
  where
    go : (t : Bool) → ltb (span (λ c. not (p c)) s) (length s) ≡ t
        → ◌≡◌ {A = Option (List ℕ × List ℕ)} None (cond t (Some (take (span (λ c. not (p c)) s) s, drop (span (λ c. not (p c)) s + 1) s)) None)
        → ltb (span (λ c. not (p c)) s) (length s) ≡ false
    go true t e = cc
    go false t e = t
