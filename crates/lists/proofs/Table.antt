-- How a rule is proved of all entries of a table: by one test that antt computes. Assumes nothing.
use mathlib.Core.Path.{◌≡◌, refl, sym, ap₂}
use mathlib.Core.Bool.{Bool, true, ◌&&◌, and-eq-true_iff, false≢true}
use mathlib.Core.List.{List, [], ◌∷◌}
use Prim.Native.Nat.{ℕ, zero, suc, ◌≤◌, ◌<◌}
use native.Mathlib.Omega.{arith}
use native.Mathlib.Decide.{dec_lt}
use lib.Dec.{eqb}
use borrow.Author.Tests.{eqb-true}
use Rattle.lists.specs.Bytes.{same, same_by}

-- the test f passes at each number below n
abbrev pub upto : (ℕ → Bool) → ℕ → Bool
upto f zero = true
upto f (suc n) = f n && upto f n

-- a test that passes at each number below n passes at any one of them
pub below : (f : ℕ → Bool) (n : ℕ) → upto f n ≡ true → (k : ℕ) → k < n → f k ≡ true
below f zero t k h = absurd (omega arith)
below f (suc n) t k h = let y = (and-eq-true_iff (f n) (upto f n)).0 t in pick (below f n y.1 k) y.0 (dec_lt k n)
  where
    pick : (k < n → f k ≡ true) → f n ≡ true → Dec (k < n) → f k ≡ true
    pick r l (yes g) = r g
    pick r l (no g) = let e : n ≡ k = omega arith in rw e at l

-- texts that pass the test `same` are equal
pub same_true : (x y : List ℕ) → same x y ≡ true → x ≡ y
unfolding same_by
same_true [] [] t = refl
same_true [] (y ∷ ys) t = absurd (false≢true t)
same_true (x ∷ xs) [] t = absurd (false≢true t)
same_true (x ∷ xs) (y ∷ ys) t =
    let a = (and-eq-true_iff (eqb x y) (same xs ys)).0 t in
    ap₂ ◌∷◌ (eqb-true x y a.0) (same_true xs ys a.1)

-- what the last arm of a `match` on k knows: k is none of the numbers below n
abbrev pub NoneOf : ℕ → ℕ → Type 0
NoneOf k zero = Unit
NoneOf k (suc n) = NoneOf k n × (k ≡ n → ⊥)

-- such a k is at least n
pub none_of : (k n : ℕ) → NoneOf k n → n ≤ k
none_of k zero r = omega arith
none_of k (suc n) r = let h : n ≤ k = none_of k n r.0 in let g : n ≡ k → ⊥ = λ e. r.1 (sym e) in omega arith
