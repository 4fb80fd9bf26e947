-- Laws of `Every`, a property that every element of a list has. Assumes nothing.
use mathlib.Core.Path.{◌≡◌}
use mathlib.Core.Bool.{Bool, true, and-eq-true_iff}
use mathlib.Core.List.{List, [], ◌∷◌, ◌++◌, map}
use Prim.Native.Nat.{ℕ, zero, suc, ◌<◌}
use native.Mathlib.Omega.{arith}
use lib.ListN.{take, drop, length, get_or}
use Rattle.lists.specs.Bytes.{all, Every}

-- if every element of s and of t has P, so has every element of both joined
pub every_append : {A : Type 0} (P : A → Type 0) (s t : List A) → Every P s → Every P t → Every P (s ++ t)
every_append P [] t h k = k
every_append P (a ∷ s) t h k = (h.0, every_append P s t h.1 k)

-- the first n elements have P too
pub every_take : {A : Type 0} (P : A → Type 0) (n : ℕ) (s : List A) → Every P s → Every P (take n s)
every_take P zero s h = tt
every_take P (suc n) [] h = tt
every_take P (suc n) (a ∷ s) h = (h.0, every_take P n s h.1)

-- the elements past the first n have P too
pub every_drop : {A : Type 0} (P : A → Type 0) (n : ℕ) (s : List A) → Every P s → Every P (drop n s)
every_drop P zero s h = h
every_drop P (suc n) [] h = tt
every_drop P (suc n) (a ∷ s) h = every_drop P n s h.1

-- if f of a value with P always has Q, f of every element has Q
pub every_map : {A B : Type 0} (P : A → Type 0) (Q : B → Type 0) (f : A → B) → ((a : A) → P a → Q (f a)) → (s : List A) → Every P s → Every Q (map f s)
every_map P Q f g [] h = tt
every_map P Q f g (a ∷ s) h = (g a h.0, every_map P Q f g s h.1)

-- if P holds of all values, it holds of every element
pub every_all : {A : Type 0} (P : A → Type 0) → ((a : A) → P a) → (s : List A) → Every P s
every_all P f [] = tt
every_all P f (a ∷ s) = (f a, every_all P f s)

-- if Q follows from P, every element has Q too
pub every_imply : {A : Type 0} (P Q : A → Type 0) → ((a : A) → P a → Q a) → (s : List A) → Every P s → Every Q s
every_imply P Q f [] h = tt
every_imply P Q f (a ∷ s) h = (f a h.0, every_imply P Q f s h.1)

-- the last element has P
pub every_last : {A : Type 0} (P : A → Type 0) (s : List A) (x : A) → Every P (s ++ x ∷ []) → P x
every_last P [] x h = h.0
every_last P (a ∷ s) x h = every_last P s x h.1

-- if each element that passes the test has P, and all pass, every element has P
pub every_tested : {A : Type 0} (p : A → Bool) (P : A → Type 0) → ((a : A) → p a ≡ true → P a) → (s : List A) → all p s ≡ true → Every P s
unfolding all
every_tested p P f [] h = tt
every_tested p P f (a ∷ s) h = let k = (and-eq-true_iff (p a) (all p s)).0 h in (f a k.0, every_tested p P f s k.1)

-- the element at place i has P
pub every_at : {A : Type 0} (P : A → Type 0) (s : List A) (i : ℕ) (d : A) → i < length s → Every P s → P (get_or s i d)
every_at P [] i d l h = absurd (omega arith)
every_at P (a ∷ s) zero d l h = h.0
every_at P (a ∷ s) (suc i) d l h = every_at P s i d (omega arith) h.1
