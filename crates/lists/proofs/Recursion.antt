-- Laws of `recur`, for steps that read only shorter texts again. Assumes nothing.
use mathlib.Core.Path.{◌≡◌, refl}
use mathlib.Core.Bool.{Bool, true, false, cond}
use mathlib.Core.List.{List}
use Prim.Native.Nat.{ℕ, zero, suc, ◌<◌}
use native.Mathlib.Omega.{arith}
use lib.ListN.{length}
use Rattle.lists.specs.Recur.{recur_at, recur}

-- the step reads only shorter texts again: with two readers that agree on these it gives the same answer
abbrev pub Local : {A : Type 0} → ((List ℕ → A) → List ℕ → A) → Type 0
Local {A} step = (f g : List ℕ → A) (s : List ℕ) → ((t : List ℕ) → length t < length s → f t ≡ g t) → step f s ≡ step g s

enough : {A : Type 0} (b : A) (step : (List ℕ → A) → List ℕ → A) → Local step → (m n : ℕ) (s : List ℕ) → length s < m → length s < n
    → recur_at b step m s ≡ recur_at b step n s
unfolding recur_at
enough b step l zero n s h k = absurd (omega arith)
enough b step l (suc m) zero s h k = absurd (omega arith)
enough b step l (suc m) (suc n) s h k = l (recur_at b step m) (recur_at b step n) s (λ t q. enough b step l m n t (omega arith) (omega arith))

-- `recur` is its own step, with `recur` itself as the reader of shorter texts
pub recur_eq : {A : Type 0} (b : A) (step : (List ℕ → A) → List ℕ → A) → Local step → (s : List ℕ) → recur b step s ≡ step (recur b step) s
unfolding recur_at recur
recur_eq b step l s = l (recur_at b step (length s)) (recur b step) s (λ t q. enough b step l (length s) (suc (length t)) t q (omega arith))

-- two `cond`s by the same test are equal if, for each result of the test, the values that it picks are equal
pub cond_cong : {A : Type 0} (b : Bool) {x x' y y' : A} → (b ≡ true → x ≡ x') → (b ≡ false → y ≡ y') → cond b x y ≡ cond b x' y'
cond_cong true f g = f refl
cond_cong false f g = g refl

-- if a step has the property whenever what it reads again has it, `recur` has the property
pub recur_induct : {A : Type 0} (P : List ℕ → A → Type 0) (b : A) (step : (List ℕ → A) → List ℕ → A)
    → ((f : List ℕ → A) (s : List ℕ) → ((t : List ℕ) → length t < length s → P t (f t)) → P s (step f s)) → (s : List ℕ) → P s (recur b step s)
unfolding recur_at recur
recur_induct P b step h s = at (suc (length s)) s (omega arith)
  where
    at : (n : ℕ) (s : List ℕ) → length s < n → P s (recur_at b step n s)
    at zero s l = absurd (omega arith)
    at (suc n) s l = h (recur_at b step n) s (λ t q. at n t (omega arith))

-- a `cond` has a property if, for each result of the test, the value that it picks has it
pub cond_elim : {A : Type 0} (P : A → Type 0) (b : Bool) {x y : A} → (b ≡ true → P x) → (b ≡ false → P y) → P (cond b x y)
cond_elim P true f g = f refl
cond_elim P false f g = g refl
