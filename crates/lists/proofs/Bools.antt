-- Laws of "or". Those of "and" follow from mathlib's `and-eq-true_iff`. Assumes nothing.
use mathlib.Core.Path.{◌≡◌, refl}
use mathlib.Core.Bool.{Bool, true, false, ◌||◌, or-true, true≢false}

-- an "or" holds if its left side does
pub or_true_left : (a b : Bool) → a ≡ true → (a || b) ≡ true
or_true_left a b h = rw h

-- an "or" holds if its right side does
pub or_true_right : (a b : Bool) → b ≡ true → (a || b) ≡ true
or_true_right a b h = rw (h, or-true a)

-- if P follows from each side, it follows from an "or" that holds
pub or_true_elim : {P : Type 0} (a b : Bool) → (a ≡ true → P) → (b ≡ true → P) → (a || b) ≡ true → P
or_true_elim true b f g h = f refl
or_true_elim false b f g h = g h

-- if an "or" fails, both sides fail
pub or_false_both : (a b : Bool) → (a || b) ≡ false → (a ≡ false) × (b ≡ false)
or_false_both true b h = absurd (true≢false h)
or_false_both false b h = (refl, h)
