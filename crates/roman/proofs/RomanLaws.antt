-- One pass over a numeral from its right end: the sums of the values that add and that subtract, and the largest of them.
-- Assumes nothing.
use mathlib.Core.Path.{◌≡◌, refl, sym, ap, ap₂, ◌∙◌}
use mathlib.Core.Bool.{Bool, true, false, cond, ◌||◌, or-true}
use mathlib.Core.Logic.{⊎_elim}
use mathlib.Core.List.{List, [], ◌∷◌, map}
use Prim.Native.Nat.{ℕ, zero, suc, ◌+◌, ◌-◌, ◌*◌, ◌≤◌, ◌<◌, max}
use Rattle.std.proofs.Common.{Some, None, reverse}
use Rattle.std.proofs.lemmas.List.{length-reverse, get_or-reverse, get_or_default}
use native.Mathlib.Omega.{arith}
use lib.Dec.{ltb, eqb}
use lib.ListN.{length, drop, get_or, drop_of_length-le}
use lib.Seq.{drop-cons}
use borrow.Author.Tests.{lt-ltb, le-ltb, ne_eqb, eqb-true, eqb-false}
use Rattle.lists.specs.Bytes.{elem, any}
use Rattle.lists.proofs.Sets.{le_or_lt}
use Rattle.roman.specs.Roman.{roman_letter_value, letter_value, any_larger, sum_added, sum_subtracted, roman_value}

-- the largest of the values
unfoldable pub maximum : List ℕ → ℕ
maximum [] = 0
maximum (v ∷ vs) = max v (maximum vs)

ltb_max : (v w m : ℕ) → (ltb v w || ltb v m) ≡ ltb v (max w m)
ltb_max v w m =
    ⊎_elim
    (λ (h : w ≤ v). ⊎_elim (λ (k : m ≤ v). rw (le-ltb v w h, le-ltb v m k) (sym (le-ltb v (max w m) (omega arith))))
    (λ (k : v < m). rw (le-ltb v w h, lt-ltb v m k) (sym (lt-ltb v (max w m) (omega arith)))) (le_or_lt m v))
    (λ (h : v < w). rw (lt-ltb v w h) (sym (lt-ltb v (max w m) (omega arith)))) (le_or_lt w v)

any_larger_max : (v : ℕ) (vs : List ℕ) → any_larger v vs ≡ ltb v (maximum vs)
unfolding any maximum
any_larger_max v [] = sym (le-ltb v 0 (omega arith))
any_larger_max v (w ∷ vs) = rw (any_larger_max v vs) (ltb_max v w (maximum vs))

-- what the loop keeps when k bytes are read: the bytes from i on are roman letters, where i is k before the end; a is the sum
-- that they add, u the sum that they subtract, and m the largest of their values
pub record Summed (s : List ℕ) (i a u m : ℕ) : Type 0 where
  pub letters : elem 0 (map roman_letter_value (drop i s)) ≡ false
  pub adds : a ≡ sum_added (map roman_letter_value (drop i s))
  pub takes : u ≡ sum_subtracted (map roman_letter_value (drop i s))
  pub most : m ≡ maximum (map roman_letter_value (drop i s))
  pub bound : a + u + 1000 * i ≤ 1000 * length s

-- at the right end nothing is summed yet
pub summed_none : (s : List ℕ) → Summed s (length s - 0) 0 0 0
unfolding any sum_added sum_subtracted maximum
summed_none s =
    let e : drop (length s - 0) s ≡ [] = drop_of_length-le s (omega arith) in
    record { letters = rw e; adds = rw e; takes = rw e; most = rw e; bound = omega arith }

foreign_elem : (s : List ℕ) (i : ℕ) → i < length s → roman_letter_value (get_or s i 0) ≡ 0 → elem 0 (map roman_letter_value s) ≡ true
unfolding any
foreign_elem [] i h e = absurd (omega arith)
foreign_elem (b ∷ s) zero h e = rw e
foreign_elem (b ∷ s) (suc i) h e = rw (foreign_elem s i (omega arith) e) (or-true (eqb (roman_letter_value b) 0))

-- a byte with a value is a roman letter, and one without is none
some_letter : (b v : ℕ) → Some v ≡ letter_value b → (v ≡ roman_letter_value b) × (v ≡ 0 → ⊥)
unfolding letter_value
some_letter b v e = go (eqb (roman_letter_value b) 0) refl e
  where
    go : (t : Bool) → eqb (roman_letter_value b) 0 ≡ t → Some v ≡ cond t None (Some (roman_letter_value b))
        → (v ≡ roman_letter_value b) × (v ≡ 0 → ⊥)
    go true h e = absurd (cc)
    go false h e = let k : v ≡ roman_letter_value b = cc in (k, λ z. eqb-false (roman_letter_value b) 0 h (sym k ∙ z))

no_letter : (b : ℕ) → None ≡ letter_value b → roman_letter_value b ≡ 0
unfolding letter_value
no_letter b e = go (eqb (roman_letter_value b) 0) refl e
  where
    go : (t : Bool) → eqb (roman_letter_value b) 0 ≡ t → None ≡ cond t None (Some (roman_letter_value b)) → roman_letter_value b ≡ 0
    go true h e = eqb-true (roman_letter_value b) 0 h
    go false h e = absurd (cc)

rest_of : (b : Bool) (v : ℕ) → cond b 0 v + cond b v 0 ≡ v
rest_of true v = omega arith
rest_of false v = omega arith

-- the byte b that is read when k bytes are read already
module _ (s : List ℕ) (k b : ℕ) (t : (k < length (reverse s)) × (b ≡ get_or (reverse s) k b)) where
  inside : k < length s
  inside = omega (arith, length-reverse s)

  read : get_or s (length s - 1 - k) 0 ≡ b
  read = get_or_default s (length s - 1 - k) 0 b (omega (arith, inside)) ∙ sym (t.1 ∙ get_or-reverse s k b inside)

  -- a byte that is no roman letter makes the value 0
  pub foreign : None ≡ letter_value b → 0 ≡ roman_value s
  unfolding roman_value
  foreign e = rw (foreign_elem s (length s - 1 - k) (omega (arith, inside)) (ap roman_letter_value read ∙ no_letter b e))

  one_more : {v : ℕ} → v ≡ roman_letter_value b
      → map roman_letter_value (drop (length s - suc k) s) ≡ v ∷ map roman_letter_value (drop (length s - k) s)
  one_more e =
      let i : length s - suc k ≡ length s - 1 - k = omega arith in
      let n : suc (length s - 1 - k) ≡ length s - k = omega (arith, inside) in
      rw i (ap (map roman_letter_value) (drop-cons s (length s - 1 - k) 0 (omega (arith, inside)))
      ∙ ap₂ (λ (x j : ℕ). x ∷ map roman_letter_value (drop j s)) (ap roman_letter_value read ∙ sym e) n)

  -- a roman letter of value v; m is the largest value after it
  module _ {a u m v x y n : ℕ} (r : Summed s (length s - k) a u m) (f : Some v ≡ letter_value b) (w : v ≤ 1000) where
    summed_more : x ≡ a + cond (ltb v m) 0 v → y ≡ u + cond (ltb v m) v 0 → n ≡ max m v → Summed s (length s - suc k) x y n
    unfolding any sum_added sum_subtracted maximum
    summed_more ex ey en =
        let q = some_letter b v f in
        let vs = map roman_letter_value (drop (length s - k) s) in
        let l : any_larger v vs ≡ ltb v m = any_larger_max v vs ∙ ap (ltb v) (sym r.most) in
        record {
          letters = rw (one_more q.0, ne_eqb v 0 q.1) r.letters;
          adds = rw (one_more q.0, l, ← r.adds) (omega arith);
          takes = rw (one_more q.0, l, ← r.takes) (omega arith);
          most = rw (one_more q.0, ← r.most) (omega arith);
          bound = omega (arith, rest_of (ltb v m) v, r.bound, inside);
        }

    -- it is subtracted if it is smaller, and else added
    pub summed_takes : v < m → x ≡ a → y ≡ u + v → n ≡ max m v → Summed s (length s - suc k) x y n
    summed_takes h ex ey = summed_more (rw (lt-ltb v m h) (omega arith)) (rw (lt-ltb v m h) ey)

    pub summed_adds : m ≤ v → x ≡ a + v → y ≡ u → n ≡ max m v → Summed s (length s - suc k) x y n
    summed_adds h ex ey = summed_more (rw (le-ltb v m h) ex) (rw (le-ltb v m h) (omega arith))

-- at the left end the difference of the sums is the numeral's value
pub summed_all : (s : List ℕ) (k a u m : ℕ) → k ≡ length (reverse s) → Summed s (length s - k) a u m → a - u ≡ roman_value s
unfolding roman_value
summed_all s k a u m e r =
    let z : length s - k ≡ 0 = omega (arith, length-reverse s) in
    let q : Summed s 0 a u m = rw z at r in
    rw (q.letters, q.adds, q.takes)
