-- Laws of `all`, `span`, `count_if`, `filter_if`, `after_last` and `same_by`. They hold for every test. Assumes nothing.
use mathlib.Core.Path.{◌≡◌, refl, sym, ap, ◌∙◌}
use mathlib.Core.Bool.{Bool, true, false, cond, ◌&&◌, and-false, and_assoc, and-eq-true_iff, true≢false, ◌||◌, or_assoc, or-false}
use mathlib.Core.List.{List, [], ◌∷◌, ◌++◌}
use Prim.Native.Nat.{ℕ, zero, suc, ◌+◌, ◌-◌, ◌≤◌, ◌<◌}
use native.Mathlib.Nat.{add-zero}
use native.Mathlib.Numerals.{add-one}
use native.Mathlib.Omega.{arith}
use lib.Dec.{eqb}
use lib.ListN.{length, take, drop, get_or, get_or-eq_default, length-drop, take-append-drop}
use lib.Seq.{drop-cons, take_all}
use borrow.Author.Tests.{eqb-true, ne_eqb}
use Rattle.lists.specs.Classes.{one_of}
use Rattle.lists.proofs.Bools.{or_true_elim}
use Rattle.lists.specs.Bytes.{all, any, span, filter_if, after_last, same_by, starts_with}

-- the bytes from i on pass exactly if the byte at i and those after it do
pub all_more : (p : ℕ → Bool) (s : List ℕ) (i : ℕ) → i < length s → all p (drop i s) ≡ p (get_or s i 0) && all p (drop (i + 1) s)
unfolding all
all_more p s i h = rw (add-one, drop-cons s i 0)

-- a scan passes no more bytes than there are
pub span_le : (p : ℕ → Bool) (s : List ℕ) → span p s ≤ length s
unfolding span
span_le p [] = omega arith
span_le p (b ∷ s) = go (p b) (span_le p s)
  where
    go : (t : Bool) → span p s ≤ length s → cond t (suc (span p s)) 0 ≤ suc (length s)
    go true h = omega arith
    go false h = omega arith

-- one more byte at the end
pub last_snoc : (p : ℕ → Bool) (s : List ℕ) (x : ℕ) → after_last p (s ++ (x ∷ [])) ≡ cond (p x) (suc (length s)) (after_last p s)
unfolding after_last
last_snoc p [] x = refl
last_snoc p (y ∷ s) x = rw (last_snoc p s x) (go (p x))
  where
    go : (b : Bool)
        → cond (eqb (cond b (suc (length s)) (after_last p s)) 0) (cond (p y) 1 0) (suc (cond b (suc (length s)) (after_last p s))) ≡ cond b
        (suc (suc (length s))) (cond (eqb (after_last p s) 0) (cond (p y) 1 0) (suc (after_last p s)))
    go true = rw (ne_eqb (suc (length s)) 0 (omega arith))
    go false = refl

-- the bytes after the last one that passes p fail p, and so pass every q that follows from this
pub last_rest : (p q : ℕ → Bool) → ((b : ℕ) → p b ≡ false → q b ≡ true) → (s : List ℕ) → all q (drop (after_last p s) s) ≡ true
unfolding all after_last
last_rest p q f [] = refl
last_rest p q f (b ∷ s) = go (after_last p s) (p b) refl (last_rest p q f s)
  where
    go : (n : ℕ) (t : Bool) → p b ≡ t → all q (drop n s) ≡ true → all q (drop (cond (eqb n 0) (cond t 1 0) (suc n)) (b ∷ s)) ≡ true
    go zero true e h = h
    go zero false e h = rw (f b e, h)
    go (suc n) t e h = rw (ne_eqb (suc n) 0 (omega arith)) h

-- texts of different lengths are not the same
pub same_long : (f : ℕ → ℕ) (x y : List ℕ) → (length x ≡ length y → ⊥) → same_by f x y ≡ false
unfolding same_by
same_long f [] [] n = absurd (n refl)
same_long f [] (y ∷ ys) n = refl
same_long f (x ∷ xs) [] n = refl
same_long f (x ∷ xs) (y ∷ ys) n = rw (same_long f xs ys (λ e. n (ap suc e))) (and-false (eqb (f x) y))

-- a read past the end gives 0
pub get_or_past : (s : List ℕ) (i : ℕ) → length s ≤ i → 0 ≡ get_or s i 0
get_or_past s i h = sym (get_or-eq_default s 0 h)

-- what f gives of two texts joined is what it gives of each, joined
abbrev pub ByParts : {A : Type 0} → (List ℕ → List A) → Type 0
ByParts f = (s t : List ℕ) → f (s ++ t) ≡ f s ++ f t

-- so from place i on f gives what it gives of the byte there, and then what it gives of the rest
pub next_byte : {A : Type 0} (f : List ℕ → List A) → ByParts f → (s : List ℕ) (i : ℕ) → i < length s → f (drop i s) ≡ f (get_or s i 0 ∷ []) ++ f (drop (i + 1) s)
next_byte f e s i h = rw (add-one i) (ap f (drop-cons s i 0 h) ∙ e (get_or s i 0 ∷ []) (drop (suc i) s))

-- a part that runs to the end, as the borrow checker states `&s[n..]`
pub take_rest : (s : List ℕ) (n : ℕ) → take (length s - n) (drop n s) ≡ drop n s
take_rest s n = take_all (length s - n) (drop n s) (simp length-drop (omega arith))

-- the elements of two lists joined all pass exactly if those of each list do
pub all_append : {A : Type 0} (p : A → Bool) (s t : List A) → all p (s ++ t) ≡ all p s && all p t
unfolding all
all_append p [] t = refl
all_append p (b ∷ s) t = rw (all_append p s t, and_assoc (p b) (all p s) (all p t))

module _ (p : ℕ → Bool) (s : List ℕ) (n : ℕ) (h : all p s ≡ true) where
  -- if all bytes pass, so do the first n and those after them
  pub all_split : (all p (take n s) ≡ true) × (all p (drop n s) ≡ true)
  all_split = (and-eq-true_iff (all p (take n s)) (all p (drop n s))).0 (sym (all_append p (take n s) (drop n s)) ∙ ap (all p) (take-append-drop n s) ∙ h)

-- some element of two lists joined passes exactly if some element of either list does
pub any_append : {A : Type 0} (p : A → Bool) (s t : List A) → any p (s ++ t) ≡ (any p s || any p t)
unfolding any
any_append p [] t = refl
any_append p (a ∷ s) t = rw (any_append p s t, or_assoc)

-- if all elements pass, so does the one at place k
pub all_at : {A : Type 0} (p : A → Bool) (d : A) (s : List A) (k : ℕ) → all p s ≡ true → k < length s → p (get_or s k d) ≡ true
unfolding all
all_at p d [] k h l = absurd (omega arith)
all_at p d (a ∷ s) zero h l = ((and-eq-true_iff (p a) (all p s)).0 h).0
all_at p d (a ∷ s) (suc k) h l = all_at p d s k ((and-eq-true_iff (p a) (all p s)).0 h).1 (omega arith)

-- a byte of a class is not the byte c if c is outside the class
pub class_apart : (p : ℕ → Bool) (c b : ℕ) → p c ≡ false → p b ≡ true → eqb b c ≡ false
class_apart p c b h k = ne_eqb b c (λ e. true≢false (sym k ∙ ap p e ∙ h))

-- a text that is not empty starts with c exactly if its first byte is c
pub starts_with_first : (c b : ℕ) (s : List ℕ) → starts_with c (b ∷ s) ≡ eqb b c
starts_with_first c b s = rw (ne_eqb (suc (length s)) 0 (omega arith))

-- all bytes before the place where a scan stops pass
pub span_all : (p : ℕ → Bool) (s : List ℕ) → all p (take (span p s) s) ≡ true
unfolding all span
span_all p [] = refl
span_all p (b ∷ s) = go (p b) refl (span_all p s)
  where
    go : (t : Bool) → p b ≡ t → all p (take (span p s) s) ≡ true → all p (take (cond t (suc (span p s)) 0) (b ∷ s)) ≡ true
    go true e h = rw (e, h)
    go false e h = refl

-- the byte at which a scan stops passes q, if each byte that fails p does. At the end the byte is 0, which must pass q too
pub span_front : (p q : ℕ → Bool) → q 0 ≡ true → ((b : ℕ) → p b ≡ false → q b ≡ true) → (s : List ℕ) → q (get_or (drop (span p s) s) 0 0) ≡ true
unfolding span
span_front p q z f [] = z
span_front p q z f (b ∷ s) = go (p b) refl (span_front p q z f s)
  where
    go : (t : Bool) → p b ≡ t → q (get_or (drop (span p s) s) 0 0) ≡ true → q (get_or (drop (cond t (suc (span p s)) 0) (b ∷ s)) 0 0) ≡ true
    go true e h = h
    go false e h = f b e

-- if all bytes pass, so does the first. In an empty text that is 0, which must pass too
pub all_front : (p : ℕ → Bool) → p 0 ≡ true → (s : List ℕ) → all p s ≡ true → p (get_or s 0 0) ≡ true
unfolding all
all_front p z [] h = z
all_front p z (b ∷ s) h = ((and-eq-true_iff (p b) (all p s)).0 h).0

-- if q follows from p, and all elements pass p, all pass q; for example if p is a class within q
pub all_within : {A : Type 0} (p q : A → Bool) → ((a : A) → p a ≡ true → q a ≡ true) → (s : List A) → all p s ≡ true → all q s ≡ true
unfolding all
all_within p q f [] h = refl
all_within p q f (a ∷ s) h = let k = (and-eq-true_iff (p a) (all p s)).0 h in rw (f a k.0, all_within p q f s k.1)

-- a scan of the bytes that a scan passed passes them all again
pub span_again : (p : ℕ → Bool) (s : List ℕ) → length (take (span p s) s) ≤ span p (take (span p s) s)
unfolding span
span_again p [] = omega arith
span_again p (b ∷ s) = go (p b) refl (span_again p s)
  where
    go : (t : Bool) → p b ≡ t → length (take (span p s) s) ≤ span p (take (span p s) s)
        → length (take (cond t (suc (span p s)) 0) (b ∷ s)) ≤ span p (take (cond t (suc (span p s)) 0) (b ∷ s))
    go true e h = rw e (omega arith)
    go false e h = omega arith

-- the bytes of two texts joined that pass are those of the first, and then those of the second
pub filter_if_append : (p : ℕ → Bool) (s t : List ℕ) → filter_if p (s ++ t) ≡ filter_if p s ++ filter_if p t
unfolding filter_if
filter_if_append p [] t = refl
filter_if_append p (b ∷ s) t = rw (filter_if_append p s t) (go (p b))
  where
    go : (u : Bool) → cond u (b ∷ filter_if p s ++ filter_if p t) (filter_if p s ++ filter_if p t) ≡ cond u (b ∷ filter_if p s) (filter_if p s) ++ filter_if p t
    go true = refl
    go false = refl

-- no more bytes pass than there are
pub filter_if_le : (p : ℕ → Bool) (s : List ℕ) → length (filter_if p s) ≤ length s
unfolding filter_if
filter_if_le p [] = omega arith
filter_if_le p (b ∷ s) = go (p b) (filter_if_le p s)
  where
    go : (t : Bool) → length (filter_if p s) ≤ length s → length (cond t (b ∷ filter_if p s) (filter_if p s)) ≤ suc (length s)
    go true h = omega arith
    go false h = omega arith

-- if all bytes pass, a scan goes to the end
pub all_span : (p : ℕ → Bool) (s : List ℕ) → all p s ≡ true → span p s ≡ length s
unfolding all span
all_span p [] h = refl
all_span p (b ∷ s) h = go (p b) h (all_span p s)
  where
    go : (t : Bool) → (t && all p s) ≡ true → (all p s ≡ true → span p s ≡ length s) → cond t (suc (span p s)) 0 ≡ suc (length s)
    go true h i = ap suc (i h)
    go false h i = cc

-- if not all bytes pass, a scan stops before the end
pub span_short : (p : ℕ → Bool) (s : List ℕ) → all p s ≡ false → span p s < length s
unfolding all span
span_short p [] h = absurd (true≢false h)
span_short p (b ∷ s) h = go (p b) h (span_short p s)
  where
    go : (t : Bool) → (t && all p s) ≡ false → (all p s ≡ false → span p s < length s) → cond t (suc (span p s)) 0 < suc (length s)
    go true h i = let k = i h in omega arith
    go false h i = omega arith

-- if a scan goes to the end, all bytes pass
pub span_full : (p : ℕ → Bool) (s : List ℕ) → length s ≤ span p s → all p s ≡ true
span_full p s h = go (all p s) refl
  where
    go : (t : Bool) → all p s ≡ t → all p s ≡ true
    go true e = e
    go false e = let k : span p s < length s = span_short p s e in absurd (omega arith)

-- a scan that stops before the end stops at a byte that fails
pub span_fails : (p : ℕ → Bool) (s : List ℕ) → span p s < length s → p (get_or s (span p s) 0) ≡ false
unfolding span
span_fails p [] h = absurd (omega arith)
span_fails p (b ∷ s) h = go (p b) refl h (span_fails p s)
  where
    go : (t : Bool) → p b ≡ t → cond t (suc (span p s)) 0 < suc (length s) → (span p s < length s → p (get_or s (span p s) 0) ≡ false)
        → p (get_or (b ∷ s) (cond t (suc (span p s)) 0) 0) ≡ false
    go true e h i = i (omega arith)
    go false e h i = e

-- if the first byte passes, a scan passes at least one byte
pub span_some : (p : ℕ → Bool) (s : List ℕ) → 0 < length s → p (get_or s 0 0) ≡ true → 0 < span p s
unfolding span
span_some p [] h e = absurd (omega arith)
span_some p (b ∷ s) h e = rw e (omega arith)

-- the place after the last byte that passes is not past the end
pub last_le : (p : ℕ → Bool) (s : List ℕ) → after_last p s ≤ length s
unfolding after_last
last_le p [] = omega arith
last_le p (b ∷ s) = go (eqb (after_last p s) 0) (p b) (last_le p s)
  where
    go : (t u : Bool) → after_last p s ≤ length s → cond t (cond u 1 0) (suc (after_last p s)) ≤ suc (length s)
    go true true h = omega arith
    go true false h = omega arith
    go false u h = omega arith

-- a scan of two texts joined goes on into the second if all bytes of the first pass
pub span_append : (p : ℕ → Bool) (s t : List ℕ) → span p (s ++ t) ≡ cond (all p s) (length s + span p t) (span p s)
unfolding all span
span_append p [] t = omega arith
span_append p (b ∷ s) t = go (p b) (all p s) (span_append p s t)
  where
    go : (u v : Bool) → span p (s ++ t) ≡ cond v (length s + span p t) (span p s)
        → cond u (suc (span p (s ++ t))) 0 ≡ cond (u && v) (suc (length s) + span p t) (cond u (suc (span p s)) 0)
    go true true i = omega arith
    go true false i = omega arith
    go false v i = refl

-- a scan stops before a byte that fails
pub span_before : (p : ℕ → Bool) (s : List ℕ) (c : ℕ) (t : List ℕ) → p c ≡ false → span p (s ++ c ∷ t) ≡ span p s
unfolding span
span_before p s c t h = span_append p s (c ∷ t) ∙ go (all p s) refl
  where
    go : (u : Bool) → all p s ≡ u → cond u (length s + cond (p c) (suc (span p t)) 0) (span p s) ≡ span p s
    go true e = rw (h, all_span p s e) (add-zero (length s))
    go false e = refl

-- if all bytes pass a test q that excludes p, no byte passes p
pub last_none : (p q : ℕ → Bool) → ((b : ℕ) → q b ≡ true → p b ≡ false) → (s : List ℕ) → all q s ≡ true → after_last p s ≡ 0
unfolding all after_last
last_none p q x [] h = refl
last_none p q x (b ∷ s) h = go (q b) refl h (last_none p q x s)
  where
    go : (u : Bool) → q b ≡ u → (u && all q s) ≡ true → (all q s ≡ true → after_last p s ≡ 0)
        → cond (eqb (after_last p s) 0) (cond (p b) 1 0) (suc (after_last p s)) ≡ 0
    go true e h i = rw (i h, x b e)
    go false e h i = cc

-- the place after the last byte that passes can be counted from the place where a scan stops
pub last_span : (p : ℕ → Bool) (s : List ℕ) → after_last p s ≡ span p s + after_last p (drop (span p s) s)
unfolding span after_last
last_span p [] = omega arith
last_span p (b ∷ s) = go (p b) refl (eqb (after_last p s) 0) refl (last_span p s)
  where
    go : (u : Bool) → p b ≡ u → (v : Bool) → eqb (after_last p s) 0 ≡ v → after_last p s ≡ span p s + after_last p (drop (span p s) s)
        → cond v (cond u 1 0) (suc (after_last p s)) ≡ cond u (suc (span p s)) 0 + after_last p (drop (cond u (suc (span p s)) 0) (b ∷ s))
    go true e true z i = omega (arith, eqb-true)
    go true e false z i = omega arith
    go false e v z i = rw (e, z) (omega arith)

-- it can be counted from any place n, if a byte from n on passes
pub last_drop : (p : ℕ → Bool) (s : List ℕ) (n : ℕ) → 0 < after_last p (drop n s) → after_last p s ≡ n + after_last p (drop n s)
unfolding after_last
last_drop p s zero h = omega arith
last_drop p [] (suc n) h = absurd (omega arith)
last_drop p (b ∷ s) (suc n) h = let i = last_drop p s n h in rw (ne_eqb (after_last p s) 0 (omega arith)) (omega arith)

-- the class p is within the class q
module _ (p q : ℕ → Bool) (f : (b : ℕ) → p b ≡ true → q b ≡ true) where
  -- a scan by q goes on at the place where a scan by p stops
  pub span_within : (s : List ℕ) → span q s ≡ span p s + span q (drop (span p s) s)
  unfolding span
  span_within [] = refl
  span_within (b ∷ s) = go (p b) (f b) (span_within s)
    where
      go : (t : Bool) → (t ≡ true → q b ≡ true) → span q s ≡ span p s + span q (drop (span p s) s)
          → cond (q b) (suc (span q s)) 0 ≡ cond t (suc (span p s)) 0 + span q (drop (cond t (suc (span p s)) 0) (b ∷ s))
      go true g i = rw (g refl) (omega arith)
      go false g i = omega arith

  -- a scan by p does not go past the bytes that a scan by q passes
  pub span_take_while : (s : List ℕ) → span p (take (span q s) s) ≡ span p s
  unfolding span
  span_take_while [] = refl
  span_take_while (b ∷ s) = go (q b) (p b) refl (f b) (span_take_while s)
    where
      go : (u t : Bool) → p b ≡ t → (t ≡ true → u ≡ true) → span p (take (span q s) s) ≡ span p s
          → span p (take (cond u (suc (span q s)) 0) (b ∷ s)) ≡ cond t (suc (span p s)) 0
      go true true e g i = rw e (ap suc i)
      go true false e g i = rw e
      go false true e g i = absurd (true≢false (sym (g refl)))
      go false false e g i = refl

-- the byte before the place that `after_last` gives passes
pub last_passes : (p : ℕ → Bool) (s : List ℕ) (k : ℕ) → after_last p s ≡ suc k → p (get_or s k 0) ≡ true
unfolding after_last
last_passes p [] k h = absurd (omega arith)
last_passes p (b ∷ s) k h = go (after_last p s) (p b) refl (last_passes p s) k h
  where
    go : (n : ℕ) (t : Bool) → p b ≡ t → ((j : ℕ) → n ≡ suc j → p (get_or s j 0) ≡ true) → (k : ℕ)
        → cond (eqb n 0) (cond t 1 0) (suc n) ≡ suc k → p (get_or (b ∷ s) k 0) ≡ true
    go zero true e i zero h = e
    go zero true e i (suc k) h = absurd (omega arith)
    go zero false e i k h = absurd (omega arith)
    go (suc n) t e i zero h = absurd (omega (arith, rw (ne_eqb (suc n) 0 (omega arith)) at h))
    go (suc n) t e i (suc k) h = i k (omega (arith, rw (ne_eqb (suc n) 0 (omega arith)) at h))

-- what holds of all bytes listed holds of one that is found among them
pub one_of_all : (q : ℕ → Bool) (cs : List ℕ) → all q cs ≡ true → (b : ℕ) → one_of cs b ≡ true → q b ≡ true
unfolding all any
one_of_all q [] h b e = absurd (true≢false (sym e))
one_of_all q (c ∷ cs) h b e =
    let k = (and-eq-true_iff (q c) (all q cs)).0 h in
    or_true_elim (eqb b c) (one_of cs b) (λ f. rw (eqb-true b c f) k.0) (one_of_all q cs k.1 b) e

-- the bytes listed, tested from the left, as the code of a class does
abbrev found_in : Bool → List ℕ → ℕ → Bool
found_in found [] b = found
found_in found (c ∷ cs) b = found_in (found || eqb b c) cs b

found_left : (t : Bool) (cs : List ℕ) (b : ℕ) → found_in t cs b ≡ t || one_of cs b
unfolding any
found_left t [] b = sym (or-false t)
found_left t (c ∷ cs) b = rw (found_left (t || eqb b c) cs b) (or_assoc t (eqb b c) (one_of cs b))

-- these tests find the bytes that `one_of` finds
pub from_left : (cs : List ℕ) (b : ℕ) → found_in false cs b ≡ one_of cs b
from_left cs b = found_left false cs b
