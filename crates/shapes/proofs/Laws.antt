-- What scans say about shapes that are defined by their parts, and how long some texts are. Assumes nothing.
use mathlib.Core.Path.{◌≡◌, refl, sym, ◌∙◌}
use mathlib.Core.Bool.{Bool, true, false, cond, not, ◌&&◌, ◌||◌, and-true, and-false, and_assoc, or-true, or-false, and-eq-true_iff, true≢false}
use mathlib.Core.Logic.{◌↔◌}
use mathlib.Core.List.{List, [], ◌∷◌}
use Prim.Native.Nat.{ℕ, suc, ◌+◌, ◌≤◌, ◌<◌}
use native.Mathlib.Omega.{arith}
use lib.Dec.{leb, ltb, eqb}
use lib.ListN.{length, take, drop, get_or, length-take, length-drop}
use borrow.Author.Tests.{ne_eqb, ltb-true, leb-true, eqb-true, eqb-false, not-true}
use Rattle.std.specs.Prelude.{Option, Some, None}
use Rattle.std.specs.Option.{option_map}
use Rattle.lists.specs.Bytes.{around, all, span, split, onto, non_empty, starts_with}
use Rattle.lists.specs.Classes.{only, digit, digit_or_comma, digit_or_dash, except}
use Rattle.lists.proofs.Parts.{split_some, split_last}
use Rattle.lists.proofs.Scan.{starts_with_first}
use Rattle.shapes.specs.Shapes.{is_digits, is_comma_groups, is_comma_int, is_n_digits, is_phone_parts, is_hour_minute, is_seven_digit_phone, is_time, split_once, unit_at, has_unit, split_unit, unit_part}
use Rattle.shapes.proofs.Parts.{split_around}
use Rattle.units.specs.Units.{is_unit, unit_index, unit_row}
use Rattle.units.proofs.Laws.{empty_none}

-- each byte of a text of digits is a digit
pub digits_all : (s : List ℕ) → is_digits s ≡ true → all digit s ≡ true
unfolding is_digits
digits_all s h = ((and-eq-true_iff (not (eqb (length s) 0)) (all digit s)).0 h).1

-- a text of digits is not empty
pub digits_nonempty : (s : List ℕ) → is_digits s ≡ true → eqb (length s) 0 ≡ false
unfolding is_digits
digits_nonempty s h = not-true (eqb (length s) 0) ((and-eq-true_iff (not (eqb (length s) 0)) (all digit s)).0 h).0

-- so it has a length above 0
pub digits_some : (s : List ℕ) → is_digits s ≡ true → 0 < length s
digits_some s h = let n = eqb-false (length s) 0 (digits_nonempty s h) in omega arith

-- a text that starts with c is c and the rest
pub starts_with_cons : (c : ℕ) (s : List ℕ) → starts_with c s ≡ true → c ∷ drop 1 s ≡ s
starts_with_cons c [] h = absurd (true≢false (sym h))
starts_with_cons c (b ∷ s) h = let e : b ≡ c = eqb-true b c (sym (starts_with_first c b s) ∙ h) in rw e

-- two tests that hold of the same are equal
pub same_truth : (a b : Bool) → (a ≡ true) ↔ (b ≡ true) → a ≡ b
same_truth true b h = sym (h.0 refl)
same_truth false true h = h.1 refl
same_truth false false h = refl

-- a text with a comma passes exactly if the part before the first comma and the parts after it pass their tests
pub comma_more : (s : List ℕ) {first groups : List ℕ} → Some (first, groups) ≡ around (only 44) s
    → is_comma_int s ≡ is_digits first && leb (length first) 3 && all (is_n_digits 3) (split 44 groups)
unfolding is_comma_groups
comma_more s {first} {groups} h =
    rw (
      split_around 44 s,
      ← h,
      ne_eqb (length (split 44 groups)) 0 (λ z. omega (arith, split_some 44 groups)),
      and-true (is_digits first && leb (length first) 3),
    )

-- a text without a comma does not pass
pub comma_alone : (s : List ℕ) → None ≡ around (only 44) s → false ≡ is_comma_int s
unfolding is_comma_groups
comma_alone s h = rw (split_around 44 s, ← h, and-false (is_digits s && leb (length s) 3))

-- the same, by a scan for the comma
pub comma_none : (s : List ℕ) → length s ≤ span (except 44) s → is_comma_int s ≡ false
unfolding is_comma_groups
comma_none s h = rw (split_last 44 s h, and-false (is_digits s && leb (length s) 3))

-- a part, empty or not, passes exactly if each of its bytes is a digit
digits_part : (p : List ℕ) (ps : List (List ℕ)) → all is_digits (non_empty (p ∷ ps)) ≡ all digit p && all is_digits (non_empty ps)
unfolding is_digits all non_empty
digits_part [] ps = refl
digits_part (b ∷ p) ps = rw (ne_eqb (suc (length p)) 0 (omega arith))

digits_onto : (b : ℕ) (ps : List (List ℕ)) → all is_digits (non_empty (onto b ps)) ≡ digit b && all is_digits (non_empty ps)
unfolding onto all
digits_onto b [] = digits_part (b ∷ []) [] ∙ rw (and-true (digit b))
digits_onto b (p ∷ ps) = digits_part (b ∷ p) ps ∙ rw (digits_part p ps, and_assoc (digit b) (all digit p) (all is_digits (non_empty ps)))

-- the parts between dashes are digits exactly if every byte is a digit or a dash
pub dash_all : (s : List ℕ) → all is_digits (non_empty (split 45 s)) ≡ all digit_or_dash s
unfolding split all non_empty
dash_all [] = refl
dash_all (b ∷ s) = go (eqb b 45) (dash_all s)
  where
    go : (t : Bool) → all is_digits (non_empty (split 45 s)) ≡ all digit_or_dash s
        → all is_digits (non_empty (cond t ([] ∷ split 45 s) (onto b (split 45 s)))) ≡ (digit b || t) && all digit_or_dash s
    go true i = digits_part [] (split 45 s) ∙ rw (i, or-true (digit b))
    go false i = digits_onto b (split 45 s) ∙ rw (i, or-false (digit b))

-- a unit is not empty
pub unit_some : (s : List ℕ) → has_unit s ≡ true → length (drop (unit_at s) s) ≡ 0 → ⊥
unfolding has_unit
unit_some s h z =
    let u = (and-eq-true_iff (not (eqb (unit_at s) 0) && all digit_or_comma (take (unit_at s) s)) (is_unit (drop (unit_at s) s))).0 h in
    go (drop (unit_at s) s) z u.1
  where
    go : (t : List ℕ) → length t ≡ 0 → is_unit t ≡ true → ⊥
    go [] z u = true≢false (sym u ∙ empty_none)
    go (b ∷ t) z u = omega arith

-- a text fails if two parts that pass can never be as long as it, with the separator between them
split_length : (c : ℕ) (both : List ℕ → List ℕ → Bool) (s : List ℕ)
    → ((a b : List ℕ) → both a b ≡ true → length a + 1 + length b ≡ length s → ⊥) → split_once c both s ≡ false
unfolding split_once
split_length c both s h = go (ltb (span (except c) s) (length s)) (both a b) refl refl
  where
    a : List ℕ
    a = take (span (except c) s) s

    b : List ℕ
    b = drop (span (except c) s + 1) s

    go : (t u : Bool) → ltb (span (except c) s) (length s) ≡ t → both a b ≡ u → (t && u) ≡ false
    go false u e f = refl
    go true false e f = refl
    go true true e f = absurd (h a b f (simp (length-take, length-drop) (omega (arith, ltb-true (span (except c) s) (length s) e))))

-- n digits are n bytes
n_digits_length : (n : ℕ) (s : List ℕ) → is_n_digits n s ≡ true → length s ≡ n
n_digits_length n s h = eqb-true (length s) n ((and-eq-true_iff (eqb (length s) n) (is_digits s)).0 h).0

-- seven digits and a hyphen are eight bytes
pub phone_length : (s : List ℕ) → (length s ≡ 8 → ⊥) → is_seven_digit_phone s ≡ false
phone_length s n = split_length 45 is_phone_parts s (λ a b p e.
    let q = (and-eq-true_iff (is_n_digits 3 a) (is_n_digits 4 b)).0 p in
    let x = n_digits_length 3 a q.0 in
    let y = n_digits_length 4 b q.1 in
    n (omega arith))

-- an hour, a colon and a minute are at most five bytes
pub time_length : (s : List ℕ) → 5 < length s → is_time s ≡ false
unfolding is_hour_minute
time_length s n = split_length 58 is_hour_minute s (λ h m p e.
    let bound = leb 1 (length h) && leb (length h) 2 in
    let q = (and-eq-true_iff (bound && is_digits h && is_n_digits 2 m) (leb (get_or m 0 0) 53)).0 p in
    let r = (and-eq-true_iff (bound && is_digits h) (is_n_digits 2 m)).0 q.0 in
    let f = (and-eq-true_iff bound (is_digits h)).0 r.0 in
    let x : length h ≤ 2 = leb-true (length h) 2 ((and-eq-true_iff (leb 1 (length h)) (leb (length h) 2)).0 f.0).1 in
    let y = n_digits_length 2 m r.1 in
    omega arith)

-- without a number before it, there is no unit
pub unit_unnumbered : (s : List ℕ) → not (eqb (unit_at s) 0) && all digit_or_comma (take (unit_at s) s) ≡ false → None ≡ split_unit s
unfolding has_unit
unit_unnumbered s e = rw e

-- with one, there is a unit if the table has what follows it
pub unit_numbered : (s : List ℕ) {o : Option ℕ} → not (eqb (unit_at s) 0) && all digit_or_comma (take (unit_at s) s) ≡ true
    → o ≡ unit_row (drop (unit_at s) s) → option_map (λ _. drop (unit_at s) s) o ≡ split_unit s
unfolding has_unit unit_row
unit_numbered s e f = rw (f, e) (go (is_unit (drop (unit_at s) s)))
  where
    go : (t : Bool) → option_map (λ _. drop (unit_at s) s) (cond t (Some (unit_index (drop (unit_at s) s))) None)
        ≡ cond t (Some (drop (unit_at s) s)) None
    go true = refl
    go false = refl

-- what a split by the unit says
pub split_unit_some : (s : List ℕ) {u : List ℕ} → Some u ≡ split_unit s → (has_unit s ≡ true) × (u ≡ unit_part s)
split_unit_some s {u} = go (has_unit s)
  where
    go : (t : Bool) → Some u ≡ cond t (Some (drop (unit_at s) s)) None → (t ≡ true) × (u ≡ cond t (drop (unit_at s) s) [])
    go true e = (refl, cc)
    go false e = cc

pub split_unit_none : (s : List ℕ) → None ≡ split_unit s → has_unit s ≡ false
split_unit_none s = go (has_unit s)
  where
    go : (t : Bool) → None ≡ cond t (Some (drop (unit_at s) s)) None → t ≡ false
    go true e = cc
    go false e = refl
