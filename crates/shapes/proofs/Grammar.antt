-- A shape takes a name exactly when the name has its form. Assumes nothing.
use mathlib.Core.Path.{◌≡◌, refl, sym, ap, subst, ◌∙◌}
use mathlib.Core.Bool.{Bool, true, false, cond, not, ◌&&◌, ◌||◌, and-eq-true_iff, false≢true}
use mathlib.Core.Logic.{◌↔◌}
use mathlib.Core.List.{List, [], ◌∷◌, ◌++◌, append-nil, flatten, append_assoc, map}
use Prim.Native.Nat.{ℕ, suc, ◌+◌, ◌-◌, ◌≤◌, ◌<◌}
use Prim.Native.Char.{code}
use native.Mathlib.Numerals.{add-one}
use native.Mathlib.Omega.{arith}
use lib.Dec.{eqb, leb, ltb}
use lib.ListN.{length, take, drop, get_or, length-append, length-take, take-append-drop, drop_of_length-le}
use lib.Seq.{take_at, drop_at, get_or_at, split_at, take-suc, drop-drop, drop-length, drop-append_seam, length-take-le}
use borrow.Author.Tests.{eqb-true, eqb-false, eq-eqb, ne_eqb, ltb-true, lt-ltb, leb-true, le-leb, not-true, not-false}
use Rattle.lists.specs.Bytes.{bytes, all, any, span, after_last, listed, split, onto, same, same_by, uppercase, to_lower, starts_with, ends_with}
use Rattle.lists.specs.Classes.{digit, digit_or_comma, not_colon_or_point, except}
use Rattle.lists.proofs.Bools.{or_true_elim}
use Rattle.lists.proofs.Parts.{split_some}
use Rattle.lists.proofs.Scan.{all_append, last_le, last_passes, last_drop, span_le, span_all, span_fails, span_before, all_span, all_within, class_apart, starts_with_first}
use Rattle.lists.proofs.Table.{same_true}
use Rattle.shapes.specs.Shapes.{is_digits, is_n_digits, is_comma_groups, is_comma_int, starts_char, is_ordinal_suffix, is_ordinal, is_amount, is_us_money, is_illion}
use Rattle.units.specs.Units.{unit_abbreviations, abbreviations, is_unit}
use Rattle.shapes.specs.Shapes.{unit_at, has_unit, is_number_s, is_leading_zero_digits, split_once, is_phone_parts, is_seven_digit_phone, is_hour_minute, is_time, are_digits, is_digits_slash_digits, is_range}
use Rattle.shapes.specs.Times.{ends_in_meridiem, separator_at, time_of, is_meridiem_time}
use Rattle.shapes.specs.Grammar.{is_meridiem, join_by, suffixes, TimeForm, PhoneForm, SeparatedForm, CommaIntForm, LeadingZeroForm, IllionForm, NumberSForm, MeridiemForm, OrdinalForm, MoneyForm, UnitForm}
use Rattle.shapes.specs.Grammar.{time, phone, separated, comma_int, leading_zero, illion, number_s, meridiem_time, ordinal_number, dollars, cents, measure}
use Rattle.shapes.proofs.Parts.{eqb_sym}
use Rattle.shapes.proofs.Laws.{digits_all, digits_some, digits_nonempty, starts_with_cons, same_truth}

-- ---- a text at its first separator

-- s is two parts that pass, with the byte c between, and c is not in the first
pub record Once (c : ℕ) (both : List ℕ → List ℕ → Bool) (s : List ℕ) : Type 0 where
  pub front : List ℕ
  pub rest : List ℕ
  pub joined : s ≡ front ++ (c ∷ rest)
  pub first : all (except c) front ≡ true
  pub passed : both front rest ≡ true

-- a text that `split_once` takes is made of two such parts
pub once_parts : (c : ℕ) (both : List ℕ → List ℕ → Bool) (s : List ℕ) → split_once c both s ≡ true → Once c both s
unfolding split_once
once_parts c both s h =
    let n = span (except c) s in
    let k = (and-eq-true_iff (ltb n (length s)) (both (take n s) (drop (n + 1) s))).0 h in
    let l = ltb-true n (length s) k.0 in
    let e : get_or s n 0 ≡ c = eqb-true _ _ (not-false _ (span_fails (except c) s l)) in
    record { front = take n s; rest = drop (n + 1) s; joined = rw (e, ← add-one n) at (split_at s n 0 l); first = span_all (except c) s; passed = k.1 }

-- and `split_once` takes two such parts with c between them
pub once_taken : (c : ℕ) (both : List ℕ → List ℕ → Bool) (a b : List ℕ) → all (except c) a ≡ true → both a b ≡ true → split_once c both (a ++ (c ∷ b)) ≡ true
unfolding split_once
once_taken c both a b f p =
    let n = span (except c) (a ++ (c ∷ b)) in
    let e : n ≡ length a = span_before (except c) a c b (rw (eq-eqb c c refl)) ∙ all_span (except c) a f in
    let m : drop (n + 1) (a ++ (c ∷ b)) ≡ b = sym (drop-drop 1 n (a ++ (c ∷ b))) ∙ ap (drop 1) (drop_at a (c ∷ b) n (sym e)) in
    rw (lt-ltb n (length (a ++ (c ∷ b))) (omega (arith, e, length-append a (c ∷ b))), take_at a (c ∷ b) n (sym e), m, p)

-- a separator that is no digit does not stand among digits
pub no_separator : (c : ℕ) → digit c ≡ false → (s : List ℕ) → is_digits s ≡ true → all (except c) s ≡ true
no_separator c e s h = all_within digit (except c) (λ b k. rw (class_apart digit c b e k)) s (digits_all s h)

-- n digits are digits
n_digits : (n : ℕ) (s : List ℕ) → is_n_digits n s ≡ true → is_digits s ≡ true
n_digits n s h = ((and-eq-true_iff (eqb (length s) n) (is_digits s)).0 h).1

time_taken : (s : List ℕ) → TimeForm s → is_time s ≡ true
unfolding is_hour_minute
time_taken _ (time h m d l n t) =
    once_taken (code ":") is_hour_minute h m (no_separator (code ":") refl h d)
    (rw (le-leb 1 (length h) (digits_some h d), le-leb (length h) 2 l, d, n, le-leb (get_or m 0 0) (code "5") t))

-- is_time takes a text exactly when it has this form
pub time_form : (s : List ℕ) → (is_time s ≡ true) ↔ TimeForm s
unfolding is_hour_minute
time_form s = (
  λ e.
      let o = once_parts (code ":") is_hour_minute s e in
      let h = o.front in
      let m = o.rest in
      let bound = leb 1 (length h) && leb (length h) 2 in
      let a = (and-eq-true_iff (bound && is_digits h && is_n_digits 2 m) (leb (get_or m 0 0) (code "5"))).0 o.passed in
      let b = (and-eq-true_iff (bound && is_digits h) (is_n_digits 2 m)).0 a.0 in
      let c = (and-eq-true_iff bound (is_digits h)).0 b.0 in
      let l = leb-true (length h) 2 ((and-eq-true_iff (leb 1 (length h)) (leb (length h) 2)).0 c.0).1 in
      subst TimeForm (sym o.joined) (time h m c.1 l b.1 (leb-true (get_or m 0 0) (code "5") a.1)),
  time_taken s,
)

phone_taken : (s : List ℕ) → PhoneForm s → is_seven_digit_phone s ≡ true
phone_taken _ (phone a b p q) = once_taken (code "-") is_phone_parts a b (no_separator (code "-") refl a (n_digits 3 a p)) (rw (p, q))

-- is_seven_digit_phone takes a text exactly when it has this form
pub phone_form : (s : List ℕ) → (is_seven_digit_phone s ≡ true) ↔ PhoneForm s
phone_form s = (
  λ e.
      let o = once_parts (code "-") is_phone_parts s e in
      let p = (and-eq-true_iff (is_n_digits 3 o.front) (is_n_digits 4 o.rest)).0 o.passed in
      subst PhoneForm (sym o.joined) (phone o.front o.rest p.0 p.1),
  phone_taken s,
)

-- digits, a separator that is no digit, digits
module _ (c : ℕ) (k : digit c ≡ false) where
  separated_taken : (s : List ℕ) → SeparatedForm c s → split_once c are_digits s ≡ true
  separated_taken _ (separated a b p q) = once_taken c are_digits a b (no_separator c k a p) (rw (p, q))

  -- `split_once` by two tests for digits takes a text exactly when it has this form
  pub separated_form : (s : List ℕ) → (split_once c are_digits s ≡ true) ↔ SeparatedForm c s
  separated_form s = (
    λ e.
        let o = once_parts c are_digits s e in
        let p = (and-eq-true_iff (is_digits o.front) (is_digits o.rest)).0 o.passed in
        subst (SeparatedForm c) (sym o.joined) (separated o.front o.rest p.0 p.1),
    separated_taken s,
  )

  -- what a scan for the digits at the front finds
  abbrev digits_around : List ℕ → Bool
  digits_around s = let rest = drop (span digit s) s in not (eqb (span digit s) 0) && starts_with c rest && is_digits (drop 1 rest)

  around_taken : (s : List ℕ) → SeparatedForm c s → digits_around s ≡ true
  around_taken _ (separated a b p q) =
      let e : span digit (a ++ (c ∷ b)) ≡ length a = span_before digit a c b k ∙ all_span digit a (digits_all a p) in
      rw (e, drop-append_seam a (c ∷ b), starts_with_first c c b, eq-eqb c c refl, q, digits_nonempty a p)

  around_form : (s : List ℕ) → digits_around s ≡ true → SeparatedForm c s
  unfolding is_digits
  around_form s h =
      let n = span digit s in
      let rest = drop n s in
      let u = (and-eq-true_iff (not (eqb n 0) && starts_with c rest) (is_digits (drop 1 rest))).0 h in
      let v = (and-eq-true_iff (not (eqb n 0)) (starts_with c rest)).0 u.0 in
      let first : is_digits (take n s) ≡ true = rw (length-take-le n s (span_le digit s), span_all digit s, v.0) in
      let joined : take n s ++ (c ∷ drop 1 rest) ≡ s = ap (λ (r : List ℕ). take n s ++ r) (starts_with_cons c rest v.1) ∙ take-append-drop n s in
      subst (SeparatedForm c) joined (separated (take n s) (drop 1 rest) first u.1)

  -- so such a scan decides it
  pub digits_around_lem : (s : List ℕ) → digits_around s ≡ split_once c are_digits s
  digits_around_lem s = same_truth _ _ (λ e. (separated_form s).1 (around_form s e), λ e. around_taken s ((separated_form s).0 e))

-- is_digits_slash_digits takes a text exactly when it is digits, a slash, digits
pub slashed_form : (s : List ℕ) → (is_digits_slash_digits s ≡ true) ↔ SeparatedForm (code "/") s
slashed_form = separated_form (code "/") refl

-- is_range takes a text exactly when it is digits, a hyphen, digits
pub range_form : (s : List ℕ) → (is_range s ≡ true) ↔ SeparatedForm (code "-") s
range_form = separated_form (code "-") refl

-- ---- a text by its parts

-- the parts of a text, joined by the separator, are the text
pub join_by_split : (c : ℕ) (s : List ℕ) → join_by c (split c s) ≡ s
unfolding split onto flatten
join_by_split c [] = refl
join_by_split c (b ∷ s) = go (eqb b c) refl (split c s) (split_some c s) (join_by_split c s)
  where
    go : (t : Bool) → eqb b c ≡ t → (ps : List (List ℕ)) → 0 < length ps → join_by c ps ≡ s → join_by c (cond t ([] ∷ ps) (onto b ps)) ≡ b ∷ s
    go t e [] l i = absurd (omega arith)
    go true e (p ∷ ps) l i = rw (eqb-true b c e) (ap (λ (r : List ℕ). c ∷ r) i)
    go false e (p ∷ ps) l i = ap (λ (r : List ℕ). b ∷ r) i

-- if the first part of the rest is empty, a part without the separator that is put before the rest takes its place
front_part : (c : ℕ) (p rest : List ℕ) (ps : List (List ℕ)) → split c rest ≡ [] ∷ ps → all (except c) p ≡ true → split c (p ++ rest) ≡ p ∷ ps
unfolding split onto all
front_part c [] rest ps e h = e
front_part c (b ∷ p) rest ps e h =
    let k = (and-eq-true_iff (except c b) (all (except c) p)).0 h in
    rw (not-true (eqb b c) k.0, front_part c p rest ps e k.1)

-- parts without the separator, joined by it, are split into these parts again
pub split_join_by : (c : ℕ) (p : List ℕ) (ps : List (List ℕ)) → all (all (except c)) (p ∷ ps) ≡ true → split c (join_by c (p ∷ ps)) ≡ p ∷ ps
unfolding split flatten all
split_join_by c p [] h = front_part c p [] [] refl ((and-eq-true_iff (all (except c) p) true).0 h).0
split_join_by c p (q ∷ qs) h =
    let k = (and-eq-true_iff (all (except c) p) (all (all (except c)) (q ∷ qs))).0 h in
    front_part c p (c ∷ join_by c (q ∷ qs)) (q ∷ qs) (rw (eq-eqb c c refl) (ap (λ (r : List (List ℕ)). [] ∷ r) (split_join_by c q qs k.1))) k.0

comma_taken : (s : List ℕ) → CommaIntForm s → is_comma_int s ≡ true
unfolding is_comma_groups all
comma_taken _ (comma_int first g gs d l h) =
    let none = no_separator (code ",") refl in
    let others = all_within (is_n_digits 3) (all (except (code ","))) (λ p k. none p (n_digits 3 p k)) (g ∷ gs) h in
    rw (split_join_by (code ",") first (g ∷ gs) (rw (none first d) others), d, le-leb (length first) 3 l, ne_eqb (suc (length gs)) 0 (omega arith)) h

-- is_comma_int takes a text exactly when it has this form
pub comma_form : (s : List ℕ) → (is_comma_int s ≡ true) ↔ CommaIntForm s
unfolding is_comma_groups
comma_form s = (λ e. go (split (code ",") s) (join_by_split (code ",") s) e, comma_taken s)
  where
    go : (ps : List (List ℕ)) → join_by (code ",") ps ≡ s → is_comma_groups ps ≡ true → CommaIntForm s
    go [] j e = absurd (false≢true e)
    go (first ∷ gs) j e =
        let a = (and-eq-true_iff (is_digits first && leb (length first) 3 && not (eqb (length gs) 0)) (all (is_n_digits 3) gs)).0 e in
        let b = (and-eq-true_iff (is_digits first && leb (length first) 3) (not (eqb (length gs) 0))).0 a.0 in
        let c = (and-eq-true_iff (is_digits first) (leb (length first) 3)).0 b.0 in
        more gs j c.0 (leb-true (length first) 3 c.1) b.1 a.1
      where
        more : (gs : List (List ℕ)) → join_by (code ",") (first ∷ gs) ≡ s → is_digits first ≡ true → length first ≤ 3 → not (eqb (length gs) 0) ≡ true
            → all (is_n_digits 3) gs ≡ true → CommaIntForm s
        more [] j d l n h = absurd (false≢true n)
        more (g ∷ gs) j d l n h = subst CommaIntForm j (comma_int first g gs d l h)

-- ---- a text by its first bytes or its last

zero_taken : (s : List ℕ) → LeadingZeroForm s → is_leading_zero_digits s ≡ true
unfolding is_digits all
zero_taken _ (leading_zero d h) =
    rw (lt-ltb 1 (suc (length d)) (omega (arith, digits_some d h)), ne_eqb (suc (length d)) 0 (omega arith), digits_all d h)

-- is_leading_zero_digits takes a text exactly when it has this form
pub zero_form : (s : List ℕ) → (is_leading_zero_digits s ≡ true) ↔ LeadingZeroForm s
unfolding is_digits all
zero_form [] = (λ e. absurd (false≢true e), zero_taken [])
zero_form (b ∷ d) = (
  λ e.
      let p = (and-eq-true_iff (ltb 1 (suc (length d)) && starts_with (code "0") (b ∷ d)) (is_digits (b ∷ d))).0 e in
      let q = (and-eq-true_iff (ltb 1 (suc (length d))) (starts_with (code "0") (b ∷ d))).0 p.0 in
      let z : b ≡ code "0" = eqb-true b (code "0") (sym (starts_with_first (code "0") b d) ∙ q.1) in
      let l = ltb-true 1 (suc (length d)) q.0 in
      let h = ((and-eq-true_iff (digit b) (all digit d)).0 (digits_all (b ∷ d) p.1)).1 in
      subst (λ c. LeadingZeroForm (c ∷ d)) (sym z) (leading_zero d (rw (ne_eqb (length d) 0 (omega arith), h))),
  zero_taken (b ∷ d),
)

illion_taken : (s : List ℕ) → IllionForm s → is_illion s ≡ true
unfolding same_by
illion_taken _ (illion t) =
    let l = length-append t (bytes "illion") in
    rw (le-leb 6 (length (t ++ bytes "illion")) (omega arith), drop_at t (bytes "illion") (length (t ++ bytes "illion") - 6) (omega arith))

-- is_illion takes a text exactly when it has this form
pub illion_form : (s : List ℕ) → (is_illion s ≡ true) ↔ IllionForm s
illion_form s = (
  λ e.
      let n = length s - 6 in
      let t = same_true (drop n s) (bytes "illion") ((and-eq-true_iff (leb 6 (length s)) (same (drop n s) (bytes "illion"))).0 e).1 in
      subst IllionForm (ap (λ (r : List ℕ). take n s ++ r) (sym t) ∙ take-append-drop n s) (illion (take n s)),
  illion_taken s,
)

number_taken : (s : List ℕ) → NumberSForm s → is_number_s s ≡ true
number_taken _ (number_s d h) =
    let t = d ++ bytes "s" in
    let l = length-append d (bytes "s") in
    let m = digits_some d h in
    rw (
      le-leb 2 (length t) (omega arith),
      ne_eqb (length t) 0 (omega arith),
      get_or_at d (code "s") [] 0 (length t - 1) (omega arith),
      take_at d (bytes "s") (length t - 1) (omega arith),
      h,
    )

-- is_number_s takes a text exactly when it has this form
pub number_form : (s : List ℕ) → (is_number_s s ≡ true) ↔ NumberSForm s
number_form s = (
  λ e.
      let n = length s - 1 in
      let p = (and-eq-true_iff (leb 2 (length s) && ends_with (code "s") s) (is_digits (take n s))).0 e in
      let q = (and-eq-true_iff (leb 2 (length s)) (ends_with (code "s") s)).0 p.0 in
      let two = leb-true 2 (length s) q.0 in
      let last : get_or s n 0 ≡ code "s" = eqb-true _ _ ((and-eq-true_iff (not (eqb (length s) 0)) (eqb (get_or s n 0) (code "s"))).0 q.1).1 in
      let w : s ≡ take n s ++ bytes "s" = rw (last, drop_of_length-le s {i = suc n} (omega arith)) at (split_at s n 0 (omega arith)) in
      subst NumberSForm (sym w) (number_s (take n s) p.1),
  number_taken s,
)

-- a text that is c and d once it is lowered has two bytes, and the first starts a character, if c is below 128
two_bytes : (s : List ℕ) (c d : ℕ) → c < 128 → same_by to_lower s (c ∷ d ∷ []) ≡ true → (length s ≡ 2) × (starts_char (get_or s 0 0) ≡ true)
unfolding same_by
two_bytes [] c d l h = absurd (false≢true h)
two_bytes (a ∷ []) c d l h = absurd (false≢true ((and-eq-true_iff (eqb (to_lower a) c) false).0 h).1)
two_bytes (a ∷ b ∷ []) c d l h = (refl, rw (lt-ltb a 128 (go (uppercase a) (eqb-true (to_lower a) c ((and-eq-true_iff (eqb (to_lower a) c) _).0 h).0))))
  where
    go : (t : Bool) → cond t (a + 32) a ≡ c → a < 128
    go true e = omega arith
    go false e = omega arith
two_bytes (a ∷ b ∷ x ∷ s) c d l h =
    absurd (false≢true ((and-eq-true_iff (eqb (to_lower b) d) false).0 ((and-eq-true_iff (eqb (to_lower a) c) (eqb (to_lower b) d && false)).0 h).1).1)

-- a suffix is two bytes, of which the first starts a character
suffix_bytes : (s : List ℕ) → is_ordinal_suffix s ≡ true → (length s ≡ 2) × (starts_char (get_or s 0 0) ≡ true)
suffix_bytes s =
    or_true_elim (same_by to_lower s (bytes "th") || same_by to_lower s (bytes "st") || same_by to_lower s (bytes "nd")) (same_by to_lower s (bytes "rd"))
    (or_true_elim (same_by to_lower s (bytes "th") || same_by to_lower s (bytes "st")) (same_by to_lower s (bytes "nd"))
    (or_true_elim (same_by to_lower s (bytes "th")) (same_by to_lower s (bytes "st")) (two_bytes s (code "t") (code "h") (omega arith))
    (two_bytes s (code "s") (code "t") (omega arith)))
    (two_bytes s (code "n") (code "d") (omega arith))) (two_bytes s (code "r") (code "d") (omega arith))

-- an hour is digits, and a minute is two of them
pub hour_minute_parts : (h m : List ℕ) → is_hour_minute h m ≡ true → (is_digits h ≡ true) × (is_n_digits 2 m ≡ true)
unfolding is_hour_minute
hour_minute_parts h m e =
    let bound = leb 1 (length h) && leb (length h) 2 in
    let a = ((and-eq-true_iff (bound && is_digits h && is_n_digits 2 m) (leb (get_or m 0 0) (code "5"))).0 e).0 in
    let b = (and-eq-true_iff (bound && is_digits h) (is_n_digits 2 m)).0 a in
    (((and-eq-true_iff bound (is_digits h)).0 b.0).1, b.1)

-- no byte of the hour is a separator
pub hour_unparted : (h m : List ℕ) → is_hour_minute h m ≡ true → all not_colon_or_point h ≡ true
hour_unparted h m e =
    all_within digit not_colon_or_point (λ b k. rw (class_apart digit (code ":") b refl k, class_apart digit (code ".") b refl k)) h
    (digits_all h (hour_minute_parts h m e).0)

-- am or pm is two bytes
pub meridiem_length : (x : List ℕ) → is_meridiem x ≡ true → length x ≡ 2
meridiem_length x e =
    (or_true_elim (same_by to_lower x (bytes "am")) (same_by to_lower x (bytes "pm")) (two_bytes x (code "a") (code "m") (omega arith))
    (two_bytes x (code "p") (code "m") (omega arith)) e).0

meridiem_taken : (s : List ℕ) → MeridiemForm s → is_meridiem_time s ≡ true
meridiem_taken _ (meridiem_time h m x c p q e) =
    let t = h ++ (c ∷ m) in
    let s = t ++ x in
    let two = meridiem_length x e in
    let l = length-append t x in
    let sep : span not_colon_or_point t ≡ length h = span_before not_colon_or_point h c m q ∙ all_span not_colon_or_point h (hour_unparted h m p) in
    rw (
      le-leb 2 (length s) (omega arith),
      drop_at t x (length s - 2) (omega arith),
      take_at t x (length s - 2) (omega arith),
      e,
      sep,
      lt-ltb (length h) (length t) (omega (arith, length-append h (c ∷ m))),
      take_at h (c ∷ m) (length h) refl,
      ← drop-drop 1 (length h) t,
      drop_at h (c ∷ m) (length h) refl,
    )
    p

-- a text is a time with am or pm exactly when it has this form
pub meridiem_form : (s : List ℕ) → (is_meridiem_time s ≡ true) ↔ MeridiemForm s
meridiem_form s = (
  λ e.
      let t = time_of s in
      let sep = separator_at t in
      let x = drop (length s - 2) s in
      let a = (and-eq-true_iff (ends_in_meridiem s) (ltb sep (length t) && is_hour_minute (take sep t) (drop (sep + 1) t))).0 e in
      let b = (and-eq-true_iff (ltb sep (length t)) (is_hour_minute (take sep t) (drop (sep + 1) t))).0 a.1 in
      let l = ltb-true sep (length t) b.0 in
      let w : take sep t ++ (get_or t sep 0 ∷ drop (sep + 1) t) ≡ t = sym (rw (← add-one sep) at (split_at t sep 0 l)) in
      subst MeridiemForm (ap (λ (r : List ℕ). r ++ x) w ∙ take-append-drop (length s - 2) s)
      (meridiem_time (take sep t) (drop (sep + 1) t) x (get_or t sep 0) b.1 (span_fails not_colon_or_point t l)
      (last_two (leb 2 (length s)) (same_by to_lower x (bytes "am")) (same_by to_lower x (bytes "pm")) a.0)),
  meridiem_taken s,
)
  where
    last_two : (t u v : Bool) → ((t && u) || (t && v)) ≡ true → (u || v) ≡ true
    last_two true u v h = h
    last_two false u v h = absurd (false≢true h)

-- a comparison that lowers the first text compares with the lowered text
same_lowered : (s t : List ℕ) → same_by to_lower s t ≡ same t (map to_lower s)
unfolding same_by
same_lowered [] [] = refl
same_lowered [] (c ∷ t) = refl
same_lowered (b ∷ s) [] = refl
same_lowered (b ∷ s) (c ∷ t) = rw (same_lowered s t) (ap (λ (x : Bool). x && same t (map to_lower s)) (eqb_sym (to_lower b) c))

-- a text is a suffix exactly when it is one of the list once it is lowered
suffix_listed : (s : List ℕ) → is_ordinal_suffix s ≡ listed (map to_lower s) suffixes
unfolding any
suffix_listed s =
    rw (same_lowered s (bytes "th"), same_lowered s (bytes "st"), same_lowered s (bytes "nd"), same_lowered s (bytes "rd"))
    (go (same (bytes "th") (map to_lower s)) (same (bytes "st") (map to_lower s)) (same (bytes "nd") (map to_lower s)) (same (bytes "rd") (map to_lower s)))
  where
    go : (a b c d : Bool) → (a || b || c || d) ≡ (a || (b || (c || (d || false))))
    go true b c d = refl
    go false true c d = refl
    go false false true d = refl
    go false false false true = refl
    go false false false false = refl

ordinal_taken : (s : List ℕ) → OrdinalForm s → is_ordinal s ≡ true
unfolding is_ordinal
ordinal_taken _ (ordinal_number [] suf f h x) = absurd (false≢true f)
ordinal_taken _ (ordinal_number (b ∷ num) suf f h x) =
    let s = b ∷ num ++ suf in
    let suffix = suffix_listed suf ∙ x in
    let two = suffix_bytes suf suffix in
    let l = length-append num suf in
    rw (
      le-leb 3 (length s) (omega (arith, two.0)),
      drop_at (b ∷ num) suf (length s - 2) (omega (arith, two.0)),
      take_at (b ∷ num) suf (length s - 2) (omega (arith, two.0)),
      two.1,
      suffix,
      f,
    )
    h

-- is_ordinal takes a text exactly when it has this form
pub ordinal_form : (s : List ℕ) → (is_ordinal s ≡ true) ↔ OrdinalForm s
unfolding is_ordinal
ordinal_form s = (
  λ e.
      let num = take (length s - 2) s in
      let suf = drop (length s - 2) s in
      let long = leb 3 (length s) && starts_char (get_or suf 0 0) in
      let p = (and-eq-true_iff (long && is_ordinal_suffix suf && digit (get_or num 0 0)) (all digit_or_comma num)).0 e in
      let q = (and-eq-true_iff (long && is_ordinal_suffix suf) (digit (get_or num 0 0))).0 p.0 in
      let x = ((and-eq-true_iff long (is_ordinal_suffix suf)).0 q.0).1 in
      subst OrdinalForm (take-append-drop (length s - 2) s) (ordinal_number num suf q.1 p.1 (sym (suffix_listed suf) ∙ x)),
  ordinal_taken s,
)

money_taken : (s : List ℕ) → MoneyForm s → is_us_money s ≡ true
unfolding is_amount
money_taken _ (dollars w l h) =
    rw (ne_eqb (suc (length w)) 0 (omega arith), all_span digit_or_comma w h, drop-length w, ne_eqb (length w) 0 (omega arith))
money_taken _ (cents w d l h k) =
    let t = w ++ (code "." ∷ d) in
    let e : span digit_or_comma t ≡ length w = span_before digit_or_comma w (code ".") d refl ∙ all_span digit_or_comma w h in
    rw (
      ne_eqb (suc (length t)) 0 (omega arith),
      e,
      drop_at w (code "." ∷ d) (length w) refl,
      ne_eqb (length w) 0 (omega arith),
      ne_eqb (suc (length d)) 0 (omega arith),
    )
    k

-- an amount with a dollar sign before it has the form of money
amount_form : (s : List ℕ) → is_amount s ≡ true → MoneyForm (bytes "$" ++ s)
unfolding is_amount
amount_form s e = go (drop n s) refl p.1
  where
    n : ℕ
    n = span digit_or_comma s

    p : (not (eqb n 0) ≡ true) × (cond (starts_with (code ".") (drop n s)) (is_digits (drop 1 (drop n s))) (eqb (length (drop n s)) 0) ≡ true)
    p = (and-eq-true_iff (not (eqb n 0)) (cond (starts_with (code ".") (drop n s)) (is_digits (drop 1 (drop n s))) (eqb (length (drop n s)) 0))).0 e

    some : 0 < length (take n s)
    some = omega (arith, eqb-false n 0 (not-true (eqb n 0) p.0), length-take n s, span_le digit_or_comma s)

    whole : (r : List ℕ) → drop n s ≡ r → take n s ++ r ≡ s
    whole r q = ap (λ (x : List ℕ). take n s ++ x) (sym q) ∙ take-append-drop n s

    go : (r : List ℕ) → drop n s ≡ r → cond (starts_with (code ".") r) (is_digits (drop 1 r)) (eqb (length r) 0) ≡ true → MoneyForm (bytes "$" ++ s)
    go [] q h =
        subst (λ x. MoneyForm (code "$" ∷ x)) (sym (append-nil (take n s)) ∙ whole [] q) (dollars (take n s) some (span_all digit_or_comma s))
    go (b ∷ d) q h = more (eqb b (code ".")) refl (rw (starts_with_first (code ".") b d) at h)
      where
        more : (t : Bool) → eqb b (code ".") ≡ t → cond t (is_digits d) (eqb (suc (length d)) 0) ≡ true → MoneyForm (bytes "$" ++ s)
        more true f h =
            subst (λ x. MoneyForm (code "$" ∷ x)) (whole (code "." ∷ d) (q ∙ ap (λ (c : ℕ). c ∷ d) (eqb-true b (code ".") f)))
            (cents (take n s) d some (span_all digit_or_comma s) h)
        more false f h = absurd (omega (arith, eqb-true (suc (length d)) 0 h))

-- is_us_money takes a text exactly when it has this form
pub money_form : (s : List ℕ) → (is_us_money s ≡ true) ↔ MoneyForm s
money_form [] = (λ e. absurd (false≢true e), money_taken [])
money_form (b ∷ s) = (
  λ e.
      let p = (and-eq-true_iff (starts_with (code "$") (b ∷ s)) (is_amount s)).0 e in
      let z : b ≡ code "$" = eqb-true b (code "$") (sym (starts_with_first (code "$") b s) ∙ p.0) in
      subst (λ c. MoneyForm (c ∷ s)) (sym z) (amount_form s p.1),
  money_taken (b ∷ s),
)

-- if every listed text passes a test, so does a text that is one of them
listed_passes : (p : List ℕ → Bool) (u : List ℕ) (ss : List (List ℕ)) → all p ss ≡ true → listed u ss ≡ true → p u ≡ true
unfolding all any
listed_passes p u [] a h = absurd (false≢true h)
listed_passes p u (s ∷ ss) a h =
    let b = (and-eq-true_iff (p s) (all p ss)).0 a in
    or_true_elim (same s u) (listed u ss) (λ e. rw (same_true s u e) at b.0) (λ e. listed_passes p u ss b.1 e) h

-- no unit has a digit
unit_digitless : (u : List ℕ) → is_unit u ≡ true → after_last digit u ≡ 0
unfolding abbreviations unit_abbreviations all after_last
unit_digitless u h = eqb-true _ 0 (listed_passes (λ t. eqb (after_last digit t) 0) u abbreviations refl h)

-- a name of this form has a unit
unit_taken : (s : List ℕ) → UnitForm s → has_unit s ≡ true
unfolding has_unit after_last all
unit_taken _ (measure n u d h k x) =
    let t = n ++ (d ∷ []) in
    let l = length-append n (d ∷ []) in
    let e : drop (length n) (t ++ u) ≡ d ∷ u = ap (drop (length n)) (append_assoc n (d ∷ []) u) ∙ drop_at n (d ∷ u) (length n) refl in
    let one : after_last digit (d ∷ u) ≡ 1 = rw (unit_digitless u x, k) in
    let at : after_last digit (t ++ u) ≡ length t =
    last_drop digit (t ++ u) (length n) (rw (e, one) (omega arith)) ∙ rw (e, one) (sym l) in
    rw (
      at,
      ne_eqb (length t) 0 (omega arith),
      take_at t u (length t) refl,
      drop_at t u (length t) refl,
      all_append digit_or_comma n (d ∷ []),
      h,
      k,
    )
    x

-- a name has a unit exactly when it has this form
pub unit_form : (s : List ℕ) → (has_unit s ≡ true) ↔ UnitForm s
unfolding has_unit
unit_form s = (
  λ e.
      let n = unit_at s in
      let a = (and-eq-true_iff (not (eqb n 0) && all digit_or_comma (take n s)) (is_unit (drop n s))).0 e in
      let b = (and-eq-true_iff (not (eqb n 0)) (all digit_or_comma (take n s))).0 a.0 in
      let z = eqb-false n 0 (not-true (eqb n 0) b.0) in
      let k = n - 1 in
      let m : suc k ≡ n = omega arith in
      let w : take n s ≡ take k s ++ (get_or s k 0 ∷ []) = rw m at (take-suc s k 0 (omega (arith, last_le digit s))) in
      let c = (and-eq-true_iff (all digit_or_comma (take k s)) (all digit_or_comma (get_or s k 0 ∷ []))).0
      (sym (all_append digit_or_comma (take k s) (get_or s k 0 ∷ [])) ∙ rw w at b.1) in
      subst UnitForm (ap (λ (r : List ℕ). r ++ drop n s) (sym w) ∙ take-append-drop n s)
      (measure (take k s) (drop n s) (get_or s k 0) c.0 (last_passes digit s k (sym m)) a.1),
  unit_taken s,
)
