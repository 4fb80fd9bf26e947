-- Which bytes a name has if a shape takes it. Assumes nothing.
use mathlib.Core.Path.{◌≡◌, refl, sym, ap, ◌∙◌}
use mathlib.Core.Bool.{Bool, true, false, cond, not, ◌&&◌, ◌||◌, and-false, and_assoc, and-eq-true_iff, or-true, false≢true}
use mathlib.Core.List.{List, [], ◌∷◌}
use Prim.Native.Nat.{ℕ, zero, suc, ◌+◌, ◌-◌, ◌≤◌, ◌<◌}
use Prim.Native.Char.{code}
use native.Mathlib.Omega.{arith}
use lib.Dec.{eqb, leb, ltb}
use lib.ListN.{length, take, drop, get_or, take-append-drop, drop_of_length-le}
use lib.Seq.{get_or-drop}
use borrow.Author.Tests.{eqb-true, ltb-true, ltb-false, leb-true, lt-leb, not-false, le-ltb, ne_eqb}
use Rattle.lists.specs.Bytes.{bytes, all, span, elem, split, onto, same_by, uppercase, lowercase, to_lower, starts_with, ends_with, strip_suffix, ends_with_by, any}
use Rattle.lists.specs.Classes.{digit, letter, digit_or_comma, not_colon_or_point, except}
use Rattle.lists.proofs.Scan.{all_append, all_more, all_within, span_all, span_fails, all_span, all_split, all_at, class_apart}
use Rattle.lists.proofs.Parts.{parts_fail, elem_span}
use Rattle.lists.proofs.Bools.{or_true_left, or_true_right, or_true_elim}
use Rattle.shapes.specs.Shapes.{is_digits, is_n_digits, is_alpha, is_one_letter, strip_sign, is_exponent, is_unsigned, is_comma_groups, is_hour_minute}
use Rattle.shapes.specs.Shapes.{is_ordinal_suffix, split_once, starts_char, is_dotted_abbrev, is_comma_int, is_time, are_digits, is_range, is_digits_slash_digits, is_double, is_ordinal}
use Rattle.shapes.specs.Times.{ends_in_meridiem, separator_at, time_of, is_meridiem_time}
use Rattle.shapes.proofs.Laws.{digits_all, comma_none}
use Rattle.shapes.proofs.Grammar.{hour_minute_parts}
use Rattle.rows.proofs.Laws.{ends_some}

-- a test that cannot pass fails
pub untaken : (b : Bool) → (b ≡ true → ⊥) → b ≡ false
untaken true h = absurd (h refl)
untaken false h = refl

-- a text with a byte that is outside a class is not all of that class
pub lacks : (p : ℕ → Bool) (c : ℕ) (s : List ℕ) → p c ≡ false → elem c s ≡ true → all p s ≡ false
unfolding any all
lacks p c [] h k = absurd (false≢true k)
lacks p c (b ∷ s) h k = go (eqb b c) refl k (lacks p c s h)
  where
    go : (t : Bool) → eqb b c ≡ t → (t || elem c s) ≡ true → (elem c s ≡ true → all p s ≡ false) → (p b && all p s) ≡ false
    go true e k i = rw (eqb-true b c e, h)
    go false e k i = rw (i k) (and-false (p b))

-- if all bytes of a shape's names are of a class, the shape takes no text with a byte outside that class
pub outside : (shape : Bool) (p : ℕ → Bool) (c : ℕ) (s : List ℕ) → (shape ≡ true → all p s ≡ true) → p c ≡ false → elem c s ≡ true → shape ≡ false
outside shape p c s f h k = untaken shape (λ e. false≢true (sym (lacks p c s h k) ∙ f e))

-- if a shape's names all have the byte c, the shape takes no text of a class without c
pub needs_other : (shape : Bool) (p : ℕ → Bool) (c : ℕ) (s : List ℕ) → (shape ≡ true → elem c s ≡ true) → p c ≡ false → all p s ≡ true → shape ≡ false
needs_other shape p c s f h k = untaken shape (λ e. false≢true (sym (lacks p c s h (f e)) ∙ k))

-- a digit is no letter
pub digit_no_letter : (b : ℕ) → digit b ≡ true → letter b ≡ false
digit_no_letter b h =
    let e : b ≤ code "9" = leb-true b (code "9") ((and-eq-true_iff (leb (code "0") b) (leb b (code "9"))).0 h).1 in
    rw (lt-leb (code "A") b (omega arith), lt-leb (code "a") b (omega arith))

-- the bytes of each shape's names
abbrev pub dotted_byte : ℕ → Bool
dotted_byte b = letter b || eqb b (code ".")

abbrev pub digit_or : ℕ → ℕ → Bool
digit_or c b = digit b || eqb b c

abbrev pub meridiem_byte : ℕ → Bool
meridiem_byte b = letter b || digit b || eqb b (code ":") || eqb b (code ".")

abbrev pub double_byte : ℕ → Bool
double_byte b = digit b || eqb b (code ".") || eqb b (code "e") || eqb b (code "E") || eqb b (code "+") || eqb b (code "-")

abbrev pub ordinal_byte : ℕ → Bool
ordinal_byte b = letter b || digit_or_comma b

-- ---- a text by its parts

module _ (p : ℕ → Bool) where
  all_joined : (n : ℕ) (s : List ℕ) → all p (take n s) ≡ true → all p (drop n s) ≡ true → all p s ≡ true
  all_joined n s h k = ap (all p) (sym (take-append-drop n s)) ∙ all_append p (take n s) (drop n s) ∙ rw (h, k)

  -- a text is of a class if its byte at n is, and all bytes before and after that one are
  all_around : (s : List ℕ) (n : ℕ) → n < length s → all p (take n s) ≡ true → p (get_or s n 0) ≡ true → all p (drop (n + 1) s) ≡ true → all p s ≡ true
  all_around s n l h e k = all_joined n s h (all_more p s n l ∙ rw (e, k))

  all_suffixed : (c : ℕ) (s : List ℕ) → p c ≡ true → all p (strip_suffix c s) ≡ true → all p s ≡ true
  unfolding all
  all_suffixed c s q = go (ends_with c s) refl
    where
      go : (t : Bool) → ends_with c s ≡ t → all p (cond t (take (length s - 1) s) s) ≡ true → all p s ≡ true
      go true e h =
          let l : length s - 1 < length s = omega (arith, ends_some c s e) in
          let f = eqb-true (get_or s (length s - 1) 0) c ((and-eq-true_iff (not (eqb (length s) 0)) (eqb (get_or s (length s - 1) 0) c)).0 e).1 in
          all_around s (length s - 1) l h (rw f q) (rw (drop_of_length-le s {i = length s - 1 + 1} (omega arith)))
      go false e h = h

  all_prefixed : (c : ℕ) (s : List ℕ) → p c ≡ true → starts_with c s ≡ true → all p (drop 1 s) ≡ true → all p s ≡ true
  unfolding all
  all_prefixed c [] q e h = refl
  all_prefixed c (b ∷ s) q e h = rw (eqb-true b c ((and-eq-true_iff (not (eqb (suc (length s)) 0)) (eqb b c)).0 e).1, q, h)

  -- a text is of a class if its parts and their separator are
  all_onto : (b : ℕ) (ps : List (List ℕ)) → all (all p) (onto b ps) ≡ p b && all (all p) ps
  unfolding onto all
  all_onto b [] = and_assoc (p b) true true
  all_onto b (s ∷ ps) = and_assoc (p b) (all p s) (all (all p) ps)

  all_parts : (c : ℕ) → p c ≡ true → (s : List ℕ) → all (all p) (split c s) ≡ all p s
  unfolding split all
  all_parts c q [] = refl
  all_parts c q (b ∷ s) = go (eqb b c) refl (all_parts c q s)
    where
      go : (t : Bool) → eqb b c ≡ t → all (all p) (split c s) ≡ all p s → all (all p) (cond t ([] ∷ split c s) (onto b (split c s))) ≡ p b && all p s
      go true e i = i ∙ rw (eqb-true b c e, q)
      go false e i = all_onto b (split c s) ∙ rw i

parts_first : (p : List ℕ → Bool) (c : ℕ) (s : List ℕ) → all p (split c s) ≡ true → p (take (span (except c) s) s) ≡ true
parts_first p c s h = go (p (take (span (except c) s) s)) refl
  where
    go : (t : Bool) → p (take (span (except c) s) s) ≡ t → p (take (span (except c) s) s) ≡ true
    go true e = e
    go false e = absurd (false≢true (sym (parts_fail p c s e) ∙ h))

-- ---- dotted abbreviations

one_letter : (s : List ℕ) → is_one_letter s ≡ true → all letter s ≡ true
unfolding is_alpha
one_letter s h = ((and-eq-true_iff (not (eqb (length s) 0)) (all letter s)).0 ((and-eq-true_iff (eqb (length s) 1) (is_alpha s)).0 h).1).1

dotted_letters : (s : List ℕ) → is_dotted_abbrev s ≡ true → all is_one_letter (split (code ".") (strip_suffix (code ".") s)) ≡ true
unfolding is_dotted_abbrev
dotted_letters s h =
    let parts = split (code ".") (strip_suffix (code ".") s) in
    ((and-eq-true_iff (leb 2 (length parts)) (all is_one_letter parts)).0 h).1

-- a dotted abbreviation is letters and points
pub dotted_bytes : (s : List ℕ) → is_dotted_abbrev s ≡ true → all dotted_byte s ≡ true
dotted_bytes s h =
    let core = strip_suffix (code ".") s in
    all_suffixed dotted_byte (code ".") s refl
    (sym (all_parts dotted_byte (code ".") refl core)
    ∙ all_within is_one_letter (all dotted_byte)
    (λ t k. all_within letter dotted_byte (λ b e. or_true_left (letter b) (eqb b (code ".")) e) t (one_letter t k)) (split (code ".") core)
    (dotted_letters s h))

-- a text starts with a letter if its front does
first_letter : (n : ℕ) (s : List ℕ) → letter (get_or (take n s) 0 0) ≡ true → letter (get_or s 0 0) ≡ true
first_letter zero s h = absurd (false≢true h)
first_letter (suc n) [] h = h
first_letter (suc n) (b ∷ s) h = h

one_first : (s : List ℕ) → is_one_letter s ≡ true → letter (get_or s 0 0) ≡ true
unfolding all
one_first [] h = absurd (false≢true h)
one_first (b ∷ s) h = ((and-eq-true_iff (letter b) (all letter s)).0 (one_letter (b ∷ s) h)).0

-- a dotted abbreviation starts with a letter
pub dotted_first : (s : List ℕ) → is_dotted_abbrev s ≡ true → letter (get_or s 0 0) ≡ true
dotted_first s h =
    go (ends_with (code ".") s)
    (first_letter (span (except (code ".")) core) core
    (one_first (take (span (except (code ".")) core) core) (parts_first is_one_letter (code ".") core (dotted_letters s h))))
  where
    core : List ℕ
    core = strip_suffix (code ".") s

    go : (t : Bool) → letter (get_or (cond t (take (length s - 1) s) s) 0 0) ≡ true → letter (get_or s 0 0) ≡ true
    go true k = first_letter (length s - 1) s k
    go false k = k

-- ---- comma integers

digits_commas : (s : List ℕ) → is_digits s ≡ true → all digit_or_comma s ≡ true
digits_commas s h = all_within digit digit_or_comma (λ b e. or_true_left (digit b) (eqb b (code ",")) e) s (digits_all s h)

comma_groups : (ps : List (List ℕ)) → is_comma_groups ps ≡ true → all (all digit_or_comma) ps ≡ true
unfolding is_comma_groups all
comma_groups [] h = absurd (false≢true h)
comma_groups (s ∷ ps) h =
    let k = (and-eq-true_iff (is_digits s && leb (length s) 3 && not (eqb (length ps) 0)) (all (is_n_digits 3) ps)).0 h in
    let l = (and-eq-true_iff (is_digits s && leb (length s) 3) (not (eqb (length ps) 0))).0 k.0 in
    let m = (and-eq-true_iff (is_digits s) (leb (length s) 3)).0 l.0 in
    rw (
      digits_commas s m.0,
      all_within (is_n_digits 3) (all digit_or_comma) (λ t e. digits_commas t ((and-eq-true_iff (eqb (length t) 3) (is_digits t)).0 e).1) ps
          k.1,
    )

-- a comma integer is digits and commas
pub comma_bytes : (s : List ℕ) → is_comma_int s ≡ true → all digit_or_comma s ≡ true
comma_bytes s h = sym (all_parts digit_or_comma (code ",") refl s) ∙ comma_groups (split (code ",") s) h

-- it has a comma
pub comma_needed : (s : List ℕ) → is_comma_int s ≡ true → elem (code ",") s ≡ true
comma_needed s h = elem_span (code ",") s ∙ go (ltb (span (except (code ",")) s) (length s)) refl
  where
    go : (t : Bool) → ltb (span (except (code ",")) s) (length s) ≡ t → t ≡ true
    go true e = refl
    go false e = absurd (false≢true (sym (comma_none s (ltb-false _ _ e)) ∙ h))

-- ---- times, ranges and fractions

-- two texts that pass are digits
abbrev DigitsBoth : (List ℕ → List ℕ → Bool) → Type 0
DigitsBoth both = (a b : List ℕ) → both a b ≡ true → (all digit a ≡ true) × (all digit b ≡ true)

-- so are an hour and a minute, and the parts of a range or a fraction
hour_minute_digits : DigitsBoth is_hour_minute
hour_minute_digits h m e =
    let p = hour_minute_parts h m e in
    (digits_all h p.0, digits_all m ((and-eq-true_iff (eqb (length m) 2) (is_digits m)).0 p.1).1)

both_digits : DigitsBoth are_digits
both_digits a b e = let p = (and-eq-true_iff (is_digits a) (is_digits b)).0 e in (digits_all a p.0, digits_all b p.1)

-- digits, the byte at which a scan by q stops, and digits: all these bytes are of the class p
all_parted : (p q : ℕ → Bool) → ((b : ℕ) → digit b ≡ true → p b ≡ true) → ((b : ℕ) → q b ≡ false → p b ≡ true)
    → (both : List ℕ → List ℕ → Bool) → DigitsBoth both → (s : List ℕ)
    → (ltb (span q s) (length s) && both (take (span q s) s) (drop (span q s + 1) s)) ≡ true → all p s ≡ true
all_parted p q f g both d s h =
    let k = (and-eq-true_iff (ltb (span q s) (length s)) (both (take (span q s) s) (drop (span q s + 1) s))).0 h in
    let l = ltb-true (span q s) (length s) k.0 in
    let m = d (take (span q s) s) (drop (span q s + 1) s) k.1 in
    all_around p s (span q s) l (all_within digit p f (take (span q s) s) m.0) (g (get_or s (span q s) 0) (span_fails q s l))
    (all_within digit p f (drop (span q s + 1) s) m.1)

-- two texts of digits with the byte c between are digits and c
separated_bytes : (c : ℕ) (both : List ℕ → List ℕ → Bool) → DigitsBoth both → (s : List ℕ) → split_once c both s ≡ true
    → all (digit_or c) s ≡ true
unfolding split_once
separated_bytes c both d s h =
    all_parted (digit_or c) (except c) (λ b e. or_true_left (digit b) (eqb b c) e)
    (λ b e. or_true_right (digit b) (eqb b c) (not-false (eqb b c) e)) both d s h

-- a time is digits and colons
pub time_bytes : (s : List ℕ) → is_time s ≡ true → all (digit_or (code ":")) s ≡ true
time_bytes = separated_bytes (code ":") is_hour_minute hour_minute_digits

-- a range is digits and hyphens
pub range_bytes : (s : List ℕ) → is_range s ≡ true → all (digit_or (code "-")) s ≡ true
range_bytes = separated_bytes (code "-") are_digits both_digits

-- a fraction is digits and slashes
pub fraction_bytes : (s : List ℕ) → is_digits_slash_digits s ≡ true → all (digit_or (code "/")) s ≡ true
fraction_bytes = separated_bytes (code "/") are_digits both_digits

-- a text that `split_once` takes has the separator
pub separator_needed : (c : ℕ) (both : List ℕ → List ℕ → Bool) (s : List ℕ) → split_once c both s ≡ true → elem c s ≡ true
unfolding split_once
separator_needed c both s h =
    let at = span (except c) s in
    elem_span c s ∙ ((and-eq-true_iff (ltb at (length s)) (both (take at s) (drop (at + 1) s))).0 h).0

-- a byte that is a small letter after lowering is a letter; the same for all bytes of a text
lowered_letter : (b : ℕ) → lowercase (to_lower b) ≡ true → letter b ≡ true
lowered_letter b h = go (uppercase b) h
  where
    go : (t : Bool) → lowercase (cond t (b + 32) b) ≡ true → (t || lowercase b) ≡ true
    go true h = refl
    go false h = h

lowered_letters : (s t : List ℕ) → all lowercase t ≡ true → same_by to_lower s t ≡ true → all letter s ≡ true
unfolding all same_by
lowered_letters [] t k h = refl
lowered_letters (b ∷ s) [] k h = absurd (false≢true h)
lowered_letters (b ∷ s) (c ∷ t) k h =
    let x = (and-eq-true_iff (eqb (to_lower b) c) (same_by to_lower s t)).0 h in
    let y = (and-eq-true_iff (lowercase c) (all lowercase t)).0 k in
    rw (lowered_letter b (rw (eqb-true (to_lower b) c x.0) y.0), lowered_letters s t y.1 x.1)

-- the last of two bytes
second : (f : ℕ → ℕ) (c d : ℕ) (s : List ℕ) → same_by f s (c ∷ d ∷ []) ≡ true → f (get_or s 1 0) ≡ d
unfolding same_by
second f c d [] h = absurd (false≢true h)
second f c d (a ∷ []) h = absurd (false≢true ((and-eq-true_iff (eqb (f a) c) false).0 h).1)
second f c d (a ∷ b ∷ s) h =
    eqb-true (f b) d
    ((and-eq-true_iff (eqb (f b) d) (same_by f s [])).0 ((and-eq-true_iff (eqb (f a) c) (eqb (f b) d && same_by f s [])).0 h).1).0

-- the last two bytes of a text that ends in two letters, for am and pm
ends_lowered : (c d : ℕ) (s : List ℕ) → all lowercase (c ∷ d ∷ []) ≡ true → ends_with_by to_lower (c ∷ d ∷ []) s ≡ true
    → (all letter (drop (length s - 2) s) ≡ true) × (to_lower (get_or s (length s - 1) 0) ≡ d)
ends_lowered c d s k h =
    let x = (and-eq-true_iff (leb 2 (length s)) (same_by to_lower (drop (length s - 2) s) (c ∷ d ∷ []))).0 h in
    let n : length s - 2 + 1 ≡ length s - 1 = omega (arith, leb-true 2 (length s) x.0) in (
      lowered_letters (drop (length s - 2) s) (c ∷ d ∷ []) k x.1,
      ap to_lower (ap (λ (i : ℕ). get_or s i 0) (sym n) ∙ sym (get_or-drop (length s - 2) s 1 0)) ∙ second to_lower c d (drop (length s - 2) s) x.1,
    )

meridiem_end : (s : List ℕ) → ends_in_meridiem s ≡ true → (all letter (drop (length s - 2) s) ≡ true) × (to_lower (get_or s (length s - 1) 0) ≡ code "m")
unfolding all
meridiem_end s =
    or_true_elim (ends_with_by to_lower (bytes "am") s) (ends_with_by to_lower (bytes "pm") s) (ends_lowered (code "a") (code "m") s refl)
    (ends_lowered (code "p") (code "m") s refl)

separator_byte : (b : ℕ) → not_colon_or_point b ≡ false → meridiem_byte b ≡ true
separator_byte b h = or_true_elim (eqb b (code ":")) (eqb b (code "."))
    (λ e. rw (e, or-true (letter b || digit b))) (λ e. rw (e, or-true (letter b || digit b || eqb b (code ":"))))
    (not-false (eqb b (code ":") || eqb b (code ".")) h)

meridiem_parts : (s : List ℕ) → is_meridiem_time s ≡ true
    → (ends_in_meridiem s ≡ true)
    × ((ltb (separator_at (time_of s)) (length (time_of s)) && is_hour_minute (take (separator_at (time_of s)) (time_of s))
    (drop (separator_at (time_of s) + 1) (time_of s)))
    ≡ true)
meridiem_parts s h =
    (and-eq-true_iff (ends_in_meridiem s)
    (ltb (separator_at (time_of s)) (length (time_of s)) && is_hour_minute (take (separator_at (time_of s)) (time_of s))
    (drop (separator_at (time_of s) + 1) (time_of s)))).0 h

-- a time with am or pm is letters, digits, colons and points
pub meridiem_bytes : (s : List ℕ) → is_meridiem_time s ≡ true → all meridiem_byte s ≡ true
meridiem_bytes s h =
    let k = meridiem_parts s h in
    let digit_in : (b : ℕ) → digit b ≡ true → meridiem_byte b ≡ true = λ b e. rw (e, or-true (letter b)) in
    all_joined meridiem_byte (length s - 2) s
    (all_parted meridiem_byte not_colon_or_point digit_in separator_byte is_hour_minute hour_minute_digits (time_of s) k.1)
    (all_within letter meridiem_byte (λ b e. rw e) (drop (length s - 2) s) (meridiem_end s k.0).0)

-- its last byte, lowered, is an m
pub meridiem_last : (s : List ℕ) → is_meridiem_time s ≡ true → to_lower (get_or s (length s - 1) 0) ≡ code "m"
meridiem_last s h = (meridiem_end s (meridiem_parts s h).0).1

-- ---- figures

-- a digit is a byte of figures
pub digit_double : (b : ℕ) → digit b ≡ true → double_byte b ≡ true
digit_double b h = rw h

double_either : (c d : ℕ) (s : List ℕ) → double_byte c ≡ true → double_byte d ≡ true → all double_byte (drop 1 s) ≡ true
    → (starts_with c s || starts_with d s) ≡ true → all double_byte s ≡ true
double_either c d s x y h = or_true_elim (starts_with c s) (starts_with d s) (λ e. all_prefixed double_byte c s x e h) (λ e. all_prefixed double_byte d s y e h)

double_signed : (s : List ℕ) → all double_byte (strip_sign s) ≡ true → all double_byte s ≡ true
double_signed s = go (starts_with (code "+") s || starts_with (code "-") s) refl
  where
    go : (t : Bool) → (starts_with (code "+") s || starts_with (code "-") s) ≡ t → all double_byte (cond t (drop 1 s) s) ≡ true → all double_byte s ≡ true
    go true e h = double_either (code "+") (code "-") s refl refl h e
    go false e h = h

double_digits : (s : List ℕ) → is_digits s ≡ true → all double_byte s ≡ true
double_digits s h = all_within digit double_byte digit_double s (digits_all s h)

empty_all : (p : ℕ → Bool) (s : List ℕ) → eqb (length s) 0 ≡ true → all p s ≡ true
unfolding all
empty_all p [] h = refl
empty_all p (b ∷ s) h = absurd (let e = eqb-true (suc (length s)) 0 h in omega arith)

exponent_bytes : (s : List ℕ) → is_exponent s ≡ true → all double_byte s ≡ true
unfolding is_exponent
exponent_bytes s = go (starts_with (code "e") s || starts_with (code "E") s) refl
  where
    go : (t : Bool) → (starts_with (code "e") s || starts_with (code "E") s) ≡ t
        → cond t (is_digits (strip_sign (drop 1 s))) (eqb (length s) 0) ≡ true → all double_byte s ≡ true
    go true e h = double_either (code "e") (code "E") s refl refl (double_signed (drop 1 s) (double_digits (strip_sign (drop 1 s)) h)) e
    go false e h = empty_all double_byte s h

unsigned_bytes : (s : List ℕ) → is_unsigned s ≡ true → all double_byte s ≡ true
unfolding is_unsigned
unsigned_bytes s h = all_joined double_byte (span digit s) s (front s) (go (starts_with (code ".") rest) refl h)
  where
    front : (t : List ℕ) → all double_byte (take (span digit t) t) ≡ true
    front t = all_within digit double_byte digit_double (take (span digit t) t) (span_all digit t)

    rest : List ℕ
    rest = drop (span digit s) s

    frac : List ℕ
    frac = drop 1 rest

    go : (t : Bool) → starts_with (code ".") rest ≡ t
        → cond t (not (eqb (span digit s) 0 && eqb (span digit frac) 0) && is_exponent (drop (span digit frac) frac))
        (not (eqb (span digit s) 0) && is_exponent rest) ≡ true
        → all double_byte rest ≡ true
    go true e k =
        let x =
        exponent_bytes (drop (span digit frac) frac)
        ((and-eq-true_iff (not (eqb (span digit s) 0 && eqb (span digit frac) 0)) (is_exponent (drop (span digit frac) frac))).0 k).1 in
        all_prefixed double_byte (code ".") rest refl e (all_joined double_byte (span digit frac) frac (front frac) x)
    go false e k = exponent_bytes rest ((and-eq-true_iff (not (eqb (span digit s) 0)) (is_exponent rest)).0 k).1

-- a figure is digits, points, "e", "E" and signs
pub double_bytes : (s : List ℕ) → is_double s ≡ true → all double_byte s ≡ true
double_bytes s = go (starts_with (code "-") s) refl
  where
    go : (t : Bool) → starts_with (code "-") s ≡ t → is_unsigned (cond t (drop 1 s) s) ≡ true → all double_byte s ≡ true
    go true e h = all_prefixed double_byte (code "-") s refl e (unsigned_bytes (drop 1 s) h)
    go false e h = unsigned_bytes s h

-- ---- ordinals

suffix_letters : (s : List ℕ) → is_ordinal_suffix s ≡ true → all letter s ≡ true
unfolding all
suffix_letters s =
    or_true_elim (same_by to_lower s (bytes "th") || same_by to_lower s (bytes "st") || same_by to_lower s (bytes "nd")) (same_by to_lower s (bytes "rd"))
    (or_true_elim (same_by to_lower s (bytes "th") || same_by to_lower s (bytes "st")) (same_by to_lower s (bytes "nd"))
    (or_true_elim (same_by to_lower s (bytes "th")) (same_by to_lower s (bytes "st")) (lowered_letters s (bytes "th") refl) (lowered_letters s (bytes "st") refl))
    (lowered_letters s (bytes "nd") refl)) (lowered_letters s (bytes "rd") refl)

-- an ordinal number is letters, digits and commas
pub ordinal_bytes : (s : List ℕ) → is_ordinal s ≡ true → all ordinal_byte s ≡ true
unfolding is_ordinal
ordinal_bytes s h =
    let num = take (length s - 2) s in
    let suffix = drop (length s - 2) s in
    let a = leb 3 (length s) && starts_char (get_or suffix 0 0) in
    let x = (and-eq-true_iff (a && is_ordinal_suffix suffix && digit (get_or num 0 0)) (all digit_or_comma num)).0 h in
    let y = (and-eq-true_iff (a && is_ordinal_suffix suffix) (digit (get_or num 0 0))).0 x.0 in
    let z = (and-eq-true_iff a (is_ordinal_suffix suffix)).0 y.0 in
    all_joined ordinal_byte (length s - 2) s (all_within digit_or_comma ordinal_byte (λ b e. or_true_right (letter b) (digit_or_comma b) e) num x.1)
    (all_within letter ordinal_byte (λ b e. or_true_left (letter b) (digit_or_comma b) e) suffix (suffix_letters suffix z.1))

-- ---- names that a row does not take

-- a name whose bytes are of the class p
module _ (p : ℕ → Bool) (s : List ℕ) (h : all p s ≡ true) where
  -- if the class has no comma, the name is no comma integer
  pub no_comma : p (code ",") ≡ false → is_comma_int s ≡ false
  no_comma n = needs_other (is_comma_int s) p (code ",") s (comma_needed s) n h

  -- if it has no colon, the name is no time
  pub no_time : p (code ":") ≡ false → is_time s ≡ false
  no_time n = needs_other (is_time s) p (code ":") s (separator_needed (code ":") is_hour_minute s) n h

  -- if it has no hyphen, the name is no range
  pub no_range : p (code "-") ≡ false → is_range s ≡ false
  no_range n = needs_other (is_range s) p (code "-") s (separator_needed (code "-") are_digits s) n h

  -- if it has no slash, the name is no fraction
  pub no_fraction : p (code "/") ≡ false → is_digits_slash_digits s ≡ false
  no_fraction n = needs_other (is_digits_slash_digits s) p (code "/") s (separator_needed (code "/") are_digits s) n h

  -- if it has no colon and no point, the name is no time with am or pm
  pub no_meridiem : p (code ":") ≡ false → p (code ".") ≡ false → is_meridiem_time s ≡ false
  no_meridiem m n =
      let t = time_of s in
      let unmarked = all_within p not_colon_or_point (λ b k. rw (class_apart p (code ":") b m k, class_apart p (code ".") b n k)) in
      let e : separator_at t ≡ length t = all_span not_colon_or_point t (unmarked t (all_split p s (length s - 2) h).0) in
      rw (e, le-ltb (length t) (length t) (omega arith)) (and-false (ends_in_meridiem s))

-- none of the rows 1 to 5 takes the name
pub record PastTimes (s : List ℕ) : Type 0 where
  pub empty : eqb (length s) 0 ≡ false
  pub dotted : is_dotted_abbrev s ≡ false
  pub comma : is_comma_int s ≡ false
  pub time : is_time s ≡ false
  pub meridiem : is_meridiem_time s ≡ false

-- this holds of a name without comma and colon that is not empty, does not start with a letter, and is no time with am or pm
pub past_times : (p : ℕ → Bool) (s : List ℕ) → all p s ≡ true → p (code ",") ≡ false → p (code ":") ≡ false → 0 < length s
    → letter (get_or s 0 0) ≡ false → is_meridiem_time s ≡ false → PastTimes s
past_times p s h c d z l m = record {
  empty = ne_eqb (length s) 0 (omega arith);
  dotted = untaken (is_dotted_abbrev s) (λ e. false≢true (sym l ∙ dotted_first s e));
  comma = no_comma p s h c;
  time = no_time p s h d;
  meridiem = m;
}

-- a name of a class does not end in a byte outside it
pub no_ending : (p : ℕ → Bool) (c : ℕ) (s : List ℕ) → p c ≡ false → all p s ≡ true → ends_with c s ≡ false
no_ending p c s n h = untaken (ends_with c s) (λ e.
    let k = all_at p 0 s (length s - 1) h (omega (arith, ends_some c s e)) in
    false≢true (sym (class_apart p c (get_or s (length s - 1) 0) n k) ∙ ((and-eq-true_iff (not (eqb (length s) 0)) (eqb (get_or s (length s - 1) 0) c)).0 e).1))
