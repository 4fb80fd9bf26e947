-- What rows 4 and 5 say of a time, from its hour and its minute. Assumes nothing.
use mathlib.Core.Path.{◌≡◌, refl, sym, ap, ◌∙◌}
use mathlib.Core.Bool.{Bool, true, false, cond, ◌||◌, and-eq-true_iff, or-true, false≢true}
use mathlib.Core.List.{List, [], ◌∷◌, ◌++◌, append_assoc, append-nil}
use Prim.Native.Nat.{ℕ, ◌+◌, ◌-◌, ◌<◌}
use Prim.Native.Char.{code}
use native.Mathlib.Omega.{arith}
use lib.Dec.{eqb}
use lib.ListN.{length, take, drop, get_or, length-append, get_or-append}
use lib.Seq.{take_at, drop_at, take-append_seam, drop-append_seam, drop-append-add}
use borrow.Author.Tests.{eqb-true, eq-eqb, ne_eqb, not-false}
use Rattle.lists.specs.Bytes.{bytes, span, elem, all, same, same_by, any}
use Rattle.lists.specs.Classes.{digit, letter, digit_or_comma, except, not_colon_or_point}
use Rattle.lists.proofs.Scan.{all_span, all_at, span_before, any_append}
use Rattle.lists.proofs.Bools.{or_true_elim}
use Rattle.shapes.specs.Shapes.{is_digits, is_hour_minute, is_dotted_abbrev, is_comma_int, is_time}
use Rattle.shapes.specs.Times.{time_of, separator_at, is_meridiem_time, time_parts}
use Rattle.shapes.specs.Grammar.{is_meridiem, meridiem_time}
use Rattle.shapes.proofs.Laws.{digits_all, digits_some, time_length}
use Rattle.shapes.proofs.Grammar.{no_separator, once_taken, hour_minute_parts, hour_unparted, meridiem_length, meridiem_form}
use Rattle.numerals.specs.Words.{Word, other}
use Rattle.numerals.specs.Cardinal.{cardinal}
use Rattle.years.specs.Year.{year}
use Rattle.letters.specs.Letters.{letters}
use Rattle.rows.specs.Rows.{by, clock, full_hour, clock_letters, read_step, read_with}
use Rattle.rows.specs.declared.Row.TheVariants.{Time, Meridiem}
use Rattle.rows.proofs.Laws.{step_eq}
use Rattle.rows.proofs.Taken.{digit_no_letter, untaken, outside, dotted_first, comma_bytes}

-- an hour, a colon or a point, and t behind it
module _ (h : List ℕ) (c : ℕ) (t : List ℕ) (d : all digit h ≡ true) (z : 0 < length h) (k : not_colon_or_point c ≡ false) where
  abbrev name : List ℕ
  name = h ++ (c ∷ t)

  -- the separator stands in the name
  has_separator : elem c name ≡ true
  unfolding any
  has_separator = any_append (λ b. eqb b c) h (c ∷ t) ∙ rw (eq-eqb c c refl) (or-true (any (λ b. eqb b c) h))

  -- it is neither a digit nor a comma
  separator_no_digit : digit_or_comma c ≡ false
  separator_no_digit =
      or_true_elim (eqb c (code ":")) (eqb c (code ".")) (λ e. rw (eqb-true c (code ":") e)) (λ e. rw (eqb-true c (code ".") e))
      (not-false (eqb c (code ":") || eqb c (code ".")) k)

  -- the name starts with no letter
  first_no_letter : letter (get_or name 0 0) ≡ false
  first_no_letter = rw (get_or-append h (c ∷ t) 0 0 z) (digit_no_letter (get_or h 0 0) (all_at digit 0 h 0 d z))

  -- the rows before row 4 do not take the name
  first_rows : (eqb (length name) 0 ≡ false) × (is_dotted_abbrev name ≡ false) × (is_comma_int name ≡ false)
  first_rows = (
    ne_eqb (length name) 0 (λ e. omega (arith, length-append h (c ∷ t))),
    untaken (is_dotted_abbrev name) (λ e. false≢true (sym first_no_letter ∙ dotted_first name e)),
    outside (is_comma_int name) digit_or_comma c name (comma_bytes name) separator_no_digit has_separator,
  )

-- an hour and a minute, as `is_time` takes them
module _ (word : List ℕ → List ℕ) (h m : List ℕ) (p : is_hour_minute h m ≡ true) where
  -- the hour is digits, and not empty
  hour_digits : all digit h ≡ true
  hour_digits = digits_all h (hour_minute_parts h m p).0

  hour_not_empty : 0 < length h
  hour_not_empty = digits_some h (hour_minute_parts h m p).0

  -- the minute is two bytes
  minute_length : length m ≡ 2
  minute_length = eqb-true (length m) 2 ((and-eq-true_iff (eqb (length m) 2) (is_digits m)).0 (hour_minute_parts h m p).1).0

  -- a scan over a class that has all bytes of the hour stops at the separator after it
  separator_after : (q : ℕ → Bool) → all q h ≡ true → (c : ℕ) → q c ≡ false → span q (h ++ (c ∷ m)) ≡ length h
  separator_after q d c e = span_before q h c m e ∙ all_span q h d

  -- the hour has no colon
  no_colon : all (except (code ":")) h ≡ true
  no_colon = no_separator (code ":") refl h (hour_minute_parts h m p).0

  -- a time is read as its hour and its minute, and a full hour has one word more
  pub time_row : read_with word (h ++ (bytes ":" ++ m)) ≡ by Time (clock h m ++ full_hour m)
  unfolding read_step
  time_row =
      let s = h ++ (bytes ":" ++ m) in
      let (a, b, c) = first_rows h (code ":") m hour_digits hour_not_empty refl in
      step_eq word s
      ∙ rw (
        a,
        b,
        c,
        once_taken (code ":") is_hour_minute h m no_colon p,
        separator_after (except (code ":")) no_colon (code ":") refl,
        take-append_seam h (bytes ":" ++ m),
        drop-append_seam h (bytes ":" ++ m),
      )

  -- such a time with a colon or a point, and am or pm behind it
  module _ (c : ℕ) (k : not_colon_or_point c ≡ false) (x : List ℕ) (e : is_meridiem x ≡ true) where
    abbrev time : List ℕ
    time = h ++ (c ∷ m)

    abbrev whole : List ℕ
    whole = h ++ (c ∷ (m ++ x))

    -- the whole is the time and am or pm, which is two bytes
    joined : time ++ x ≡ whole
    joined = append_assoc h (c ∷ m) x

    whole_length : length whole ≡ length time + 2
    whole_length = ap length (sym joined) ∙ length-append time x ∙ ap (λ n. length time + n) (meridiem_length x e)

    -- so each of the two is found by its place
    front : time_of whole ≡ time
    front = ap (take (length whole - 2)) (sym joined) ∙ take_at time x (length whole - 2) (omega (arith, whole_length))

    back : drop (length whole - 2) whole ≡ x
    back = ap (drop (length whole - 2)) (sym joined) ∙ drop_at time x (length whole - 2) (omega (arith, whole_length))

    -- row 5 takes the whole, and row 4 does not
    meridiem_taken : is_meridiem_time whole ≡ true
    meridiem_taken = rw joined at ((meridiem_form (time ++ x)).1 (meridiem_time h m x c p k e))

    no_time : is_time whole ≡ false
    no_time = time_length whole (omega (arith, whole_length, length-append h (c ∷ m), hour_not_empty, minute_length))

    -- a time with am or pm is read as its hour and its minute, and then its letters
    pub meridiem_row : read_with word whole ≡ by Meridiem (clock h m ++ letters x)
    unfolding read_step time_parts clock_letters
    meridiem_row =
        let (a, b, d) = first_rows h c (m ++ x) hour_digits hour_not_empty k in
        let at : separator_at time ≡ length h = separator_after not_colon_or_point (hour_unparted h m p) c k in
        step_eq word whole
        ∙ rw (a, b, d, no_time, meridiem_taken, front, back, at, take-append_seam h (c ∷ m), drop-append-add h (c ∷ m) 1)

-- ---- full hours and other minutes

-- the words of a full hour, behind those of the hour
abbrev pub oclock : List Word
oclock = other (bytes "o'clock") ∷ []

-- what is said after the hour: the minute, or `full` if the minute is "00". Row 5 says `minute_words []` there
abbrev pub minute_words : List Word → List ℕ → List Word
minute_words full m = cond (same m (bytes "00")) full (year m)

-- after the hour row 4 says "o'clock" if the minute is "00", else the minute
pub time_words : (h m : List ℕ) → clock h m ++ full_hour m ≡ cardinal h ++ minute_words oclock m
unfolding clock full_hour
time_words h m = go (same m (bytes "00")) refl
  where
    go : (b : Bool) → same m (bytes "00") ≡ b → clock h m ++ full_hour m ≡ cardinal h ++ minute_words oclock m
    go true e = rw (e, append-nil (cardinal h))
    go false e = rw (e, append-nil (cardinal h ++ year m))

-- 02, A1: "In row 4 a minute of "00" shall add the word "o'clock" after the hour."
pub full_hour_read : (word : List ℕ → List ℕ) (h : List ℕ) → is_hour_minute h (bytes "00") ≡ true
    → read_with word (h ++ bytes ":00") ≡ by Time (cardinal h ++ other (bytes "o'clock") ∷ [])
unfolding same_by
full_hour_read word h p = time_row word h (bytes "00") p ∙ ap (by Time) (time_words h (bytes "00"))

-- any other minute is read by `year`
pub other_minute_read : (word : List ℕ → List ℕ) (h m : List ℕ) → is_hour_minute h m ≡ true → same m (bytes "00") ≡ false
    → read_with word (h ++ (bytes ":" ++ m)) ≡ by Time (cardinal h ++ year m)
other_minute_read word h m p n = time_row word h m p ∙ rw (time_words h m, n)

-- 02, A1: "Row 5 keeps its reading, since am or pm already tells."
pub full_hour_with_meridiem_read : (word : List ℕ → List ℕ) (h : List ℕ) → is_hour_minute h (bytes "00") ≡ true → (c : ℕ)
    → not_colon_or_point c ≡ false → (x : List ℕ) → is_meridiem x ≡ true
    → read_with word (h ++ (c ∷ (bytes "00" ++ x))) ≡ by Meridiem (cardinal h ++ letters x)
unfolding clock same_by
full_hour_with_meridiem_read word h p c k x e = meridiem_row word h (bytes "00") p c k x e ∙ rw (append-nil (cardinal h))
