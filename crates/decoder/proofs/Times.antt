-- Hours and minutes as numbers, and what their words are decoded as: tests of each hour and of each minute. Assumes nothing.
use mathlib.Core.Path.{◌≡◌, refl, sym, ap, ap₂, ◌∙◌}
use mathlib.Core.Bool.{Bool, true, false, not, ◌&&◌, and-false, and-eq-true_iff, or-true, false≢true}
use mathlib.Core.List.{List, [], ◌∷◌, ◌++◌, map}
use Prim.Native.Nat.{ℕ, ◌+◌, ◌-◌, ◌*◌, ◌/◌, ◌%◌, ◌≤◌, ◌<◌}
use native.Mathlib.Omega.{arith}
use lib.Dec.{ltb, leb, eqb}
use lib.ListN.{length, get_or}
use borrow.Author.Tests.{leb-true, eqb-true, not-true}
use Rattle.lists.specs.Bytes.{bytes, same_by, filter_if, all, any}
use Rattle.lists.specs.Recur.{recur, recur_at}
use Rattle.lists.proofs.Table.{upto, below}
use Rattle.lists.proofs.Scan.{all_append, any_append}
use Rattle.shapes.specs.Shapes.{is_digits, is_n_digits}
use Rattle.shapes.proofs.Laws.{digits_all}
use Rattle.numerals.specs.Words.{Word}
use Rattle.numerals.specs.Cardinal.{digit_value, digit_values, pair_words, join_at_scale, by_scale, cardinal_step, short_cardinal, cardinal_of, cardinal}
use Rattle.numerals.specs.Value.{decimal_from, decimal}
use Rattle.years.specs.Year.{year_step, year_of, year}
use Rattle.rows.specs.Rows.{clock, full_hour}
use Rattle.rows.proofs.Times.{oclock, minute_words, time_words}
use Rattle.clear.specs.Clear.{is_hour, is_minute}
use Rattle.numerals.specs.Walk.{BelowTen}
use Rattle.numerals.proofs.NumberWords.{digit_values_below_ten}
use Rattle.decoder.specs.Decode.{digit_bytes, decimal_digits, digit_of, is_one, value_below_hundred, is_minute_only, time_like, decode_minute, decode_time, time_text, is_below_hundred}
use Rattle.clear.proofs.Figures.{plain_digits}
use Rattle.clear.proofs.Times.{hour_parts}
use Rattle.decoder.proofs.DecimalDigits.{digit_values_all, digit_bytes_digit_values, digit_values_length, plain_values, decimal_digits_plain}

-- ---- hours and minutes as numbers

-- a minute has two digits, the first at most 5
pub minute_parts : (m : List ℕ) → is_minute m ≡ true → (is_digits m ≡ true) × (length m ≡ 2) × (get_or m 0 0 ≤ 53)
minute_parts m e =
    let p : is_n_digits 2 m ≡ true = ((and-eq-true_iff (is_n_digits 2 m) (leb (get_or m 0 0) 53)).0 e).0 in (
      ((and-eq-true_iff (eqb (length m) 2) (is_digits m)).0 p).1,
      eqb-true (length m) 2 ((and-eq-true_iff (eqb (length m) 2) (is_digits m)).0 p).0,
      leb-true (get_or m 0 0) 53 ((and-eq-true_iff (is_n_digits 2 m) (leb (get_or m 0 0) 53)).0 e).1,
    )

-- the bytes of an hour and of a minute
abbrev hour_bytes : ℕ → List ℕ
hour_bytes h = digit_bytes (decimal_digits 1 h [])

abbrev minute_bytes : ℕ → List ℕ
minute_bytes m = digit_bytes (m / 10 ∷ m % 10 ∷ [])

two_digits_below : (s : List ℕ) → BelowTen s → length s ≤ 2 → decimal s < 100
unfolding decimal decimal_from
two_digits_below [] d l = omega arith
two_digits_below (a ∷ []) d l = let p : a < 10 = d.0 in omega arith
two_digits_below (a ∷ b ∷ []) d l = let p : a < 10 = d.0 in let q : b < 10 = d.1.0 in omega arith
two_digits_below (a ∷ b ∷ c ∷ s) d l = absurd (omega arith)

hour_number : (h : List ℕ) → is_hour h ≡ true → (k : ℕ) × (k < 100) × (h ≡ hour_bytes k)
hour_number h e =
    let (p, l) = hour_parts h e in
    let d = plain_digits h p in
    let n : length (digit_values h) ≤ 2 = rw (digit_values_length h d) l in (
      decimal (digit_values h),
      two_digits_below (digit_values h) (digit_values_below_ten h) n,
      sym (ap digit_bytes (decimal_digits_plain (digit_values h) 1 (digit_values_below_ten h) (plain_values h p) n) ∙ digit_bytes_digit_values h d),
    )

minute_number : (m : List ℕ) → is_minute m ≡ true → (k : ℕ) × (k < 60) × (m ≡ minute_bytes k)
minute_number m e =
    let (d, l, r) = minute_parts m e in
    let (k, i, f) = go m l r (rw (digit_values_all m (digits_all m d)) at (digit_values_below_ten m)) in
    (k, i, sym (digit_bytes_digit_values m d) ∙ ap digit_bytes (digit_values_all m (digits_all m d) ∙ f))
  where
    go : (m : List ℕ) → length m ≡ 2 → get_or m 0 0 ≤ 53 → BelowTen (map digit_value m) → (k : ℕ) × (k < 60) × (map digit_value m ≡ k / 10 ∷ k % 10 ∷ [])
    go [] l r d = absurd (omega arith)
    go (a ∷ []) l r d = absurd (omega arith)
    go (a ∷ b ∷ c ∷ s) l r d = absurd (omega arith)
    go (a ∷ b ∷ []) l r d =
        let k = 10 * (a - 48) + (b - 48) in
        let q : b - 48 < 10 = d.1.0 in
        let x : a - 48 ≡ k / 10 = omega arith in
        let y : b - 48 ≡ k % 10 = omega arith in
        (k, omega arith, ap₂ (λ (x y : ℕ). x ∷ y ∷ []) x y)

-- ---- the words of an hour, and of a minute

-- the words of the hour k: one word, or tens and ones
unfoldable is_hour_of : ℕ → List Word → Bool
is_hour_of k [] = false
is_hour_of k (w ∷ []) = eqb (value_below_hundred w) k
is_hour_of k (w ∷ v ∷ []) = (ltb 19 (value_below_hundred w) && (ltb 0 (digit_of v) && is_one v)) && eqb (value_below_hundred w + value_below_hundred v) k
is_hour_of k (w ∷ v ∷ u ∷ ws) = false

abbrev hourly : ℕ → List Word → Bool
hourly k ws = all is_below_hundred ws && is_hour_of k ws

-- the words of the minute k: none, or words of which the first is not of ONES
unfoldable is_minute_of : ℕ → List Word → Bool
is_minute_of k [] = eqb 0 k
is_minute_of k (v ∷ ws) = not (is_one v) && eqb (decode_minute (v ∷ ws)) k

abbrev minutely : ℕ → List Word → Bool
minutely k ws = all is_below_hundred ws && is_minute_of k ws

-- the words of the minute k, one of which only a minute has
abbrev tells_minute : ℕ → List Word → Bool
tells_minute k ws = minutely k ws && any is_minute_only ws

-- what is said for each minute k passes the test f, if `full` is said for "00"
abbrev AllMinutes : (ℕ → List Word → Bool) → List Word → Type 0
AllMinutes f full = upto (λ k. f k (minute_words full (minute_bytes k))) 60 ≡ true

-- all hours and all minutes, computed
hours : upto (λ k. hourly k (cardinal (hour_bytes k))) 100 ≡ true
unfolding is_hour_of digit_bytes decimal_digits digit_values filter_if pair_words join_at_scale by_scale cardinal_step short_cardinal cardinal_of cardinal recur recur_at value_below_hundred digit_of all
hours = refl

minutes : AllMinutes minutely []
unfolding is_minute_of same_by digit_bytes digit_values filter_if pair_words cardinal_step short_cardinal cardinal_of recur recur_at year_step year_of year decode_minute value_below_hundred digit_of all
minutes = refl

minutes_or_oclock : AllMinutes tells_minute oclock
unfolding is_minute_of same_by digit_bytes digit_values filter_if pair_words cardinal_step short_cardinal cardinal_of recur recur_at year_step year_of year decode_minute value_below_hundred digit_of all any
minutes_or_oclock = refl

hour_words : (h : List ℕ) → is_hour h ≡ true → (k : ℕ) × (h ≡ hour_bytes k) × (hourly k (cardinal h) ≡ true)
hour_words h p =
    let (k, l, e) = hour_number h p in
    (k, e, ap (λ s. hourly k (cardinal s)) e ∙ below (λ k. hourly k (cardinal (hour_bytes k))) 100 hours k l)

minute_words_lem : (f : ℕ → List Word → Bool) (full : List Word) → AllMinutes f full → (m : List ℕ) → is_minute m ≡ true
    → (k : ℕ) × (m ≡ minute_bytes k) × (f k (minute_words full m) ≡ true)
minute_words_lem f full all_minutes m p =
    let (k, l, e) = minute_number m p in
    (k, e, ap (λ s. f k (minute_words full s)) e ∙ below (λ k. f k (minute_words full (minute_bytes k))) 60 all_minutes k l)

-- ---- a time is decoded

minute_decoded : (m : ℕ) (vs : List Word) → is_minute_of m vs ≡ true → decode_minute vs ≡ m
unfolding is_minute_of decode_minute
minute_decoded m [] q = eqb-true 0 m q
minute_decoded m (v ∷ vs) q = eqb-true (decode_minute (v ∷ vs)) m ((and-eq-true_iff (not (is_one v)) _).0 q).1

hour_minute_decoded : (h m : ℕ) (ws vs : List Word) → is_hour_of h ws ≡ true → is_minute_of m vs ≡ true → decode_time (ws ++ vs) ≡ time_text h m
unfolding is_hour_of is_minute_of decode_time
hour_minute_decoded h m [] vs p q = absurd (false≢true p)
hour_minute_decoded h m (w ∷ []) [] p q =
    let e : value_below_hundred w ≡ h = eqb-true (value_below_hundred w) h p in
    let z : 0 ≡ m = eqb-true 0 m q in
    ap₂ time_text e z
hour_minute_decoded h m (w ∷ []) (v ∷ vs) p q =
    let e : value_below_hundred w ≡ h = eqb-true (value_below_hundred w) h p in
    let o : is_one v ≡ false = not-true (is_one v) ((and-eq-true_iff (not (is_one v)) _).0 q).0 in
    rw (o, and-false, and-false) (ap₂ time_text e (minute_decoded m (v ∷ vs) q))
hour_minute_decoded h m (w ∷ v ∷ []) vs p q =
    let two : Bool = ltb 19 (value_below_hundred w) && (ltb 0 (digit_of v) && is_one v) in
    let o : two ≡ true = ((and-eq-true_iff two (eqb (value_below_hundred w + value_below_hundred v) h)).0 p).0 in
    let e : value_below_hundred w + value_below_hundred v ≡ h = eqb-true _ h ((and-eq-true_iff two (eqb (value_below_hundred w + value_below_hundred v) h)).0 p).1 in
    rw o (ap₂ time_text e (minute_decoded m vs q))
hour_minute_decoded h m (w ∷ v ∷ u ∷ ws) vs p q = absurd (false≢true p)

minute_only_append : (ws vs : List Word) → any is_minute_only vs ≡ true → any is_minute_only (ws ++ vs) ≡ true
minute_only_append ws vs q = rw (any_append is_minute_only ws vs, q) (or-true (any is_minute_only ws))

-- the words of an hour, and behind them one that only a minute has, are like those of a time
some_time_like : (h m : ℕ) (ws vs : List Word) → hourly h ws ≡ true → minutely m vs ≡ true → any is_minute_only vs ≡ true → time_like (ws ++ vs) ≡ true
unfolding is_hour_of all
some_time_like h m [] vs p q o = absurd (false≢true p)
some_time_like h m (w ∷ ws) vs p q o =
    let x = ((and-eq-true_iff (all is_below_hundred (w ∷ ws)) _).0 p).0 in
    let y = ((and-eq-true_iff (all is_below_hundred vs) _).0 q).0 in
    let s : all is_below_hundred (w ∷ ws ++ vs) ≡ true = all_append is_below_hundred (w ∷ ws) vs ∙ rw (x, y) in
    rw (s, minute_only_append ws vs o)

module _ (h m : List ℕ) (p : is_hour h ≡ true) (q : is_minute m ≡ true) where
  -- an hour and what is said after it are decoded as the time
  words_decoded : (full : List Word) (k : ℕ) → m ≡ minute_bytes k → minutely k (minute_words full m) ≡ true
      → decode_time (cardinal h ++ minute_words full m) ≡ h ++ (bytes ":" ++ m)
  words_decoded full i f ms =
      let (k, e, hs) = hour_words h p in
      hour_minute_decoded k i (cardinal h) (minute_words full m) ((and-eq-true_iff (all is_below_hundred (cardinal h)) _).0 hs).1
      ((and-eq-true_iff (all is_below_hundred (minute_words full m)) _).0 ms).1
      ∙ ap₂ (λ x y. x ++ (bytes ":" ++ y)) (sym e) (sym f)

  -- so are the words of row 5 before the letters
  pub clock_decoded : decode_time (clock h m) ≡ h ++ (bytes ":" ++ m)
  unfolding clock
  clock_decoded = let (k, e, ms) = minute_words_lem minutely [] minutes m q in words_decoded [] k e ms

  -- the words of row 4 are decoded as the time, and are like those of a time
  pub time_words_decoded : (decode_time (clock h m ++ full_hour m) ≡ h ++ (bytes ":" ++ m)) × (time_like (clock h m ++ full_hour m) ≡ true)
  time_words_decoded =
      let (i, g, hs) = hour_words h p in
      let (k, e, os) = minute_words_lem tells_minute oclock minutes_or_oclock m q in
      let ms = (and-eq-true_iff (minutely k (minute_words oclock m)) (any is_minute_only (minute_words oclock m))).0 os in
      rw (time_words h m) (words_decoded oclock k e ms.0, some_time_like i k (cardinal h) (minute_words oclock m) hs ms.0 ms.1)
