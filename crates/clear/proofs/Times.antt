-- Times, with and without "am" or "pm". Assumes nothing.
use mathlib.Core.Path.{◌≡◌, refl, sym, ap, ◌∙◌}
use mathlib.Core.Bool.{true, ◌||◌, and-eq-true_iff}
use mathlib.Core.List.{List, ◌++◌, append_assoc}
use Prim.Native.Nat.{ℕ, ◌-◌, ◌≤◌}
use Prim.Native.Char.{code}
use lib.Dec.{leb}
use lib.ListN.{length, get_or, take-append-drop}
use lib.Seq.{take_at}
use borrow.Author.Tests.{leb-true, le-leb}
use Rattle.lists.specs.Bytes.{bytes, all, span, same_by, same, take_while}
use Rattle.lists.specs.Classes.{except}
use Rattle.lists.proofs.Scan.{all_span, span_before}
use Rattle.lists.proofs.Table.{same_true}
use Rattle.lists.proofs.Bools.{or_true_elim}
use Rattle.shapes.specs.Shapes.{is_digits, is_hour_minute, is_time}
use Rattle.shapes.specs.Grammar.{TimeForm, time}
use Rattle.shapes.proofs.Laws.{digits_some}
use Rattle.shapes.proofs.Grammar.{no_separator, once_taken, time_form}
use Rattle.clear.specs.Clear.{plain, is_hour, is_minute, AmPm, am, pm, Clear, clear_time, clear_meridiem}
use Rattle.clear.specs.Test.{is_time_clear, is_meridiem_clear, but_last_two, last_two}
use Rattle.clear.proofs.Cuts.{cut_front, cut_back}
use Rattle.clear.proofs.Figures.{plain_digits}

-- an hour and a minute, with a colon between
record Timed (s : List ℕ) : Type 0 where
  hour : List ℕ
  minute : List ℕ
  hours : is_hour hour ≡ true
  minutes : is_minute minute ≡ true
  whole : hour ++ (bytes ":" ++ minute) ≡ s

-- what stands before the first colon is the hour, if the hour is digits
before_colon : (h m : List ℕ) → is_digits h ≡ true → take_while (except (code ":")) (h ++ (bytes ":" ++ m)) ≡ h
before_colon h m d =
    let at : span (except (code ":")) (h ++ (bytes ":" ++ m)) ≡ length h =
    span_before (except (code ":")) h (code ":") m refl ∙ all_span (except (code ":")) h (no_separator (code ":") refl h d) in
    take_at h (bytes ":" ++ m) _ (sym at)

-- a name that passes the test is an hour and a minute
timed : (s : List ℕ) → is_time_clear s ≡ true → Timed s
timed s e =
    let k = (and-eq-true_iff (is_time s) (plain (take_while (except (code ":")) s))).0 e in
    go s ((time_form s).0 k.0) k.1
  where
    go : (s : List ℕ) → TimeForm s → plain (take_while (except (code ":")) s) ≡ true → Timed s
    go _ (time h m d l n t) p =
        record {
          hour = h;
          minute = m;
          hours = rw (rw (before_colon h m d) at p, le-leb (length h) 2 l);
          minutes = rw (n, le-leb (get_or m 0 0) (code "5") t);
          whole = refl;
        }

-- a clear hour is plain and has one or two digits
pub hour_parts : (h : List ℕ) → is_hour h ≡ true → (plain h ≡ true) × (length h ≤ 2)
hour_parts h p = let c = (and-eq-true_iff (plain h) (leb (length h) 2)).0 p in (c.0, leb-true (length h) 2 c.1)

-- a clear hour and minute are an hour and a minute of row 4
pub hour_minute : (h m : List ℕ) → is_hour h ≡ true → is_minute m ≡ true → is_hour_minute h m ≡ true
unfolding is_hour_minute
hour_minute h m p q =
    let c = hour_parts h p in
    let d = plain_digits h c.0 in
    rw (le-leb 1 (length h) (digits_some h d), le-leb (length h) 2 c.1, d) q

-- an hour, a colon and a minute pass the test
pub time_test : (h m : List ℕ) → is_hour h ≡ true → is_minute m ≡ true → is_time_clear (h ++ (bytes ":" ++ m)) ≡ true
time_test h m p q =
    let (e, l) = hour_parts h p in
    let d = plain_digits h e in
    rw (once_taken (code ":") is_hour_minute h m (no_separator (code ":") refl h d) (hour_minute h m p q), before_colon h m d, e)

-- a name that passes the test is clear
pub test_time : (s : List ℕ) → is_time_clear s ≡ true → Clear s
test_time s e = let t = timed s e in rw t.whole at (clear_time t.hour t.minute t.hours t.minutes)

-- 02, A1: "A plain hour with ":00" becomes a clear entry"
pub full_hour_clear : (h : List ℕ) → plain h ≡ true → length h ≤ 2 → Clear (h ++ bytes ":00")
unfolding is_digits all
full_hour_clear h p l = clear_time h (bytes "00") (rw (p, le-leb (length h) 2 l)) refl

-- ---- with "am" or "pm"

am_pm : (s : List ℕ) → (same s (bytes "am") || same s (bytes "pm")) ≡ true → AmPm s
am_pm s =
    or_true_elim (same s (bytes "am")) (same s (bytes "pm"))
    (λ k. rw (← same_true s (bytes "am") k) at am)
    (λ k. rw (← same_true s (bytes "pm") k) at pm)

-- a name that passes the test is clear
pub test_meridiem : (s : List ℕ) → is_meridiem_clear s ≡ true → Clear s
test_meridiem s h =
    let n = but_last_two s in
    let p = (and-eq-true_iff (same (last_two s) (bytes "am") || same (last_two s) (bytes "pm")) (is_time_clear n)).0 h in
    let t = timed n p.1 in
    let e : t.hour ++ (bytes ":" ++ (t.minute ++ last_two s)) ≡ s =
    sym (append_assoc t.hour (bytes ":" ++ t.minute) (last_two s)) ∙ ap (λ (r : List ℕ). r ++ last_two s) t.whole
    ∙ take-append-drop (length s - 2) s in
    rw e at (clear_meridiem t.hour t.minute (last_two s) t.hours t.minutes (am_pm (last_two s) p.0))

am_pm_test : (x : List ℕ) → AmPm x → (length x ≡ 2) × ((same x (bytes "am") || same x (bytes "pm")) ≡ true)
unfolding same_by
am_pm_test x am = (refl, refl)
am_pm_test x pm = (refl, refl)

-- a time with am or pm passes the test
pub meridiem_test : (h m x : List ℕ) → is_hour h ≡ true → is_minute m ≡ true → AmPm x → is_meridiem_clear (h ++ (bytes ":" ++ (m ++ x))) ≡ true
meridiem_test h m x p q r =
    let t = h ++ (bytes ":" ++ m) in
    let y = am_pm_test x r in
    rw (← append_assoc h (bytes ":" ++ m) x, cut_front t x 2 y.0, cut_back t x 2 y.0, y.1) (time_test h m p q)
