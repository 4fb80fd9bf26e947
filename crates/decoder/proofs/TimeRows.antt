-- Clear times, with or without am or pm: what rows 4 and 5 say is decoded as the name. Assumes nothing.
use mathlib.Core.Path.{◌≡◌, refl, ap}
use mathlib.Core.Bool.{true}
use mathlib.Core.List.{List, ◌++◌}
use Prim.Native.Nat.{ℕ}
use Prim.Native.Char.{code}
use Rattle.lists.specs.Bytes.{bytes, same_by}
use Rattle.shapes.specs.Grammar.{is_meridiem}
use Rattle.letters.specs.Letters.{letters}
use Rattle.rows.specs.Rows.{clock, full_hour}
use Rattle.rows.proofs.Times.{time_row, meridiem_row}
use Rattle.clear.specs.Clear.{is_hour, is_minute, AmPm, am, pm}
use Rattle.clear.proofs.Times.{hour_minute}
use Rattle.decoder.proofs.Decoded.{DecodedWith}
use Rattle.decoder.proofs.Dispatch.{decoded}
use Rattle.decoder.proofs.TimeWords.{time_read, meridiem_read}

-- "am" and "pm" are meridiems
am_pm_meridiem : (x : List ℕ) → AmPm x → is_meridiem x ≡ true
unfolding same_by
am_pm_meridiem x am = refl
am_pm_meridiem x pm = refl

-- a time is decoded
pub time_decoded : {word : List ℕ → List ℕ} (h m : List ℕ) → is_hour h ≡ true → is_minute m ≡ true → DecodedWith word (h ++ (bytes ":" ++ m))
time_decoded {word} h m p q =
    decoded (h ++ (bytes ":" ++ m)) (clock h m ++ full_hour m) (ap (λ r. r.words) (time_row word h m (hour_minute h m p q))) (time_read h m p q)

-- so is a time with am or pm
pub meridiem_decoded : {word : List ℕ → List ℕ} (h m x : List ℕ) → is_hour h ≡ true → is_minute m ≡ true → AmPm x
    → DecodedWith word (h ++ (bytes ":" ++ (m ++ x)))
meridiem_decoded {word} h m x p q d =
    decoded (h ++ (bytes ":" ++ (m ++ x))) (clock h m ++ letters x)
    (ap (λ r. r.words) (meridiem_row word h m (hour_minute h m p q) (code ":") refl x (am_pm_meridiem x d))) (meridiem_read h m p q x d)
