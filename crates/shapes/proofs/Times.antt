-- The offsets of a time stand for its parts. Assumes nothing.
use mathlib.Core.Path.{◌≡◌, refl, sym}
use Rattle.std.specs.Prelude.{Option, Some, None}
use mathlib.Core.Bool.{Bool, true, false, cond, ◌&&◌}
use mathlib.Core.List.{List, [], ◌∷◌}
use Prim.Native.Nat.{ℕ, zero, suc, ◌+◌, ◌-◌}
use native.Mathlib.Omega.{arith}
use lib.Dec.{ltb}
use lib.ListN.{length, take, drop}
use lib.Seq.{take-take, length-take-le, take-nil}
use borrow.Author.Tests.{ltb-true}
use Rattle.lists.specs.Classes.{colon_or_point}
use Rattle.lists.specs.Bytes.{around}
use Rattle.shapes.specs.Shapes.{is_hour_minute}
use Rattle.shapes.specs.Times.{ends_in_meridiem, separator_at, time_of, parts_of_time, no_parts_of_time, time_parts, time_split, time_parts_at, SplitsTime}
use Rattle.shapes.specs.declared.TimeSplit.{TimeSplit}

-- what follows the first m of the first n bytes
drop_take : (m n : ℕ) (s : List ℕ) → drop m (take n s) ≡ take (n - m) (drop m s)
drop_take zero n s = let e : n - 0 ≡ n = omega arith in rw e
drop_take (suc m) zero s = let e : 0 - suc m ≡ 0 = omega arith in rw e
drop_take (suc m) (suc n) [] = sym (take-nil (suc n - suc m))
drop_take (suc m) (suc n) (b ∷ s) = let e : suc n - suc m ≡ n - m = omega arith in rw e (drop_take m n s)

-- the offsets of `time_split` stand for the parts of `time_parts`
pub time_split_parts : (s : List ℕ) → time_parts_at (time_split s) s ≡ time_parts s
unfolding time_split time_parts
time_split_parts s = go (ends_in_meridiem s) (ltb sep (length (time_of s))) refl (is_hour_minute (take sep (time_of s)) (drop (sep + 1) (time_of s)))
  where
    sep : ℕ
    sep = separator_at (time_of s)

    go : (a b : Bool) → ltb sep (length (time_of s)) ≡ b → (t : Bool)
        → time_parts_at (cond (a && (b && t)) (Some (record { hour = sep; minute = sep + 1; meridiem = length s - 2 })) None) s
        ≡ cond (a && (b && t)) (parts_of_time (take sep (time_of s)) (drop (sep + 1) (time_of s)) (drop (length s - 2) s)) no_parts_of_time
    go true true e true =
        let l = ltb-true sep (length (time_of s)) e in
        let k : length (time_of s) ≡ length s - 2 = length-take-le (length s - 2) s (omega arith) in
        rw (take-take sep (length s - 2) s (omega arith), drop_take (sep + 1) (length s - 2) s)
    go true true e false = refl
    go true false e t = refl
    go false b e t = refl

-- so it is enough to prove the offsets
pub splits_time : (s : List ℕ) (r : Option TimeSplit) → r ≡ time_split s → SplitsTime s r
splits_time s r e = record { offsets = e; parts_named = rw e (time_split_parts s) }

-- the offsets, given the time without its meridiem and what stands around its separator
abbrev pub offsets_around : List ℕ → Option (List ℕ × List ℕ) → Option TimeSplit
offsets_around time None = None
offsets_around time (Some w) =
    cond (is_hour_minute w.0 w.1) (Some (record { hour = length w.0; minute = length w.0 + 1; meridiem = length time })) None

-- so the code finds the offsets
pub time_split_around : (s : List ℕ) → time_split s ≡ cond (ends_in_meridiem s) (offsets_around (time_of s) (around colon_or_point (time_of s))) None
unfolding time_split around
time_split_around s = go (ends_in_meridiem s) (ltb sep (length (time_of s))) refl
  where
    sep : ℕ
    sep = separator_at (time_of s)

    h : List ℕ
    h = take sep (time_of s)

    m : List ℕ
    m = drop (sep + 1) (time_of s)

    go : (a b : Bool) → ltb sep (length (time_of s)) ≡ b
        → cond (a && (b && is_hour_minute h m)) (Some (record { hour = sep; minute = sep + 1; meridiem = length s - 2 })) None
        ≡ cond a (offsets_around (time_of s) (cond b (Some (h, m)) None)) None
    go true true e =
        let k : length (time_of s) ≡ length s - 2 = length-take-le (length s - 2) s (omega arith) in
        let l : length h ≡ sep = length-take-le sep (time_of s) (omega (arith, ltb-true sep (length (time_of s)) e)) in
        rw (k, l)
    go true false e = refl
    go false b e = refl
