-- The offsets and lengths that C gets stand for the parts of the name. Assumes nothing.
use mathlib.Core.Path.{◌≡◌, refl, ap, ◌∙◌}
use mathlib.Core.List.{List}
use Prim.Native.Nat.{ℕ, ◌-◌}
use native.Mathlib.Omega.{arith}
use lib.ListN.{length, take, drop, length-drop}
use lib.Seq.{take_all}
use Rattle.shapes.specs.Times.{time_parts_at}
use Rattle.shapes.specs.declared.TimeSplit.{TimeSplit}
use Rattle.std.specs.Prelude.{Option, Some, None, Result, Ok, Err}
use Rattle.admit.specs.declared.Refusal.{Refusal}
use Rattle.patterns.specs.Calls.{as_time, as_offsets}
use Rattle.howhakiru.specs.AtC.{parts_at_c, time_at_c, as_time_at_c}
use Rattle.howhakiru.specs.declared.HwkTime.{HwkTime}

parts_at_c_lem : (s : List ℕ) (number : ℕ) (t : Option TimeSplit) → as_time_at_c (parts_at_c (length s) number t) s ≡ record { refusal = number; value = time_parts_at t s }
parts_at_c_lem s number (Some t) =
    let e : take (length s - t.meridiem) (drop t.meridiem s) ≡ drop t.meridiem s =
    take_all (length s - t.meridiem) (drop t.meridiem s) (omega (arith, length-drop t.meridiem s)) in
    rw e
parts_at_c_lem s number None = refl

-- what C gets for an answer stands for the same parts as the answer's offsets
pub time_at_c_lem : (s : List ℕ) (answer : Result (Option TimeSplit) Refusal) {r : HwkTime} → r ≡ time_at_c (length s) (as_offsets answer) → as_time_at_c r s ≡ as_time answer s
time_at_c_lem s (Ok t) e = ap (λ (r : HwkTime). as_time_at_c r s) e ∙ parts_at_c_lem s 0 t
time_at_c_lem s (Err refusal) e = ap (λ (r : HwkTime). as_time_at_c r s) e
