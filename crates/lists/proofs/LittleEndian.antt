-- Laws of numbers as bytes, at every width. Assumes nothing.
use mathlib.Core.Path.{◌≡◌, refl, ap}
use Prim.Native.Nat.{ℕ, zero, suc, ◌^◌, ◌/◌, ◌<◌}
use native.Mathlib.Nat.{pow-suc}
use native.Mathlib.Omega.{arith}
use lib.ListN.{length}
use Rattle.lists.specs.LittleEndian.{le_value, le_bytes}

-- a number in w bytes takes w bytes
pub le_bytes_length : (w n : ℕ) → length (le_bytes w n) ≡ w
unfolding le_bytes
le_bytes_length zero n = refl
le_bytes_length (suc w) n = ap suc (le_bytes_length w (n / 256))

-- a number that fits in w bytes is read back from them
pub le_bytes_value : (w n : ℕ) → n < 256 ^ w → le_value (le_bytes w n) ≡ n
unfolding le_bytes le_value
le_bytes_value zero n h = omega arith
le_bytes_value (suc w) n h =
    let p = pow-suc 256 w in
    let r : le_value (le_bytes w (n / 256)) ≡ n / 256 = le_bytes_value w (n / 256) (omega arith) in
    omega arith
