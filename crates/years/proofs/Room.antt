-- How many words a year has at most, and how many bytes of a line they take. Assumes nothing.
use mathlib.Core.Bool.{not, ◌&&◌}
use mathlib.Core.List.{List, [], ◌∷◌}
use Prim.Native.Nat.{ℕ, ◌%◌, ◌<◌}
use native.Mathlib.Omega.{arith}
use lib.Dec.{leb, eqb}
use lib.ListN.{length}
use Rattle.lists.proofs.Recursion.{recur_induct, cond_elim}
use Rattle.numerals.specs.Words.{Word, hundred, spell}
use Rattle.numerals.specs.Cardinal.{digit_values, cardinal_of}
use Rattle.numerals.specs.Walk.{BelowTen}
use Rattle.numerals.proofs.NumberWords.{digit_values_below_ten}
use Rattle.numerals.proofs.Room.{RoomForNumber, together, one_room, two_room, hundred_room, cardinal_of_room, digit_values_le, ones_room}
use Rattle.years.specs.Year.{zero_at, year_step, year_of, year}

abbrev RoomForYear : List ℕ → List Word → Type 0
RoomForYear s ws = BelowTen s → RoomForNumber (length s) ws

year_step_room : (f : List ℕ → List Word) (s : List ℕ) → ((t : List ℕ) → length t < length s → RoomForYear t (f t)) → RoomForYear s (year_step f s)
unfolding year_step spell
year_step_room f [] h d = cardinal_of_room [] d
year_step_room f (a ∷ []) h d = cardinal_of_room (a ∷ []) d
year_step_room f (a ∷ b ∷ s) h d =
    let t = a ∷ b ∷ s in
    let n = length t in
    let P = RoomForNumber n in
    let first = one_room a d.0 in
    let zero = one_room 0 (omega arith) in
    let pair = cardinal_of (a ∷ b ∷ []) in
    let two = two_room a b d.0 d.1.0 in
    let all = cardinal_of_room t d in
    let last = hundred_room in
    cond_elim P (eqb n 4 && (zero_at t 2 && zero_at t 3)) (λ e. cond_elim P (zero_at t 1) (λ e. all) (λ e. omega (arith, together pair (hundred ∷ [])))) (λ e.
    cond_elim P (eqb n 3 && (not (zero_at t 0) && (zero_at t 1 && zero_at t 2))) (λ e. omega arith) (λ e.
    cond_elim P (eqb n 2 && (zero_at t 0 && zero_at t 1)) (λ e. omega arith) (λ e.
    cond_elim P (eqb n 2 && zero_at t 0) (λ e. omega (arith, ones_room (b ∷ s) d.1)) (λ e.
    cond_elim P (eqb n 4 && (zero_at t 1 && zero_at t 2)) (λ e. all) (λ e.
    cond_elim P (leb n 2) (λ e. all) (λ e.
    cond_elim P (eqb (n % 2) 1) (λ e. omega (arith, h (b ∷ s) (omega arith) d.1)) (λ e. omega (arith, h s (omega arith) d.1.1, together pair (f s)))))))))

-- the words of a text's year fit in the room for a number
pub year_room : (s : List ℕ) → RoomForNumber (length s) (year s)
unfolding year year_of
year_room s = omega (arith, recur_induct RoomForYear [] year_step year_step_room (digit_values s) (digit_values_below_ten s), digit_values_le s)
