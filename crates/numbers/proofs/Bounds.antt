-- How much room a reading takes at most, by the text's length. Assumes nothing.
use mathlib.Core.Path.{◌≡◌}
use mathlib.Core.Bool.{true, false, ◌&&◌, and-eq-true_iff}
use mathlib.Core.List.{List, flatten}
use Prim.Native.Nat.{ℕ, ◌/◌, ◌<◌}
use native.Mathlib.Omega.{arith}
use lib.Dec.{ltb}
use lib.ListN.{length}
use borrow.Author.Tests.{ltb-true}
use Rattle.word_writer.specs.Words.{too_short_for}
use Rattle.word_writer.proofs.Finish.{long_enough}
use Rattle.numerals.specs.Words.{spelled}
use Rattle.numerals.proofs.Room.{RoomFor, room_counts, cardinal_room, digits_room, ordinal_room}
use Rattle.years.proofs.Room.{year_room}
use Rattle.reals.proofs.Room.{real_room}
use Rattle.letters.proofs.Room.{letters_room}
use Rattle.numbers.specs.Calls.{words_as}
use Rattle.numbers.specs.declared.SayAs.{SayAs}
use Rattle.numbers.specs.declared.SayAs.TheVariants.{Cardinal, Ordinal, Year, Digits, Real, Letters}

-- a text of n bytes has at most 2 n + 1 words. With a space before each, they take at most 11 n + 8 bytes
pub words_room : (r : SayAs) (s : List ℕ) → RoomFor (length s) (words_as r s)
words_room Cardinal s = omega (arith, cardinal_room s)
words_room Ordinal s = ordinal_room s
words_room Year s = omega (arith, year_room s)
words_room Digits s = omega (arith, digits_room s)
words_room Real s = real_room s
words_room Letters s = omega (arith, letters_room s)

-- if the code's test for ample room passes, no buffer is too short
pub ample_room_fits : (r : SayAs) (s : List ℕ) (a b : ℕ) → (ltb (length s) (a / 11) && ltb (length s) (b / 16)) ≡ true
    → too_short_for (length (flatten (spelled (words_as r s)))) (length (spelled (words_as r s))) a b ≡ false
ample_room_fits r s a b e =
    let t = (and-eq-true_iff (ltb (length s) (a / 11)) (ltb (length s) (b / 16))).0 e in
    let h : length s < a / 11 = ltb-true (length s) (a / 11) t.0 in
    let k : length s < b / 16 = ltb-true (length s) (b / 16) t.1 in
    let w = room_counts (words_room r s) in
    long_enough (spelled (words_as r s)) a b (omega arith) (omega arith)
