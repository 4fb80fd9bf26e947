-- Every clear name is decoded, kind by kind. Assumes nothing.
use mathlib.Core.List.{List}
use Prim.Native.Nat.{ℕ}
use Rattle.clear.specs.Clear.{Clear, clear_number, clear_percent, clear_time, clear_meridiem, clear_ordinal, clear_unit, clear_range, clear_initials, clear_word}
use Rattle.decoder.proofs.Decoded.{Decoded}
use Rattle.decoder.proofs.Numbers.{number_decoded, range_decoded, percent_decoded}
use Rattle.decoder.proofs.TimeRows.{time_decoded, meridiem_decoded}
use Rattle.decoder.proofs.Ordinals.{ordinal_decoded}
use Rattle.decoder.proofs.Units.{unit_decoded}
use Rattle.decoder.proofs.Initials.{initials_decoded}
use Rattle.decoder.proofs.OneWord.{lowercase_lowered, word_decoded}

-- a clear name is decoded as itself; of a word only this is used: it has two letters or more, a to z, and is not in the tables
pub clear_decoded : (n : List ℕ) → Clear n → Decoded n
clear_decoded n (clear_number s a) = number_decoded s a
clear_decoded n (clear_percent s a) = percent_decoded s a
clear_decoded n (clear_time h m a b) = time_decoded h m a b
clear_decoded n (clear_meridiem h m x a b c) = meridiem_decoded h m x a b c
clear_decoded n (clear_ordinal s a) = ordinal_decoded s a
clear_decoded n (clear_unit s k a b c) = unit_decoded s k a b c
clear_decoded n (clear_range a b p q) = range_decoded a b p q
clear_decoded n (clear_initials c d cs a) = initials_decoded c d cs a
clear_decoded n (clear_word s a b c d e) = word_decoded s (lowercase_lowered s b) a b c
