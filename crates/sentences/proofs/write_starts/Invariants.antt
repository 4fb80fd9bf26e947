use Rattle.std.proofs.Common.{◌≡◌, ◌+◌, length}
use Rattle.std.proofs.lemmas.List.Edits.{sets}
use Rattle.tokens.specs.Tokens.{tokens}
use Rattle.sentences.specs.Calls.{flags, start_bytes}
use Rattle.sentences.specs.Left.{entries_left}
use Rattle.sentences.proofs.Marking.{starts_of}
use Rattle.sentences.proofs.write_starts.Given as goal

abbrev pub invariant-loop-entry : goal.invariant-loop-entry
invariant-loop-entry l = record {
  count : l.n + length (entries_left l.entry-iterator) ≡ length (tokens l.s);
  starts : sets l.starts l.n (flags (starts_of (entries_left l.entry-iterator))) ≡ sets l.initial.starts 0 (start_bytes l.s);
}
