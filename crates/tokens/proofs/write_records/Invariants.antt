use Rattle.std.proofs.Common.{◌≡◌, ◌+◌, ◌*◌, ◌≤◌, length}
use Rattle.std.proofs.lemmas.List.Edits.{sets}
use Rattle.tokens.specs.Tokens.{tokens}
use Rattle.tokens.specs.Table.{records, record_size}
use Rattle.tokens.specs.Left.{tokens_left}
use Rattle.tokens.proofs.Records.{total_size}
use Rattle.tokens.proofs.write_records.Given as goal

abbrev pub invariant-loop-token : goal.invariant-loop-token
invariant-loop-token l = record {
  count : l.n + length (tokens_left l.token-iterator) ≡ length (tokens l.s);
  within : l.at + total_size (tokens_left l.token-iterator) ≤ length l.s;
  table : sets l.table (record_size * l.n) (records l.at (tokens_left l.token-iterator)) ≡ sets l.initial.table 0 (records 0 (tokens l.s));
}
