use Rattle.std.proofs.Common.{sym, ap, ◌∙◌}
use Rattle.lists.proofs.Parts.{elem_span}
use Rattle.sentences.specs.Sentences.{flag}
use Rattle.sentences.proofs.Marking.{flag_byte, contains_is}
use Rattle.sentences.proofs.contains_flag.Goals as goal

pub returns-then-s-le-FEW_MARKS : goal.returns-then-s-le-FEW_MARKS
returns-then-s-le-FEW_MARKS c = c.from.ensures ∙ flag_byte _ ∙ ap flag (rw c.span.ensures (sym (elem_span c.args.c c.args.s.now)))

pub returns : goal.returns
returns c = c.from-2.ensures ∙ flag_byte _ ∙ ap flag (c.contains.ensures.value ∙ contains_is _ _)
