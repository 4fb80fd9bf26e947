use Rattle.std.proofs.Common.{arith, ◌∙◌}
use Rattle.lists.specs.Bytes.{to_lower}
use Rattle.lists.proofs.Library.{lower_is}
use Rattle.lists.proofs.Sets.{stored_more, stored_all}
use Rattle.lists.proofs.put_lowered.Goals as goal

pub loop-i-preserved : goal.loop-i-preserved
loop-i-preserved c =
    let a = c.args in
    record {
      stored =
          rw (c.loop-i.invariant.stored, c.to_ascii_lowercase.ensures.value, lower_is)
          (stored_more to_lower a.out.now a.at a.src.now c.min-n.result c.loop-i.i (omega arith) c.loop-i-test.true);
    }

pub returns : goal.returns
returns c =
    let a = c.args in
    c.loop-i.invariant.stored
    ∙ stored_all to_lower a.out.now a.at a.src.now c.min-n.result c.loop-i.i (omega arith) (omega arith)
