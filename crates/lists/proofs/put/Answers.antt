use Rattle.std.proofs.Common.{arith, ap, ◌∙◌}
use Rattle.std.proofs.lemmas.List.{map-id}
use Rattle.std.proofs.lemmas.List.Edits.{sets}
use Rattle.lists.proofs.Sets.{stored_more, stored_all}
use Rattle.lists.proofs.put.Goals as goal

pub loop-i-preserved : goal.loop-i-preserved
loop-i-preserved c =
    let a = c.args in
    record {
      stored =
          rw c.loop-i.invariant.stored (stored_more (λ b. b) a.out.now a.at a.src.now c.min-n.result c.loop-i.i (omega arith) c.loop-i-test.true);
    }

pub returns : goal.returns
returns c =
    let a = c.args in
    c.loop-i.invariant.stored
    ∙ stored_all (λ b. b) a.out.now a.at a.src.now c.min-n.result c.loop-i.i (omega arith) (omega arith)
    ∙ ap (sets a.out.now a.at) (map-id a.src.now)
