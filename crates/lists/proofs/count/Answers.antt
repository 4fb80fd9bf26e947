use Rattle.std.proofs.Common.{rules, ◌≡◌, ◌∙◌}
use Rattle.std.proofs.iter.runs.Made.{chains}
use Rattle.std.specs.List.{count_by}
use Rattle.lists.proofs.Library.{count_is}
use Rattle.lists.proofs.count.Goals as goal

pub returns : goal.returns
returns g c =
    let e : c.count.result ≡ count_by (g.C.ByteClass.contains c.args.class) c.args.s.now = search (rules, chains) in
    e ∙ count_is _ _
