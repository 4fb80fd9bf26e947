use Rattle.tokens.specs.Left.{parts_of}
use Rattle.tokens.proofs.Records.{record_stored}
use Rattle.tokens.proofs.put_record.Goals as goal

pub returns-clause-stored : goal.returns-clause-stored
returns-clause-stored c =
    rw (c.put-4.ensures, c.put-3.ensures, c.put-2.ensures, c.put.ensures, c.new-4.ensures, c.new-3.ensures, c.new-2.ensures, c.new.ensures)
    (record_stored c.args.table.now c.args.place c.args.at (parts_of c.args.t))
