-- The line that is put together is that of the refusal's number.
use Rattle.std.proofs.Common.{OnOk, subst}
use Rattle.std.specs.Io.KnownBytes.{Appends}
use Rattle.callsheet.proofs.Reply.{refused_digit}
use Rattle.callsheet.proofs.write_refusal.Goals as goal

pub returns : goal.returns
returns g c =
    subst (λ bs. OnOk c.write_all.result (Appends (g.W.Write.contents c.args.output.now) (g.W.Write.contents c.write_all.new.self) bs))
    (rw c.from-number.ensures (refused_digit c.requires)) c.write_all.ensures.bytes
