-- The sheet is short and the buffer has room, so a sheet is refused only for its bytes, and what is written is the reply.
use Rattle.std.proofs.Common.{OnOk, subst, sym, ap, ◌∙◌}
use Rattle.std.specs.Io.KnownBytes.{Appends}
use Rattle.calls.proofs.Room.{only_bytes}
use Rattle.callsheet.proofs.Reply.{written, written_reply}
use Rattle.callsheet.proofs.write_call.Goals as goal

pub write_refusal-requires : goal.write_refusal-requires
write_refusal-requires g c =
    only_bytes c.args.sheet.now c.args.out.now _ c.call_sheet.ensures c.requires.0 c.requires.1 c.in-Err.is

pub returns-in-Ok : goal.returns-in-Ok
returns-in-Ok g c =
    let answered = ap (λ r. written r c.call_sheet.new.out) (sym c.in-Ok.is) in
    let replied = written_reply c.args.sheet.now c.args.out.now c.call_sheet.new.out c.call_sheet.result c.call_sheet.ensures c.requires.1 in
    subst (λ bs. OnOk c.write_all.result (Appends (g.W.Write.contents c.args.output.now) (g.W.Write.contents c.write_all.new.self) bs))
    (c.front.ensures ∙ answered ∙ replied) c.write_all.ensures.bytes

pub returns-in-Err : goal.returns-in-Err
returns-in-Err g c =
    let answered = ap (λ r. written r c.call_sheet.new.out) (sym c.in-Err.is) in
    let replied = written_reply c.args.sheet.now c.args.out.now c.call_sheet.new.out c.call_sheet.result c.call_sheet.ensures c.requires.1 in
    subst (λ bs. OnOk c.write_refusal.result (Appends (g.W.Write.contents c.args.output.now) (g.W.Write.contents c.write_refusal.new.output) bs))
    (answered ∙ replied) c.write_refusal.ensures
