-- With room for the call sheet, a sheet's call answers the number of the reply, or leaves the reply in the buffer.
-- Assumes nothing.
use mathlib.Core.Path.{◌≡◌, refl, sym, ap, ◌∙◌}
use mathlib.Core.Bool.{false}
use mathlib.Core.Logic.{◌⊎◌, ⊎_elim}
use mathlib.Core.List.{List, ◌∷◌, ◌++◌}
use Prim.Native.Nat.{ℕ, zero, suc, ◌+◌, ◌*◌, ◌≤◌, ◌<◌}
use native.Mathlib.Omega.{arith}
use Prim.Native.Char.{code}
use lib.Dec.{ltb}
use lib.ListN.{length, take}
use borrow.Author.Tests.{le-ltb}
use Rattle.std.specs.Prelude.{Result, Ok, Err}
use Rattle.std.proofs.lemmas.Fmt.{decimal_digit}
use Rattle.lists.specs.Bytes.{bytes, overwrite}
use Rattle.lists.proofs.Sets.{overwrite_past}
use Rattle.admit.specs.Refusals.{refusal_number, first_refusal, Call, call}
use Rattle.admit.specs.declared.Refusal.{Refusal}
use Rattle.admit.specs.declared.Refusal.TheVariants.{NotUtf8, ControlByte}
use Rattle.admit.proofs.Calls.{numbered}
use Rattle.call_spec.specs.Sheet.{call_sheet}
use Rattle.call_spec.specs.Calls.{sheet_tests, SheetResult, sheet_call}
use Rattle.calls.specs.Answers.{as_sheet}
use Rattle.calls.specs.declared.CalledSheet.{CalledSheet}
use Rattle.calls.proofs.Room.{sheet_room}
use Rattle.callsheet.specs.Reply.{refused_line, reply_with, reply}

-- the number of the two refusals is one digit
pub refused_digit : {r : Refusal} → (r ≡ NotUtf8) ⊎ (r ≡ ControlByte)
    → bytes "refused " ++ ((code "0" + refusal_number r) ∷ bytes "\n") ≡ refused_line (refusal_number r)
refused_digit {r} r_is =
    let below : refusal_number r < 10 = ⊎_elim (λ e. rw e (omega arith)) (λ e. rw e (omega arith)) r_is in
    rw (decimal_digit (refusal_number r) below)

-- what the program writes after an answer of the call, which left the buffer so
abbrev pub written : Result CalledSheet Refusal → List ℕ → List ℕ
written (Ok called) buffer = take called.bytes buffer
written (Err refusal) buffer = refused_line (refusal_number refusal)

-- n is the number of the call, and `lines` what an accepted call puts at the front of the buffer
written_with : (lines old new : List ℕ) (nothing given : SheetResult) (r : Result CalledSheet Refusal) (n : ℕ)
    → length lines ≡ given.bytes → overwrite lines old ≡ given.buffer → as_sheet r new ≡ call nothing n given → written r new ≡ reply_with n lines
written_with lines old new nothing given (Ok called) zero size buffer e =
    ap (λ (x : Call SheetResult). take x.value.bytes x.value.buffer) e
    ∙ ap (λ k. take k given.buffer) (sym size)
    ∙ ap (take (length lines)) (sym buffer)
    ∙ (overwrite_past lines old).0
written_with lines old new nothing given (Ok called) (suc n) size buffer e = absurd (omega (arith, ap (λ (x : Call SheetResult). x.refusal) e))
written_with lines old new nothing given (Err refusal) zero size buffer e = absurd (numbered refusal (ap (λ (x : Call SheetResult). x.refusal) e))
written_with lines old new nothing given (Err refusal) (suc n) size buffer e = ap refused_line (ap (λ (x : Call SheetResult). x.refusal) e)

-- what is written after the call of a sheet is the reply, if the buffer has room for the call sheet
pub written_reply : (s old new : List ℕ) (r : Result CalledSheet Refusal) → as_sheet r new ≡ sheet_call s old → 11 * (length s + 1) ≤ length old
    → written r new ≡ reply s
unfolding sheet_call reply
written_reply s old new r answer room =
    let fits : ltb (length old) (length (call_sheet s)) ≡ false = le-ltb (length old) (length (call_sheet s)) (omega (arith, sheet_room s)) in
    written_with (call_sheet s) old new _ _ r (first_refusal (sheet_tests s false)) refl refl (rw fits at answer)
