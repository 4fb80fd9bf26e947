use Rattle.std.proofs.Common.{rules, ◌≡◌, ◌++◌, All, List, ℕ, Some, None, subst, sym, ◌∙◌}
use Rattle.std.proofs.lemmas.Bool.Decides.{Decides-eqb}
use Rattle.std.proofs.lemmas.List.{append_cancel_left}
use Rattle.std.proofs.lemmas.Slice.Eq.{strip_prefix_is}
use Rattle.recorded.specs.declared.buffer.TheConstants.{GUARD}
use Rattle.recorded.proofs.buffer.has_just.Goals as goal

pub returns-in-Some : goal.returns-in-Some
returns-in-Some c =
    let cut : c.args.buffer.now ≡ c.args.bytes.now ++ c.in-Some.rest.now =
    strip_prefix_is Decides-eqb _ _ (Some c.in-Some.rest) c.in-Some.ensures.cases in
    let unwritten : List ℕ → Type 0 = All (λ b. b ≡ GUARD) in (
      (λ is. (c.in-Some.rest.now, cut, c.is_unwritten.ensures.0 is)),
      (λ (rest, e, all). c.is_unwritten.ensures.1 (subst unwritten (append_cancel_left _ _ _ (sym e ∙ cut)) all)),
    )

pub returns-in-None : goal.returns-in-None
returns-in-None c =
    let other = strip_prefix_is Decides-eqb c.args.buffer.now c.args.bytes.now None c.in-None.ensures.cases in
    ((λ is. search rules), (λ (rest, e, all). absurd (other rest e)))
