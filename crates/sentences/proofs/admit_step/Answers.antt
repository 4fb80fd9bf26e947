use Rattle.sentences.proofs.StepTexts.{step_texts}
use Rattle.sentences.proofs.admit_step.Goals as goal

pub returns : goal.returns
returns c =
    rw (
      c.first_refused.ensures,
      c.first_refused-first_two.ensures,
      c.admit_text.ensures,
      c.admit_text-2.ensures,
      c.admit_text-3.ensures,
      step_texts c.args.whitespace.now c.args.name.now c.args.punctuation.now,
    )
