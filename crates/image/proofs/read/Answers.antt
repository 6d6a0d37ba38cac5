-- The file is judged first: a bad one spells no image, a good one spells the image that is then placed.
use Rattle.std.proofs.Common.{sym, ap, ◌∙◌, arith}
use Rattle.machine.specs.Refusals.{number_of}
use Rattle.machine.specs.declared.refusal.Refusal.{Refusal}
use Rattle.image.specs.Judging.{says_judged}
use Rattle.image.specs.Loading.{refused_with}
use Rattle.image.specs.Laws.Sound.{good-file}
use Rattle.image.proofs.Answers.{good-answer, memory-refused, file-refused}
use Rattle.image.proofs.read.Goals as goal

pub returns-then-memory-ne-MEMORY : goal.returns-then-memory-ne-MEMORY
returns-then-memory-ne-MEMORY c = memory-refused c.args.file.now c.args.memory.now _ c.if-memory-ne-MEMORY.true c.refused.ensures

pub returns-in-Err : goal.returns-in-Err
returns-in-Err c =
    file-refused c.args.file.now c.args.memory.now _ _ _ (omega arith) c.judge.ensures.clause c.in-Err.is
    (c.refused-in-Err.ensures ∙ ap (λ (why : Refusal). refused_with (number_of why)) c.from.ensures)

pub image-requires : goal.image-requires
image-requires c = (good-file c.args.file.now _ (sym c.judge.ensures.clause ∙ ap says_judged c.in-Ok.is), omega arith)

pub returns-in-Ok : goal.returns-in-Ok
returns-in-Ok c =
    good-answer c.args.file.now c.args.memory.now _ _ _ (λ i. omega (arith, c.type_inv.file i)) (omega arith)
    (sym c.judge.ensures.clause ∙ ap says_judged c.in-Ok.is) c.image.ensures.0 c.image.ensures.1
