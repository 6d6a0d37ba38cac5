-- Rows of zeros are fresh levels.
use mathlib.Core.Path.{◌≡◌, refl, ap, ◌∙◌, subst⁻¹}
use mathlib.Core.Bool.{true}
use mathlib.Core.Logic.{inr}
use Rattle.run_words.specs.Calm.{quiet}
use native.Mathlib.Omega.{arith}
use Rattle.links.specs.Fresh.{fresh_links}
use Rattle.machine.specs.Reach.{alone}
use Rattle.machine.specs.Run.{acceptable, by_itself, run_from}
use Rattle.machine.specs.State.{Whole}
use Rattle.machine.specs.declared.Machine.{Machine}
use Rattle.machine.specs.State.{fresh_with}
use Rattle.run_words.specs.Laws.Again.{whole_again, zeros-fresh, no_due, no-heed}
use borrow.Author.Rules.{rules}
use Rattle.run.proofs.alone.fresh.Goals as goal

pub rounds-regs-requires : goal.rounds-regs-requires
unfolding fresh_links
rounds-regs-requires c = record { accepted = subst⁻¹ (λ (m : Machine). acceptable c.args.mem.now m c.args.budget ≡ true) (whole_again (fresh_with c.args.filled c.args.p) zeros-fresh refl) c.requires; whole = subst⁻¹ Whole (whole_again (fresh_with c.args.filled c.args.p) zeros-fresh refl) (record { cells-long = search rules; shaped = record { returns-long = refl; frames-long = refl; levels-long = refl } }); laid = zeros-fresh.laid; bounded = record { shared-within = omega arith; end-within = omega arith }; calm = quiet (inr no_due); unheeded = λ h. inr no_due; unasked = λ h. no-heed }

pub returns : goal.returns
unfolding fresh_links
returns c = c.finished.ensures c.rounds-regs.new.mem ∙ (c.rounds-regs.ensures.same (c.rounds-regs.ensures.unmarked no-heed) ∙ ap (λ (m : Machine). run_from alone by_itself c.args.budget c.args.mem.now m 0 0) (whole_again (fresh_with c.args.filled c.args.p) zeros-fresh refl))
