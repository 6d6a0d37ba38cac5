-- The machine's levels go to rows, the loop runs, and the rows become the machine handed back; what the memory lost is taken off its sum.
use mathlib.Core.Path.{◌≡◌, refl, ap, ◌∙◌, subst⁻¹}
use mathlib.Core.Bool.{true}
use Prim.Native.Nat.{◌%◌, ◌^◌, ◌-◌}
use native.Mathlib.Omega.{arith}
use Rattle.machine.specs.Reach.{alone}
use Rattle.machine.specs.Run.{acceptable, by_itself, run_from, after_of}
use Rattle.run_words.specs.Machines.{ran_of}
use Rattle.run_words.specs.Levels.{in_rows}
use Rattle.machine.specs.declared.Machine.{Machine}
use Rattle.machine.specs.Sum.{sum_after}
use Rattle.run_words.specs.Notes.{Note}
use Rattle.run_words.specs.Laws.Again.{whole_again, zeros-laid, no-loss}
use Rattle.run_words.specs.Laws.Losses.{sum_less}
use Rattle.run_words.specs.Laws.Levels.{frames-long, levels-long}
use Rattle.run.proofs.alone.any.Goals as goal

pub apart-requires : goal.apart-requires
apart-requires c = zeros-laid

pub served-regs-requires : goal.served-regs-requires
served-regs-requires c = record { accepted = subst⁻¹ (λ (m : Machine). acceptable c.args.mem.now m c.args.budget ≡ true) (whole_again c.args.machine.now c.apart.ensures c.begun-start.ensures.0) c.requires.0; whole = record { cells-long = c.begun-start.ensures.1.cells-long; shaped = record { returns-long = c.begun-start.ensures.1.shaped.returns-long; frames-long = frames-long _ _; levels-long = levels-long _ _ } }; laid = c.apart.ensures.laid; bounded = record { shared-within = omega arith; end-within = omega arith }; lined = refl }

pub returns : goal.returns
returns c = (ap (λ (m : Machine). after_of c.served-regs.new.mem (ran_of c.served-regs.result.answer (record { 0 = c.args.budget - c.served-regs.result.unspent.0 }) c.served-regs.result.cycles m)) (c.put_back.ensures ∙ ap (λ at. in_rows c.served-regs.new.cells c.served-regs.new.returns c.served-regs.new.rows c.served-regs.new.copies at) c.left_in.ensures) ∙ (c.served-regs.ensures.same ∙ ap (λ (m : Machine). run_from alone by_itself c.args.budget c.args.mem.now m 0 0) (whole_again c.args.machine.now c.apart.ensures c.begun-start.ensures.0)), c.less.ensures ∙ sum_less c.args.sum.now c.lost.result c.args.mem.now c.served-regs.new.mem (ap (λ n. n % 2 ^ 32) c.lost.ensures ∙ (c.served-regs.ensures.leaves.loses ∙ ap (λ n. sum_after n c.served-regs.new.mem c.args.mem.now) (ap (λ (n : Note). n.lost) c.apart.ensures.note-is ∙ no-loss))))
