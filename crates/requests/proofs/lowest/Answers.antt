-- Lines are seen in turn, and the first that is due is told.
use Rattle.std.specs.Prelude.{◌≡◌, ℕ, ◌+◌, ◌-◌, ◌/◌}
use Rattle.std.proofs.Common.{subst, arith}
use Rattle.machine.specs.Lines.{line, lowest_due}
use Rattle.requests.proofs.Looking.{Looking, looking-none, looking-on, looking-found, looking-all, whatever-block}
use Rattle.requests.proofs.lowest.Goals as goal

pub loop-n-init : goal.loop-n-init
loop-n-init c = looking-none c.args.lines.waiting c.args.lines.mask

pub returns-then-waiting-mask-eq2 : goal.returns-then-waiting-mask-eq2
returns-then-waiting-mask-eq2 c =
    let this : c.loop-n.n - 1 + 1 ≡ c.loop-n.n = omega (arith, c.loop-n.auto.n) in
    let seen = looking-found c.loop-n.invariant (omega (arith, c.loop-n-test.true)) c.if-waiting-mask-eq2.true in
    subst (λ (n : ℕ). line n ≡ lowest_due c.args.lines) this (whatever-block c.args.lines seen)

pub loop-n-preserved : goal.loop-n-preserved
loop-n-preserved c =
    let next : c.loop-n.n - 1 + 1 ≡ c.loop-n.n + 1 - 1 = omega (arith, c.loop-n.auto.n) in
    subst (λ (n : ℕ). Looking c.args.lines.waiting c.args.lines.mask (c.loop-n.waiting / 2) (c.loop-n.mask / 2) n) next
    (looking-on c.loop-n.invariant (omega (arith, c.loop-n-test.true)) c.if-waiting-mask-eq2.false)

pub returns : goal.returns
returns c = looking-all c.args.lines c.loop-n.invariant (omega (arith, c.loop-n-test.false))
