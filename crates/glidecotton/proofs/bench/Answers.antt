-- Each way out hands what the called functions ensure to its law.
use Rattle.glidecotton.proofs.Steps.{no_text, refusal_text, run_text}
use Rattle.glidecotton.proofs.bench.Goals as goal

pub returns-in-Ok : goal.returns-in-Ok
returns-in-Ok c =
    run_text c.args.image.now c.args.memory.now c.args.out.now _ _ c.read-loaded.ensures _ _ c.in-Ok.is c.run_fresh-ran.ensures c.report.ensures

pub returns-in-NotAsAsked : goal.returns-in-NotAsAsked
returns-in-NotAsAsked c = no_text c.args.image.now c.args.memory.now c.args.out.now _ _ c.read-loaded.ensures _ c.in-Err.is c.in-NotAsAsked.is

pub returns-in_default : goal.returns-in_default
returns-in_default c =
    refusal_text c.args.image.now c.args.memory.now c.args.out.now _ _ c.read-loaded.ensures _ _ _ c.in-Err.is c.in_default.not-NotAsAsked
    c.from.ensures c.refusal.ensures
