-- The last THROW of a history: request P6.
use Rattle.std.specs.Prelude.{Bool, false, ◌≡◌, eqb}
use Rattle.plain.specs.Choice.{pick, both, not}
use Rattle.machine.specs.Rows.{top}
use Rattle.machine.specs.declared.LastThrow.{LastThrow}
use Rattle.demands.specs.History.{World, code_at, step, enters, host, others, History, here, then}

-- the instruction at the counter is a THROW of non-zero
abbrev pub throws_at : World → Bool
throws_at w = both (eqb (code_at w) 0x0D) (not (eqb (top w.machine) 0))

-- its own address, and the number thrown
abbrev pub throw_at : World → LastThrow
throw_at w = record { address = w.machine.counter; code = top w.machine }

-- the last THROW of non-zero that a history carries out; one that carries out none leaves the one before
abbrev pub last_throw : {w v : World} → History w v → LastThrow → LastThrow
last_throw here before = before
last_throw {w} (then (step reach k e) rest) before = last_throw rest (pick (throws_at w) (throw_at w) before)
last_throw (then (enters n e kept is) rest) before = last_throw rest before
last_throw (then (host mask waiting e) rest) before = last_throw rest before
last_throw (then (others e) rest) before = last_throw rest before

-- none is carried out
abbrev pub NoneThrows : {w v : World} → History w v → Type 0
NoneThrows here = Unit {0}
NoneThrows {w} (then (step reach k e) rest) = (throws_at w ≡ false) × NoneThrows rest
NoneThrows (then (enters n e kept is) rest) = NoneThrows rest
NoneThrows (then (host mask waiting e) rest) = NoneThrows rest
NoneThrows (then (others e) rest) = NoneThrows rest
