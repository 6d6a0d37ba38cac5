-- What an instruction takes: what its code says, but 1 for THROW of 0.
use Rattle.std.specs.Prelude.{◌≡◌, refl, Bool, true, false, eqb}
use Rattle.std.proofs.Common.{eqb-true, eq-eqb}
use Rattle.plain.specs.Choice.{pick, both}
use Rattle.machine.specs.Codes.{cycles_of}
use Rattle.machine.specs.Fetch.{Instruction}
use Rattle.machine.specs.Rows.{top}
use Rattle.machine.specs.Step.{cost_of, cycles_of_throw_of_zero}
use Rattle.machine.specs.declared.Machine.{Machine}

pub by_code : (i : Instruction) (m : Machine) → (i.code ≡ 0x0D → top m ≡ 0 → ⊥) → cost_of i m ≡ cycles_of i.code
by_code i m other = go (eqb i.code 0x0D) (eqb (top m) 0) refl refl
  where
    go : (a b : Bool) → eqb i.code 0x0D ≡ a → eqb (top m) 0 ≡ b → pick (both a b) cycles_of_throw_of_zero (cycles_of i.code) ≡ cycles_of i.code
    go true true e z = absurd (other (eqb-true i.code 0x0D e) (eqb-true (top m) 0 z))
    go true false e z = refl
    go false b e z = refl

pub zero-thrown : (i : Instruction) (m : Machine) → i.code ≡ 0x0D → top m ≡ 0 → cost_of i m ≡ 1
zero-thrown i m is z = rw (eq-eqb i.code 0x0D is, eq-eqb (top m) 0 z)
