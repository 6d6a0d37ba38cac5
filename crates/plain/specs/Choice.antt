-- The plain choices that every definition of the machine is written with.
use Rattle.std.specs.Prelude.{Bool, true, false}

-- a where the test holds, else b
abbrev pub pick {ℓ} : {A : Type ℓ} → Bool → A → A → A
pick true a b = a
pick false a b = b

abbrev pub both : Bool → Bool → Bool
both true b = b
both false b = false

abbrev pub not : Bool → Bool
not true = false
not false = true

-- the test of a fact that is decided
abbrev pub decided : {A : Type 0} → Dec A → Bool
decided (yes fact) = true
decided (no other) = false
