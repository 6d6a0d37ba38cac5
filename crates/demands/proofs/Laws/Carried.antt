-- A step that no test refuses is carried out; a CATCH at which none applies.
use Rattle.std.proofs.Common.{inl, inr, ap, ◌∙◌, arith, le-ltb}
use Rattle.std.specs.Prelude.{◌≡◌, refl, Bool, true, false, List, [], ◌∷◌, ℕ, ◌+◌, ◌-◌, ◌%◌, ◌^◌, ◌<◌, ◌≤◌}
use Rattle.std.proofs.Math.Path.{subst⁻¹}
use Rattle.std.proofs.lemmas.Bool.{lt-leb}
use Rattle.plain.specs.Choice.{pick}
use Rattle.numbers.specs.Bytes.{byte_at}
use Rattle.links.specs.Depths.{cells_depth, returns_depth, subroutines_depth, exceptions_depth}
use Rattle.machine.specs.Limits.{memory_length}
use Rattle.machine.specs.Reach.{none as unbarred, may_touch, bar_of}
use Rattle.machine.specs.Codes.{entry_at, table}
use Rattle.machine.specs.Fetch.{Instruction, instruction, instruction_at}
use Rattle.machine.specs.Rows.{row_of}
use Rattle.machine.specs.Checks.{Test}
use Rattle.machine.specs.Step.{Stepped, refused, done, put, cost_of, unless, carried, row_at, tests_at, step_of}
use Rattle.machine.proofs.Laws.Passed.{AllPass}
use Rattle.machine.specs.declared.Machine.{Machine}
use Rattle.machine.specs.declared.Reach.{Reach}
use Rattle.demands.specs.Lowest.{Applies}

all_pass : (ts : List Test) → ((k : ℕ) → Applies k ts → ⊥) → AllPass ts
all_pass [] none = tt
all_pass (t ∷ ts) none = (go t.holds refl, all_pass ts (λ k a. none k (inr a)))
  where
    go : (b : Bool) → t.holds ≡ b → t.holds ≡ false
    go true e = absurd (none t.number (inl (refl, e)))
    go false e = e

unless-passed : (ts : List Test) (result : Stepped) → AllPass ts → unless ts result ≡ result
unless-passed [] result h = refl
unless-passed (t ∷ ts) result h =
    ap (λ (b : Bool). pick b (refused t.number) (unless ts result)) h.0 ∙ unless-passed ts result h.1

pub unrefused : (reach : Reach) (mem : List ℕ) (m : Machine) → ((k : ℕ) → Applies k (tests_at reach mem m) → ⊥) →
    step_of reach mem m ≡ done (row_at reach mem m).memory (put (row_at reach mem m) m) (cost_of (instruction_at reach mem m.counter) m)
unfolding step_of carried
unrefused reach mem m none = unless-passed (tests_at reach mem m) _ (all_pass (tests_at reach mem m) none)

-- CATCH, with nothing that bars its byte
abbrev catch_at : Reach → ℕ → Instruction
catch_at reach a = record { code = 0x0B; operand = 0; next = (a + 1) % 2 ^ 32; reach = reach; bar = unbarred }

fetched : (reach : Reach) (mem : List ℕ) (a : ℕ) → byte_at mem a ≡ 0x0B → a < memory_length → may_touch reach a ≡ true →
    instruction_at reach mem a ≡ catch_at reach a
unfolding instruction_at entry_at table bar_of
fetched reach mem a is below may =
    ap (λ (code : ℕ). instruction code (entry_at code) reach mem a) is ∙
    rw (lt-leb memory_length a below, may)

-- it is carried out where there is an address to take and room on the three stacks
pub catch-goes : (reach : Reach) (mem : List ℕ) (m : Machine) → byte_at mem m.counter ≡ 0x0B →
    m.counter < memory_length → may_touch reach m.counter ≡ true →
    1 ≤ m.p → m.p ≤ cells_depth → m.links.r < returns_depth → m.links.s < subroutines_depth → m.links.e < exceptions_depth →
    step_of reach mem m ≡ done mem (put (row_at reach mem m) m) 2
unfolding step_of carried row_of entry_at table bar_of
catch-goes reach mem m is below may some p r s e =
    subst⁻¹ (λ (i : Instruction). carried i mem m ≡ done mem (put (row_of i mem m (entry_at i.code).op) m) 2)
    (fetched reach mem m.counter is below may)
    (rw (
      le-ltb m.p 1 some,
      le-ltb cells_depth (m.p - 1 + 0) (omega arith),
      lt-leb returns_depth m.links.r r,
      lt-leb subroutines_depth m.links.s s,
      lt-leb exceptions_depth m.links.e e,
    ))
