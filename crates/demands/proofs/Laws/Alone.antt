-- Alone all of memory is in reach and no byte is another's; and past the end of memory there is no EXIT.
use Rattle.std.specs.Prelude.{◌⊎◌, ◌≡◌, Bool, List, ℕ, zero, suc, ◌<◌, ◌≤◌, eqb}
use Rattle.std.proofs.Common.{inl, inr, subst, arith}
use Rattle.std.proofs.Math.Logic.{⊎_elim}
use Rattle.std.proofs.Math.Path.{refl}
use Rattle.std.proofs.Math.Bool.{true, false}
use borrow.Author.Tests.{ne_eqb, lt-ltb, leb-true, leb-false}
use Rattle.std.proofs.Math.Dec.{leb}
use Rattle.std.proofs.Math.ListN.{length, get_or-eq_default}
use Rattle.plain.specs.Choice.{pick, both}
use Rattle.numbers.specs.Bytes.{byte_at}
use Rattle.links.specs.Actions.{Act, still, push, call, catch, exit, pop, throw, keep, reset}
use Rattle.machine.specs.Limits.{memory_length}
use Rattle.machine.specs.Reach.{alone, may_touch, none as unbarred, outside, foreign, bar_of, is_outside, is_foreign}
use Rattle.machine.specs.Codes.{EXIT, LINK, bytes_with, entry_at, table}
use Rattle.machine.specs.Fetch.{instruction_at}
use Rattle.machine.specs.Checks.{a_frame, needs, among, wants}
use Rattle.machine.specs.Step.{row_at}
use Rattle.machine.proofs.Laws.Marks.{marked}
use Rattle.machine.proofs.Laws.Told.{Tells}
use Rattle.machine.proofs.Laws.Kept.{fair-at}
use Rattle.machine.specs.declared.Machine.{Machine}
use Rattle.demands.proofs.Laws.Lowest.{clash}

pub in_reach : (a : ℕ) → a < memory_length → may_touch alone a ≡ true
in_reach a below = rw (lt-ltb a memory_length below)

pub never-foreign : (a n : ℕ) → is_foreign (bar_of alone a n) ≡ false
unfolding bar_of
never-foreign a zero = refl
never-foreign a (suc n) = go (leb memory_length a) refl (never-foreign (suc a) n)
  where
    go : (b : Bool) → leb memory_length a ≡ b → is_foreign (bar_of alone (suc a) n) ≡ false →
        is_foreign (pick b outside (pick (may_touch alone a) (bar_of alone (suc a) n) foreign)) ≡ false
    go true e later = refl
    go false e later = rw (in_reach a (leb-false memory_length a e)) later

module _ (mem : List ℕ) (m : Machine) where
  abbrev code_here : ℕ
  code_here = byte_at mem m.counter

  -- only EXIT wants a subroutine level to leave, and RTI where there is one
  leaves : (act : Act) → Tells (instruction_at alone mem m.counter) m (entry_at code_here).op (row_at alone mem m) act → among a_frame (needs act) ≡ true →
      ((entry_at code_here).op ≡ LINK EXIT) ⊎ (m.links.s ≡ 0 → ⊥)
  leaves still t wanted = absurd (clash _ wanted refl)
  leaves (push x) t wanted = absurd (clash _ wanted refl)
  leaves (call address) t wanted = absurd (clash _ wanted refl)
  leaves (catch address p) t wanted = absurd (clash _ wanted refl)
  leaves exit (inl is) wanted = inl is
  leaves exit (inr (is, some)) wanted = inr some
  leaves pop t wanted = absurd (clash _ wanted refl)
  leaves throw t wanted = absurd (clash _ wanted refl)
  leaves (keep locals cells) t wanted = absurd (clash _ wanted refl)
  leaves reset t wanted = absurd (clash _ wanted refl)

  -- it is one byte
  exit-outside : code_here ≡ 0x3D → is_outside (instruction_at alone mem m.counter).bar ≡ true → memory_length ≤ m.counter
  unfolding instruction_at entry_at table bar_of
  exit-outside is out =
      go (leb memory_length m.counter) refl (may_touch alone m.counter)
      (subst (λ (c : ℕ). is_outside (bar_of alone m.counter (bytes_with (entry_at c).operand)) ≡ true) is out)
    where
      go : (b : Bool) → leb memory_length m.counter ≡ b → (may : Bool) → is_outside (pick b outside (pick may unbarred foreign)) ≡ true → memory_length ≤ m.counter
      go true e may h = leb-true memory_length m.counter e
      go false e true h = absurd (clash _ h refl)
      go false e false h = absurd (clash _ h refl)

  -- so it is not the end of the program that stands outside memory: past the bytes a read gives 0
  pub not-finished : length mem ≤ memory_length → is_outside (instruction_at alone mem m.counter).bar ≡ true →
      both (wants (row_at alone mem m) a_frame) (eqb m.links.s 0) ≡ false
  unfolding instruction_at
  not-finished short out = go (wants (row_at alone mem m) a_frame) refl
    where
      go : (b : Bool) → wants (row_at alone mem m) a_frame ≡ b → both b (eqb m.links.s 0) ≡ false
      go true wanted =
          ⊎_elim
          (λ exits.
          let is = marked code_here EXIT exits in
          let past : length mem ≤ m.counter = omega (arith, exit-outside is out) in
          let zero-there : code_here ≡ 0 = get_or-eq_default mem 0 past in
          absurd (omega (arith, is, zero-there)))
          (λ some. ne_eqb m.links.s 0 some) (leaves (row_at alone mem m).link (fair-at alone mem m).tells wanted)
      go false wanted = refl
