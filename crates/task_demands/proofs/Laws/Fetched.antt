-- Memories that are alike within reach show the same instruction, or bar it alike.
use Rattle.std.specs.Prelude.{◌≡◌, Bool, List, ℕ, suc, ◌+◌, ◌*◌, ◌%◌, ◌^◌, ◌<◌, leb}
use Rattle.std.proofs.Math.Path.{refl, sym, ap}
use Rattle.std.proofs.Common.{◌∙◌, add-zero, arith}
use Rattle.std.proofs.Math.Bool.{true, false}
use Rattle.plain.specs.Choice.{pick}
use Rattle.numbers.specs.Bytes.{byte_at}
use Rattle.numbers.specs.Laws.Bytes.{same_number}
use Rattle.machine.specs.Limits.{memory_length}
use Rattle.machine.specs.Reach as reaches
use Rattle.machine.specs.Reach.{may_touch, outside, foreign, bar_of}
use Rattle.machine.specs.Codes.{Operand, none, number, offset, bytes_with, entry_at}
use Rattle.machine.specs.Fetch.{Instruction, operand_at, extended, instruction, instruction_at}
use Rattle.machine.proofs.Laws.Unbarred.{unbarred}
use Rattle.machine.specs.declared.Reach.{Reach}
use Rattle.task_demands.specs.Isolation.{Alike}

-- an operand is read from the instruction's bytes alone
same_operand : (o : Operand) (mem twin : List ℕ) (a : ℕ) → ((k : ℕ) → k < bytes_with o → byte_at mem (a + k) ≡ byte_at twin (a + k)) →
    operand_at o mem a ≡ operand_at o twin a
same_operand none mem twin a same = refl
same_operand (number n) mem twin a same =
    same_number n mem twin (a + 1) (a + 1)
    (λ i h.
    let next : a + 1 + i ≡ a + suc i = omega arith in
    ap (byte_at mem) next ∙ (same (suc i) (omega arith) ∙ ap (byte_at twin) (sym next)))
same_operand offset mem twin a same =
    let first : byte_at mem a ≡ byte_at twin a = ap (byte_at mem) (sym (add-zero a)) ∙ (same 0 (omega arith) ∙ ap (byte_at twin) (add-zero a)) in
    ap (λ (b : ℕ). ((a + 2) + extended (b % 2 ^ 6 * 2 ^ 8 + byte_at mem (a + 1))) % 2 ^ 32) first ∙
    ap (λ (b : ℕ). ((a + 2) + extended (byte_at twin a % 2 ^ 6 * 2 ^ 8 + b)) % 2 ^ 32) (same 1 (omega arith))

some_bytes : (o : Operand) → 0 < bytes_with o
some_bytes none = omega arith
some_bytes (number n) = omega arith
some_bytes offset = omega arith

module _ (reach : Reach) (a : ℕ) where
  -- out of reach the first byte bars the instruction, whatever it is
  first-bars : (o : Operand) → may_touch reach a ≡ false → bar_of reach a (bytes_with o) ≡ pick (leb memory_length a) outside foreign
  unfolding bar_of
  first-bars none e = ap (λ (b : Bool). pick (leb memory_length a) outside (pick b (bar_of reach (suc a) 0) foreign)) e
  first-bars (number n) e = ap (λ (b : Bool). pick (leb memory_length a) outside (pick b (bar_of reach (suc a) n) foreign)) e
  first-bars offset e = ap (λ (b : Bool). pick (leb memory_length a) outside (pick b (bar_of reach (suc a) 1) foreign)) e

  module _ (mem twin : List ℕ) (alike : Alike reach mem twin) where
    pub same-bar : (instruction_at reach mem a).bar ≡ (instruction_at reach twin a).bar
    unfolding instruction_at
    same-bar = go (may_touch reach a) refl
      where
        go : (b : Bool) → may_touch reach a ≡ b →
            bar_of reach a (bytes_with (entry_at (byte_at mem a)).operand) ≡ bar_of reach a (bytes_with (entry_at (byte_at twin a)).operand)
        go true is = ap (λ (c : ℕ). bar_of reach a (bytes_with (entry_at c).operand)) (alike.same_bytes a is)
        go false is = first-bars (entry_at (byte_at mem a)).operand is ∙ sym (first-bars (entry_at (byte_at twin a)).operand is)

    bytes-alike : (o : Operand) → bar_of reach a (bytes_with o) ≡ reaches.none → (k : ℕ) → k < bytes_with o → byte_at mem (a + k) ≡ byte_at twin (a + k)
    bytes-alike o clear k h = alike.same_bytes (a + k) (unbarred reach a (bytes_with o) clear k h)

    pub same_code : (instruction_at reach mem a).bar ≡ reaches.none → byte_at mem a ≡ byte_at twin a
    unfolding instruction_at
    same_code clear =
        let o = (entry_at (byte_at mem a)).operand in
        ap (byte_at mem) (sym (add-zero a)) ∙ (bytes-alike o clear 0 (some_bytes o) ∙ ap (byte_at twin) (add-zero a))

    pub same-instruction : (instruction_at reach mem a).bar ≡ reaches.none → instruction_at reach mem a ≡ instruction_at reach twin a
    unfolding instruction_at
    same-instruction clear =
        let c = byte_at mem a in
        let o = (entry_at c).operand in
        ap {B = Instruction}
        (λ (x : ℕ). record { code = c; operand = x; next = (a + bytes_with o) % 2 ^ 32; reach = reach; bar = bar_of reach a (bytes_with o) })
        (same_operand o mem twin a (bytes-alike o clear))
        ∙ ap (λ (c : ℕ). instruction c (entry_at c) reach twin a) (same_code clear)
