-- What stands at an address of memory, by what follows its first byte.
use Rattle.std.specs.Prelude.{◌≡◌, Bool, List, ltb}
use Rattle.std.proofs.Math.Path.{refl, ap}
use Rattle.std.proofs.Common.{◌∙◌, subst, arith}
use Rattle.std.proofs.Math.Bool.{true, false}
use Prim.Native.Nat.{ℕ, suc, ◌+◌, ◌-◌, ◌≤◌, ◌<◌, ◌%◌, ◌^◌}
use borrow.Author.Tests.{le-ltb, leb-false}
use Rattle.std.proofs.Math.Dec.{leb}
use Rattle.plain.specs.Answer.{refuses, gives}
use Rattle.plain.specs.Choice.{pick}
use Rattle.numbers.specs.Bytes.{byte_at}
use Rattle.machine.specs.Limits.{memory_length}
use Rattle.machine.specs.Reach.{Bar, none, outside, foreign, may_touch, bar_of, is_foreign}
use Rattle.machine.specs.Codes.{Operand, offset, bytes_with, entry_beq, entry_bra, entry_at}
use Rattle.machine.specs.Fetch.{instruction_at, operand_at}
use Rattle.machine.proofs.Laws.Bars.{shared-free, first-barred, inside-free, cut_off}
use Rattle.machine.proofs.Laws.Lengths.{a_byte, five-bytes}
use Rattle.machine.specs.declared.Reach.{Reach}
use Rattle.run_words.specs.Machines.{in_reach}
use Rattle.run_words.specs.Promises.{Fetches}
use Rattle.run_words.specs.Laws.Answered.{apart}

module _ (mem : List ℕ) (at code : ℕ) (kind : Operand)
    (stands : byte_at mem at ≡ code) (follows : (entry_at code).operand ≡ kind) where
  bar-there : (reach : Reach) → (instruction_at reach mem at).bar ≡ bar_of reach at (bytes_with kind)
  unfolding instruction_at
  bar-there reach = rw (stands, follows)

  -- a byte of it is outside memory: test 3
  pub cut : memory_length < at + bytes_with kind → Fetches mem at (λ reach. refuses 3)
  cut h reach own =
      rw (bar-there reach ∙ cut_off reach (bytes_with kind) at (a_byte kind) h (subst (λ (b : Bar). is_foreign b ≡ false) (bar-there reach) own))

  -- it lies in memory
  pub whole : (operand next : ℕ) → at + bytes_with kind ≤ memory_length → operand ≡ operand_at kind mem at → next ≡ (at + bytes_with kind) % 2 ^ 32 →
      Fetches mem at (λ reach. gives (in_reach reach code operand next))
  unfolding instruction_at
  whole operand next h same after reach own =
      let free = inside-free reach (bytes_with kind) at h (subst (λ (b : Bar). is_foreign b ≡ false) (bar-there reach) own) in
      rw (stands, follows, free, same, after)

-- past the end of memory: test 3
pub past : (mem : List ℕ) (at : ℕ) → memory_length ≤ at → Fetches mem at (λ reach. refuses 3)
past mem at h =
    let kind = (entry_at (byte_at mem at)).operand in
    cut mem at (byte_at mem at) kind refl refl (omega (arith, a_byte kind))

-- from 80 on an offset follows
pub branch_follows : (code : ℕ) → 0x80 ≤ code → (entry_at code).operand ≡ offset
unfolding entry_at
branch_follows code above = rw (le-ltb code 0x80 above) (go (ltb code 0xC0))
  where
    go : (b : Bool) → (pick b entry_beq entry_bra).operand ≡ offset
    go true = refl
    go false = refl

-- nothing bars it
abbrev free : Bar → Bool
free none = true
free outside = false
free foreign = false

-- what bars the instruction at an address
module _ (reach : Reach) (mem : List ℕ) (at : ℕ) where
  abbrev length : ℕ
  length = bytes_with (entry_at (byte_at mem at)).operand

  -- its first byte, where that is barred
  pub by_first : {bar : Bar} → bar ≡ bar_of reach at 1 → free bar ≡ false → bar ≡ (instruction_at reach mem at).bar
  unfolding instruction_at
  by_first {bar} e barred =
      let some : bar ≡ none → ⊥ = λ h. apart (cc (ap free h, barred)) in
      let some_byte : suc (length - 1) ≡ length = omega (arith, a_byte (entry_at (byte_at mem at)).operand) in
      first-barred reach (length - 1) at e some ∙ ap (bar_of reach at) some_byte

  -- a first byte that is not barred is in memory
  pub first-inside : none ≡ bar_of reach at 1 → at < memory_length
  unfolding bar_of
  first-inside e = go (leb memory_length at) refl (may_touch reach at) e
    where
      go : (x : Bool) → leb memory_length at ≡ x → (y : Bool) → none ≡ pick x outside (pick y none foreign) → at < memory_length
      go true hx y e = apart cc
      go false hx y e = leb-false memory_length at hx

  -- all of its bytes
  pub by_all : {code size : ℕ} {bar : Bar} → code ≡ byte_at mem at → size ≡ bytes_with (entry_at code).operand → bar ≡ bar_of reach at size →
      bar ≡ (instruction_at reach mem at).bar
  unfolding instruction_at
  by_all ec es eb = eb ∙ (ap (bar_of reach at) es ∙ ap (λ (c : ℕ). bar_of reach at (bytes_with (entry_at c).operand)) ec)

  -- where there is room for five shared bytes, none is foreign
  pub all-shared : reach.shared ≤ memory_length → at + 5 ≤ reach.shared → false ≡ is_foreign (instruction_at reach mem at).bar
  unfolding instruction_at
  all-shared limit h = rw (shared-free reach length at limit (omega (arith, five-bytes (byte_at mem at))))
