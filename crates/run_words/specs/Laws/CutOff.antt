-- What the fetch answers, for the step: the instruction is carried out, or refused for a byte that may not be read.
use Rattle.std.specs.Prelude.{◌≡◌, Bool, List, ℕ}
use Rattle.std.proofs.Math.Path.{refl, ap, sym}
use Rattle.std.proofs.Math.Bool.{true, false}
use Rattle.plain.specs.Answer.{refuses, gives}
use Rattle.plain.specs.Choice.{pick}
use Rattle.numbers.specs.Bytes.{byte_at}
use Rattle.machine.specs.Reach.{Bar, none, outside, foreign, is_outside, is_foreign}
use Rattle.machine.specs.Fetch.{Instruction, instruction_at}
use Rattle.machine.specs.Step.{refused, carried, step_of}
use Rattle.machine.specs.declared.Machine.{Machine}
use Rattle.machine.specs.declared.Reach.{Reach}
use Rattle.run_words.specs.Machines.{in_reach}
use Rattle.run_words.specs.Promises.{fetched_of}
use Rattle.run_words.specs.Laws.Answered.{apart}

-- what is fetched is the instruction that stands there
fetched-is : (i j : Instruction) → fetched_of i ≡ gives j → i ≡ j
fetched-is i j e = go (is_outside i.bar) e
  where
    go : (b : Bool) → pick b (refuses 3) (gives i) ≡ gives j → i ≡ j
    go true e = apart cc
    go false e = cc

module _ (reach : Reach) (mem : List ℕ) where
  pub code-there : (at code operand next : ℕ) → fetched_of (instruction_at reach mem at) ≡ gives (in_reach reach code operand next) → byte_at mem at ≡ code
  unfolding instruction_at
  code-there at code operand next e = ap (λ (i : Instruction). i.code) (fetched-is (instruction_at reach mem at) (in_reach reach code operand next) e)

  pub step_is : (m : Machine) (code operand next : ℕ) → fetched_of (instruction_at reach mem m.counter) ≡ gives (in_reach reach code operand next) →
      step_of reach mem m ≡ carried (in_reach reach code operand next) mem m
  unfolding step_of
  step_is m code operand next e =
      ap (λ (i : Instruction). carried i mem m) (fetched-is (instruction_at reach mem m.counter) (in_reach reach code operand next) e)

  -- a byte of the instruction is outside memory: the step is refused with what fetching answers
  pub cut_off : (m : Machine) (k : ℕ) → fetched_of (instruction_at reach mem m.counter) ≡ refuses k → step_of reach mem m ≡ refused k
  unfolding step_of carried
  cut_off m k e = go (is_outside (instruction_at reach mem m.counter).bar) refl e
    where
      go : (b : Bool) → is_outside (instruction_at reach mem m.counter).bar ≡ b →
          pick b (refuses 3) (gives (instruction_at reach mem m.counter)) ≡ refuses k → step_of reach mem m ≡ refused k
      go true h e = let three : 3 ≡ k = cc in rw (h, three)
      go false h e = apart cc

  -- one is in another's part
  pub foreign-refused : (m : Machine) → is_foreign (instruction_at reach mem m.counter).bar ≡ true → step_of reach mem m ≡ refused 17
  unfolding step_of carried
  foreign-refused m h = rw (not-outside (instruction_at reach mem m.counter).bar h, h)
    where
      not-outside : (bar : Bar) → is_foreign bar ≡ true → is_outside bar ≡ false
      not-outside none e = refl
      not-outside outside e = sym e
      not-outside foreign e = refl
