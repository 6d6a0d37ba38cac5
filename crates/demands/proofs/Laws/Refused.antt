-- A refusal's number: the first whose test holds; alone also the lowest of them, and one of the list.
use Rattle.std.proofs.Common.{inl, inr, subst, arith, leb→le}
use Rattle.std.specs.Prelude.{◌≡◌, Bool, true, false, List, ℕ, ◌*◌, ◌≤◌, T, leb, eqb, length, drop}
use Rattle.plain.specs.Choice.{pick, both}
use Rattle.machine.specs.Limits.{memory_length}
use Rattle.machine.specs.Reach.{alone, is_foreign, bar_of}
use Rattle.machine.specs.Fetch.{instruction_at}
use Rattle.machine.specs.Step.{refused, step_of, carried, put, cost_of, row_at, tests_at}
use Rattle.machine.specs.declared.Machine.{Machine}
use Rattle.machine.specs.declared.Reach.{Reach}
use Rattle.demands.specs.Lowest.{Applies, First, rank, Lowest}
use Rattle.demands.proofs.Laws.Lowest.{clash, refuses-first, first-applies, first-least, applies-listed}
use Rattle.demands.proofs.Laws.Alone.{never-foreign, not-finished}

pub refused-first : (reach : Reach) (mem : List ℕ) (m : Machine) (k : ℕ) → step_of reach mem m ≡ refused k → First k (tests_at reach mem m)
unfolding step_of carried
refused-first reach mem m k e =
    refuses-first (row_at reach mem m).memory (put (row_at reach mem m) m) (cost_of (instruction_at reach mem m.counter) m) (tests_at reach mem m) k e

-- the numbers by which an instruction can be refused, alone
abbrev pub listed : ℕ → Bool
listed k = pick (eqb k 0) true (pick (eqb k 16) true (both (leb 3 k) (leb k 13)))

-- from 3 on a number's place is no lower than that of 3
not-below-three : (j : ℕ) → 3 ≤ j → rank 3 ≤ rank j
not-below-three j low = go (eqb j 16)
  where
    go : (b : Bool) → 6 ≤ pick b 9 (2 * j)
    go true = omega arith
    go false = omega arith

module _ (mem : List ℕ) (m : Machine) where
  -- both tests for another's part
  code-own : is_foreign (instruction_at alone mem m.counter).bar ≡ false
  unfolding instruction_at
  code-own = never-foreign m.counter _

  data-own : is_foreign (bar_of (instruction_at alone mem m.counter).reach (row_at alone mem m).from (row_at alone mem m).touches) ≡ false
  unfolding instruction_at
  data-own = never-foreign _ _

  pub refused-listed : (k : ℕ) → step_of alone mem m ≡ refused k → T (listed k)
  refused-listed k e =
      applies-listed listed (tests_at alone mem m) (code-own, (data-own, tt)) k
      (first-applies k (tests_at alone mem m) (refused-first alone mem m k e))

  -- 3 stands before 0, but where it holds the program is not at its end; from 0 on the places rise
  first-lowest : length mem ≤ memory_length → (k : ℕ) → First k (tests_at alone mem m) → (j : ℕ) → Applies j (tests_at alone mem m) → rank k ≤ rank j
  first-lowest short k (inl (is, out)) j a =
      let from-three =
      applies-listed (leb 3) (tests_at alone mem m) (not-finished mem m short out, tt) j a in
      subst (λ (n : ℕ). rank n ≤ rank j) is (not-below-three j (leb→le 3 j from-three))
  first-lowest short k (inr (inside, inl (is, holds))) j a = absurd (clash _ holds code-own)
  first-lowest short k (inr (inside, inr (own, f))) j (inl (is, out)) = absurd (clash _ out inside)
  first-lowest short k (inr (inside, inr (own, f))) j (inr (inl (is, holds))) = absurd (clash _ holds own)
  first-lowest short k (inr (inside, inr (own, f))) j (inr (inr a)) = first-least rank 0 (drop 2 (tests_at alone mem m)) tt k f j a

  pub refused-lowest : length mem ≤ memory_length → (k : ℕ) → step_of alone mem m ≡ refused k → Lowest k (tests_at alone mem m)
  refused-lowest short k e =
      let f = refused-first alone mem m k e in
      record { applies = first-applies k (tests_at alone mem m) f; lowest = first-lowest short k f }
