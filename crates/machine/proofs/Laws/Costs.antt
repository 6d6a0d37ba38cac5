-- Clock cycles: each instruction takes from 1 to 42, so n steps report from n to 42n.
use Rattle.std.specs.Prelude.{◌≡◌, refl, Bool, true, false, List, [], ◌∷◌, map, ℕ, zero, suc, ◌+◌, ◌*◌, ◌≤◌, ◌<◌, leb, ltb, eqb, get_or, take}
use Rattle.std.proofs.Common.{ap, ◌∙◌, sym, le_of_suc-le-suc, not-suc-le-zero, arith, lt-ltb, le-ltb, eqb-true, leb→le}
use Rattle.std.proofs.lemmas.Bool.{eqb-false}
use Rattle.std.proofs.Math.ListN.{get_or-map, get_or-eq_default}
use Rattle.plain.specs.Choice.{pick, both}
use Rattle.plain.specs.Laws.Choice.{both-parts}
use Rattle.machine.specs.Codes.{Entry, unknown, entry_beq, entry_bra, cycles_end, table, entry_at, code_pause, cycles_of, cycle_table}
use Rattle.machine.specs.Fetch.{Instruction, instruction_at}
use Rattle.machine.specs.Rows.{top}
use Rattle.machine.specs.Step.{done, step_of, cost_of, cycles_of_throw_of_zero}
use Rattle.machine.specs.Run.{Manner, run_from, CyclesBounded}
use Rattle.machine.proofs.Laws.Along.{along}
use Rattle.machine.proofs.Laws.Passed.{step-done}
use Rattle.machine.proofs.Laws.Tables.{Everywhere, at-code, get_or-within}
use Rattle.machine.specs.declared.Machine.{Machine}
use Rattle.machine.specs.declared.Reach.{Reach}

-- the bound, tested over an entry
bounded : ℕ → Entry → Bool
bounded code e = both (leb 1 e.cycles) (leb e.cycles 42)

entries-bounded : Everywhere bounded
unfolding bounded table
entries-bounded = record { in_table = tt; past = λ code. tt; branches = λ code. (tt, tt) }

-- the entry of a code below 80 or not
picked : (code : ℕ) (a : Bool) → ltb code 0x80 ≡ a →
    entry_at code ≡
    pick a (get_or table code unknown) (pick (ltb code 0xC0) entry_beq entry_bra)
unfolding entry_at
picked code a e =
    ap
    (λ (b : Bool). pick b (get_or table code unknown) (pick (ltb code 0xC0) entry_beq entry_bra))
    e

-- an entry within what is taken of a list
get_or-taken : (n : ℕ) (l : List Entry) (i : ℕ) → i < n → get_or (take n l) i unknown ≡ get_or l i unknown
get_or-taken zero l i h = absurd (not-suc-le-zero h)
get_or-taken (suc n) [] i h = refl
get_or-taken (suc n) (x ∷ xs) zero h = refl
get_or-taken (suc n) (x ∷ xs) (suc i) h = get_or-taken n xs i (le_of_suc-le-suc h)

-- an entry of the cycle table is the code's cycles
pub cycle-at : (code : ℕ) → code < cycles_end → get_or cycle_table code 0 ≡ cycles_of code
unfolding cycle_table table
cycle-at code h =
    get_or-within (map (λ (e : Entry). e.cycles) (take cycles_end table)) code 0 1 h ∙
    (get_or-map (λ (e : Entry). e.cycles) (take cycles_end table) code unknown ∙
    (ap (λ (e : Entry). e.cycles) (get_or-taken cycles_end table code h) ∙
    sym (ap (λ (e : Entry). e.cycles) (picked code true (lt-ltb code 0x80 (omega arith))))))

-- past the cycle table a code below 80 counts as 1, PAUSE too, and a branch as 2
pub cycle-past : (code : ℕ) → cycles_end ≤ code → code < 0x80 → cycles_of code ≡ 1
unfolding entry_at table
cycle-past code h k = go (eqb code code_pause) refl
  where
    go : (b : Bool) → eqb code code_pause ≡ b → cycles_of code ≡ 1
    go true e = ap (λ (c : ℕ). cycles_of c) (eqb-true code code_pause e)
    go false e =
        let other : code ≡ code_pause → ⊥ = eqb-false code code_pause e in
        let past : suc code_pause ≤ code = omega arith in
        ap (λ (e : Entry). e.cycles) (picked code true (lt-ltb code 0x80 k) ∙ get_or-eq_default table unknown past)

pub cycle-branch : (code : ℕ) → 0x80 ≤ code → cycles_of code ≡ 2
cycle-branch code h =
    ap (λ (e : Entry). e.cycles) (picked code false (le-ltb code 0x80 h)) ∙ go (ltb code 0xC0)
  where
    go : (b : Bool) → (pick b entry_beq entry_bra).cycles ≡ 2
    go true = refl
    go false = refl

-- every code takes from 1 to 42 cycles
pub cycles-bounded : (code : ℕ) → (1 ≤ cycles_of code) × (cycles_of code ≤ 42)
unfolding bounded
cycles-bounded code =
    let t = both-parts (leb 1 (cycles_of code)) (leb (cycles_of code) 42) (at-code bounded entries-bounded code) in
    (leb→le 1 (cycles_of code) t.0, leb→le (cycles_of code) 42 t.1)

-- so does an instruction, THROW of 0 included
pub cost-bounded : (i : Instruction) (m : Machine) → (1 ≤ cost_of i m) × (cost_of i m ≤ 42)
cost-bounded i m = go (both (eqb i.code 0x0D) (eqb (top m) 0))
  where
    go : (b : Bool) → (1 ≤ pick b cycles_of_throw_of_zero (cycles_of i.code)) × (pick b cycles_of_throw_of_zero (cycles_of i.code) ≤ 42)
    go true = (omega arith, omega arith)
    go false = cycles-bounded i.code

pub run-bounded : (reach : Reach) (manner : Manner) (left : ℕ) (mem : List ℕ) (m : Machine) (n c : ℕ) → n ≤ c → c ≤ 42 * n →
    CyclesBounded (run_from reach manner left mem m n c)
run-bounded reach manner left mem m n c lo hi =
    let b = along reach manner (λ mem m n c. (n ≤ c) × (c ≤ 42 * n)) counted (λ mem m n c now. now) left mem m n c (lo, hi) in
    record { least = b.0; most = b.1 }
  where
    counted : (mem : List ℕ) (m : Machine) (n c : ℕ) (mem' : List ℕ) (m' : Machine) (k : ℕ) → (n ≤ c) × (c ≤ 42 * n) → step_of reach mem m ≡ done mem' m' k →
        (suc n ≤ c + k) × (c + k ≤ 42 * suc n)
    counted mem m n c mem' m' k now e =
        let b = cost-bounded (instruction_at reach mem m.counter) m in
        let is = (step-done reach mem m mem' m' k e).cost in
        (omega (arith, is), omega (arith, is))
