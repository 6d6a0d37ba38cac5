-- Machines and kept numbers, as tasks.
use Rattle.std.specs.Prelude.{◌≡◌, refl, List, [], ◌∷◌, ℕ, zero, suc, length, get_or, set}
use Rattle.std.proofs.Common.{ap, sym, ◌∙◌, arith}
use Rattle.machine.specs.Tasks.{Task, task_of, paired, no_machine, task_at, tasks_in, Four}
use Rattle.machine.specs.declared.Machine.{Machine}
use Rattle.machine.specs.declared.Tasks.{Tasks}

pub paired-set : (ms : List Machine) (ks : List ℕ) (t : ℕ) (m : Machine) (k : ℕ) → paired (set ms t m) (set ks t k) ≡ set (paired ms ks) t (task_of m k)
paired-set [] ks t m k = refl
paired-set (x ∷ ms) [] zero m k = refl
paired-set (x ∷ ms) [] (suc t) m k = refl
paired-set (x ∷ ms) (y ∷ ks) zero m k = refl
paired-set (x ∷ ms) (y ∷ ks) (suc t) m k = ap (λ (l : List Task). task_of x y ∷ l) (paired-set ms ks t m k)

pub paired-length : (ms : List Machine) (ks : List ℕ) {n : ℕ} → length ms ≡ n → length ks ≡ n → length (paired ms ks) ≡ n
paired-length [] ks em ek = em
paired-length (x ∷ ms) [] em ek = ek
paired-length (x ∷ ms) (y ∷ ks) em ek =
    let same : length ms ≡ length ks = omega arith in
    let rest = paired-length ms ks same refl in
    omega (arith, rest)

-- where there are as many of both
pub paired_at : (ms : List Machine) (ks : List ℕ) (t : ℕ) → length ms ≡ length ks → task_at (paired ms ks) t ≡ task_of (get_or ms t no_machine) (get_or ks t 0)
paired_at [] [] t e = refl
paired_at [] (y ∷ ks) t e = absurd (omega arith)
paired_at (x ∷ ms) [] t e = absurd (omega arith)
paired_at (x ∷ ms) (y ∷ ks) zero e = refl
paired_at (x ∷ ms) (y ∷ ks) (suc t) e = paired_at ms ks t (omega arith)

-- machines and numbers, as many of one as of the other, are told from their tasks
abbrev machines_of : List Task → List Machine
machines_of [] = []
machines_of (t ∷ ts) = t.machine ∷ machines_of ts

abbrev kept_of : List Task → List ℕ
kept_of [] = []
kept_of (t ∷ ts) = t.kept ∷ kept_of ts

machines-back : (ms : List Machine) (ks : List ℕ) → length ms ≡ length ks → machines_of (paired ms ks) ≡ ms
machines-back [] ks e = refl
machines-back (m ∷ ms) [] e = absurd (omega arith)
machines-back (m ∷ ms) (k ∷ ks) e = ap (λ (l : List Machine). m ∷ l) (machines-back ms ks (omega arith))

kept_back : (ms : List Machine) (ks : List ℕ) → length ms ≡ length ks → kept_of (paired ms ks) ≡ ks
kept_back [] [] e = refl
kept_back [] (k ∷ ks) e = absurd (omega arith)
kept_back (m ∷ ms) [] e = absurd (omega arith)
kept_back (m ∷ ms) (k ∷ ks) e = ap (λ (l : List ℕ). k ∷ l) (kept_back ms ks (omega arith))

pub only-tasks-in : (t u : Tasks) → Four t → Four u → tasks_in t ≡ tasks_in u → t ≡ u
only-tasks-in t u h k e =
    let one : length t.machines ≡ length t.kept = h.machines-long ∙ sym h.kept-long in
    let other : length u.machines ≡ length u.kept = k.machines-long ∙ sym k.kept-long in
    let machines : t.machines ≡ u.machines =
    sym (machines-back t.machines t.kept one) ∙ ap machines_of e ∙ machines-back u.machines u.kept other in
    let kept : t.kept ≡ u.kept = sym (kept_back t.machines t.kept one) ∙ ap kept_of e ∙ kept_back u.machines u.kept other in
    λ i. record { machines = machines i; kept = kept i }
