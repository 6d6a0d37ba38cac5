-- What any history keeps of a state that a run accepts.
use Rattle.std.specs.Prelude.{◌≡◌, refl, true, List, ℕ, length}
use Rattle.std.proofs.Common.{sym, ap, ◌∙◌, subst}
use Rattle.links.specs.Fits.{CellFits}
use Rattle.machine.specs.Lines.{line, entering, entered_by, let_in}
use Rattle.machine.specs.State.{Whole}
use Rattle.machine.specs.Fits.{Fits, AllBytes, Exist}
use Rattle.machine.proofs.Laws.Passed.{step-done}
use Rattle.machine.proofs.Laws.Entered.{let-in-line}
use Rattle.machine.proofs.Laws.Kept.{Formed, Steady, step_kept, step-steady, let-in-good, let-in-steady, fair-at}
use Rattle.machine.proofs.Laws.Carries.{step-carries, let-in-carries}
use Rattle.machine.specs.declared.Machine.{Machine}
use Rattle.demands.specs.History.{World, asked, History, here, then, step, enters, host, others, Unbroken, LeavesBytes}

-- what holds of a machine before its next instruction holds after an entry
pub entered : (P : Machine → Type 0) (w v : World) (n : ℕ) → entering w.machine ≡ line n → v.machine ≡ entered_by n w.machine → P (let_in true w.machine) →
    P v.machine
entered P w v n e is h = subst P (let-in-line w.machine n e ∙ sym is) h

-- mask and waiting requests are no part of what these ask
asked-whole : (mask waiting : ℕ) (m : Machine) → Whole m → Whole (asked mask waiting m)
asked-whole mask waiting m h = record { cells-long = h.cells-long; shaped = h.shaped }

asked-steady : (mask waiting : ℕ) (m : Machine) → Steady m → Steady (asked mask waiting m)
asked-steady mask waiting m h =
    record { p-within = h.p-within; flag-within = h.flag-within; block_within = h.block_within; sound = h.sound }

-- the host leaves the machine whole and steady
pub host-kept : (w v : World) (mask waiting : ℕ) → v.machine ≡ asked mask waiting w.machine → Whole w.machine → Steady w.machine →
    Whole v.machine × Steady v.machine
host-kept w v mask waiting e whole steady = (
  subst Whole (sym e) (asked-whole mask waiting w.machine whole),
  subst Steady (sym e) (asked-steady mask waiting w.machine steady),
)

-- any history keeps the machine whole, and well formed but for mask and waiting requests
pub history-kept : {w v : World} → History w v → Whole w.machine → Steady w.machine → Whole v.machine × Steady v.machine
history-kept here whole steady = (whole, steady)
history-kept {w} (then {u = x} (step reach k e) rest) whole steady =
    let g = step-steady reach w.memory w.machine x.memory x.machine k whole steady e in
    history-kept rest g.whole g.steady
history-kept {w} (then {u = x} (enters n e kept is) rest) whole steady =
    let g = let-in-steady true w.memory w.machine whole steady in
    history-kept rest (entered Whole w x n e is g.whole) (entered Steady w x n e is g.steady)
history-kept {w} (then {u = x} (host mask waiting e) rest) whole steady =
    let g = host-kept w x mask waiting e whole steady in
    history-kept rest g.0 g.1
history-kept (then (others e) rest) whole steady = history-kept rest (subst Whole (sym e) whole) (subst Steady (sym e) steady)

-- without the host it stays well formed altogether
pub still_formed : {w v : World} (h : History w v) → Unbroken h → Whole w.machine → Formed w.machine → Formed v.machine
still_formed here u whole formed = formed
still_formed {w} (then {u = x} (step reach k e) rest) u whole formed =
    let g = step_kept reach w.memory w.machine x.memory x.machine k whole formed e in
    still_formed rest u g.whole g.formed
still_formed {w} (then {u = x} (enters n e kept is) rest) u whole formed =
    let g = let-in-good true w.memory w.machine whole formed in
    still_formed rest u (entered Whole w x n e is g.whole) (entered Formed w x n e is g.formed)
still_formed (then (host mask waiting e) rest) u whole formed = absurd u
still_formed (then (others e) rest) u whole formed = absurd u

-- completed instructions keep the memory as long as it was
pub same_length : {w v : World} (h : History w v) → Unbroken h → length v.memory ≡ length w.memory
same_length here u = refl
same_length {w} (then {u = x} (step reach k e) rest) u =
    same_length rest u ∙
    (ap length (step-done reach w.memory w.machine x.memory x.machine k e).memory ∙ (fair-at reach w.memory w.machine).same_length)
same_length (then (enters n e kept is) rest) u = same_length rest u ∙ ap length kept
same_length (then (host mask waiting e) rest) u = absurd u
same_length (then (others e) rest) u = absurd u

-- what is there when a machine is altered in its mask and requests, or not at all, and a memory of bytes is left
asked-fits : (mask waiting : ℕ) (m : Machine) → CellFits mask → CellFits waiting → Fits m → Fits (asked mask waiting m)
asked-fits mask waiting m mask_fits waiting-fits h =
    record {
      cells_fit = h.cells_fit;
      p-fits = h.p-fits;
      links-fit = h.links-fit;
      counter-fits = h.counter-fits;
      flag-fits = h.flag-fits;
      thrown-fits = h.thrown-fits;
      lines_fit = record { mask_fits = mask_fits; waiting-fits = waiting-fits; block-fits = h.lines_fit.block-fits };
    }

left-exists : (w v : World) (m : Machine) → Whole m → Fits m → v.machine ≡ m → AllBytes v.memory → Exist v.memory v.machine
left-exists w v m whole fits e bytes = record { whole = subst Whole (sym e) whole; fits = subst Fits (sym e) fits; bytes = bytes }

-- any history keeps what a machine that exists can hold, where the host and the other tasks leave a memory of bytes
pub history-carries : {w v : World} (h : History w v) → LeavesBytes h → Steady w.machine → Exist w.memory w.machine →
    Exist v.memory v.machine
history-carries here left steady exist = exist
history-carries {w} (then {u = x} (step reach k e) rest) left steady exist =
    let g = step-steady reach w.memory w.machine x.memory x.machine k exist.whole steady e in
    history-carries rest left g.steady (step-carries reach w.memory w.machine x.memory x.machine k steady exist e)
history-carries {w} (then {u = x} (enters n e kept is) rest) left steady exist =
    let g = let-in-carries true w.memory w.machine steady exist in
    history-carries rest left (entered Steady w x n e is g.0)
    (entered (Exist x.memory) w x n e is (subst (λ (l : List ℕ). Exist l (let_in true w.machine)) (sym kept) g.1))
history-carries {w} (then {u = x} (host mask waiting e) rest) (bytes, fits, left) steady exist =
    let m = asked mask waiting w.machine in
    history-carries rest left (subst Steady (sym e) (asked-steady mask waiting w.machine steady))
    (left-exists w x m (asked-whole mask waiting w.machine exist.whole)
    (asked-fits mask waiting w.machine fits.0 fits.1 exist.fits) e bytes)
history-carries {w} (then {u = x} (others e) rest) left steady exist =
    history-carries rest left.1 (subst Steady (sym e) steady) (left-exists w x w.machine exist.whole exist.fits e left.0)
