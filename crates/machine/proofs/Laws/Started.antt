-- A machine as an image starts it exists, where its bytes and cells do.
use Rattle.std.specs.Prelude.{◌≡◌, List, ℕ, ◌+◌, ◌-◌, ◌≤◌, length, replicate}
use Rattle.std.proofs.Common.{ap, ◌∙◌, arith, lit<, length-append}
use Rattle.std.proofs.lemmas.List.{length-replicate}
use Rattle.plain.specs.All.{All}
use Rattle.plain.specs.Zeros.{padded}
use Rattle.plain.specs.Laws.All.{all-padded}
use Rattle.links.specs.Depths.{cells_depth}
use Rattle.links.specs.Fits.{CellFits}
use Rattle.links.proofs.Laws.Fresh.{fresh-shaped, fresh-fits}
use Rattle.machine.specs.Limits.{memory_length}
use Rattle.machine.specs.State.{machine_with}
use Rattle.machine.specs.Fits.{AllBytes, Exist}

pub padded-long : (size : ℕ) (l : List ℕ) → length l ≤ size → length (padded size l) ≡ size
unfolding padded
padded-long size l within =
    let more = size - length l in
    length-append l (replicate more 0) ∙ (ap (λ (n : ℕ). length l + n) (length-replicate more 0) ∙ omega arith)

pub start-exists : (code cells : List ℕ) → AllBytes code → All CellFits cells → length cells ≤ cells_depth →
    Exist (padded memory_length code) (machine_with cells)
unfolding machine_with
start-exists code cells bytes fit within =
    record {
      whole = record { cells-long = padded-long cells_depth cells within; shaped = fresh-shaped };
      fits =
          record {
            cells_fit = all-padded CellFits cells_depth cells fit (lit< tt);
            p-fits = omega arith;
            links-fit = fresh-fits;
            counter-fits = lit< tt;
            flag-fits = lit< tt;
            thrown-fits = record { address-fits = lit< tt; code_fits = lit< tt };
            lines_fit = record { mask_fits = lit< tt; waiting-fits = lit< tt; block-fits = lit< tt };
          };
      bytes = all-padded _ memory_length code bytes (lit< tt);
    }
