-- The reader's promise from what its parts ensure.
use mathlib.Core.List.{List}
use mathlib.Core.Path.{◌≡◌, sym, ap, subst, subst₂, ◌∙◌}
use Prim.Native.Nat.{ℕ, ◌+◌, ◌*◌, ◌≤◌}
use lib.ListN.{length}
use Rattle.std.proofs.Common.{Result, Err}
use Rattle.plain.specs.Answer.{gives}
use Rattle.numbers.specs.Laws.Bytes.{Bytes}
use Rattle.numbers.specs.Laws.Lists.{length-list-at}
use Rattle.machine.specs.declared.Machine.{Machine}
use Rattle.machine.specs.State.{fresh_machine, machine_with}
use Rattle.machine.specs.Limits.{memory_length}
use Rattle.machine.specs.Sum.{sum_of}
use Rattle.machine.proofs.Laws.Sum.{sum-padded}
use Rattle.links.specs.Depths.{cells_depth}
use Rattle.plain.specs.Zeros.{padded}
use Rattle.image.specs.Format.{budget_of, cell_width, limits}
use Rattle.image.specs.Loading.{Returned, Read, wrong-memory, not-spelled, read, other_memory, filled, loaded_from, refused_with}
use Rattle.image.specs.Judging.{bad_file, finds, says_judged, values_in, judged_of}
use Rattle.image.specs.Laws.Sound.{GoodFile, image_in, good-file, image-spellable, image-spells}
use Rattle.image.specs.Laws.Section.{elements-inside}
use Rattle.image.proofs.Laws.Computed.{none-spells}
use Rattle.image.specs.declared.Fault.{Fault}
use Rattle.image.specs.declared.Section.TheVariants.{Memory, Cells, Budget}
use Rattle.image.specs.declared.Spans.{Spans}

-- the memory section of a good file lies inside it
pub memory-inside : (file : List ℕ) (spans : Spans) → GoodFile file spans → spans.memory.from + (limits Memory).width * spans.memory.count ≤ length file
memory-inside file spans good = elements-inside file Memory 0 spans.memory good.memory-whole

-- what is placed is the image
module _ (file : List ℕ) (spans : Spans) where
  pub memory-placed : (before after : List ℕ) → length before ≡ memory_length → after ≡ padded (length before) (values_in file Memory spans.memory)
      → after ≡ filled (image_in file spans)
  unfolding image_in
  memory-placed before after long e = e ∙ ap (λ (size : ℕ). padded size (values_in file Memory spans.memory)) long

  pub machine-placed : (fresh : Machine) (cells : List ℕ) (budget sum : ℕ) → fresh ≡ fresh_machine → cells ≡ padded cells_depth (values_in file Cells spans.cells)
      → budget ≡ budget_of (values_in file Budget spans.budget) → sum ≡ sum_of (values_in file Memory spans.memory)
      → ◌≡◌ {A = Returned}
      (record {
        says = gives tt;
        machine =
            record {
              cells = cells;
              p = spans.cells.count;
              links = fresh.links;
              counter = fresh.counter;
              flag = fresh.flag;
              thrown = fresh.thrown;
              lines = fresh.lines;
            };
        budget = budget;
        sum = sum;
      })
      (loaded_from (image_in file spans))
  unfolding image_in machine_with loaded_from fresh_machine
  machine-placed fresh cells budget sum f c b s =
      let p : length (values_in file Cells spans.cells) ≡ spans.cells.count = length-list-at cell_width spans.cells.count file spans.cells.from in
      let zeros : sum ≡ sum_of (filled (image_in file spans)) = s ∙ sym (sum-padded memory_length (values_in file Memory spans.memory)) in
      λ t. record {
        says = gives tt;
        machine =
            record {
              cells = c t;
              p = sym p t;
              links = (f t).links;
              counter = (f t).counter;
              flag = (f t).flag;
              thrown = (f t).thrown;
              lines = (f t).lines;
            };
        budget = b t;
        sum = zeros t;
      }

-- the promise of a good file
pub good-answer : (file before after : List ℕ) (returned : Returned) (spans : Spans) → Bytes file → length before ≡ memory_length → judged_of file ≡ finds spans
    → after ≡ filled (image_in file spans) → returned ≡ loaded_from (image_in file spans) → Read file before after returned
good-answer file before after returned spans bytes long h m l =
    let good = good-file file spans h in
    subst₂ (λ (x : List ℕ) (y : Returned). Read file before x y) (sym m) (sym l)
    (read (image_in file spans) long (image-spellable file bytes spans good) (image-spells file bytes spans good))

-- and of the two refusals
pub memory-refused : (file before : List ℕ) (returned : Returned) → (length before ≡ memory_length → ⊥) → returned ≡ refused_with other_memory
    → Read file before before returned
memory-refused file before returned other e = subst (λ (h : Returned). Read file before before h) (sym e) (wrong-memory other)

pub file-refused : (file before : List ℕ) (returned : Returned) (j : Result Spans Fault) (fault : Fault) → length before ≡ memory_length
    → says_judged j ≡ judged_of file → j ≡ Err fault → returned ≡ refused_with bad_file → Read file before before returned
file-refused file before returned j fault long is bad e =
    subst (λ (h : Returned). Read file before before h) (sym e)
    (not-spelled long (none-spells file bad_file fault (sym is ∙ ap says_judged bad)))
