-- Restored links show the same cells.
use Rattle.std.specs.Prelude.{◌≡◌, ℕ}
use Rattle.std.proofs.Common.{ap, ◌∙◌, arith}
use Rattle.links.specs.Linked.{frame_at, level_at}
use Rattle.links.specs.Restored.{Restored}
use Rattle.links.proofs.Laws.Stands.{frame_back, level-back}
use Rattle.links.specs.declared.Links.{Links}
use Rattle.links.specs.declared.Frame.{Frame}
use Rattle.links.specs.declared.Level.{Level}

module _ (o l : Links) (h : Restored o l) where
  pub frame-in-view : (frame_at l l.s).locals ≡ (frame_at o o.s).locals
  frame-in-view =
      ap (λ (n : ℕ). (frame_at l n).locals) h.same_s ∙ ap (λ (f : Frame). f.locals) (frame_back o l h o.s (omega arith))

  pub level-in-view : (level_at l l.e).cells ≡ (level_at o o.e).cells
  level-in-view =
      ap (λ (n : ℕ). (level_at l n).cells) h.same-e ∙ ap (λ (f : Level). f.cells) (level-back o l h o.e (omega arith))
