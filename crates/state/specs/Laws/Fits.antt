-- What the bytes of a state can carry is what a machine that exists can hold, field by field.
use Rattle.std.specs.Prelude.{List, [], ◌∷◌}
use Rattle.plain.specs.All.{All}
use Rattle.links.specs.Fits.{FrameFits, LevelFits, LinksFit}
use Rattle.links.specs.Linked.{Shaped}
use Rattle.links.specs.declared.Frame.{Frame}
use Rattle.links.specs.declared.Level.{Level}
use Rattle.links.specs.declared.Links.{Links}
use Rattle.machine.specs.Fits.{Fits}
use Rattle.machine.specs.State.{Whole}
use Rattle.machine.specs.declared.Machine.{Machine}
use Rattle.state.specs.Layout.{frame, level, links, state}
use Rattle.state.specs.Laws.Sound.{◌and◌}

all_map : {A : Type 0} (P Q : A → Type 0) → ((x : A) → P x → Q x) → (xs : List A) → All P xs → All Q xs
all_map P Q f [] h = tt
all_map P Q f (x ∷ xs) h = (f x h.0, all_map P Q f xs h.1)

-- what exists is carried
frame-carried : (f : Frame) → FrameFits f → frame.Fits f
frame-carried f h = (h.locals-long and h.locals-fit) and h.r-fits and h.address-fits and tt

level-carried : (l : Level) → LevelFits l → level.Fits l
level-carried l h = (h.cells-long and h.cells_fit) and h.s-fits and h.p-fits and h.address-fits and tt

links-carried : (l : Links) → Shaped l → LinksFit l → links.Fits l
links-carried l long h =
    (long.returns-long and h.returns-fit)
    and h.r-fits
    and (long.frames-long and all_map FrameFits frame.Fits frame-carried l.frames h.frames-fit)
    and h.s-fits
    and (long.levels-long and all_map LevelFits level.Fits level-carried l.levels h.levels-fit)
    and h.e-fits
    and tt

pub machine-carried : (m : Machine) → Whole m → Fits m → state.Fits m
machine-carried m whole h =
    (whole.cells-long and h.cells_fit)
    and h.p-fits
    and links-carried m.links whole.shaped h.links-fit
    and h.counter-fits
    and h.flag-fits
    and h.thrown-fits.address-fits
    and h.thrown-fits.code_fits
    and h.lines_fit.mask_fits
    and h.lines_fit.waiting-fits
    and h.lines_fit.block-fits
    and tt

-- what is carried exists
frame-exists : (f : Frame) → frame.Fits f → FrameFits f
frame-exists f h = record { locals-long = h.0.0; locals-fit = h.0.1; r-fits = h.1.0; address-fits = h.1.1.0 }

level-exists : (l : Level) → level.Fits l → LevelFits l
level-exists l h =
    record { cells-long = h.0.0; cells_fit = h.0.1; s-fits = h.1.0; p-fits = h.1.1.0; address-fits = h.1.1.1.0 }

links-exist : (l : Links) → links.Fits l → LinksFit l
links-exist l h =
    record {
      returns-fit = h.0.1;
      r-fits = h.1.0;
      frames-fit = all_map frame.Fits FrameFits frame-exists l.frames h.1.1.0.1;
      s-fits = h.1.1.1.0;
      levels-fit = all_map level.Fits LevelFits level-exists l.levels h.1.1.1.1.0.1;
      e-fits = h.1.1.1.1.1.0;
    }

pub machine-exists : (m : Machine) → state.Fits m → Fits m
machine-exists m h =
    let lines = h.1.1.1.1.1.1.1 in
    record {
      cells_fit = h.0.1;
      p-fits = h.1.0;
      links-fit = links-exist m.links h.1.1.0;
      counter-fits = h.1.1.1.0;
      flag-fits = h.1.1.1.1.0;
      thrown-fits = record { address-fits = h.1.1.1.1.1.0; code_fits = h.1.1.1.1.1.1.0 };
      lines_fit = record { mask_fits = lines.0; waiting-fits = lines.1.0; block-fits = lines.1.1.0 };
    }

-- its lists are as long as the arrays that they stand for
pub machine-whole : (m : Machine) → state.Fits m → Whole m
machine-whole m h =
    let links = h.1.1.0 in
    record {
      cells-long = h.0.0;
      shaped = record { returns-long = links.0.0; frames-long = links.1.1.0.0; levels-long = links.1.1.1.1.0.0 };
    }
