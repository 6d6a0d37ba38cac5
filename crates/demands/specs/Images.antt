-- What the reader of images leaves: nothing touched, or the image that a file spells.
use Rattle.std.specs.Prelude.{◌≡◌, List, ℕ}
use Rattle.plain.specs.Zeros.{padded}
use Rattle.machine.specs.Limits.{memory_length}
use Rattle.image.specs.Format.{Image, Spellable, spelled}
use Rattle.image.specs.Loading.{Returned, loaded_from, refused_with}

-- the memory as it was, a fresh machine, budget 0 and sum 0
pub record Untouched (before after : List ℕ) (returned : Returned) (answer : ℕ) : Type 0 where
  pub memory : after ≡ before
  pub refusal : returned ≡ refused_with answer

-- an image that the file spells, and that is what was read
pub record Spelled (file after : List ℕ) (returned : Returned) : Type 0 where
  pub image : Image
  pub spellable : Spellable image
  pub spells : spelled image ≡ file
  pub fills : after ≡ padded memory_length image.memory
  pub hands : returned ≡ loaded_from image
