-- Document 01's sample file, byte by byte, is the file of the image that it describes, and what its memory adds up to; and what a file
-- without a budget comes to.
use Rattle.std.specs.Prelude.{[], ◌∷◌, ◌≡◌, refl}
use Rattle.std.proofs.Common.{ap}
use Rattle.numbers.specs.Lists.{bytes_of_list}
use Rattle.machine.specs.Limits.{memory_length}
use Rattle.machine.specs.Sum.{sum_of}
use Rattle.machine.proofs.Laws.Sum.{sum-padded}
use Rattle.image.specs.Format.{Image, section_of, budget_of, spelled}
use Rattle.image.specs.Loading.{loaded_from}

abbrev pub sample_image : Image
sample_image = record { memory = 0x34 ∷ 0x05 ∷ 0x34 ∷ 0x07 ∷ 0x0E ∷ 0x3D ∷ []; cells = []; budget = 1000 ∷ [] }

pub sample-file : spelled sample_image ≡
    0x00 ∷ 0x00 ∷ 0x00 ∷ 0x06 ∷ 0x34 ∷ 0x05 ∷ 0x34 ∷ 0x07 ∷ 0x0E ∷ 0x3D ∷
    0x00 ∷ 0x00 ∷ 0x00 ∷ 0x00 ∷ 0x00 ∷ 0x00 ∷ 0x00 ∷ 0x01 ∷ 0x00 ∷ 0x00 ∷ 0x03 ∷ 0xE8 ∷ []
unfolding bytes_of_list section_of spelled
sample-file = refl

pub sample-sum : (loaded_from sample_image).sum ≡ 191
unfolding loaded_from sum_of
sample-sum = sum-padded memory_length sample_image.memory

pub default-budget : (i : Image) → i.budget ≡ [] → (loaded_from i).budget ≡ 250000
unfolding loaded_from
default-budget i none = ap budget_of none
