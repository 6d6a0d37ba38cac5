-- Digits to the base 16 are hexadecimal.
use Rattle.std.proofs.Common.{ap, ◌∙◌, ℕ, List}
use Rattle.numbers.specs.Slices.{put_at}
use Rattle.numbers.proofs.Filling.{in_base-hexadecimal}
use Rattle.numbers.proofs.digits.write_hexadecimal.Goals as goal

pub returns : goal.returns
returns c =
    c.write_digits.ensures
    ∙ ap (λ (characters : List ℕ). put_at characters c.args.text.now c.args.at)
    (in_base-hexadecimal c.args.count c.args.value)
