-- As many digits to the base 10 as the number has are its decimal.
use Rattle.std.proofs.Common.{ap, ◌∙◌, ℕ, List}
use Rattle.numbers.specs.Laws.Base.{in_base}
use Rattle.numbers.specs.Slices.{put_at}
use Rattle.numbers.proofs.Filling.{in_base-decimal}
use Rattle.numbers.proofs.digits.write_decimal.Goals as goal

pub returns : goal.returns
returns c =
    c.write_digits.ensures ∙ ap (λ (characters : List ℕ). put_at characters c.args.text.now c.args.at)
    (ap (λ (k : ℕ). in_base 10 k c.args.value) c.decimal_length.ensures ∙ in_base-decimal c.args.value)
