-- Where there is room the digits are put, else nothing is touched.
use Rattle.std.proofs.Common.{refl, sym, ℕ}
use Rattle.numbers.specs.Laws.Base.{in_base}
use Rattle.numbers.proofs.Answering.{within, part-sets, put, not-put}
use Rattle.numbers.proofs.Filling.{length-in_base}
use Rattle.numbers.proofs.digits.write_digits.Goals as goal

pub returns-then-not-inside : goal.returns-then-not-inside
returns-then-not-inside g c =
    not-put _ c.args.text.now c.args.at c.args.count (sym (length-in_base g.row.BASE c.args.count c.args.value))
    c.if-not-inside.ensures

pub returns : goal.returns
returns g c =
    put _ c.args.text.now c.args.at c.args.count (sym (length-in_base g.row.BASE c.args.count c.args.value)) _
    c.if-not-inside.ensures
    (part-sets (λ (n : ℕ). in_base g.row.BASE n c.args.value) (λ n. length-in_base g.row.BASE n c.args.value)
    c.args.count c.args.at c.args.count c.args.text.now _
    (within c.args.count c.args.text.now c.args.at c.args.count refl c.if-not-inside.ensures) refl c.put_digits.ensures)
