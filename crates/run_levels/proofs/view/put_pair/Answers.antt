-- Four bytes each.
use Rattle.std.proofs.Common.{List, ap, ◌∙◌, arith}
use lib.Seq.{sets, length-sets}
use Rattle.numbers.specs.Bytes.{bytes_of}
use Rattle.run_words.specs.Laws.Seen.{eight}
use Rattle.run_words.specs.Laws.Written.{written}
use Rattle.run_levels.proofs.view.put_pair.Goals as goal

pub returns : goal.returns
returns c = written 4 c.args.second 4 c.write.new.bytes (omega (arith, c.requires, ap (λ (l : List _). lib.ListN.length l) (written 4 c.args.first 0 c.args.bytes.now (omega (arith, c.requires)) c.write.ensures), length-sets c.args.bytes.now 0 (bytes_of 4 c.args.first))) c.write-2.ensures ∙ ap (λ (l : List _). sets l 4 (bytes_of 4 c.args.second)) (written 4 c.args.first 0 c.args.bytes.now (omega (arith, c.requires)) c.write.ensures) ∙ eight c.args.bytes.now c.args.first c.args.second c.requires
