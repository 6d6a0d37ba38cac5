-- Four bytes written inside the state.
use borrow.Author.Rules.{rules}
use Rattle.state.proofs.Putting.{number_put, is_written}
use Rattle.state.proofs.parts.U32Stored.put.Goals as goal

pub unwrap-requires : goal.unwrap-requires
unwrap-requires c = is_written 4 c.args.self.now c.args.state.now c.args.at _ _ c.requires c.write.ensures

pub returns : goal.returns
returns c = number_put 4 c.args.self.now c.args.state.now c.args.at _ c.requires (search rules) c.write.ensures
