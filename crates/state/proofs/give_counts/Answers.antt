-- The numbers fill the buffer.
use Rattle.state.specs.Layout.{result_fields, result}
use Rattle.state.specs.Promise.{wrong_size}
use Rattle.state.proofs.Putting.{none, ◌then◌, ◌first◌, fields-put, put_whole}
use Rattle.state.proofs.give_counts.Goals as goal

pub returns-then-res-ne-RESULT : goal.returns-then-res-ne-RESULT
returns-then-res-ne-RESULT c = wrong_size c.if-res-ne-RESULT.true

pub returns : goal.returns
returns c =
    put_whole result _ c.args.res.now _ c.if-res-ne-RESULT.false
    (fields-put result_fields _ c.args.res.now 0 _ (c.put.ensures
    first c.put-2.ensures then c.put-3.ensures then c.put-4.ensures then none))
