-- Another length, too large a mask, or the mask written.
use native.Mathlib.Omega.{arith}
use Rattle.state.proofs.Putting.{is_written}
use Rattle.lines.specs.Bytes.{mask_place}
use Rattle.lines.proofs.Changing.{mask-no-state, mask-too-large, mask-set}
use Rattle.lines.proofs.set_mask.Goals as goal

pub returns-then-state-ne-SIZE : goal.returns-then-state-ne-SIZE
returns-then-state-ne-SIZE c = mask-no-state c.args.mask c.args.state.now c.if-state-ne-SIZE.true

pub returns-then-mask-ge-MASKS : goal.returns-then-mask-ge-MASKS
returns-then-mask-ge-MASKS c = mask-too-large c.args.mask c.args.state.now c.if-state-ne-SIZE.false c.if-mask-ge-MASKS.true

pub unwrap-requires : goal.unwrap-requires
unwrap-requires c = is_written 4 c.args.mask c.args.state.now mask_place _ _ (omega arith) c.write.ensures

pub returns : goal.returns
returns c = mask-set c.args.mask c.args.state.now c.if-state-ne-SIZE.false c.if-mask-ge-MASKS.false _ c.write.ensures
