use Rattle.store.proofs.Refilled.{refilled-from-slice}
use Rattle.values.specs.Threes.{three_of}
use Rattle.trace.proofs.keep.lift.Goals as goal

pub returns : goal.returns
returns c = refilled-from-slice three_of c.args.solution.now _ c.requires c.refill_from_slice.ensures
