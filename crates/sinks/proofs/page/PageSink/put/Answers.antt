use Rattle.std.proofs.Common.{refl}
use Rattle.sinks.proofs.Puttings.{pastes-more}
use Rattle.sinks.proofs.page.PageSink.put.Goals as goal

pub returns : goal.returns
returns c =
    let sum = rw c.in_ok-end.ensures.ok_part at c.checked_add.ensures in
    record { takes = λ more. pastes-more _ _ _ c.args.bytes.now _ more sum.1 c.if-end-self.false c.copy_from_slice.ensures.after; home = refl }
