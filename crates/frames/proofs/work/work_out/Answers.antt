use Rattle.std.proofs.Common.{length, sym, subst, arith}
use Rattle.circuit.specs.Runs.{WellFormed}
use Rattle.frames.proofs.Places.{row-room, frames-room}
use Rattle.frames.proofs.Rework.{frame-more}
use Rattle.frames.proofs.work.work_out.Goals as goal

pub renew-requires-clause-room : goal.renew-requires-clause-room
renew-requires-clause-room g c =
    let frames = c.frames_in-t-end.result in
    let w = length c.nets.result.now in
    omega (arith, row-room c.loop-t.t frames w (omega (arith, c.loop-t-test.true)), frames-room frames w (length c.args.cells.now) c.frames_in-t-end.ensures)

pub loop-t-preserved : goal.loop-t-preserved
loop-t-preserved g c =
    frame-more g.K.Kind.algebra c.nets.result.now (subst WellFormed (sym c.nets.ensures.is) c.args.circuit.now.formed) c.args.hold 0 c.loop-t.t c.args.cells.now c.loop-t.cells c.renew.new.cells
    (omega arith) c.loop-t.invariant c.renew.ensures.reworked
