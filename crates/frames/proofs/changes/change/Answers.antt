use Rattle.std.proofs.Common.{length, sym, subst, arith}
use Rattle.circuit.specs.Runs.{WellFormed}
use Rattle.frames.proofs.Places.{row-room, frames-room, place-below}
use Rattle.frames.proofs.Puts.{changes-none, changes-all}
use Rattle.frames.proofs.changes.change.Goals as goal

pub replace-requires : goal.replace-requires
replace-requires g c =
    let frames = c.frames_in-frames.result in
    let w = length c.nets.result.now in
    omega (arith, place-below c.from-t.result c.from-n.result frames w c.if-t-frames.false c.if-n-rules.false, frames-room frames w (length c.args.cells.now) c.frames_in-frames.ensures)

pub renew-requires-clause-room : goal.renew-requires-clause-room
renew-requires-clause-room g c =
    let frames = c.frames_in-frames.result in
    let w = length c.nets.result.now in
    omega (arith, row-room c.from-t.result frames w c.if-t-frames.false, frames-room frames w (length c.args.cells.now) c.frames_in-frames.ensures)

pub settle-requires-clause-room : goal.settle-requires-clause-room
settle-requires-clause-room g c = omega (arith, frames-room c.frames_in-frames.result (length c.nets.result.now) (length c.args.cells.now) c.frames_in-frames.ensures)

pub returns-then-replace : goal.returns-then-replace
returns-then-replace g c =
    rw (← c.nets.ensures.is, ← c.from-t.ensures, ← c.from-n.ensures)
    (changes-all g.K.Kind.algebra c.nets.result.now (subst WellFormed (sym c.nets.ensures.is) c.args.circuit.now.formed) c.frames_in-frames.result c.args.cells.now c.from-t.result c.from-n.result c.args.value
    c.if-n-rules.false c.frames_in-frames.ensures c.if-t-frames.false c.replace.new.cells c.renew.new.cells c.settle.new.cells
    (omega arith) (rw c.place.ensures at c.replace.ensures.is) c.renew.ensures.reworked c.settle.ensures.reworked c.settle.ensures.behind (rw c.place.ensures at c.replace.ensures.other c.if-replace.true))

pub returns-else-replace : goal.returns-else-replace
returns-else-replace g c =
    rw (← c.nets.ensures.is, ← c.from-t.ensures, ← c.from-n.ensures)
    (changes-none g.K.Kind.algebra c.nets.result.now (subst WellFormed (sym c.nets.ensures.is) c.args.circuit.now.formed) c.frames_in-frames.result c.args.cells.now c.from-t.result c.from-n.result c.args.value
    c.if-n-rules.false c.frames_in-frames.ensures c.if-t-frames.false c.replace.new.cells (c.replace.ensures.same c.if-replace.false) (rw c.place.ensures at c.replace.ensures.is))
