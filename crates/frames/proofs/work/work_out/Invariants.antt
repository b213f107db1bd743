use Rattle.std.proofs.Common.{◌*◌, length}
use Rattle.frames.specs.Reworked.{Reworked}
use Rattle.frames.proofs.work.work_out.Given as goal

abbrev pub invariant-loop-t : goal.invariant-loop-t
invariant-loop-t g l = Reworked g.K.Kind.algebra l.rules.nets.now l.rules.hold 0 (l.t * length l.rules.nets.now) l.initial.cells l.cells
