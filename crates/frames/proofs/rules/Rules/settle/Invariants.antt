use Rattle.std.proofs.Common.{◌*◌, length}
use Rattle.frames.specs.Reworked.{Reworked}
use Rattle.frames.proofs.rules.Rules.settle.Given as goal

abbrev pub invariant-loop-s : goal.invariant-loop-s
invariant-loop-s g l = Reworked g.K.Kind.algebra l.self.nets.now l.self.hold (l.from * length l.self.nets.now) (l.s * length l.self.nets.now) l.initial.cells l.cells
