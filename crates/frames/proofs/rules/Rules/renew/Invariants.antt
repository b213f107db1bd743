use Rattle.std.proofs.Common.{◌≡◌, ◌+◌, ◌*◌, false, length}
use Rattle.frames.specs.Reworked.{Reworked}
use Rattle.frames.proofs.rules.Rules.renew.Given as goal

abbrev pub invariant-loop-n : goal.invariant-loop-n
invariant-loop-n g l = record {
  reworked : Reworked g.K.Kind.algebra l.self.nets.now l.self.hold (l.t * length l.self.nets.now + l.from) (l.t * length l.self.nets.now + l.n) l.initial.cells l.cells;
  same : l.changed ≡ false → l.cells ≡ l.initial.cells;
}
