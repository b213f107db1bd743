use Rattle.std.proofs.Common.{◌≡◌}
use Rattle.std.specs.List.{AllByRecursion as All}
use Rattle.circuit.specs.Circuits.{nets_of}
use Rattle.values.specs.declared.three.Three.{Three}
use Rattle.frames.specs.Rules.{Given}
use Rattle.trace.specs.Coming.{left}
use Rattle.trace.specs.Dashes.{dashed}
use Rattle.trace.specs.Dashing.{OpenEntry, Worked}
use Rattle.trace.specs.Layout.{entries}
use Rattle.trace.proofs.aim.Aim.dash_all.Given as goal

abbrev pub invariant-loop-entry : goal.invariant-loop-entry
invariant-loop-entry l =
    All (OpenEntry (nets_of l.self.circuit.now) l.self.goal.last.0) (left l.entry-iterator)
    × ((G : Given Three) → Worked (nets_of l.self.circuit.now) l.self.goal G l.initial.cells
    → (H : Given Three) × Worked (nets_of l.self.circuit.now) l.self.goal H l.cells
    × (dashed (nets_of l.self.circuit.now) l.self.goal (left l.entry-iterator) H ≡ dashed (nets_of l.self.circuit.now) l.self.goal (entries (nets_of l.self.circuit.now) l.self.goal.last.0) G))
