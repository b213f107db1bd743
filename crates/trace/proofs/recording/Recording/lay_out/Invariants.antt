use Rattle.std.proofs.Common.{◌≡◌, length}
use Rattle.circuit.specs.Circuits.{nets_of}
use Rattle.trace.specs.Coming.{left}
use Rattle.trace.specs.Laid.{laid}
use Rattle.trace.proofs.recording.Recording.lay_out.Given as goal

abbrev pub invariant-loop-value : goal.invariant-loop-value
invariant-loop-value l =
    laid (length (nets_of l.self.circuit)) (left l.value-iterator.b) l.value-iterator.a.rest.now l.cells
    ≡ laid (length (nets_of l.self.circuit)) (left l.initial.value-iterator.b) l.initial.value-iterator.a.rest.now l.initial.cells
