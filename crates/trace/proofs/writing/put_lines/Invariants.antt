use Rattle.circuit.specs.Named.{names_in}
use Rattle.sinks.proofs.Puttings.{Come}
use Rattle.trace.specs.Coming.{left}
use Rattle.trace.specs.Texts.{lines}
use Rattle.trace.proofs.writing.put_lines.Given as goal

abbrev pub invariant-loop-value : goal.invariant-loop-value
invariant-loop-value g l =
    Come (g.S.Sink.meaning l.initial.sink) (g.S.Sink.meaning l.sink) (lines (names_in l.names) (left l.fn.entries) l.values)
    (lines (names_in l.names) (left l.value-iterator.b) l.value-iterator.a.rest.now)
