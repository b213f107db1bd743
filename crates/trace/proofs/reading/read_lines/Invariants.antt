use Rattle.std.proofs.Common.{◌≡◌, ◌+◌, [], length}
use Rattle.circuit.specs.Named.{names_in}
use Rattle.trace.specs.Coming.{left}
use Rattle.trace.specs.Readings.{read_on}
use Rattle.trace.proofs.reading.read_lines.Given as goal

abbrev pub invariant-loop-entry : goal.invariant-loop-entry
invariant-loop-entry l =
    record {
      is : read_on (names_in l.names) l.values (left l.entry-iterator) l.rest ≡ read_on (names_in l.names) [] (left l.fn.entries) l.text;
      few : length l.values + length (left l.entry-iterator) ≡ length (left l.fn.entries);
    }
