-- The text of a script.
use Rattle.std.specs.Prelude.{ℕ, List}
use Rattle.circuit.specs.Circuits.{nets_of}
use Rattle.circuit.specs.Named.{names_in}
use Rattle.trace.specs.declared.script.Script.{Script}
use Rattle.trace.specs.Texts.{trace_text}
use Rattle.trace.specs.Traces.{told}

abbrev pub script_text : Script → List ℕ
script_text s = trace_text (names_in s.names) (nets_of s.circuit.now) (told s.trace)
