-- The numbers and lines of the refusals.
use Rattle.std.specs.Prelude.{ℕ}
use Rattle.circuit.specs.Faults.{number_of}
use Rattle.trace.specs.declared.fault.TraceFault.{TraceFault}
use Rattle.trace.specs.declared.fault.TraceFault.TheVariants.{FirstLine, LaterLine}
use Rattle.trace.specs.declared.fault.WriteFault.{WriteFault}
use Rattle.trace.specs.declared.fault.WriteFault.TheVariants.{Circuit, NoNet, NoTrace, Short}

abbrev pub trace_number : TraceFault → ℕ
trace_number FirstLine = 27
trace_number (LaterLine n) = 28

abbrev pub trace_line : TraceFault → ℕ
trace_line FirstLine = 1
trace_line (LaterLine n) = n

abbrev pub write_number : WriteFault → ℕ
write_number (Circuit f) = number_of f.refusal
write_number NoNet = 11
write_number NoTrace = 25
write_number Short = 26

abbrev pub write_line : WriteFault → ℕ
write_line (Circuit f) = f.line
write_line NoNet = 0
write_line NoTrace = 0
write_line Short = 0
