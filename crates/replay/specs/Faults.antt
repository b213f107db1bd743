-- The numbers and lines of the refusals.
use Rattle.std.specs.Prelude.{ℕ}
use Rattle.circuit.specs.Faults.{number_of}
use Rattle.trace.specs.Faults.{trace_number, trace_line}
use Rattle.replay.specs.declared.fault.ReplayFault.{ReplayFault}
use Rattle.replay.specs.declared.fault.ReplayFault.TheVariants.{Circuit, NoNet, Trace}

abbrev pub fault_number : ReplayFault → ℕ
fault_number (Circuit f) = number_of f.refusal
fault_number NoNet = 11
fault_number (Trace f) = trace_number f

abbrev pub fault_line : ReplayFault → ℕ
fault_line (Circuit f) = f.line
fault_line NoNet = 0
fault_line (Trace f) = trace_line f
