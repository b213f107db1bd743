-- The sentences of the refusals: what is wrong, and what to do about it.
use Rattle.std.specs.Prelude.{ℕ, List, codes}
use Rattle.trace.specs.declared.fault.TraceFault.{TraceFault}
use Rattle.trace.specs.declared.fault.TraceFault.TheVariants.{FirstLine, LaterLine}

abbrev pub trace_sentence : TraceFault → List ℕ
trace_sentence FirstLine = codes "the first line of the trace is not run, a length of 0 to 63 and a net of the circuit, with tabs"
trace_sentence (LaterLine n) = codes "a later line of the trace is not the one that this circuit asks for there: see which start or input comes next"

-- where a solution does not put the target on
abbrev pub not_on : List ℕ
not_on = codes "the target is off in the last frame"
