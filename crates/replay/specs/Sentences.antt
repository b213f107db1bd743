-- The sentences of the refusals: what is wrong, and what to do about it.
use Rattle.std.specs.Prelude.{ℕ, List, codes}
use Rattle.circuit.specs.Sentences.{sentence_of}
use Rattle.trace.specs.Sentences.{trace_sentence}
use Rattle.replay.specs.declared.fault.ReplayFault.{ReplayFault}
use Rattle.replay.specs.declared.fault.ReplayFault.TheVariants.{Circuit, NoNet, Trace}

abbrev pub fault_sentence : ReplayFault → List ℕ
fault_sentence (Circuit f) = sentence_of f.refusal
fault_sentence NoNet = codes "the circuit has no net of the name that is to be held: hold another net"
fault_sentence (Trace f) = trace_sentence f
