-- The law of circuit texts, from what reading gives.
use Rattle.std.proofs.Common.{ℕ, List, Ok, Err, Result, sym, ap, ◌∙◌}
use Rattle.circuit.specs.declared.circuit.Circuit.{Circuit}
use Rattle.circuit.specs.declared.fault.ReadFault.{ReadFault}
use Rattle.circuit.specs.Accepts.{Reads, Accepts}
use Rattle.circuit.specs.Reading.{reading}
use Rattle.circuit.proofs.OnlyWritten.{only-written}
use Rattle.circuit.proofs.ReadBack.{reads-back}
use Rattle.circuit.proofs.Soundness.{no-ok}

pub lawful : {U : Type 0} (r : Result U ReadFault) (text : List ℕ) (c : Circuit) → Reads r text c → Accepts r text c
lawful (Ok u) text c q = only-written text _ q
lawful (Err f) text c q = λ names nets is e. no-ok f _ (sym q.0 ∙ ap reading e ∙ reads-back names nets is)
