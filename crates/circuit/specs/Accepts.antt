-- What `read` answers, with the circuit that it leaves.
use Rattle.std.specs.Prelude.{◌≡◌, ℕ, List, Ok, Err, Result, ◌≢◌}
use Rattle.circuit.specs.declared.circuit.Circuit.{Circuit}
use Rattle.circuit.specs.declared.fault.ReadFault.{ReadFault}
use Rattle.circuit.specs.declared.nets.NetKind.{NetKind}
use Rattle.circuit.specs.Circuits.{nets_of, names_of, Blank}
use Rattle.circuit.specs.Reading.{Named, reading, named}
use Rattle.circuit.specs.Written.{circuit_text, IsCircuit}

-- a text that is refused leaves a circuit of no nets
abbrev pub Reads : {U : Type 0} → Result U ReadFault → List ℕ → Circuit → Type 0
Reads (Ok u) text c = reading text ≡ Ok (named (names_of text c) (nets_of c))
Reads (Err f) text c = (reading text ≡ Err f) × Blank c

-- what a text that is read as x leaves
abbrev pub LeftBy : Result Named ReadFault → List ℕ → Circuit → Type 0
LeftBy (Ok x) text c = x ≡ named (names_of text c) (nets_of c)
LeftBy (Err f) text c = Blank c

-- a text is accepted exactly if it is the text of a circuit, and then that circuit is read
abbrev pub Accepts : {U : Type 0} → Result U ReadFault → List ℕ → Circuit → Type 0
Accepts (Ok u) text c = IsCircuit (names_of text c) (nets_of c) × (text ≡ circuit_text (names_of text c) (nets_of c))
Accepts (Err f) text c = (names : List (List ℕ)) (nets : List NetKind) → IsCircuit names nets → text ≢ circuit_text names nets
