-- The names of a circuit, by the text that it was read from.
use Rattle.std.specs.Prelude.{ℕ, List}
use Rattle.circuit.specs.declared.names.Names.{Names}
use Rattle.circuit.specs.Circuits.{names_of}

abbrev pub names_in : Names → List (List ℕ)
names_in n = names_of n.text.now n.circuit.now
