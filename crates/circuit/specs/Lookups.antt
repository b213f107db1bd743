-- The names that are looked up.
use Rattle.std.specs.Prelude.{ℕ, List}
use Rattle.circuit.specs.declared.lookup.Lookup.{Lookup}
use Rattle.circuit.specs.Entries.{listed}

abbrev pub known : Lookup → List (List ℕ)
known l = listed l.text.now l.entries.now
