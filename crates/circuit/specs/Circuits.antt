-- What a circuit holds.
use Rattle.std.specs.Prelude.{◌≡◌, ℕ, List, []}
use Rattle.text.specs.declared.span.Span.{Span}
use Rattle.circuit.specs.declared.circuit.Circuit.{Circuit}
use Rattle.circuit.specs.declared.nets.NetKind.{NetKind}
use Rattle.circuit.specs.Entries.{spans_in}
use Rattle.circuit.specs.Names.{names_at}

abbrev pub nets_of : Circuit → List NetKind
nets_of c = c.nets

-- where the names stand in the text that was read
abbrev pub spans_of : Circuit → List Span
spans_of c = spans_in c.listing.entries

-- the names, in the text that was read
abbrev pub names_of : List ℕ → Circuit → List (List ℕ)
names_of text c = names_at text (spans_of c)

-- a circuit of no nets
pub record Blank (c : Circuit) : Type 0 where
  pub nets : nets_of c ≡ []
  pub names : spans_of c ≡ []
