-- What the lines of a listing hold.
use Rattle.std.specs.Prelude.{ℕ, List, map}
use Rattle.text.specs.declared.span.Span.{Span}
use Rattle.circuit.specs.declared.draft.Entry.{Entry}
use Rattle.circuit.specs.Names.{names_at}

-- where their names stand in the text
abbrev pub spans_in : List Entry → List Span
spans_in es = map (λ e. e.name) es

-- their names, in that text
abbrev pub listed : List ℕ → List Entry → List (List ℕ)
listed text es = names_at text (spans_in es)
