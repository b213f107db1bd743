-- What a part of a text is.
use Rattle.std.specs.Prelude.{◌≡◌, ℕ, ◌+◌, ◌≤◌, List, length}
use Rattle.text.specs.declared.part.Part.{Part}
use Rattle.text.specs.declared.span.Span.{Span}
use Rattle.text.specs.Spans.{spanned}

abbrev pub bytes_of : Part → List ℕ
bytes_of p = p.bytes.now

abbrev pub span_of : Part → Span
span_of p = record { place = p.place; len = length (bytes_of p) }

-- the part stands in the text where it says
pub record Stands (text : List ℕ) (p : Part) : Type 0 where
  pub bytes : bytes_of p ≡ spanned text (span_of p)
  pub within : p.place + length (bytes_of p) ≤ length text
  pub counted : p.line ≤ p.place + 1
