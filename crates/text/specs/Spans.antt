-- The bytes that stand at a place in a text.
use Rattle.std.specs.Prelude.{ℕ, List, take, drop}
use Rattle.text.specs.declared.span.Span.{Span}

abbrev pub spanned : List ℕ → Span → List ℕ
spanned text s = take s.len (drop s.place text)
