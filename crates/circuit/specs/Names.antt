-- Names among others.
use Rattle.std.specs.Prelude.{◌≡◌, ℕ, suc, ◌<◌, true, cond, List, [], ◌∷◌, map, length, Some, None, Option, ◌≢◌, slice_index_or}
use Rattle.std.specs.Str.{bytes_eq}
use Rattle.text.specs.declared.span.Span.{Span}
use Rattle.text.specs.Name.{is_name}
use Rattle.text.specs.Spans.{spanned}
use Rattle.circuit.specs.declared.nets.Net.{Net}

abbrev pub net : ℕ → Net
net n = record { 0 = n }

-- the names that stand at these places of a text
abbrev pub names_at : List ℕ → List Span → List (List ℕ)
names_at text spans = map (spanned text) spans

-- the name of a net, empty where there is none
abbrev pub name_at : List (List ℕ) → Net → List ℕ
name_at names n = slice_index_or names n.0 []

-- where the name stands first among the names, the first of which has the number i
abbrev pub place_from : ℕ → List ℕ → List (List ℕ) → Option Net
place_from i n [] = None
place_from i n (m ∷ ms) = cond (bytes_eq m n) (Some (net i)) (place_from (suc i) n ms)

-- good names, no two the same
pub record GoodNames (names : List (List ℕ)) : Type 0 where
  pub each : (i : ℕ) → i < length names → is_name (slice_index_or names i []) ≡ true
  pub apart : (i j : ℕ) → i < j → j < length names → slice_index_or names i [] ≢ slice_index_or names j []
