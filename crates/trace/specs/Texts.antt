-- The text of a trace.
use Rattle.std.specs.Prelude.{ℕ, ◌+◌, ◌/◌, ◌%◌, cond, List, [], ◌∷◌, ◌++◌, Some, None, Option, nat_lt}
use Rattle.circuit.specs.declared.nets.Frame.{Frame}
use Rattle.circuit.specs.declared.nets.Net.{Net}
use Rattle.circuit.specs.Names.{name_at}
use Rattle.circuit.specs.declared.nets.NetKind.{NetKind}
use Rattle.trace.specs.declared.entry.Entry.{Entry}
use Rattle.values.specs.declared.three.Three.{Three}
use Rattle.values.specs.Bytes.{byte_of}
use Rattle.trace.specs.Layout.{entries}
use Rattle.sinks.specs.Sinks.{concat}

-- a number below 100
abbrev pub digits_of : ℕ → List ℕ
digits_of n = (48 + n / 10 % 10) ∷ (48 + n % 10) ∷ []

abbrev pub decimal : ℕ → List ℕ
decimal n = cond (nat_lt n 10) ((48 + n % 10) ∷ []) (digits_of n)

abbrev pub tab : List ℕ
tab = 9 ∷ []

abbrev pub feed : List ℕ
feed = 10 ∷ []

-- a line up to its value
abbrev pub head_of : List ℕ → Option Frame → List ℕ
head_of name None = concat ((115 ∷ tab) ∷ name ∷ tab ∷ [])
head_of name (Some f) = concat ((105 ∷ tab) ∷ decimal f.0 ∷ tab ∷ name ∷ tab ∷ [])

abbrev pub head : List (List ℕ) → Entry → List ℕ
head names e = head_of (name_at names e.net) e.frame

abbrev pub line : List (List ℕ) → Entry → Three → List ℕ
line names e v = head names e ++ (byte_of v ∷ feed)

-- a line for each entry that has a value
abbrev pub lines : List (List ℕ) → List Entry → List Three → List ℕ
lines names [] vs = []
lines names (e ∷ es) [] = []
lines names (e ∷ es) (v ∷ vs) = line names e v ++ lines names es vs

abbrev pub first_line : List (List ℕ) → ℕ → Net → List ℕ
first_line names k target = concat ((114 ∷ 117 ∷ 110 ∷ tab) ∷ decimal k ∷ tab ∷ name_at names target ∷ feed ∷ [])

-- what a trace says: its length, its target, and a value for each entry
pub record Told : Type 0 where
  pub last : ℕ
  pub target : Net
  pub values : List Three

abbrev pub trace_text : List (List ℕ) → List NetKind → Told → List ℕ
trace_text names ks t = first_line names t.last t.target ++ lines names (entries ks t.last) t.values
