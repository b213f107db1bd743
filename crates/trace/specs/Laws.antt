-- Reading undoes writing, and only what writing gives is read.
use Rattle.std.specs.Prelude.{◌≡◌, ℕ, ◌+◌, ◌<◌, List, [], ◌∷◌, ◌++◌, length, take, Some, None, Ok, Err, Option, Result, ◌≢◌}
use Rattle.circuit.specs.Reading.{Named}
use Rattle.circuit.specs.declared.nets.NetKind.{NetKind}
use Rattle.circuit.specs.Names.{GoodNames}
use Rattle.trace.specs.Layout.{entries}
use Rattle.trace.specs.Texts.{Told, decimal, first_line, line, lines, trace_text}
use Rattle.circuit.specs.declared.nets.Net.{Net}
use Rattle.trace.specs.declared.entry.Entry.{Entry}
use Rattle.trace.specs.declared.fault.TraceFault.{TraceFault}
use Rattle.trace.specs.declared.fault.TraceFault.TheVariants.{FirstLine, LaterLine}
use Rattle.values.specs.declared.three.Three.{Three}
use Rattle.trace.specs.Readings.{number_of, trace_read}

-- a number below 64 and its decimals
pub record Decimals : Type 0 where
  pub there : (n : ℕ) → n < 64 → number_of (decimal n) ≡ Some n
  pub back : (s : List ℕ) (n : ℕ) → number_of s ≡ Some n → (n < 64) × (s ≡ decimal n)

-- a trace of the circuit: a value for each entry, and a target that has a name
pub record Fits (names : List (List ℕ)) (ks : List NetKind) (t : Told) : Type 0 where
  pub short : t.last < 64
  pub target : t.target.0 < length names
  pub all : length t.values ≡ length (entries ks t.last)

-- what was written is read back as the trace that was held
abbrev pub Back : {E F : Type 0} → Result ℕ E → Result Named F → List NetKind → Option Told → List ℕ → Type 0
Back (Err e) x ks t out = Unit {0}
Back (Ok n) (Err f) ks t out = Unit {0}
Back (Ok n) (Ok x) ks None out = Unit {0}
Back (Ok n) (Ok x) ks (Some t) out = trace_read x.names ks (take n out) ≡ Ok t

-- what a text has no line of: the first entry's, or, where none is left, nothing
abbrev pub Stuck : List (List ℕ) → List Entry → List ℕ → Type 0
Stuck names [] rest = rest ≡ [] → ⊥
Stuck names (e ∷ es) rest = (v : Three) (more : List ℕ) → rest ≢ line names e v ++ more

-- the lines of the entries go well before line n, counted from 2, and not there
pub record StopsAt (names : List (List ℕ)) (es : List Entry) (text : List ℕ) (n : ℕ) : Type 0 where
  pub done : List Entry
  pub todo : List Entry
  pub values : List Three
  pub rest : List ℕ
  pub parts : es ≡ done ++ todo
  pub each : length values ≡ length done
  pub text_is : text ≡ lines names done values ++ rest
  pub number : n ≡ length done + 2
  pub stuck : Stuck names todo rest

-- why a text is refused: it does not begin with a first line; or it does, and line n is the first that is not as the layout has it
abbrev pub Exactly : TraceFault → List (List ℕ) → List NetKind → List ℕ → Type 0
Exactly FirstLine names ks text = (k : ℕ) (x : Net) (rest : List ℕ) → GoodNames names → k < 64 → x.0 < length names → text ≢ first_line names k x ++ rest
Exactly (LaterLine n) names ks text = (k : ℕ) × (x : Net) × (rest : List ℕ) × (text ≡ first_line names k x ++ rest) × StopsAt names (entries ks k) rest n

-- what reading took: exactly the text of the trace that is held now
abbrev pub Taken : {U : Type 0} → Result U TraceFault → List (List ℕ) → List NetKind → List ℕ → Option Told → Type 0
Taken (Err f) names ks text held = Exactly f names ks text
Taken (Ok u) names ks text None = ⊥
Taken (Ok u) names ks text (Some t) = (text ≡ trace_text names ks t) × Fits names ks t
