-- What a text is read as.
use Rattle.std.specs.Prelude.{ℕ, ◌+◌, ◌-◌, ◌*◌, cond, ◌&&◌, List, [], ◌∷◌, ◌++◌, length, take, drop, Some, None, Ok, Err, Option, Result, ◌==◌, nat_lt}
use Rattle.text.specs.declared.class.Class.{Class}
use Rattle.text.specs.declared.class.Class.TheVariants.{Tab, Feed}
use Rattle.circuit.specs.declared.nets.Net.{Net}
use Rattle.circuit.specs.declared.nets.NetKind.{NetKind}
use Rattle.text.specs.Class.{within}
use Rattle.text.specs.Cut.{stop}
use Rattle.circuit.specs.Names.{place_from}
use Rattle.trace.specs.declared.entry.Entry.{Entry}
use Rattle.trace.specs.declared.fault.TraceFault.{TraceFault}
use Rattle.trace.specs.declared.fault.TraceFault.TheVariants.{FirstLine, LaterLine}
use Rattle.values.specs.declared.three.Three.{Three}
use Rattle.values.specs.Bytes.{value_of}
use Rattle.trace.specs.Layout.{entries}
use Rattle.sinks.specs.Sinks.{strip}
use Rattle.trace.specs.Texts.{Told, head}

abbrev pub and_then : {A B : Type 0} → Option A → (A → Option B) → Option B
and_then None f = None
and_then (Some x) f = f x

abbrev pub digit_of : ℕ → Option ℕ
digit_of b = cond (within 48 57 b) (Some (b - 48)) None

abbrev pub small : ℕ → ℕ → Option ℕ
small tens ones = cond (nat_lt 0 tens && nat_lt (10 * tens + ones) 64) (Some (10 * tens + ones)) None

abbrev pub number_of : List ℕ → Option ℕ
number_of [] = None
number_of (d ∷ []) = digit_of d
number_of (d ∷ e ∷ []) = and_then (digit_of d) (λ tens. and_then (digit_of e) (λ ones. small tens ones))
number_of (d ∷ e ∷ f ∷ fs) = None

-- a value, and what follows its line
pub record Took : Type 0 where
  pub value : Three
  pub rest : List ℕ

abbrev pub took : Option Three → List ℕ → Option Took
took None bs = None
took (Some v) bs = Some (record { value = v; rest = bs })

abbrev pub valued : List ℕ → Option Took
valued [] = None
valued (b ∷ []) = None
valued (b ∷ c ∷ bs) = cond (c == 10) (took (value_of b) bs) None

-- the line of an entry
abbrev pub line_at : List (List ℕ) → Entry → List ℕ → Option Took
line_at names e text = and_then (strip text (head names e)) valued

-- what a byte of the class closes, and what follows
pub record Parted : Type 0 where
  pub part : List ℕ
  pub rest : List ℕ

abbrev pub field_at : Class → List ℕ → Option Parted
field_at k s = cond (nat_lt (stop k s) (length s)) (Some (record { part = take (stop k s) s; rest = drop (stop k s + 1) s })) None

-- what the first line says, and what follows it
pub record Begun : Type 0 where
  pub last : ℕ
  pub target : Net
  pub rest : List ℕ

abbrev pub run : List ℕ
run = 114 ∷ 117 ∷ 110 ∷ 9 ∷ []

abbrev pub target_at : List (List ℕ) → ℕ → List ℕ → Option Begun
target_at names k s = and_then (field_at Feed s) (λ g. and_then (place_from 0 g.part names) (λ t. Some (record { last = k; target = t; rest = g.rest })))

abbrev pub first_at : List (List ℕ) → List ℕ → Option Begun
first_at names text =
    and_then (strip text run) (λ s. and_then (field_at Tab s) (λ f. and_then (number_of f.part) (λ k. target_at names k f.rest)))

-- the lines of entries, given the values so far: the next line has the number of these and two more
abbrev pub on_line : List Three → Option Took → (Took → Result (List Three) TraceFault) → Result (List Three) TraceFault
on_line vs None f = Err (LaterLine (length vs + 2))
on_line vs (Some t) f = f t

abbrev pub ended : List Three → List ℕ → Result (List Three) TraceFault
ended vs [] = Ok vs
ended vs (b ∷ bs) = Err (LaterLine (length vs + 2))

abbrev pub read_on : List (List ℕ) → List Three → List Entry → List ℕ → Result (List Three) TraceFault
read_on names vs [] text = ended vs text
read_on names vs (e ∷ es) text = on_line vs (line_at names e text) (λ t. read_on names (vs ++ t.value ∷ []) es t.rest)

-- the whole text
abbrev pub with_values : Begun → Result (List Three) TraceFault → Result Told TraceFault
with_values b (Ok vs) = Ok (record { last = b.last; target = b.target; values = vs })
with_values b (Err f) = Err f

abbrev pub from_first : List (List ℕ) → List NetKind → Option Begun → Result Told TraceFault
from_first names ks None = Err FirstLine
from_first names ks (Some b) = with_values b (read_on names [] (entries ks b.last) b.rest)

abbrev pub trace_read : List (List ℕ) → List NetKind → List ℕ → Result Told TraceFault
trace_read names ks text = from_first names ks (first_at names text)
