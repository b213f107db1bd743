-- One line judged, given the names of the lines before it.
use Rattle.std.specs.Prelude.{ℕ, Bool, true, cond, ◌&&◌, List, is_some, Some, None, Ok, Err, Option, Result, ◌==◌}
use Rattle.text.specs.Name.{is_name}
use Rattle.circuit.specs.declared.fault.Refusal.{Refusal}
use Rattle.circuit.specs.declared.fault.Refusal.TheVariants.{BadRecord, BadName, NameTaken, OperandUnknown, BadStart}
use Rattle.circuit.specs.declared.nets.Net.{Net}
use Rattle.circuit.specs.declared.nets.NetKind.{NetKind}
use Rattle.circuit.specs.declared.nets.NetKind.TheVariants.{Input, And, Xor, Not}
use Rattle.circuit.specs.declared.nets.Start.{Start}
use Rattle.circuit.specs.declared.nets.Start.TheVariants.{Zero, One, Free}
use Rattle.circuit.specs.Names.{place_from}
use Rattle.circuit.specs.Record.{Said, input, latch, and, xor, not, Line, letter_of, row_of}

-- a net as its line gives it: a latch still has the name of its next
pub data Drafted : Type 0 where
  done : NetKind → Drafted
  waits : List ℕ → Start → Drafted

-- what a line adds
pub record Kept : Type 0 where
  pub name : List ℕ
  pub draft : Drafted

-- 0, 1 and - have the codes 48, 49 and 45
abbrev pub start_of : List ℕ → Option Start
start_of s =
    cond (letter_of s == 48) (Some Zero)
    (cond (letter_of s == 49) (Some One)
    (cond (letter_of s == 45) (Some Free) None))

abbrev pub others_good : Said → Bool
others_good input = true
others_good (latch a s) = is_name a
others_good (and a b) = is_name a && is_name b
others_good (xor a b) = is_name a && is_name b
others_good (not a) = is_name a

-- every name of the line is one
abbrev pub names_good : List ℕ → Said → Bool
names_good n s = is_name n && others_good s

abbrev pub pair : Option Net → Option Net → Option (Net × Net)
pair None y = None
pair (Some a) None = None
pair (Some a) (Some b) = Some (a, b)

abbrev pub pair_of : List (List ℕ) → List ℕ → List ℕ → Option (Net × Net)
pair_of ns a b = pair (place_from 0 a ns) (place_from 0 b ns)

abbrev pub started : List ℕ → Option Start → Result Drafted Refusal
started n None = Err BadStart
started n (Some s) = Ok (waits n s)

abbrev pub gate : (Net → Net → NetKind) → Option (Net × Net) → Result Drafted Refusal
gate k None = Err OperandUnknown
gate k (Some p) = Ok (done (k p.0 p.1))

abbrev pub inverse : Option Net → Result Drafted Refusal
inverse None = Err OperandUnknown
inverse (Some a) = Ok (done (Not a))

-- a gate's operands are names of earlier lines
abbrev pub fitted : List (List ℕ) → Said → Result Drafted Refusal
fitted ns input = Ok (done Input)
fitted ns (latch a s) = started a (start_of s)
fitted ns (and a b) = gate And (pair_of ns a b)
fitted ns (xor a b) = gate Xor (pair_of ns a b)
fitted ns (not a) = inverse (place_from 0 a ns)

abbrev pub under : List ℕ → Result Drafted Refusal → Result Kept Refusal
under n (Ok d) = Ok (record { name = n; draft = d })
under n (Err e) = Err e

abbrev pub judged_row : List (List ℕ) → Option Line → Result Kept Refusal
judged_row ns None = Err BadRecord
judged_row ns (Some l) =
    cond (names_good l.name l.said)
    (cond (is_some (place_from 0 l.name ns)) (Err NameTaken) (under l.name (fitted ns l.said)))
    (Err BadName)

abbrev pub judged : List (List ℕ) → List ℕ → Result Kept Refusal
judged ns l = judged_row ns (row_of l)
