-- The record that a line holds.
use Rattle.std.specs.Prelude.{ℕ, cond, List, [], ◌∷◌, Some, None, Option, ◌==◌}
use Rattle.text.specs.declared.class.Class.TheVariants.{Tab}
use Rattle.text.specs.Cut.{cut}
use Rattle.circuit.specs.declared.record.Body.{Body}
use Rattle.circuit.specs.declared.record.Body.TheVariants as body
use Rattle.circuit.specs.declared.record.Row.{Row}

-- a record by its texts: what stands after the letter and the name
pub data Said : Type 0 where
  input : Said
  latch : List ℕ → List ℕ → Said
  and : List ℕ → List ℕ → Said
  xor : List ℕ → List ℕ → Said
  not : List ℕ → Said

pub record Line : Type 0 where
  pub name : List ℕ
  pub said : Said

abbrev pub line : List ℕ → Said → Option Line
line n s = Some (record { name = n; said = s })

-- the letter of a field that is one byte
abbrev pub letter_in : List ℕ → Option ℕ
letter_in [] = None
letter_in (b ∷ []) = Some b
letter_in (b ∷ c ∷ bs) = None

-- the same, and 0, which is no letter of a record, for any other field
abbrev pub letter_of : List ℕ → ℕ
letter_of [] = 0
letter_of (b ∷ []) = b
letter_of (b ∷ c ∷ bs) = 0

-- by the fields that a tab closes, and the last: I, N, L, A and X have the codes 73, 78, 76, 65 and 88
abbrev pub row : List (List ℕ) → List ℕ → Option Line
row [] t = None
row (k ∷ []) t = cond (letter_of k == 73) (line t input) None
row (k ∷ n ∷ []) t = cond (letter_of k == 78) (line n (not t)) None
row (k ∷ n ∷ a ∷ []) t =
    cond (letter_of k == 76) (line n (latch a t))
    (cond (letter_of k == 65) (line n (and a t))
    (cond (letter_of k == 88) (line n (xor a t)) None))
row (k ∷ n ∷ a ∷ b ∷ cs) t = None

-- the record of a line, if its letter is known and has that count of fields
abbrev pub row_of : List ℕ → Option Line
row_of l = row (cut Tab l).closed (cut Tab l).tail

-- what the code's record says
abbrev pub said : Body → Said
said body.Input = input
said (body.Latch a b) = latch a.bytes.now b.bytes.now
said (body.And a b) = and a.bytes.now b.bytes.now
said (body.Xor a b) = xor a.bytes.now b.bytes.now
said (body.Not a) = not a.bytes.now

abbrev pub seen : Option Row → Option Line
seen None = None
seen (Some r) = line r.name.bytes.now (said r.body)
