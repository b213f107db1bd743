-- The fields of a line, and where they stand in the text.
use Rattle.std.specs.Prelude.{◌≡◌, ℕ, List, [], ◌∷◌, Some, None, Option}
use Rattle.text.specs.declared.class.Class.TheVariants.{Tab}
use Rattle.text.specs.Cut.{cut}
use Rattle.text.specs.Parts.{bytes_of, Stands}
use Rattle.circuit.specs.declared.record.Body.{Body}
use Rattle.circuit.specs.declared.record.Body.TheVariants.{Input, Latch, And, Xor, Not}
use Rattle.circuit.specs.declared.record.Fields.{Fields}
use Rattle.circuit.specs.declared.record.Fields.TheVariants.{Two, Three, Four}
use Rattle.circuit.specs.declared.record.Row.{Row}

abbrev pub Sorted : Fields → List ℕ → Type 0
Sorted (Two k t) l = cut Tab l ≡ record { closed = bytes_of k ∷ []; tail = bytes_of t }
Sorted (Three k n t) l = cut Tab l ≡ record { closed = bytes_of k ∷ bytes_of n ∷ []; tail = bytes_of t }
Sorted (Four k n a t) l = cut Tab l ≡ record { closed = bytes_of k ∷ bytes_of n ∷ bytes_of a ∷ []; tail = bytes_of t }

-- what may be a name stands where it says
abbrev pub FieldsStand : List ℕ → Fields → Type 0
FieldsStand text (Two k t) = Stands text t
FieldsStand text (Three k n t) = Stands text n
FieldsStand text (Four k n a t) = Stands text n × Stands text a

abbrev pub BodyStands : List ℕ → Body → Type 0
BodyStands text Input = Unit {0}
BodyStands text (Latch n s) = Stands text n
BodyStands text (And a b) = Unit {0}
BodyStands text (Xor a b) = Unit {0}
BodyStands text (Not a) = Unit {0}

abbrev pub RowStands : List ℕ → Option Row → Type 0
RowStands text None = Unit {0}
RowStands text (Some r) = Stands text r.name × BodyStands text r.body
