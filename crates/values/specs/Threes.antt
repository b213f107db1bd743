-- Three-way values: a bit, or U, which stands for both.
use Rattle.std.specs.Prelude.{Bool, true, false, not}
use Rattle.values.specs.Laws.{Algebra}
use Rattle.values.specs.declared.three.Three.{Three}
use Rattle.values.specs.declared.three.Three.TheVariants.{Zero, One, U}

abbrev pub three_admits : Three → Bool → Bool
three_admits Zero b = not b
three_admits One b = b
three_admits U b = true

abbrev pub three_of : Bool → Three
three_of true = One
three_of false = Zero

abbrev pub is_one : Three → Bool
is_one Zero = false
is_one One = true
is_one U = false

abbrev pub three_not : Three → Three
three_not Zero = One
three_not One = Zero
three_not U = U

abbrev pub three_and : Three → Three → Three
three_and Zero w = Zero
three_and One w = w
three_and U Zero = Zero
three_and U One = U
three_and U U = U

abbrev pub three_xor : Three → Three → Three
three_xor Zero w = w
three_xor One w = three_not w
three_xor U w = U

abbrev pub threes : Algebra Three
threes = record { admits = three_admits; only = three_of; opposite = three_not; both = three_and; unlike = three_xor }
