-- The byte that a three-way value is in a text.
use Rattle.std.specs.Prelude.{ℕ, cond, Some, None, Option, ◌==◌}
use Rattle.values.specs.declared.three.Three.{Three}
use Rattle.values.specs.declared.three.Three.TheVariants.{Zero, One, U}

-- the digit of a bit, or a dash
abbrev pub byte_of : Three → ℕ
byte_of Zero = 48
byte_of One = 49
byte_of U = 45

-- the value that has this byte, if one has
abbrev pub value_of : ℕ → Option Three
value_of b = cond (b == 48) (Some Zero) (cond (b == 49) (Some One) (cond (b == 45) (Some U) None))
