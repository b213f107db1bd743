-- The class of a byte.
use Rattle.std.specs.Prelude.{ℕ, Bool, cond, ◌&&◌, ◌==◌, nat_le}
use Rattle.text.specs.declared.class.Class.{Class}
use Rattle.text.specs.declared.class.Class.TheVariants.{Letter, Digit, Underscore, Tab, Feed, Other}

abbrev pub within : ℕ → ℕ → ℕ → Bool
within low high b = nat_le low b && nat_le b high

abbrev pub class_of : ℕ → Class
class_of b =
    cond (within 97 122 b) Letter
    (cond (within 48 57 b) Digit
    (cond (b == 95) Underscore
    (cond (b == 9) Tab
    (cond (b == 10) Feed Other))))

abbrev pub number : Class → ℕ
number Letter = 0
number Digit = 1
number Underscore = 2
number Tab = 3
number Feed = 4
number Other = 5

abbrev pub same : Class → Class → Bool
same a b = number a == number b
