-- Which bytes make a name.
use Rattle.std.specs.Prelude.{ℕ, Bool, true, false, ◌&&◌, List, length, nat_le}
use Rattle.std.specs.List.{list_all}
use Rattle.text.specs.declared.class.Class.{Class}
use Rattle.text.specs.declared.class.Class.TheVariants.{Letter, Digit, Underscore, Tab, Feed, Other}
use Rattle.text.specs.Class.{class_of}

abbrev pub in_names : Class → Bool
in_names Letter = true
in_names Digit = true
in_names Underscore = true
in_names Tab = false
in_names Feed = false
in_names Other = false

-- each byte is of a class that names have
abbrev pub all_in_names : List ℕ → Bool
all_in_names s = list_all (λ b. in_names (class_of b)) s

abbrev pub is_name : List ℕ → Bool
is_name s = (nat_le 1 (length s) && nat_le (length s) 16) && all_in_names s
