-- What a trace says.
use Rattle.std.specs.Prelude.{ℕ, Bool, true, false, List, count_by}
use Rattle.values.specs.declared.three.Three.{Three}
use Rattle.values.specs.declared.three.Three.TheVariants.{Zero, One, U}
use Rattle.trace.specs.declared.view.Trace.{Trace}
use Rattle.trace.specs.Texts.{Told}

abbrev pub told : Trace → Told
told t = record { last = t.goal.last.0; target = t.goal.target; values = t.values.now }

-- either bit will do
abbrev pub is_dash : Three → Bool
is_dash Zero = false
is_dash One = false
is_dash U = true

abbrev pub dash_count : List Three → ℕ
dash_count vs = count_by is_dash vs
