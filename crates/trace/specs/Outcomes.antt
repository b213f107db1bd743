-- What reading a trace answers, and what is held then.
use Rattle.std.specs.Prelude.{◌≡◌, Some, None, Ok, Err, Option, Result}
use Rattle.trace.specs.declared.fault.TraceFault.{TraceFault}
use Rattle.trace.specs.Texts.{Told}

-- the trace that is read is held, or none
abbrev pub ReadsAs : {U : Type 0} → Result U TraceFault → Option Told → Result Told TraceFault → Type 0
ReadsAs (Ok u) None is = ⊥
ReadsAs (Ok u) (Some t) is = is ≡ Ok t
ReadsAs (Err f) None is = is ≡ Err f
ReadsAs (Err f) (Some t) is = ⊥
