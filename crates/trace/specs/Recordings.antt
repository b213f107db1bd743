-- What a recording holds.
use Rattle.std.specs.Prelude.{◌≡◌, List, None, Option}
use Rattle.std.specs.Option.{option_map}
use Rattle.circuit.specs.declared.circuit.Circuit.{Circuit}
use Rattle.values.specs.declared.three.Three.{Three}
use Rattle.trace.specs.declared.goal.Goal.{Goal}
use Rattle.trace.specs.declared.recording.Recording.{Recording}
use Rattle.trace.specs.Texts.{Told}

-- the trace of these values that shows the goal
abbrev pub told_of : List Three → Goal → Told
told_of vs g = record { last = g.last.0; target = g.target; values = vs }

-- the trace, if one is held
abbrev pub held_trace : Recording → Option Told
held_trace r = option_map (told_of r.values) r.goal

-- a new recording of a circuit
pub record Fresh (c : Circuit) (r : Recording) : Type 0 where
  pub circuit : r.circuit ≡ c
  pub trace : held_trace r ≡ None
