-- What an aim is made from, and the cells that it is for.
use Rattle.std.specs.Prelude.{◌≡◌, ℕ, ◌+◌, ◌*◌, false, ◌&&◌, length, Some, None, Option, nat_lt}
use Rattle.circuit.specs.declared.circuit.Circuit.{Circuit}
use Rattle.circuit.specs.Circuits.{nets_of}
use Rattle.trace.specs.declared.aim.Aim.{Aim}
use Rattle.trace.specs.declared.goal.Goal.{Goal}

-- whether a trace of the circuit can have the goal
abbrev pub Aims : Circuit → Goal → Option Aim → Type 0
Aims c g None = (nat_lt g.last.0 64 && nat_lt g.target.0 (length (nets_of c))) ≡ false
Aims c g (Some a) = (a.circuit.now ≡ c) × (a.goal ≡ g)

-- so many cells are the frames up to the last
abbrev pub Whole : Aim → ℕ → Type 0
Whole a size = (a.goal.last.0 + 1) * length (nets_of a.circuit.now) ≡ size
