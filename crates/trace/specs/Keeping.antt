-- What keeping a trace answers, and leaves.
use Rattle.std.specs.Prelude.{◌≡◌, Bool, true, false, List, length, Some, Ok, Err, Result}
use Rattle.circuit.specs.declared.nets.NetKind.{NetKind}
use Rattle.circuit.specs.Circuits.{nets_of}
use Rattle.values.specs.declared.three.Three.{Three}
use Rattle.values.specs.Threes.{threes}
use Rattle.frames.specs.Rules.{grid}
use Rattle.trace.specs.declared.goal.Goal.{Goal}
use Rattle.trace.specs.declared.goal.NotOn.{NotOn}
use Rattle.trace.specs.declared.recording.Recording.{Recording}
use Rattle.trace.specs.Dashes.{on, dashed, puts_on, kept_trace}
use Rattle.trace.specs.Dashing.{Worked}
use Rattle.trace.specs.Fillings.{Certain}
use Rattle.trace.specs.Layout.{entries}
use Rattle.trace.specs.Recordings.{held_trace}

-- the dashes of what stands in the cells C are found, and the frames worked out, in D
abbrev pub Found : List NetKind → Goal → (C D : List Three) → Result (Unit {0}) NotOn → Type 0
Found nets g C D (Err e) = (on nets g (grid threes (length nets) C) ≡ false) × (length D ≡ length C)
Found nets g C D (Ok u) =
    (on nets g (grid threes (length nets) C) ≡ true) × (length D ≡ length C)
    × Worked nets g (dashed nets g (entries nets g.last.0) (grid threes (length nets) C)) D

-- a trace is kept exactly where the solution puts the target on; otherwise what was held stays
abbrev pub Kept : {U E : Type 0} → Result U E → List Bool → Goal → Recording → Recording → Type 0
Kept (Ok u) solution g r s =
    (puts_on (nets_of r.circuit) g solution ≡ true) × (s.circuit ≡ r.circuit)
    × (held_trace s ≡ Some (kept_trace (nets_of r.circuit) g solution)) × Certain (nets_of r.circuit) (kept_trace (nets_of r.circuit) g solution)
Kept (Err e) solution g r s = (puts_on (nets_of r.circuit) g solution ≡ false) × (s.circuit ≡ r.circuit) × (held_trace s ≡ held_trace r)
