-- What a trace of a circuit gives a value for, in the order of its text.
use Rattle.std.specs.Prelude.{ℕ, zero, suc, ◌+◌, Bool, true, false, cond, ◌&&◌, List, [], ◌∷◌, ◌++◌, length, Some, None, Option, ◌==◌, nat_lt}
use Rattle.circuit.specs.declared.nets.Frame.{Frame}
use Rattle.circuit.specs.declared.nets.NetKind.{NetKind}
use Rattle.circuit.specs.declared.nets.NetKind.TheVariants.{Input, Latch, And, Xor, Not}
use Rattle.circuit.specs.declared.nets.Start.{Start}
use Rattle.circuit.specs.declared.nets.Start.TheVariants.{Zero, One, Free}
use Rattle.circuit.specs.Names.{net}
use Rattle.values.specs.declared.three.Three.{Three}
use Rattle.trace.specs.declared.entry.Entry.{Entry}
use Rattle.trace.specs.declared.goal.Goal.{Goal}

abbrev pub frame_at : ℕ → Frame
frame_at n = record { 0 = n }

abbrev pub is_free : Start → Bool
is_free Zero = false
is_free One = false
is_free Free = true

-- whether a net has an entry at its start
abbrev pub starts : NetKind → Bool
starts Input = false
starts (Latch x s) = is_free s
starts (And a b) = false
starts (Xor a b) = false
starts (Not a) = false

-- whether it has one in each frame
abbrev pub enters : NetKind → Bool
enters Input = true
enters (Latch x s) = false
enters (And a b) = false
enters (Xor a b) = false
enters (Not a) = false

abbrev pub wanted : Option Frame → NetKind → Bool
wanted None k = starts k
wanted (Some f) k = enters k

abbrev pub entry : Option Frame → ℕ → Entry
entry o n = record { frame = o; net = net n }

-- the entries of one frame, or of the starts, among nets of which the first has the number i
abbrev pub picks : Option Frame → ℕ → List NetKind → List Entry
picks o i [] = []
picks o i (k ∷ ks) = cond (wanted o k) (entry o i ∷ picks o (suc i) ks) (picks o (suc i) ks)

-- those of c frames, from frame f on
abbrev pub frames : ℕ → ℕ → List NetKind → List Entry
frames zero f ks = []
frames (suc c) f ks = picks (Some (frame_at f)) 0 ks ++ frames c (suc f) ks

-- those of a trace of length k
abbrev pub entries : List NetKind → ℕ → List Entry
entries ks k = picks None 0 ks ++ frames (k + 1) 0 ks

-- where a trace is held, it ends before frame 64, its target is a net of the circuit, and it has a value for each entry
abbrev pub fits_in : List NetKind → Option Goal → List Three → Bool
fits_in ks None vs = true
fits_in ks (Some g) vs = nat_lt g.last.0 64 && (nat_lt g.target.0 (length ks) && length vs == length (entries ks g.last.0))
