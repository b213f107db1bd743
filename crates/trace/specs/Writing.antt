-- What writing a trace answers, and leaves in the buffer.
use Rattle.std.specs.Prelude.{◌≡◌, ℕ, suc, ◌<◌, ◌≤◌, Bool, true, false, cond, ◌&&◌, List, [], ◌∷◌, length, Some, None, Ok, Err, Option, Result, nat_le, nat_lt}
use Rattle.circuit.specs.declared.nets.NetKind.{NetKind}
use Rattle.circuit.specs.declared.nets.NetKind.TheVariants.{Input, Latch, And, Xor, Not}
use Rattle.circuit.specs.declared.fault.ReadFault.{ReadFault}
use Rattle.circuit.specs.Reading.{Named}
use Rattle.sinks.specs.Sinks.{filled}
use Rattle.trace.specs.declared.fault.WriteFault.{WriteFault}
use Rattle.trace.specs.declared.fault.WriteFault.TheVariants.{Circuit, NoNet, NoTrace, Short}
use Rattle.trace.specs.Layout.{is_free}
use Rattle.trace.specs.Texts.{Told, trace_text}

-- whether a trace names the net
abbrev pub shown : NetKind → Bool
shown Input = true
shown (Latch x s) = is_free s
shown (And a b) = false
shown (Xor a b) = false
shown (Not a) = false

abbrev pub has_name : ℕ → ℕ → NetKind → Bool
has_name n i k = cond (shown k) (nat_lt i n) true

-- whether each net that a trace names is among the first n, where the first net of the list has the number i
abbrev pub covered : ℕ → ℕ → List NetKind → Bool
covered n i [] = true
covered n i (k ∷ ks) = has_name n i k && covered n (suc i) ks

abbrev pub named : List (List ℕ) → List NetKind → Told → Bool
named names ks t = nat_lt t.target.0 (length names) && covered (length names) 0 ks

abbrev pub sized : ℕ → ℕ → Result ℕ WriteFault
sized n room = cond (nat_le n room) (Ok n) (Err Short)

abbrev pub writing : List (List ℕ) → List NetKind → Told → ℕ → Result ℕ WriteFault
writing names ks t room = cond (named names ks t) (sized (length (trace_text names ks t)) room) (Err NoNet)

-- whether there is room for n bytes
abbrev pub Measured : {E : Type 0} → ℕ → ℕ → Result ℕ E → Type 0
Measured n room (Ok m) = (m ≡ n) × (n ≤ room)
Measured n room (Err e) = room < n

-- the buffer after an answer
abbrev pub written : List ℕ → List ℕ → Result ℕ WriteFault → List ℕ
written text out (Ok n) = filled text out
written text out (Err e) = out

-- what writing answers, by what the circuit text is read as and the trace that is held
abbrev pub writes : Result Named ReadFault → List NetKind → Option Told → ℕ → Result ℕ WriteFault
writes (Err f) ks t room = Err (Circuit f)
writes (Ok x) ks None room = Err NoTrace
writes (Ok x) ks (Some t) room = writing x.names ks t room

-- what it writes
abbrev pub held_text : Result Named ReadFault → List NetKind → Option Told → List ℕ
held_text (Err f) ks t = []
held_text (Ok x) ks None = []
held_text (Ok x) ks (Some t) = trace_text x.names ks t
