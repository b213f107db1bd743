-- What a replay's answer means, in terms of fillings.
use Rattle.std.specs.Prelude.{◌≡◌, ℕ, ◌+◌, ◌<◌, Bool, true, false, List, Ok, Err, Option, Result}
use Rattle.circuit.specs.declared.nets.NetKind.{NetKind}
use Rattle.circuit.specs.Reading.{Named, reading}
use Rattle.circuit.specs.Runs.{Values}
use Rattle.values.specs.Bits.{bits}
use Rattle.frames.specs.declared.hold.Hold.{Hold}
use Rattle.frames.specs.Rules.{FollowsRules}
use Rattle.trace.specs.Fillings.{Fills}
use Rattle.trace.specs.Readings.{trace_read}
use Rattle.trace.specs.Texts.{Told}
use Rattle.replay.specs.declared.report.Answer.{Answer}
use Rattle.replay.specs.declared.report.Answer.TheVariants.{On, Off, Unsure}
use Rattle.replay.specs.declared.report.Report.{Report}
use Rattle.trace.specs.Traces.{dash_count}

-- However the dashes are filled in, by bits β, the circuit that is given these bits, with the hold in every frame, has
-- this bit at the target in the last frame.
abbrev pub Sure : List NetKind → Option Hold → Told → Bool → Type 0
Sure nets hold t b = (β σ : Values) → Fills nets t β → FollowsRules bits nets hold β (t.last + 1) σ → σ t.last t.target.0 ≡ b

-- an answer that is not sure rests on a dash
abbrev pub AnswerMeans : List NetKind → Option Hold → Told → Answer → Type 0
AnswerMeans nets hold t On = Sure nets hold t true
AnswerMeans nets hold t Off = Sure nets hold t false
AnswerMeans nets hold t Unsure = 0 < dash_count t.values

-- the answer is about the trace and the circuit that the two texts are read as
abbrev pub Lawful : {E : Type 0} → List ℕ → List ℕ → Option Hold → Result Report E → Type 0
Lawful circuit trace hold (Err f) = Unit {0}
Lawful circuit trace hold (Ok r) = (x : Named) × (t : Told) × (reading circuit ≡ Ok x) × (trace_read x.names x.nets trace ≡ Ok t) × AnswerMeans x.nets hold t r.answer
