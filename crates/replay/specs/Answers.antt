-- What a replay answers.
use Rattle.std.specs.Prelude.{ℕ, ◌+◌, Bool, true, false, cond, List, map, length, Some, None, Ok, Err, Option, Result, ◌==◌, nat_lt}
use Rattle.circuit.specs.declared.fault.ReadFault.{ReadFault}
use Rattle.circuit.specs.declared.nets.NetKind.{NetKind}
use Rattle.circuit.specs.declared.nets.Net.{Net}
use Rattle.circuit.specs.Names.{place_from}
use Rattle.circuit.specs.Reading.{Named, reading}
use Rattle.values.specs.declared.three.Three.{Three}
use Rattle.values.specs.declared.three.Three.TheVariants.{Zero, One, U}
use Rattle.values.specs.Bits.{bits}
use Rattle.values.specs.Threes.{threes, is_one}
use Rattle.frames.specs.declared.hold.Hold.{Hold}
use Rattle.frames.specs.Rules.{grid}
use Rattle.frames.specs.Worked.{worked}
use Rattle.trace.specs.declared.fault.TraceFault.{TraceFault}
use Rattle.trace.specs.declared.goal.Goal.{Goal}
use Rattle.trace.specs.Laid.{held_laid, blank}
use Rattle.trace.specs.Layout.{frame_at}
use Rattle.trace.specs.Readings.{trace_read}
use Rattle.trace.specs.Texts.{Told}
use Rattle.trace.specs.Traces.{dash_count}
use Rattle.replay.specs.declared.fault.ReplayFault.{ReplayFault}
use Rattle.replay.specs.declared.fault.ReplayFault.TheVariants.{Circuit, NoNet, Trace}
use Rattle.replay.specs.declared.report.Answer.{Answer}
use Rattle.replay.specs.declared.report.Answer.TheVariants.{On, Off, Unsure}
use Rattle.replay.specs.declared.report.Report.{Report}

abbrev pub bit_answer : Bool → Answer
bit_answer true = On
bit_answer false = Off

abbrev pub three_answer : Three → Answer
three_answer Zero = Off
three_answer One = On
three_answer U = Unsure

-- The target's value in the last frame, by cells that have what is given, with the hold in every frame: by bits where no
-- dash stands, else three-way.
abbrev pub answer_by : List NetKind → Option Hold → ℕ → List Three → Goal → Answer
answer_by nets hold dashes cells g =
    cond (dashes == 0)
    (bit_answer (worked bits nets hold (grid bits (length nets) (map is_one cells)) g.last.0 g.target.0))
    (three_answer (worked threes nets hold (grid threes (length nets) cells) g.last.0 g.target.0))

abbrev pub goal_of : Told → Goal
goal_of t = record { last = frame_at t.last; target = t.target }

abbrev pub answer_of : List NetKind → Option Hold → Told → Answer
answer_of nets hold t = answer_by nets hold (dash_count t.values) (held_laid nets (Some t) (blank nets t)) (goal_of t)

abbrev pub report_of : List NetKind → Option Hold → Told → Report
report_of nets hold t = record { nets = length nets; frames = t.last + 1; dashes = dash_count t.values; answer = answer_of nets hold t }

-- the circuit has the net of the hold
abbrev pub hold_inside : Option Hold → ℕ → Bool
hold_inside None N = true
hold_inside (Some h) N = nat_lt h.net.0 N

-- the refusals in their order: the circuit text, the hold's net, the trace text
abbrev pub after_trace : List NetKind → Option Hold → Result Told TraceFault → Result Report ReplayFault
after_trace nets hold (Err f) = Err (Trace f)
after_trace nets hold (Ok t) = Ok (report_of nets hold t)

abbrev pub after_circuit : Result Named ReadFault → Option Hold → List ℕ → Result Report ReplayFault
after_circuit (Err f) hold text = Err (Circuit f)
after_circuit (Ok x) hold text = cond (hold_inside hold (length x.nets)) (after_trace x.nets hold (trace_read x.names x.nets text)) (Err NoNet)

abbrev pub replayed : List ℕ → List ℕ → Option Hold → Result Report ReplayFault
replayed circuit trace hold = after_circuit (reading circuit) hold trace

-- a hold of the net of that name, where the circuit text is read and has it
abbrev pub hold_of : Bool → Option Net → Result Hold ReplayFault
hold_of bit None = Err NoNet
hold_of bit (Some n) = Ok (record { net = n; bit = bit })

abbrev pub hold_in : Result Named ReadFault → List ℕ → Bool → Result Hold ReplayFault
hold_in (Err f) name bit = Err (Circuit f)
hold_in (Ok x) name bit = hold_of bit (place_from 0 name x.names)

abbrev pub named_hold : List ℕ → List ℕ → Bool → Result Hold ReplayFault
named_hold circuit name bit = hold_in (reading circuit) name bit
