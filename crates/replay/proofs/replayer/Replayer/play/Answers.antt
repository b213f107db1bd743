use Rattle.std.proofs.Common.{◌≡◌, true, length, is_some, Some, None, Ok, Option, Result, sym, refl, ap, ◌∙◌, rules}
use Rattle.circuit.specs.declared.circuit.Circuit.{Circuit}
use Rattle.circuit.specs.Circuits.{nets_of, names_of}
use Rattle.circuit.specs.Reading.{named}
use Rattle.trace.specs.declared.fault.TraceFault.{TraceFault}
use Rattle.trace.specs.Outcomes.{ReadsAs}
use Rattle.trace.specs.Recordings.{held_trace}
use Rattle.trace.specs.Texts.{Told}
use Rattle.replay.specs.Answers.{hold_inside, report_of, replayed}
use Rattle.replay.proofs.Meaning.{plays, lawful}
use Rattle.replay.proofs.replayer.Replayer.play.Goals as goal

-- a trace that is read is held
held : {U : Type 0} (u : U) (o : Option Told) (is : Result Told TraceFault) → ReadsAs (Ok u) o is → (t : Told) × (o ≡ Some t) × (is ≡ Ok t)
held u None is h = absurd h
held u (Some t) is h = (t, refl, h)

pub report-requires : goal.report-requires
report-requires c = let h = held {U = Unit {0}} tt (held_trace c.read.new.self) _ c.in_ok-read.ensures.is in ap is_some h.1

pub returns : goal.returns
returns c =
    let read = c.read_circuit.new.self.circuit in
    let h = held {U = Unit {0}} tt (held_trace c.read.new.self) _ c.in_ok-read.ensures.is in
    let inside : hold_inside c.args.hold (length (nets_of read)) ≡ true =
    ap (hold_inside c.args.hold) (sym (c.len.ensures.is ∙ ap (λ (x : Circuit). length (nets_of x)) c.circuit.ensures)) ∙ sym c.hold_inside.ensures ∙ c.if-not-hold_inside.false in
    let is = c.report.ensures h.0 h.1 ∙ ap (λ (x : Circuit). report_of (nets_of x) c.args.hold h.0) c.in_ok-read.ensures.circuit in
    let all = plays c.args.circuit.now c.args.trace.now c.args.hold (named (names_of c.args.circuit.now read) (nets_of read)) h.0 c.report.result c.in_ok-read_circuit.ensures.circuit inside h.2 is in
    record { is = all; law = lawful c.args.circuit.now c.args.trace.now c.args.hold _ all }

pub returns-in_err-read : goal.returns-in_err-read
returns-in_err-read c =
    let is : c.from_residual-in_err-read.result ≡ replayed c.args.circuit.now c.args.trace.now c.args.hold = search rules in
    record { is = is; law = lawful c.args.circuit.now c.args.trace.now c.args.hold _ is }
