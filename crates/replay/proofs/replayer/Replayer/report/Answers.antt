use Rattle.std.proofs.Common.{◌≡◌, ◌+◌, ◌*◌, length, replicate, Some, sym, refl, ap, ◌∙◌, subst}
use Rattle.std.specs.Option.{option_map}
use Rattle.circuit.specs.declared.circuit.Circuit.{Circuit}
use Rattle.circuit.specs.Circuits.{nets_of}
use Rattle.values.specs.declared.three.Three.TheVariants.{Zero}
use Rattle.trace.specs.Dashing.{Ready}
use Rattle.trace.specs.Laid.{held_laid}
use Rattle.trace.specs.Recordings.{held_trace}
use Rattle.trace.specs.Texts.{Told}
use Rattle.trace.specs.Traces.{told}
use Rattle.replay.specs.Answers.{answer_by, report_of}
use Rattle.replay.proofs.Cells.{cells-ready, report-is}
use Rattle.replay.proofs.replayer.Replayer.report.Goals as goal

same-some : (s t : Told) → Some s ≡ Some t → s ≡ t
same-some s t e = cc

pub answer-answer-requires : goal.answer-answer-requires
answer-answer-requires c =
    let r = c.args.self.now.recording in
    let t = told c.unwrap-trace.result in
    let g = c.unwrap-trace.result.goal in
    let held = sym c.trace.ensures ∙ ap (option_map told) c.unwrap-trace.ensures in
    let width = c.len-nets.ensures.is ∙ ap (λ (x : Circuit). length (nets_of x)) c.circuit-circuit.ensures in
    let places = c.lay.ensures ∙ (λ i. held_laid (nets_of r.circuit) (held_trace r) (replicate ((c.from.ensures i + 1) * c.len-nets.result) Zero)) in
    let at = cells-ready r t held c.len-nets.result width g refl refl c.lay.new.cells places in
    subst (λ (x : Circuit). Ready (nets_of x) g (length c.lay.new.cells)) (sym c.circuit-circuit.ensures) at

pub returns : goal.returns
returns c t q =
    let r = c.args.self.now.recording in
    let s = told c.unwrap-trace.result in
    let g = c.unwrap-trace.result.goal in
    let held = sym c.trace.ensures ∙ ap (option_map told) c.unwrap-trace.ensures in
    let width = c.len-nets.ensures.is ∙ ap (λ (x : Circuit). length (nets_of x)) c.circuit-circuit.ensures in
    let places = c.lay.ensures ∙ (λ i. held_laid (nets_of r.circuit) (held_trace r) (replicate ((c.from.ensures i + 1) * c.len-nets.result) Zero)) in
    let answer = c.answer-answer.ensures ∙ ap (λ (x : Circuit). answer_by (nets_of x) c.args.hold c.dashes-dashes.result c.lay.new.cells g) c.circuit-circuit.ensures in
    report-is r s held c.len-nets.result width c.args.hold g refl refl c.lay.new.cells places c.dashes-dashes.result c.dashes-dashes.ensures.is c.answer-answer.result answer
    ∙ ap (report_of (nets_of r.circuit) c.args.hold) (same-some s t (sym held ∙ q))
