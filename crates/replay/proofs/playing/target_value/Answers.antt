use Rattle.std.proofs.Common.{get_or, ap, ◌∙◌}
use Rattle.circuit.specs.Circuits.{nets_of}
use Rattle.replay.proofs.Targets.{target-is}
use Rattle.replay.proofs.playing.target_value.Goals as goal

pub returns : goal.returns
returns g c =
    let circuit = c.args.circuit.now in
    let D = c.work_out.new.cells in
    let x = c.index-cells-place.result in
    target-is g.K.Kind.algebra (nets_of circuit) circuit.formed c.args.hold c.args.goal c.args.cells.now D c.requires c.work_out.ensures x
    (c.index-cells-place.is ∙ ap (λ i. get_or D i x) c.place.ensures)
