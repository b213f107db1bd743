use Rattle.std.proofs.Common.{get_or, ap}
use Rattle.circuit.specs.Circuits.{nets_of}
use Rattle.values.specs.declared.three.Three.TheVariants.{Zero}
use Rattle.trace.proofs.Aiming.{aim-ready}
use Rattle.trace.proofs.Trying.{stays, goes-back}
use Rattle.trace.proofs.aim.Aim.try_dash.Goals as goal

pub returns-then-not-is_on : goal.returns-then-not-is_on
returns-then-not-is_on c =
    let aim = c.args.self in
    goes-back (nets_of aim.circuit.now) aim.circuit.now.formed aim.goal c.args.entry c.requires.opened c.args.cells.now c.put.new.cells (aim-ready aim _ c.requires.whole) c.put.ensures c.is_on.result c.is_on.ensures c.if-not-is_on.true c.put-then-not-is_on.new.cells _ (ap (λ i. get_or c.args.cells.now i Zero) c.place.ensures) c.put-then-not-is_on.ensures

pub returns-else-not-is_on : goal.returns-else-not-is_on
returns-else-not-is_on c =
    let aim = c.args.self in
    stays (nets_of aim.circuit.now) aim.circuit.now.formed aim.goal c.args.entry c.requires.opened c.args.cells.now c.put.new.cells (aim-ready aim _ c.requires.whole) c.put.ensures c.is_on.result c.is_on.ensures c.if-not-is_on.false
