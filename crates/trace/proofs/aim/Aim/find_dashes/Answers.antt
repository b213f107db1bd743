use Rattle.std.proofs.Common.{sym, ◌∙◌}
use Rattle.circuit.specs.Circuits.{nets_of}
use Rattle.trace.proofs.Aiming.{worked-out}
use Rattle.trace.proofs.Trying.{on-is}
use Rattle.trace.proofs.aim.Aim.find_dashes.Goals as goal

pub returns-then-not-is_on : goal.returns-then-not-is_on
returns-then-not-is_on c =
    let aim = c.args.self in
    let works = worked-out aim c.args.cells.now c.work_out.new.cells c.requires c.work_out.ensures in
    (sym (on-is (nets_of aim.circuit.now) aim.circuit.now.formed aim.goal _ c.work_out.new.cells works.0 works.1) ∙ sym c.is_on.ensures ∙ c.if-not-is_on.true, c.work_out.ensures.len)

pub returns : goal.returns
returns c =
    let aim = c.args.self in
    let works = worked-out aim c.args.cells.now c.work_out.new.cells c.requires c.work_out.ensures in
    (sym (on-is (nets_of aim.circuit.now) aim.circuit.now.formed aim.goal _ c.work_out.new.cells works.0 works.1) ∙ sym c.is_on.ensures ∙ c.if-not-is_on.false, c.dash_all.ensures.len ∙ c.work_out.ensures.len, c.dash_all.ensures.tries _ works.1)
