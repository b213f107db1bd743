use Rattle.std.proofs.Common.{rules, Some, refl, ap, arith}
use Rattle.std.specs.Iterator.{YieldsFirst}
use Rattle.trace.specs.Coming.{left}
use Rattle.trace.specs.Layout.{frame_at}
use Rattle.trace.proofs.Picking.{next-row}
use Rattle.trace.proofs.entries.EntriesIterator.next.Goals as goal

turned : (c : goal.After-in_row-2) → YieldsFirst left c.args.self.now c.in_row-2.result c.in_row-2.new.self
turned c =
    let frame = c.in_ok-next.ensures.steps in
    next-row c.args.self.now c.in_row.new.self _ c.in_row-2.new.self c.in_row-2.result c.in_default.ensures (omega (arith, frame.1.0)) refl (ap (λ f. Some (frame_at f)) frame.1.1) refl frame.1.2 frame.0 c.in_row-2.ensures

pub returns-clause-steps : goal.returns-clause-steps
returns-clause-steps c = turned c

pub returns-clause-goes : goal.returns-clause-goes
returns-clause-goes c = let steps = turned c in search rules
