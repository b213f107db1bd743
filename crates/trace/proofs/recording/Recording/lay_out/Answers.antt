use Rattle.std.proofs.Common.{rules, length, sym, ap, ◌∙◌}
use Rattle.circuit.specs.Circuits.{nets_of}
use Rattle.trace.specs.Coming.{left}
use Rattle.trace.specs.Laid.{laid, held_laid}
use Rattle.trace.proofs.Lines.{over}
use Rattle.trace.proofs.Spreading.{laid-more, laid-none}
use Rattle.trace.proofs.recording.Recording.lay_out.Goals as goal

pub loop-value-preserved : goal.loop-value-preserved
loop-value-preserved c =
    laid-more (length (nets_of c.args.self.now.circuit)) (left c.loop-value.value-iterator.b) (left c.next.new.self.b) c.loop-value.value-iterator.a.rest.now c.next.new.self.a.rest.now c.in-Some-2.entry c.in-Some-2.value.now c.loop-value.cells c.put_cell.new.cells c.place.result
    (c.in-Some-2.ensures.steps.1, c.in-Some-2.ensures.steps.0) c.place.ensures c.put_cell.ensures
    ∙ c.loop-value.invariant

pub returns : goal.returns
returns c =
    let nets = nets_of c.args.self.now.circuit in
    let t = c.in-Some.trace in
    let it = c.loop-value.value-iterator in
    let begun = c.into_iter-value-iterator.ensures.into_iter_gives in
    let first = ap (λ z. left z.b) begun ∙ ap left c.zip-value-items.ensures.second ∙ c.new-entries.ensures in
    let second = ap (λ z. z.a.rest.now) begun ∙ search rules in
    sym (laid-none (length nets) (left it.b) it.a.rest.now c.loop-value.cells (over (left it.b) it.a.rest.now c.in-None.ensures.steps))
    ∙ c.loop-value.invariant ∙ (λ i. laid (length nets) (first i) (second i) c.args.cells.now)
    ∙ ap (λ o. held_laid nets o c.args.cells.now) c.in-Some.ensures
