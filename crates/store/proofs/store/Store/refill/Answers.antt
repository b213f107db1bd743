use Rattle.std.proofs.Common.{◌≡◌, subst}
use Rattle.std.proofs.iter.runs.Consumers.{total_runs}
use Rattle.std.specs.Iterator.{Yields, Drains}
use Rattle.store.proofs.store.Store.refill.Goals as goal

pub returns : goal.returns
returns g c =
    let steps = g.I.Iterator.next_gives in
    let from = subst (λ s. Yields steps s c.loop-item.yielded c.loop-item.item-iterator) c.into_iter-item-iterator.ensures.into_iter_gives c.loop-item.yielded_by in
    let ended = subst (λ r. steps c.loop-item.item-iterator r c.next.new.self) c.in-None.is c.next.ensures.steps in
    let drained : Drains steps c.args.items c.loop-item.yielded = (c.next.new.self, (c.loop-item.item-iterator, from, ended)) in
    let run = total_runs steps c.args.items (Unit {0}) (λ xs. c.loop-item.self ≡ xs) (c.loop-item.yielded, (λ _. drained), c.loop-item.invariant.0) tt in
    record { ran = (c.loop-item.yielded, drained, c.loop-item.invariant.0); runs = run }
