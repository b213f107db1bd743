use Rattle.std.proofs.Common.{◌≡◌, ◌≤◌, length, ◌+◌}
use Rattle.std.specs.Iterator.{items_left}
use Rattle.store.proofs.store.Store.refill.Given as goal

abbrev pub invariant-loop-item : goal.invariant-loop-item
invariant-loop-item g l =
    (l.self ≡ l.yielded)
    × (length l.yielded + items_left g.I.Iterator.remaining l.item-iterator ≤ items_left g.I.Iterator.remaining l.fn.items)
