use Rattle.std.proofs.Common.{◌≡◌, length, take}
use Rattle.std.specs.List.{AllZip}
use Rattle.store.proofs.store.Store.refill_from_slice.Given as goal

abbrev pub invariant-loop-item : goal.invariant-loop-item
invariant-loop-item g l = AllZip g.T.From.from_gives (take l.item-index l.some) l.self × (length l.self ≡ l.item-index)
