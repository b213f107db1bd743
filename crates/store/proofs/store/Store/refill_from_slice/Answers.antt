use Rattle.std.proofs.Common.{rules, ◌∷◌, ◌++◌, [], ◌≤◌, length, take, sym, ap, ◌∙◌, subst, arith, length-append}
use Rattle.std.specs.List.{AllZip}
use Rattle.std.proofs.lemmas.List.{take_more}
use Rattle.std.proofs.lemmas.Slice.Zip.{all_zipped_more}
use Rattle.store.proofs.store.Store.refill_from_slice.Goals as goal

pub loop-item-preserved : goal.loop-item-preserved
loop-item-preserved g c =
    let R = g.T.From.from_gives in
    let some = c.unwrap_or-some.result.now in
    let i = c.loop-item.item-index in
    let few : length some ≤ g.row.N = search rules in
    let longer = c.push_if_room.ensures.room (omega (arith, few, c.loop-item.invariant.1, c.loop-item-test.true)) in
    let zipped = all_zipped_more R (take i some) c.loop-item.self c.item-item.result c.from.result c.loop-item.invariant.0 c.from.ensures in
    let front = take_more some i c.item-item.result c.loop-item-test.true ∙ ap (λ x. take i some ++ x ∷ []) (sym c.item-item.is) in (
      subst (λ xs. AllZip R xs c.push_if_room.new.self) (sym front) (subst (AllZip R (take i some ++ c.item-item.result ∷ [])) (sym longer) zipped),
      omega (arith, ap length longer, length-append c.loop-item.self (c.from.result ∷ []), c.loop-item.invariant.1),
    )
