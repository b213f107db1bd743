use Rattle.std.proofs.Common.{map, ap, ◌∙◌}
use Rattle.store.proofs.Refilled.{refilled-from-slice}
use Rattle.values.specs.Threes.{is_one}
use Rattle.replay.proofs.playing.lower.Goals as goal

pub returns : goal.returns
returns c = refilled-from-slice is_one c.as_slice.result.now _ c.as_slice.ensures.few c.refill_from_slice.ensures ∙ ap (map is_one) c.as_slice.ensures.is
