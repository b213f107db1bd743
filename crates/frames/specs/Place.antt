-- What is read among the cells of a place.
use Rattle.std.specs.Prelude.{ℕ, length}
use Rattle.values.specs.Laws.{Algebra}
use Rattle.frames.specs.declared.place.Place.{Place}
use Rattle.frames.specs.Rules.{grid}

-- The value of each net in each frame (frame, net), as they stand in the cells of this place.
abbrev pub values_at : {K : Type 0} → Algebra K → Place K → ℕ → ℕ → K
values_at A place = grid A (length place.rules.nets.now) place.cells.now
