-- The one set of values that follows the rules, worked out place by place.
use Rattle.std.specs.Prelude.{ℕ, zero, suc, ◌+◌, ◌*◌, ◌/◌, ◌%◌, List, [], ◌∷◌, ◌++◌, length, Option}
use Rattle.values.specs.Laws.{Algebra}
use Rattle.circuit.specs.declared.nets.NetKind.{NetKind}
use Rattle.frames.specs.declared.hold.Hold.{Hold}
use Rattle.frames.specs.Rules.{Given, grid, rule}

module _ {K : Type 0} (A : Algebra K) (nets : List NetKind) (hold : Option Hold) (G : Given K) where
  -- the values at the places before p, and the one at p
  abbrev pub one_more : ℕ → List K → List K
  one_more p cells = cells ++ rule A nets hold G (grid A (length nets) cells) (p / length nets) (p % length nets) ∷ []

  -- the values at the first so many places
  unfoldable pub cells_to : ℕ → List K
  cells_to zero = []
  cells_to (suc p) = one_more p (cells_to p)

  -- The value of net n in frame t.
  abbrev pub worked : ℕ → ℕ → K
  worked t n = grid A (length nets) (cells_to (suc (t * length nets + n))) t n
