-- What the calls leave in the cells: C before, and D after.
use Rattle.std.specs.Prelude.{◌≡◌, ℕ, ◌*◌, ◌<◌, ◌≤◌, false, List, length, None, Option, slice_index_or}
use Rattle.values.specs.Laws.{Algebra}
use Rattle.circuit.specs.declared.nets.NetKind.{NetKind}
use Rattle.frames.specs.declared.hold.Hold.{Hold}
use Rattle.frames.specs.Rules.{frames_in, grid, put, FollowsRules}

module _ {K : Type 0} where
  -- The whole frames that the cells have room for follow the rules from G; each has its nets in their order.
  abbrev pub CellsFollow : Algebra K → List NetKind → Option Hold → (ℕ → ℕ → K) → List K → Type 0
  CellsFollow A nets hold G cells = FollowsRules A nets hold G (frames_in (length nets) (length cells)) (grid A (length nets) cells)

  -- Net n of frame t is in these frames.
  abbrev pub Inside : List NetKind → List K → (t n : ℕ) → Type 0
  Inside nets cells t n = (t < frames_in (length nets) (length cells)) × (n < length nets)

  -- The places behind these frames are as they were.
  abbrev pub KeptBehind : Algebra K → List NetKind → (C D : List K) → Type 0
  KeptBehind A nets C D = (i : ℕ) → frames_in (length nets) (length C) * length nets ≤ i → slice_index_or D i (A.only false) ≡ slice_index_or C i (A.only false)

  -- All frames were worked out from what stood in the cells.
  pub record WorksOut (A : Algebra K) (nets : List NetKind) (hold : Option Hold) (C D : List K) : Type 0 where
    pub len : length D ≡ length C
    pub follows : CellsFollow A nets hold (grid A (length nets) C) D
    pub behind : KeptBehind A nets C D

  -- The value v was put at net n of frame t. If the cells were worked out before, they are now, with v given there.
  pub record Changes (A : Algebra K) (nets : List NetKind) (t n : ℕ) (v : K) (C D : List K) : Type 0 where
    pub len : length D ≡ length C
    pub follows : CellsFollow A nets None (grid A (length nets) C) C → Inside nets C t n → CellsFollow A nets None (put (grid A (length nets) C) t n v) D
    -- nothing is done outside, or where v stands already
    pub outside : (Inside nets C t n → ⊥) → D ≡ C
    pub same : grid A (length nets) C t n ≡ v → D ≡ C
    pub behind : KeptBehind A nets C D
