-- Cells that were worked out anew, over what stood there.
use Rattle.std.specs.Prelude.{◌≡◌, ℕ, ◌+◌, ◌*◌, ◌<◌, ◌≤◌, false, List, length, Option, slice_index_or}
use Rattle.values.specs.Laws.{Algebra}
use Rattle.circuit.specs.declared.nets.NetKind.{NetKind}
use Rattle.frames.specs.declared.hold.Hold.{Hold}
use Rattle.frames.specs.Rules.{grid, rule}

-- The places from p up to q were worked out anew, from what was given in `old`; all others are as they were.
pub record Reworked {K : Type 0} (A : Algebra K) (nets : List NetKind) (hold : Option Hold) (p q : ℕ) (old new : List K) : Type 0 where
  pub before : (i : ℕ) → i < p → slice_index_or new i (A.only false) ≡ slice_index_or old i (A.only false)
  pub behind : (i : ℕ) → q ≤ i → slice_index_or new i (A.only false) ≡ slice_index_or old i (A.only false)
  pub follows : (t n : ℕ) → n < length nets → p ≤ t * length nets + n → t * length nets + n < q
      → grid A (length nets) new t n ≡ rule A nets hold (grid A (length nets) old) (grid A (length nets) new) t n

-- The frames from `from` up to `frames` follow the rules from what stands in the cells themselves.
abbrev pub Steady : {K : Type 0} → Algebra K → List NetKind → Option Hold → (from frames : ℕ) → List K → Type 0
Steady A nets hold from frames cells =
    (t n : ℕ) → from ≤ t → t < frames → n < length nets → grid A (length nets) cells t n ≡ rule A nets hold (grid A (length nets) cells) (grid A (length nets) cells) t n
