-- The rules that the values of nets in frames follow.
use Rattle.std.specs.Prelude.{◌≡◌, ℕ, zero, suc, ◌+◌, ◌-◌, ◌*◌, ◌/◌, ◌<◌, Bool, true, false, cond, ◌&&◌, List, length, Some, None, Option, ◌==◌, slice_index_or}
use Rattle.values.specs.Laws.{Algebra}
use Rattle.circuit.specs.Runs.{kind}
use Rattle.circuit.specs.declared.nets.NetKind.{NetKind}
use Rattle.circuit.specs.declared.nets.NetKind.TheVariants.{Input, Latch, And, Xor, Not}
use Rattle.circuit.specs.declared.nets.Start.{Start}
use Rattle.circuit.specs.declared.nets.Start.TheVariants.{Zero, One, Free}
use Rattle.frames.specs.declared.hold.Hold.{Hold}

-- Whether a net of this kind has in frame t what is given: an input always, a latch that starts free in frame 0.
abbrev pub is_open : ℕ → NetKind → Bool
is_open t Input = true
is_open t (Latch next Zero) = false
is_open t (Latch next One) = false
is_open t (Latch next Free) = t == 0
is_open t (And a b) = false
is_open t (Xor a b) = false
is_open t (Not a) = false

-- A value for each net in each frame (frame, net). Only those count that stand where a net is open.
abbrev pub Given : Type 0 → Type 0
Given K = ℕ → ℕ → K

-- the bit that net n is held at, if it is
abbrev pub held_bit : Option Hold → ℕ → Option Bool
held_bit None n = None
held_bit (Some h) n = cond (h.net.0 == n) (Some h.bit) None

-- How many whole frames of so many nets so many places have; none where there are no nets.
abbrev pub frames_in : (nets places : ℕ) → ℕ
frames_in zero places = 0
frames_in (suc n) places = places / suc n

module _ {K : Type 0} where
  -- The value of net n in frame t, where the frames stand one after another.
  abbrev pub grid : Algebra K → ℕ → List K → Given K
  grid A width cells t n = slice_index_or cells (t * width + n) (A.only false)

  -- what a latch has in frame 0, where v is given
  abbrev pub first_value : Algebra K → K → Start → K
  first_value A v Zero = A.only false
  first_value A v One = A.only true
  first_value A v Free = v

  -- What the net n, of this kind, is worked out to be in frame t, from what is given and the values ρ of the others.
  abbrev pub gives : Algebra K → Given K → (ℕ → ℕ → K) → (t n : ℕ) → NetKind → K
  gives A G ρ t n Input = G t n
  gives A G ρ t n (Latch next start) = cond (t == 0) (first_value A (G t n) start) (ρ (t - 1) next.0)
  gives A G ρ t n (And a b) = A.both (ρ t a.0) (ρ t b.0)
  gives A G ρ t n (Xor a b) = A.unlike (ρ t a.0) (ρ t b.0)
  gives A G ρ t n (Not a) = A.opposite (ρ t a.0)

  -- a held net has its bit, whatever it is worked out to be
  abbrev pub unless_held : Algebra K → Option Bool → K → K
  unless_held A None v = v
  unless_held A (Some b) v = A.only b

  abbrev pub rule : Algebra K → List NetKind → Option Hold → Given K → (ℕ → ℕ → K) → (t n : ℕ) → K
  rule A nets hold G ρ t n = unless_held A (held_bit hold n) (gives A G ρ t n (kind nets n))

  -- The values ρ follow the rules in each of so many frames.
  abbrev pub FollowsRules : Algebra K → List NetKind → Option Hold → Given K → ℕ → (ℕ → ℕ → K) → Type 0
  FollowsRules A nets hold G frames ρ = (t n : ℕ) → t < frames → n < length nets → ρ t n ≡ rule A nets hold G ρ t n

  -- what is given, with v at one place
  abbrev pub put : Given K → (t n : ℕ) → K → Given K
  put G t n v s m = cond (s == t && m == n) v (G s m)
