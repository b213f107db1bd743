-- What a run of a circuit is. A circuit is the list of its nets' kinds, and a net is a place in that list.
use Rattle.std.specs.Prelude.{◌≡◌, ℕ, zero, suc, ◌<◌, ◌≤◌, Bool, true, false, cond, not, ◌&&◌, List, length, nat_lt, slice_index_or}
use Rattle.circuit.specs.declared.nets.Start.{Start}
use Rattle.circuit.specs.declared.nets.Start.TheVariants.{Zero, One, Free}
use Rattle.circuit.specs.declared.nets.NetKind.{NetKind}
use Rattle.circuit.specs.declared.nets.NetKind.TheVariants.{Input, Latch, And, Xor, Not}

-- The kind of net n. Past the circuit's end it is an input, which has no rule.
abbrev pub kind : List NetKind → ℕ → NetKind
kind C n = slice_index_or C n Input

-- The operands of a gate stand before it; what a latch takes over may stand anywhere in the circuit of N nets.
abbrev pub placed : NetKind → (n N : ℕ) → Bool
placed Input n N = true
placed (Latch q s) n N = nat_lt q.0 N
placed (And a b) n N = nat_lt a.0 n && nat_lt b.0 n
placed (Xor a b) n N = nat_lt a.0 n && nat_lt b.0 n
placed (Not a) n N = nat_lt a.0 n

abbrev pub WellFormed : List NetKind → Type 0
WellFormed C = (n : ℕ) → n < length C → placed (kind C n) n (length C) ≡ true

-- The values of all nets over time: ρ t n is the value of net n in frame t.
abbrev pub Values : Type 0
Values = ℕ → ℕ → Bool

-- exclusive or
abbrev pub differ : Bool → Bool → Bool
differ a b = cond a (not b) b

abbrev pub Starts : Start → Bool → Type 0
Starts Zero v = v ≡ false
Starts One v = v ≡ true
Starts Free v = Unit {0}

-- Net n keeps its rule in frame t: a gate follows its operands in the same frame; a latch has its start in frame 0,
-- and in each later frame what its next had one frame before. An input has no rule.
abbrev pub Rule : NetKind → Values → (t n : ℕ) → Type 0
Rule Input ρ t n = Unit {0}
Rule (Latch q s) ρ zero n = Starts s (ρ 0 n)
Rule (Latch q s) ρ (suc t) n = ρ (suc t) n ≡ ρ t q.0
Rule (And a b) ρ t n = ρ t n ≡ (ρ t a.0 && ρ t b.0)
Rule (Xor a b) ρ t n = ρ t n ≡ differ (ρ t a.0) (ρ t b.0)
Rule (Not a) ρ t n = ρ t n ≡ not (ρ t a.0)

-- A run of length k: in each of the frames 0 .. k every net keeps its rule.
abbrev pub Run : List NetKind → ℕ → Values → Type 0
Run C k ρ = (t n : ℕ) → t ≤ k → n < length C → Rule (kind C n) ρ t n

-- An abstract run: only the nets that vis shows keep their rule; a hidden net has no rule at all, its start included.
abbrev pub AbstractRun : List NetKind → (ℕ → Bool) → ℕ → Values → Type 0
AbstractRun C vis k ρ = (t n : ℕ) → t ≤ k → n < length C → vis n ≡ true → Rule (kind C n) ρ t n
