-- The text of a circuit: a line for each net, in the order of their numbers.
use Rattle.std.specs.Prelude.{◌≡◌, ℕ, suc, ◌≤◌, List, [], ◌∷◌, ◌++◌, length}
use Rattle.circuit.specs.declared.nets.NetKind.{NetKind}
use Rattle.circuit.specs.declared.nets.NetKind.TheVariants.{Input, Latch, And, Xor, Not}
use Rattle.circuit.specs.declared.nets.Start.{Start}
use Rattle.circuit.specs.declared.nets.Start.TheVariants.{Zero, One, Free}
use Rattle.circuit.specs.Names.{net, name_at, GoodNames}
use Rattle.circuit.specs.Runs.{WellFormed}

-- 0, 1 and - have the codes 48, 49 and 45
abbrev pub start_byte : Start → ℕ
start_byte Zero = 48
start_byte One = 49
start_byte Free = 45

-- The line of a net: its letter, its name and what it is worked out from, with tabs (9) between them.
-- I, L, A, X and N have the codes 73, 76, 65, 88 and 78.
abbrev pub line_text : List (List ℕ) → NetKind → List ℕ → List ℕ
line_text names Input n = 73 ∷ 9 ∷ n
line_text names (Latch q s) n = 76 ∷ 9 ∷ (n ++ 9 ∷ (name_at names q ++ 9 ∷ start_byte s ∷ []))
line_text names (And a b) n = 65 ∷ 9 ∷ (n ++ 9 ∷ (name_at names a ++ 9 ∷ name_at names b))
line_text names (Xor a b) n = 88 ∷ 9 ∷ (n ++ 9 ∷ (name_at names a ++ 9 ∷ name_at names b))
line_text names (Not a) n = 78 ∷ 9 ∷ (n ++ 9 ∷ name_at names a)

-- the lines of these nets, the first of which has the number i, each closed by a line feed (10)
abbrev pub lines_from : List (List ℕ) → ℕ → List NetKind → List ℕ
lines_from names i [] = []
lines_from names i (k ∷ ks) = line_text names k (name_at names (net i)) ++ 10 ∷ lines_from names (suc i) ks

-- names by net, nets by number
abbrev pub circuit_text : List (List ℕ) → List NetKind → List ℕ
circuit_text names nets = lines_from names 0 nets

-- a circuit that may be written, under these names
pub record IsCircuit (names : List (List ℕ)) (nets : List NetKind) : Type 0 where
  pub named : GoodNames names
  pub level : length names ≡ length nets
  pub few : length nets ≤ 256
  pub formed : WellFormed nets
  pub short : length (circuit_text names nets) ≤ 16384
