-- When the values of two kinds go together.
use Rattle.std.specs.Prelude.{◌≡◌, ℕ, ◌<◌, Bool, true, List, length}
use Rattle.values.specs.Laws.{Algebra}
use Rattle.circuit.specs.Runs.{kind}
use Rattle.circuit.specs.declared.nets.NetKind.{NetKind}
use Rattle.frames.specs.Rules.{Given, is_open}

-- The operations keep to the relation R.
pub record Keeps {K L : Type 0} (A : Algebra K) (B : Algebra L) (R : K → L → Type 0) : Type 0 where
  pub of : (b : Bool) → R (A.only b) (B.only b)
  pub inverse : (v : K) (w : L) → R v w → R (A.opposite v) (B.opposite w)
  pub and : (v v' : K) (w w' : L) → R v w → R v' w' → R (A.both v v') (B.both w w')
  pub xor : (v v' : K) (w w' : L) → R v w → R v' w' → R (A.unlike v v') (B.unlike w w')

-- What is given goes together wherever it counts in so many frames.
abbrev pub Alike : {K L : Type 0} → (K → L → Type 0) → List NetKind → ℕ → Given K → Given L → Type 0
Alike R nets frames G G' = (t n : ℕ) → t < frames → n < length nets → is_open t (kind nets n) ≡ true → R (G t n) (G' t n)
