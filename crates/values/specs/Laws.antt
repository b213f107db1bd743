-- What the operations of a kind of values keep to.
use Rattle.std.specs.Prelude.{◌≡◌, Bool, true, not, ◌&&◌}
use Rattle.circuit.specs.Runs.{differ}

-- A kind of values: which bits each stands for, and the operations.
pub record Algebra (K : Type 0) : Type 0 where
  pub admits : K → Bool → Bool
  pub only : Bool → K
  pub opposite : K → K
  pub both : K → K → K
  pub unlike : K → K → K

-- v stands for the bit b, among others
abbrev pub Admits : {K : Type 0} → Algebra K → K → Bool → Type 0
Admits A v b = A.admits v b ≡ true

-- the bit c comes by f from a bit of v
abbrev pub From1 : {K : Type 0} → Algebra K → (Bool → Bool) → K → Bool → Type 0
From1 A f v c = (a : Bool) × Admits A v a × (f a ≡ c)

-- the bit c comes by f from a bit of v and a bit of w
abbrev pub From2 : {K : Type 0} → Algebra K → (Bool → Bool → Bool) → K → K → Bool → Type 0
From2 A f v w c = (a : Bool) × (b : Bool) × Admits A v a × Admits A w b × (f a b ≡ c)

pub record Laws {K : Type 0} (A : Algebra K) : Type 0 where
  -- a value stands for a bit at least
  pub some : (v : K) → (b : Bool) × Admits A v b
  -- `only b` stands for b alone
  pub self : (b : Bool) → Admits A (A.only b) b
  pub alone : (b c : Bool) → Admits A (A.only b) c → b ≡ c
  -- no bit that operands give is lost
  pub not_in : (v : K) (c : Bool) → From1 A not v c → Admits A (A.opposite v) c
  pub and_in : (v w : K) (c : Bool) → From2 A ◌&&◌ v w c → Admits A (A.both v w) c
  pub xor_in : (v w : K) (c : Bool) → From2 A differ v w c → Admits A (A.unlike v w) c
  -- and none is added
  pub not_out : (v : K) (c : Bool) → Admits A (A.opposite v) c → From1 A not v c
  pub and_out : (v w : K) (c : Bool) → Admits A (A.both v w) c → From2 A ◌&&◌ v w c
  pub xor_out : (v w : K) (c : Bool) → Admits A (A.unlike v w) c → From2 A differ v w c
