-- What a rule reads: what is given at its own place, its frame before it, and the frame before. What goes together there goes together.
use Rattle.std.proofs.Common.{◌≡◌, ℕ, ◌+◌, ◌-◌, ◌*◌, ◌<◌, true, false, List, length, get_or, Option, arith}
use Rattle.values.specs.Laws.{Algebra}
use Rattle.circuit.specs.Runs.{WellFormed, kind}
use Rattle.circuit.specs.declared.nets.NetKind.{NetKind}
use Rattle.frames.specs.declared.hold.Hold.{Hold}
use Rattle.frames.specs.Rules.{Given, is_open, grid, rule}
use Rattle.frames.specs.Related.{Keeps}
use Rattle.frames.proofs.Places.{row-before, two-below}

-- Two sets of values go together on all that the rule of net n in frame t reads of them.
pub record Near {K L : Type 0} (R : K → L → Type 0) (width : ℕ) (ρ : ℕ → ℕ → K) (σ : ℕ → ℕ → L) (t n : ℕ) : Type 0 where
  pub here : (m : ℕ) → m < n → R (ρ t m) (σ t m)
  pub past : (m : ℕ) → 0 < t → m < width → R (ρ (t - 1) m) (σ (t - 1) m)

module _ {K L : Type 0} {A : Algebra K} {B : Algebra L} {R : K → L → Type 0} (keeps : Keeps A B R) where
  pub rule-goes : (nets : List NetKind) → WellFormed nets → (hold : Option Hold) (G : Given K) (G' : Given L) (ρ : ℕ → ℕ → K) (σ : ℕ → ℕ → L) (t n : ℕ) → n < length nets
      → (is_open t (kind nets n) ≡ true → R (G t n) (G' t n)) → Near R (length nets) ρ σ t n → R (rule A nets hold G ρ t n) (rule B nets hold G' σ t n)
  rule-goes nets formed hold G G' ρ σ t n h fresh near = grind (arith, formed n h, keeps.of, keeps.and, keeps.xor, keeps.inverse, near.here, near.past, two-below)

-- values of one kind go together where they are equal
pub same-keeps : {K : Type 0} (A : Algebra K) → Keeps A A ◌≡◌
same-keeps A = grind arith

-- cells that are equal before a place are equal on all that its rule reads
pub near-before : {K : Type 0} (A : Algebra K) (w : ℕ) (C D : List K) (t n : ℕ) → ((i : ℕ) → i < t * w + n → get_or C i (A.only false) ≡ get_or D i (A.only false)) → Near ◌≡◌ w (grid A w C) (grid A w D) t n
near-before A w C D t n same = record {
  here = λ m lt. same (t * w + m) (omega arith);
  past = λ m pos lt. same ((t - 1) * w + m) (omega (arith, row-before t w pos));
}

module _ {K : Type 0} (A : Algebra K) (nets : List NetKind) (formed : WellFormed nets) (hold : Option Hold) where
  -- where all that a rule reads is equal, so is what it gives
  pub rule-same : (G G' : Given K) (ρ σ : ℕ → ℕ → K) (t n : ℕ) → n < length nets → G t n ≡ G' t n → Near ◌≡◌ (length nets) ρ σ t n → rule A nets hold G ρ t n ≡ rule A nets hold G' σ t n
  rule-same G G' ρ σ t n h given near = rule-goes (same-keeps A) nets formed hold G G' ρ σ t n h (λ _. given) near

  -- so it is where the cells before its place are equal
  pub rule-below : (G G' : Given K) (C D : List K) (t n : ℕ) → n < length nets → G t n ≡ G' t n → ((i : ℕ) → i < t * length nets + n → get_or C i (A.only false) ≡ get_or D i (A.only false))
      → rule A nets hold G (grid A (length nets) C) t n ≡ rule A nets hold G' (grid A (length nets) D) t n
  rule-below G G' C D t n h given same = rule-same G G' (grid A (length nets) C) (grid A (length nets) D) t n h given (near-before A (length nets) C D t n same)
