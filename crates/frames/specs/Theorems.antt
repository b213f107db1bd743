-- What holds of all values that follow the rules.
use Rattle.std.specs.Prelude.{◌≡◌, ℕ, ◌+◌, ◌<◌, Bool, List, length, None, Option}
use Rattle.values.specs.Laws.{Algebra, Admits}
use Rattle.values.specs.Bits.{bits}
use Rattle.circuit.specs.Runs.{WellFormed, Values, Run}
use Rattle.circuit.specs.declared.nets.NetKind.{NetKind}
use Rattle.frames.specs.declared.hold.Hold.{Hold}
use Rattle.frames.specs.Rules.{Given, FollowsRules}
use Rattle.frames.specs.Related.{Alike}

module _ {K : Type 0} where
  -- The rules leave no choice: two sets of values that follow them, from given values that are equal where they count, are equal.
  abbrev pub RulesDetermine : Algebra K → Type 0
  RulesDetermine A = (nets : List NetKind) → WellFormed nets → (hold : Option Hold) (frames : ℕ) (G G' : Given K) → Alike ◌≡◌ nets frames G G' → (ρ σ : ℕ → ℕ → K)
      → FollowsRules A nets hold G frames ρ → FollowsRules A nets hold G' frames σ → (t n : ℕ) → t < frames → n < length nets → ρ t n ≡ σ t n

  -- The bits G' fill G in, where they count: G stands for each of them. ρ follows the rules from G, and σ from G'.
  pub record Filled (A : Algebra K) (nets : List NetKind) (hold : Option Hold) (frames : ℕ) (G : Given K) (G' : Given Bool) (ρ : ℕ → ℕ → K) (σ : Values) : Type 0 where
    pub formed : WellFormed nets
    pub fills : Alike (Admits A) nets frames G G'
    pub follows : FollowsRules A nets hold G frames ρ
    pub bits_follow : FollowsRules bits nets hold G' frames σ

  -- Whatever fills it in, a net's value stands for the bit that the net then has.
  abbrev pub FillingAdmitted : Algebra K → Type 0
  FillingAdmitted A = (nets : List NetKind) (hold : Option Hold) (frames : ℕ) (G : Given K) (G' : Given Bool) (ρ : ℕ → ℕ → K) (σ : Values)
      → Filled A nets hold frames G G' ρ σ → (t n : ℕ) → t < frames → n < length nets → Admits A (ρ t n) (σ t n)

  -- So a net whose value stands for one bit alone has that bit.
  abbrev pub FillingKept : Algebra K → Type 0
  FillingKept A = (nets : List NetKind) (hold : Option Hold) (frames : ℕ) (G : Given K) (G' : Given Bool) (ρ : ℕ → ℕ → K) (σ : Values)
      → Filled A nets hold frames G G' ρ σ → (t n : ℕ) → t < frames → n < length nets → (b : Bool) → ρ t n ≡ A.only b → σ t n ≡ b

-- Bits that follow the rules in the frames 0 .. k, with no net held, are a run of length k, and every run follows the rules from its own bits.
abbrev pub RulesMakeRuns : Type 0
RulesMakeRuns = (nets : List NetKind) (G : Given Bool) (k : ℕ) (ρ : Values) → FollowsRules bits nets None G (k + 1) ρ → Run nets k ρ

abbrev pub RunsFollow : Type 0
RunsFollow = (nets : List NetKind) (k : ℕ) (ρ : Values) → Run nets k ρ → FollowsRules bits nets None ρ (k + 1) ρ
