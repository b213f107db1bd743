-- Where a net is open stands what was given, so values that follow the rules follow them from themselves.
use Rattle.std.proofs.Common.{◌≡◌, arith, ℕ, List, None, Option}
use Rattle.std.proofs.lemmas.Grind.{common_steps}
use Rattle.values.specs.Laws.{Algebra}
use Rattle.circuit.specs.declared.nets.NetKind.{NetKind}
use Rattle.frames.specs.declared.hold.Hold.{Hold}
use Rattle.frames.specs.Rules.{Given, FollowsRules}
use Rattle.frames.specs.Related.{Alike}

module _ {K : Type 0} (A : Algebra K) where
  pub follows-itself : (nets : List NetKind) (hold : Option Hold) (G : Given K) (frames : ℕ) (ρ : ℕ → ℕ → K) → FollowsRules A nets hold G frames ρ → FollowsRules A nets hold ρ frames ρ
  follows-itself nets hold G frames ρ follows t n h k = grind (arith, common_steps, follows t n h k)

  -- with no net held
  pub open-stays : (nets : List NetKind) (G : Given K) (frames : ℕ) (ρ : ℕ → ℕ → K) → FollowsRules A nets None G frames ρ → Alike ◌≡◌ nets frames ρ G
  open-stays nets G frames ρ follows t n h k o = grind (arith, common_steps, follows t n h k)
