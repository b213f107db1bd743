-- Values that follow the rules go together where what is given does: the theorems of specs/Theorems.
use Rattle.std.proofs.Common.{◌≡◌, ℕ, zero, suc, ◌-◌, ◌<◌, List, length, Option, sym, subst, subst₂, arith}
use Rattle.std.proofs.lemmas.Grind.{common_steps}
use Rattle.values.specs.Laws.{Algebra, Laws, Admits}
use Rattle.values.specs.Bits.{bits}
use Rattle.circuit.specs.Runs.{WellFormed}
use Rattle.circuit.specs.declared.nets.NetKind.{NetKind}
use Rattle.frames.specs.declared.hold.Hold.{Hold}
use Rattle.frames.specs.Rules.{Given, FollowsRules}
use Rattle.frames.specs.Related.{Keeps, Alike}
use Rattle.frames.specs.Theorems.{RulesDetermine, FillingAdmitted, FillingKept, RulesMakeRuns, RunsFollow}
use Rattle.frames.proofs.Nearby.{rule-goes, same-keeps}

module _ {K L : Type 0} {A : Algebra K} {B : Algebra L} {R : K → L → Type 0} (keeps : Keeps A B R) (nets : List NetKind) (formed : WellFormed nets) (hold : Option Hold) (frames : ℕ)
    {G : Given K} {G' : Given L} (alike : Alike R nets frames G G') (ρ : ℕ → ℕ → K) (σ : ℕ → ℕ → L)
    (follows : FollowsRules A nets hold G frames ρ) (follows' : FollowsRules B nets hold G' frames σ) where
  -- in one frame, where they go together in the frame before
  frame-goes : (t : ℕ) → t < frames → ((m : ℕ) → 0 < t → m < length nets → R (ρ (t - 1) m) (σ (t - 1) m)) → (p n : ℕ) → n < p → n < length nets → R (ρ t n) (σ t n)
  frame-goes t h past zero n lt k = absurd (omega arith)
  frame-goes t h past (suc p) n lt k =
      subst₂ R (sym (follows t n h k)) (sym (follows' t n h k))
      (rule-goes keeps nets formed hold G G' ρ σ t n k (alike t n h k) (record { here = λ m m<n. frame-goes t h past p m (omega arith) (omega arith); past = past }))

  pub goes : (t n : ℕ) → t < frames → n < length nets → R (ρ t n) (σ t n)
  goes zero n h k = frame-goes zero h (λ m pos lt. absurd (omega arith)) (suc n) n (omega arith) k
  goes (suc t) n h k =
      let one : t ≡ suc t - 1 = omega arith in
      frame-goes (suc t) h (λ m pos lt. subst (λ s. R (ρ s m) (σ s m)) one (goes t m (omega arith) lt)) (suc n) n (omega arith) k

module _ {K : Type 0} (A : Algebra K) where
  pub rules-determine : RulesDetermine A
  rules-determine nets formed hold frames G G' alike ρ σ = goes (same-keeps A) nets formed hold frames alike ρ σ

  pub admits-keeps : Laws A → Keeps A bits (Admits A)
  admits-keeps laws = grind (arith, laws.self, laws.not_in, laws.and_in, laws.xor_in)

  pub filling-admitted : Laws A → FillingAdmitted A
  filling-admitted laws nets hold frames G G' ρ σ f = goes (admits-keeps laws) nets f.formed hold frames f.fills ρ σ f.follows f.bits_follow

  pub filling-kept : Laws A → FillingKept A
  filling-kept laws nets hold frames G G' ρ σ f t n h k b e =
      sym (laws.alone b (σ t n) (subst (λ v. Admits A v (σ t n)) e (filling-admitted laws nets hold frames G G' ρ σ f t n h k)))

pub rules-make-runs : RulesMakeRuns
rules-make-runs nets G k ρ follows t n h m = grind (arith, common_steps, follows t n)

pub runs-follow : RunsFollow
runs-follow nets k ρ run t n h m = grind (arith, common_steps, run t n)
