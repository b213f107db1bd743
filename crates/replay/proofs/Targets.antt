-- The target's value stands in the cells that are worked out.
use Rattle.std.proofs.Common.{◌≡◌, ◌+◌, ◌*◌, ◌<◌, false, List, length, get_or, Option, sym, ◌∙◌, subst, arith}
use Rattle.std.proofs.lemmas.List.{get_or_read}
use Rattle.circuit.specs.declared.nets.NetKind.{NetKind}
use Rattle.circuit.specs.Runs.{WellFormed}
use Rattle.values.specs.Laws.{Algebra}
use Rattle.frames.specs.declared.hold.Hold.{Hold}
use Rattle.frames.specs.Calls.{WorksOut}
use Rattle.frames.specs.Rules.{grid, FollowsRules}
use Rattle.frames.specs.Worked.{worked}
use Rattle.frames.proofs.Evaluated.{worked-is}
use Rattle.frames.proofs.Places.{place-below}
use Rattle.trace.specs.declared.goal.Goal.{Goal}
use Rattle.trace.specs.Dashing.{Ready}
use Rattle.trace.proofs.Trying.{whole-frames}

module _ {K : Type 0} (A : Algebra K) (nets : List NetKind) (formed : WellFormed nets) (hold : Option Hold) (g : Goal) (C D : List K) (ready : Ready nets g (length C)) (works : WorksOut A nets hold C D) where
  pub target-in : g.last.0 * length nets + g.target.0 < length D
  target-in = omega (arith, place-below g.last.0 g.target.0 (g.last.0 + 1) (length nets) (omega arith) ready.target, ready.whole, works.len)

  pub target-is : (x : K) → x ≡ get_or D (g.last.0 * length nets + g.target.0) x → x ≡ worked A nets hold (grid A (length nets) C) g.last.0 g.target.0
  target-is x read =
      let count = whole-frames (length nets) g.last.0 (length D) (omega (arith, ready.target)) (ready.whole ∙ sym works.len) in
      let follows = subst (λ f. FollowsRules A nets hold (grid A (length nets) C) f (grid A (length nets) D)) count works.follows in
      get_or_read D (g.last.0 * length nets + g.target.0) x target-in read (A.only false)
      ∙ worked-is A nets formed hold (grid A (length nets) C) (g.last.0 + 1) (grid A (length nets) D) follows g.last.0 g.target.0 (omega arith) ready.target
