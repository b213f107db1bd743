-- What an aim knows of its circuit and goal.
use Rattle.std.proofs.Common.{◌≡◌, ℕ, ◌<◌, List, length, None, sym, subst}
use Rattle.circuit.specs.declared.circuit.Circuit.{Circuit}
use Rattle.circuit.specs.Circuits.{nets_of}
use Rattle.trace.specs.declared.aim.Aim.{Aim}
use Rattle.trace.specs.declared.goal.Goal.{Goal}
use Rattle.trace.specs.Aims.{Whole}
use Rattle.values.specs.declared.three.Three.{Three}
use Rattle.values.specs.Threes.{threes}
use Rattle.frames.specs.Calls.{WorksOut}
use Rattle.frames.specs.Rules.{grid}
use Rattle.trace.specs.Dashing.{Ready, Worked}
use Rattle.trace.proofs.Trying.{cells-worked}

pub aim-ready : (a : Aim) (size : ℕ) → Whole a size → Ready (nets_of a.circuit.now) a.goal size
aim-ready a size whole = record { short = a.short; target = a.inside; whole = whole }

-- frames that are worked out from what stood in whole cells
pub worked-out : (a : Aim) (C D : List Three) → Whole a (length C) → WorksOut threes (nets_of a.circuit.now) None C D
    → Ready (nets_of a.circuit.now) a.goal (length D) × Worked (nets_of a.circuit.now) a.goal (grid threes (length (nets_of a.circuit.now)) C) D
worked-out a C D whole works =
    let ready = aim-ready a (length D) (subst (Whole a) (sym works.len) whole) in
    (ready, cells-worked (nets_of a.circuit.now) a.circuit.now.formed a.goal _ D ready works.follows)

-- an aim at this goal in this circuit: what holds of the aim's holds of these
module _ (c : Circuit) (g : Goal) (a : Aim) (at : (a.circuit.now ≡ c) × (a.goal ≡ g)) where
  pub from-aim : (P : Circuit → Goal → Type 0) → P a.circuit.now a.goal → P c g
  from-aim P p = subst (λ x. P x g) at.0 (subst (P a.circuit.now) at.1 p)

  pub aim-short : g.last.0 < 64
  aim-short = from-aim (λ x y. y.last.0 < 64) a.short

  pub aim-inside : g.target.0 < length (nets_of c)
  aim-inside = from-aim (λ x y. y.target.0 < length (nets_of x)) a.inside
