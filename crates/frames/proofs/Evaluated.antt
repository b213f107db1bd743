-- What follows the rules is what is worked out place by place.
use Rattle.std.proofs.Common.{◌≡◌, ℕ, zero, suc, ◌+◌, ◌-◌, ◌*◌, ◌/◌, ◌%◌, ◌<◌, false, List, length, get_or, Option, refl, ap, ◌∙◌, ap₂, arith}
use native.Mathlib.Decide.{dec_lt}
use Rattle.std.proofs.lemmas.Nat.{div-mul-add, mod-mul-add}
use Rattle.std.proofs.lemmas.Grind.{common_steps}
use Rattle.values.specs.Laws.{Algebra}
use Rattle.circuit.specs.Runs.{WellFormed}
use Rattle.circuit.specs.declared.nets.NetKind.{NetKind}
use Rattle.frames.specs.declared.hold.Hold.{Hold}
use Rattle.frames.specs.Rules.{Given, grid, rule, FollowsRules}
use Rattle.frames.specs.Worked.{cells_to, worked}
use Rattle.frames.proofs.Places.{row-before}
use Rattle.frames.proofs.Nearby.{Near, rule-same}
use Rattle.frames.proofs.Goes.{rules-determine}

module _ {K : Type 0} (A : Algebra K) (nets : List NetKind) (formed : WellFormed nets) (hold : Option Hold) (G : Given K) where
  cells-length : (p : ℕ) → length (cells_to A nets hold G p) ≡ p
  unfolding cells_to
  cells-length zero = refl
  cells-length (suc p) = grind (arith, common_steps, cells-length p)

  kept : (p i : ℕ) → i < p → get_or (cells_to A nets hold G (suc p)) i (A.only false) ≡ get_or (cells_to A nets hold G p) i (A.only false)
  unfolding cells_to
  kept p i lt = grind (arith, common_steps, cells-length p)

  -- what is worked out stays
  cells-stay : (p i : ℕ) → i < p → get_or (cells_to A nets hold G p) i (A.only false) ≡ get_or (cells_to A nets hold G (suc i)) i (A.only false)
  unfolding cells_to
  cells-stay zero i h = absurd (omega arith)
  cells-stay (suc p) i h = elim (dec_lt i p) [ yes lt ↦ kept p i lt ∙ cells-stay p i lt | no not ↦ let last : p ≡ i = omega arith in ap (λ k. get_or (cells_to A nets hold G (suc k)) i (A.only false)) last ]

  cell-is : (p : ℕ) → get_or (cells_to A nets hold G (suc p)) p (A.only false) ≡ rule A nets hold G (grid A (length nets) (cells_to A nets hold G p)) (p / length nets) (p % length nets)
  unfolding cells_to
  cell-is p = grind (arith, common_steps, cells-length p)

  pub worked-follows : (frames : ℕ) → FollowsRules A nets hold G frames (worked A nets hold G)
  worked-follows frames t n h k =
      cell-is p ∙ ap₂ (rule A nets hold G (grid A (length nets) (cells_to A nets hold G p))) (div-mul-add t (length nets) n k) (mod-mul-add t (length nets) n k)
      ∙ rule-same A nets formed hold G G (grid A (length nets) (cells_to A nets hold G p)) (worked A nets hold G) t n k refl near
    where
      p : ℕ
      p = t * length nets + n

      near : Near ◌≡◌ (length nets) (grid A (length nets) (cells_to A nets hold G p)) (worked A nets hold G) t n
      near = record {
        here = λ m lt. cells-stay p (t * length nets + m) (omega arith);
        past = λ m pos lt. cells-stay p ((t - 1) * length nets + m) (omega (arith, row-before t (length nets) pos));
      }

  pub worked-is : (frames : ℕ) (ρ : ℕ → ℕ → K) → FollowsRules A nets hold G frames ρ → (t n : ℕ) → t < frames → n < length nets → ρ t n ≡ worked A nets hold G t n
  worked-is frames ρ follows = rules-determine A nets formed hold frames G G (λ t n h k o. refl) ρ (worked A nets hold G) follows (worked-follows frames)
