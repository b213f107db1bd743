-- One entry tried as a dash.
use Rattle.std.proofs.Common.{◌≡◌, ℕ, ◌+◌, ◌*◌, ◌/◌, ◌<◌, Bool, true, false, cond, ◌&&◌, eqb, List, length, None, Option, sym, refl, ap, ◌∙◌, subst, inl, inr, arith}
use Rattle.std.proofs.lemmas.Nat.{div-mul-add}
use Rattle.std.proofs.lemmas.Bool.{cases_Bool, cond-true, cond-false, and_parts, eqb-true}
use Rattle.circuit.specs.declared.nets.NetKind.{NetKind}
use Rattle.circuit.specs.Runs.{WellFormed}
use Rattle.values.specs.Laws.{Algebra}
use Rattle.values.specs.declared.three.Three.{Three}
use Rattle.values.specs.declared.three.Three.TheVariants.{U}
use Rattle.values.specs.Threes.{threes, is_one}
use Rattle.frames.specs.declared.hold.Hold.{Hold}
use Rattle.frames.specs.Calls.{CellsFollow, Changes}
use Rattle.frames.specs.Related.{Alike}
use Rattle.frames.specs.Rules.{Given, grid, frames_in, FollowsRules}
use Rattle.frames.proofs.Evaluated.{worked-is}
use Rattle.frames.proofs.Nearby.{rule-goes, same-keeps}
use Rattle.frames.proofs.Opens.{follows-itself, open-stays}
use Rattle.frames.proofs.Places.{frames-are}
use Rattle.trace.specs.declared.entry.Entry.{Entry}
use Rattle.trace.specs.declared.goal.Goal.{Goal}
use Rattle.trace.specs.Dashes.{frame_of, put_at, on}
use Rattle.trace.specs.Dashing.{Ready, OpenEntry, Worked, Dashes}

-- what is given counts only where a net is open
pub given-alike : {K : Type 0} (A : Algebra K) (nets : List NetKind) → WellFormed nets → (hold : Option Hold) (frames : ℕ) (G G' : Given K) (ρ : ℕ → ℕ → K)
    → Alike ◌≡◌ nets frames G G' → FollowsRules A nets hold G frames ρ → FollowsRules A nets hold G' frames ρ
given-alike A nets formed hold frames G G' ρ alike follows t n h k =
    follows t n h k ∙ rule-goes (same-keeps A) nets formed hold G G' ρ ρ t n k (alike t n h k) (record { here = λ m l. refl; past = λ m p l. refl })

-- so many whole frames
pub whole-frames : (N k size : ℕ) → 0 < N → (k + 1) * N ≡ size → frames_in N size ≡ k + 1
whole-frames N k size some whole =
    let zeros : (k + 1) * N ≡ (k + 1) * N + 0 = omega arith in
    frames-are N size some ∙ ap (λ m. m / N) (sym whole ∙ zeros) ∙ div-mul-add (k + 1) N 0 some

module _ (nets : List NetKind) (formed : WellFormed nets) (g : Goal) where
  -- cells that follow the rules are worked out
  pub cells-worked : (G : Given Three) (C : List Three) → Ready nets g (length C) → CellsFollow threes nets None G C → Worked nets g G C
  cells-worked G C ready follows =
      subst (λ f. FollowsRules threes nets None G f (grid threes (length nets) C)) (whole-frames (length nets) g.last.0 (length C) (omega (arith, ready.target)) ready.whole) follows

  worked-cells : (G : Given Three) (C : List Three) → Ready nets g (length C) → Worked nets g G C → CellsFollow threes nets None G C
  worked-cells G C ready follows =
      subst (λ f. FollowsRules threes nets None G f (grid threes (length nets) C)) (sym (whole-frames (length nets) g.last.0 (length C) (omega (arith, ready.target)) ready.whole)) follows

  -- whether the target comes on is seen in the cells
  pub on-is : (G : Given Three) (C : List Three) → Ready nets g (length C) → Worked nets g G C → is_one (grid threes (length nets) C g.last.0 g.target.0) ≡ on nets g G
  on-is G C ready follows = ap is_one (worked-is threes nets formed None G (g.last.0 + 1) (grid threes (length nets) C) follows g.last.0 g.target.0 (omega arith) ready.target)

  module _ (e : Entry) (opened : OpenEntry nets g.last.0 e) where
    -- one entry changed
    changed : (G : Given Three) (C D : List Three) (v : Three) → Ready nets g (length C) → Worked nets g G C → Changes threes nets (frame_of e) e.net.0 v C D → Worked nets g (put_at (grid threes (length nets) C) e v) D
    changed G C D v ready follows change =
        let itself = follows-itself threes nets None G (g.last.0 + 1) (grid threes (length nets) C) follows in
        let count = whole-frames (length nets) g.last.0 (length C) (omega (arith, ready.target)) ready.whole in
        cells-worked _ D (subst (Ready nets g) (sym change.len) ready)
        (change.follows (worked-cells _ C ready itself) (omega (arith, count, opened.frame), opened.net))

    pub dashing : (G : Given Three) (C D : List Three) → Ready nets g (length C) → Worked nets g G C → Changes threes nets (frame_of e) e.net.0 U C D → Worked nets g (put_at G e U) D
    dashing G C D ready follows change =
        given-alike threes nets formed None (g.last.0 + 1) (put_at (grid threes (length nets) C) e U) (put_at G e U) (grid threes (length nets) D)
        (λ t n h k o. ap (λ v. cond (eqb t (frame_of e) && eqb n e.net.0) U v) (open-stays threes nets G (g.last.0 + 1) (grid threes (length nets) C) follows t n h k o))
        (changed G C D U ready follows change)

    pub restoring : (G : Given Three) (C D E : List Three) (old : Three) → Ready nets g (length C) → Worked nets g G C → Changes threes nets (frame_of e) e.net.0 U C D
        → old ≡ grid threes (length nets) C (frame_of e) e.net.0 → Changes threes nets (frame_of e) e.net.0 old D E → Worked nets g G E
    restoring G C D E old ready follows change was back =
        given-alike threes nets formed None (g.last.0 + 1) (put_at (grid threes (length nets) D) e old) G (grid threes (length nets) E) alike
        (changed (put_at G e U) D E old (subst (Ready nets g) (sym change.len) ready) mid back)
      where
        mid : Worked nets g (put_at G e U) D
        mid = dashing G C D ready follows change

        alike : Alike ◌≡◌ nets (g.last.0 + 1) (put_at (grid threes (length nets) D) e old) G
        alike t n h k o = elim (cases_Bool (eqb t (frame_of e) && eqb n e.net.0)) [
          | inl here ↦
              let at = and_parts (eqb t (frame_of e)) (eqb n e.net.0) here in
              let frame = eqb-true t (frame_of e) at.0 in
              let net = eqb-true n e.net.0 at.1 in
              cond-true _ old (grid threes (length nets) D t n) here ∙ was ∙ open-stays threes nets G (g.last.0 + 1) (grid threes (length nets) C) follows (frame_of e) e.net.0 (omega (arith, opened.frame)) opened.net opened.free
              ∙ (λ i. G (sym frame i) (sym net i))
          | inr away ↦
              cond-false _ old (grid threes (length nets) D t n) away ∙ open-stays threes nets (put_at G e U) (g.last.0 + 1) (grid threes (length nets) D) mid t n h k o
              ∙ cond-false _ U (G t n) away
        ]

    -- the try as a whole, where r is what the test saw
    module _ (C D : List Three) (ready : Ready nets g (length C)) (change : Changes threes nets (frame_of e) e.net.0 U C D) (r : Bool) (saw : r ≡ is_one (grid threes (length nets) D g.last.0 g.target.0)) where
      seen : (G : Given Three) → Worked nets g G C → on nets g (put_at G e U) ≡ r
      seen G follows = sym (on-is (put_at G e U) D (subst (Ready nets g) (sym change.len) ready) (dashing G C D ready follows change)) ∙ sym saw

      pub stays : r ≡ true → Dashes nets g e C D
      stays yes-on = record { len = change.len; tries = λ G follows. subst (λ H. Worked nets g H D) (sym (cond-true (on nets g (put_at G e U)) (put_at G e U) G (seen G follows ∙ yes-on))) (dashing G C D ready follows change) }

      pub goes-back : r ≡ false → (E : List Three) (old : Three) → old ≡ grid threes (length nets) C (frame_of e) e.net.0 → Changes threes nets (frame_of e) e.net.0 old D E → Dashes nets g e C E
      goes-back no-on E old was back = record {
        len = back.len ∙ change.len;
        tries = λ G follows. subst (λ H. Worked nets g H E) (sym (cond-false (on nets g (put_at G e U)) (put_at G e U) G (seen G follows ∙ no-on))) (restoring G C D E old ready follows change was back);
      }
