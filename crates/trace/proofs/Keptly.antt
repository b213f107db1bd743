-- What keeping a trace comes to.
use Rattle.std.proofs.Common.{◌≡◌, ℕ, zero, suc, ◌+◌, ◌*◌, ◌<◌, Bool, true, false, ◌&&◌, eqb, ltb, List, [], ◌∷◌, map, length, get_or, None, Ok, Err, Result, is_err, sym, refl, ap, ◌∙◌, subst, arith}
use lib.ListN.{length-map}
use Rattle.std.specs.List.{AllByRecursion as All}
use Rattle.std.proofs.lemmas.Bool.{false≢true, and_from, and_right, lt-ltb, eq-eqb}
use Rattle.circuit.specs.declared.nets.NetKind.{NetKind}
use Rattle.circuit.specs.Circuits.{nets_of}
use Rattle.circuit.specs.Runs.{WellFormed}
use Rattle.values.specs.Bits.{bits}
use Rattle.values.specs.Threes.{threes, three_of}
use Rattle.values.specs.declared.three.Three.{Three}
use Rattle.values.specs.declared.three.Three.TheVariants.{Zero}
use Rattle.frames.specs.Rules.{Given, grid}
use Rattle.frames.specs.Worked.{worked}
use Rattle.frames.proofs.Opens.{open-stays}
use Rattle.trace.specs.declared.entry.Entry.{Entry}
use Rattle.trace.specs.declared.goal.Goal.{Goal}
use Rattle.trace.specs.declared.goal.NotOn.{NotOn}
use Rattle.trace.specs.Dashes.{frame_of, given_at, grid_at, on, dashed, solved, lifted, puts_on, kept_trace}
use Rattle.trace.specs.Dashing.{Ready, OpenEntry, Worked}
use Rattle.trace.specs.Fillings.{Certain}
use Rattle.trace.specs.Keeping.{Kept, Found}
use Rattle.trace.specs.Recordings.{held_trace}
use Rattle.trace.specs.declared.recording.Recording.{Recording}
use Rattle.trace.specs.Layout.{entries}
use Rattle.trace.proofs.Certainly.{dashed-on, lifted-on, certain}
use Rattle.trace.proofs.Entering.{all-open}

lifted-at : (bs : List Bool) (m : ℕ) → get_or (map three_of bs) m Zero ≡ three_of (get_or bs m false)
lifted-at [] m = refl
lifted-at (b ∷ bs) zero = refl
lifted-at (b ∷ bs) (suc m) = lifted-at bs m

-- at the entries stands what is given
map-open : (nets : List NetKind) (g : Goal) (G : Given Three) (D : List Three) → Worked nets g G D → (es : List Entry) → All (OpenEntry nets g.last.0) es → map (grid_at (length nets) D) es ≡ map (given_at G) es
map-open nets g G D works [] h = refl
map-open nets g G D works (e ∷ es) h = λ i.
    open-stays threes nets G (g.last.0 + 1) (grid threes (length nets) D) works (frame_of e) e.net.0 (omega (arith, h.0.frame)) h.0.net h.0.free i
    ∷ map-open nets g G D works es h.1 i

module _ (nets : List NetKind) (formed : WellFormed nets) (g : Goal) (solution : List Bool) (short : g.last.0 < 64) (inside : g.target.0 < length nets) (size : length solution ≡ (g.last.0 + 1) * length nets) where
  came : on nets g (lifted (length nets) solution) ≡ worked bits nets None (solved (length nets) solution) g.last.0 g.target.0
  came = lifted-on nets formed g inside (lifted (length nets) solution) (solved (length nets) solution) (λ t n h k o. lifted-at solution (t * length nets + n))

  sized : (ltb g.last.0 64 && ltb g.target.0 (length nets)) ≡ true
  sized = and_from _ _ (lt-ltb _ _ short) (lt-ltb _ _ inside)

  module _ (C D : List Three) (is : C ≡ map three_of solution) where
    pub ready : Ready nets g (length C)
    ready = record { short = short; target = inside; whole = sym (ap length is ∙ length-map solution three_of ∙ size) }

    pub not-kept : (e : NotOn) → Found nets g C D (Err e) → puts_on nets g solution ≡ false
    not-kept e found =
        let off : worked bits nets None (solved (length nets) solution) g.last.0 g.target.0 ≡ false = sym came ∙ ap (λ xs. on nets g (grid threes (length nets) xs)) (sym is) ∙ found.0 in
        and_right (ltb g.last.0 64 && ltb g.target.0 (length nets)) _ (and_right (eqb (length solution) ((g.last.0 + 1) * length nets)) _ off)

    module _ (u : Unit {0}) (found : Found nets g C D (Ok u)) where
      comes : on nets g (lifted (length nets) solution) ≡ true
      comes = ap (λ xs. on nets g (grid threes (length nets) xs)) (sym is) ∙ found.0

      works : Worked nets g (dashed nets g (entries nets g.last.0) (lifted (length nets) solution)) D
      works = subst (λ xs. Worked nets g (dashed nets g (entries nets g.last.0) (grid threes (length nets) xs)) D) is found.2

      pub puts-on : puts_on nets g solution ≡ true
      puts-on = and_from _ _ sized (and_from _ _ (eq-eqb _ _ size) (sym came ∙ comes))

      pub values-are : (E vs : List Three) → E ≡ D → vs ≡ map (grid_at (length nets) E) (entries nets g.last.0) → vs ≡ (kept_trace nets g solution).values
      values-are E vs same items = items ∙ ap (λ xs. map (grid_at (length nets) xs) (entries nets g.last.0)) same ∙ map-open nets g _ D works (entries nets g.last.0) (all-open nets g.last.0)

      pub kept-certain : Certain nets (kept_trace nets g solution)
      kept-certain = certain nets formed g inside _ (dashed-on nets g (entries nets g.last.0) (lifted (length nets) solution) comes)

-- a refusal
pub kept-out : (r : Result (Unit {0}) NotOn) (solution : List Bool) (g : Goal) (before after : Recording) → is_err r ≡ true
    → (puts_on (nets_of before.circuit) g solution ≡ false) × (after.circuit ≡ before.circuit) × (held_trace after ≡ held_trace before) → Kept r solution g before after
kept-out (Ok u) solution g before after out facts = absurd (false≢true out)
kept-out (Err e) solution g before after out facts = facts
