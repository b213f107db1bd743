-- Where the target comes on by three-way values, each filling gives a run with the target on.
use Rattle.std.proofs.Common.{◌≡◌, ℕ, ◌+◌, ◌<◌, Bool, true, false, cond, not, ◌&&◌, List, [], ◌∷◌, map, length, None, refl, ap, ◌∙◌, subst, ap₂, arith}
use mathlib.Core.Bool.{false≢true}
use Rattle.std.specs.List.{AllByRecursion as All}
use Rattle.std.proofs.ByRecursion.{all-has}
use Rattle.circuit.specs.declared.nets.NetKind.{NetKind}
use Rattle.circuit.specs.Runs.{Values, WellFormed, differ}
use Rattle.values.specs.Bits.{bits}
use Rattle.values.specs.Laws.{Admits}
use Rattle.values.specs.Threes.{threes, three_of, is_one}
use Rattle.values.specs.ThreeLaws.{three_laws}
use Rattle.values.specs.declared.three.Three.{Three}
use Rattle.values.specs.declared.three.Three.TheVariants.{Zero, One, U}
use Rattle.frames.specs.Related.{Alike, Keeps}
use Rattle.frames.specs.Rules.{Given, FollowsRules}
use Rattle.frames.specs.Worked.{worked}
use Rattle.frames.proofs.Evaluated.{worked-follows}
use Rattle.frames.proofs.Goes.{goes, filling-kept, rules-make-runs, runs-follow}
use Rattle.frames.proofs.Opens.{open-stays}
use Rattle.trace.specs.declared.entry.Entry.{Entry}
use Rattle.trace.specs.declared.goal.Goal.{Goal}
use Rattle.trace.specs.Dashes.{frame_of, given_at, on, tried, dashed, put_at}
use Rattle.trace.specs.Dashing.{OpenEntry}
use Rattle.trace.specs.Fillings.{Admitted, Carried, Fills, Certain}
use Rattle.trace.specs.Layout.{entries}
use Rattle.trace.specs.Texts.{Told}
use Rattle.trace.proofs.Entering.{all-open, entries-have}

is-one-true : (v : Three) → is_one v ≡ true → v ≡ One
is-one-true Zero h = absurd (false≢true h)
is-one-true One h = refl
is-one-true U h = absurd (false≢true h)

-- the dashes keep the target on
pub dashed-on : (nets : List NetKind) (g : Goal) (es : List Entry) (G : Given Three) → on nets g G ≡ true → on nets g (dashed nets g es G) ≡ true
dashed-on nets g [] G h = h
dashed-on nets g (e ∷ es) G h = dashed-on nets g es (tried nets g e G) (by (on nets g (put_at G e U)) refl)
  where
    by : (b : Bool) → on nets g (put_at G e U) ≡ b → on nets g (cond b (put_at G e U) G) ≡ true
    by true w = w
    by false w = h

admitted-all : (f : Entry → Three) (es : List Entry) (β : Values) → Admitted es (map f es) β → All (λ e. Admits threes (f e) (given_at β e)) es
admitted-all f [] β h = tt
admitted-all f (e ∷ es) β h = (h.0, admitted-all f es β h.1)

carried-all : (es : List Entry) (β ρ : Values) → All (λ e. given_at ρ e ≡ given_at β e) es → Carried es β ρ
carried-all [] β ρ h = tt
carried-all (e ∷ es) β ρ h = (h.0, carried-all es β ρ h.1)

module _ (nets : List NetKind) (formed : WellFormed nets) (g : Goal) (inside : g.target.0 < length nets) (G : Given Three) (goes_on : on nets g G ≡ true) where
  k : ℕ
  k = g.last.0

  abbrev trace : Told
  trace = record { last = g.last.0; target = g.target; values = map (given_at G) (entries nets g.last.0) }

  fills-given : (β : Values) → Fills nets trace β → Alike (Admits threes) nets (g.last.0 + 1) G β
  fills-given β fills t n h l o =
      let at = entries-have nets n l g.last.0 t (omega arith) o in
      let here = all-has (λ e. Admits threes (given_at G e) (given_at β e)) (entries nets g.last.0) at.0 (admitted-all (given_at G) (entries nets g.last.0) β fills) at.1 in
      subst (λ s. Admits threes (G s n) (β s n)) at.2 (subst (λ m. Admits threes (G (frame_of at.0) m) (β (frame_of at.0) m)) at.3 here)

  shows-on : (β ρ : Values) → Fills nets trace β → FollowsRules bits nets None β (g.last.0 + 1) ρ → ρ g.last.0 g.target.0 ≡ true
  shows-on β ρ fills follows =
      filling-kept threes three_laws nets None (g.last.0 + 1) G β (worked threes nets None G) ρ
      (record { formed = formed; fills = fills-given β fills; follows = worked-follows threes nets formed None G (g.last.0 + 1); bits_follow = follows })
      g.last.0 g.target.0 (omega arith) inside true (is-one-true _ goes_on)

  carried : (β : Values) (es : List Entry) → All (OpenEntry nets g.last.0) es → All (λ e. given_at (worked bits nets None β) e ≡ given_at β e) es
  carried β [] h = tt
  carried β (e ∷ es) h =
      (open-stays bits nets β (g.last.0 + 1) (worked bits nets None β) (worked-follows bits nets formed None β (g.last.0 + 1)) (frame_of e) e.net.0 (omega (arith, h.0.frame)) h.0.net h.0.free, carried β es h.1)

  pub certain : Certain nets trace
  certain = record {
    gives = λ β fills. (
      worked bits nets None β,
      record {
        run = rules-make-runs nets β g.last.0 (worked bits nets None β) (worked-follows bits nets formed None β (g.last.0 + 1));
        carries = carried-all (entries nets g.last.0) β (worked bits nets None β) (carried β (entries nets g.last.0) (all-open nets g.last.0));
        on = shows-on β (worked bits nets None β) fills (worked-follows bits nets formed None β (g.last.0 + 1));
      },
    );
    always = λ ρ run fills. shows-on ρ ρ fills (runs-follow nets g.last.0 ρ run);
  }

-- bits as three-way values
not-of : (b : Bool) → threes.opposite (three_of b) ≡ three_of (not b)
not-of true = refl
not-of false = refl

and-of : (a b : Bool) → threes.both (three_of a) (three_of b) ≡ three_of (a && b)
and-of true b = refl
and-of false b = refl

xor-of : (a b : Bool) → threes.unlike (three_of a) (three_of b) ≡ three_of (differ a b)
xor-of true b = not-of b
xor-of false b = refl

abbrev Is : Three → Bool → Type 0
Is v b = v ≡ three_of b

keeps-bits : Keeps threes bits Is
keeps-bits = record {
  of = λ b. refl;
  inverse = λ v w e. ap threes.opposite e ∙ not-of w;
  and = λ v v' w w' e f. ap₂ threes.both e f ∙ and-of w w';
  xor = λ v v' w w' e f. ap₂ threes.unlike e f ∙ xor-of w w';
}

is-one-of : (b : Bool) → is_one (three_of b) ≡ b
is-one-of true = refl
is-one-of false = refl

-- with no dash the target comes on exactly where its bit does
pub lifted-on : (nets : List NetKind) → WellFormed nets → (g : Goal) → g.target.0 < length nets → (G : Given Three) (B : Given Bool) → Alike Is nets (g.last.0 + 1) G B → on nets g G ≡ worked bits nets None B g.last.0 g.target.0
lifted-on nets formed g inside G B alike =
    let same = goes keeps-bits nets formed None (g.last.0 + 1) alike (worked threes nets None G) (worked bits nets None B) (worked-follows threes nets formed None G (g.last.0 + 1)) (worked-follows bits nets formed None B (g.last.0 + 1)) g.last.0 g.target.0 (omega arith) inside in
    ap is_one same ∙ is-one-of _
