-- The fillings of a trace. A filling puts 0 or 1 for each dash; the rules then give all other values.
use Rattle.std.specs.Prelude.{◌≡◌, true, List, [], ◌∷◌}
use Rattle.circuit.specs.declared.nets.NetKind.{NetKind}
use Rattle.circuit.specs.Runs.{Values, Run}
use Rattle.values.specs.declared.three.Three.{Three}
use Rattle.values.specs.Laws.{Admits}
use Rattle.values.specs.Threes.{threes}
use Rattle.trace.specs.declared.entry.Entry.{Entry}
use Rattle.trace.specs.Dashes.{given_at}
use Rattle.trace.specs.Layout.{entries}
use Rattle.trace.specs.Texts.{Told}

-- each value stands for the bit that β has at its entry
abbrev pub Admitted : List Entry → List Three → Values → Type 0
Admitted [] vs β = Unit {0}
Admitted (e ∷ es) [] β = Unit {0}
Admitted (e ∷ es) (v ∷ vs) β = Admits threes v (given_at β e) × Admitted es vs β

-- ρ has the bits of β at each entry
abbrev pub Carried : List Entry → Values → Values → Type 0
Carried [] β ρ = Unit {0}
Carried (e ∷ es) β ρ = (given_at ρ e ≡ given_at β e) × Carried es β ρ

-- the bits β fill the trace in
abbrev pub Fills : List NetKind → Told → Values → Type 0
Fills nets t β = Admitted (entries nets t.last) t.values β

-- a run of exactly that length with the target on, by the bits β
pub record Shows (nets : List NetKind) (t : Told) (β ρ : Values) : Type 0 where
  pub run : Run nets t.last ρ
  pub carries : Carried (entries nets t.last) β ρ
  pub on : ρ t.last t.target.0 ≡ true

-- each filling gives a run of exactly the trace's length with the target on, and so has it every run that fills the trace in
pub record Certain (nets : List NetKind) (t : Told) : Type 0 where
  pub gives : (β : Values) → Fills nets t β → (ρ : Values) × Shows nets t β ρ
  pub always : (ρ : Values) → Run nets t.last ρ → Fills nets t ρ → ρ t.last t.target.0 ≡ true
