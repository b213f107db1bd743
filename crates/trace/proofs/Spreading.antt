-- How the values of a trace are laid out, one after the other.
use Rattle.std.proofs.Common.{◌≡◌, ℕ, List, [], ◌∷◌, set, refl, ap, ◌∙◌, sym, inl, inr}
use Rattle.values.specs.declared.three.Three.{Three}
use Rattle.trace.specs.declared.entry.Entry.{Entry}
use Rattle.trace.specs.Dashes.{place_of}
use Rattle.trace.specs.Laid.{laid}
use Rattle.trace.proofs.Lines.{Over}

pub laid-more : (N : ℕ) (es rest : List Entry) (vs more : List Three) (e : Entry) (v : Three) (cells after : List Three) (p : ℕ) → (es ≡ e ∷ rest) × (vs ≡ v ∷ more) → p ≡ place_of N e → after ≡ set cells p v → laid N rest more after ≡ laid N es vs cells
laid-more N es rest vs more e v cells after p is at put =
    ap (laid N rest more) (put ∙ ap (λ q. set cells q v) at) ∙ sym (λ i. laid N (is.0 i) (is.1 i) cells)

pub laid-none : (N : ℕ) (es : List Entry) (vs cells : List Three) → Over es vs → laid N es vs cells ≡ cells
laid-none N es vs cells (inl h) = ap (λ xs. laid N xs vs cells) h
laid-none N [] vs cells (inr h) = refl
laid-none N (e ∷ es) vs cells (inr h) = ap (λ ys. laid N (e ∷ es) ys cells) h
