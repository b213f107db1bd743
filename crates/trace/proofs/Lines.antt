-- How what stands at each entry goes on, an entry and a value at a time.
use Rattle.std.proofs.Common.{◌≡◌, ℕ, List, [], ◌∷◌, ◌++◌, length, refl, ap, inl, inr, ◌⊎◌}
use Rattle.std.proofs.lemmas.List.{nil_from_length}
use Rattle.values.specs.declared.three.Three.{Three}
use Rattle.trace.specs.declared.entry.Entry.{Entry}
use Rattle.trace.specs.Texts.{line, lines}

-- no entry is left, or no value
abbrev pub Over : List Entry → List Three → Type 0
Over es vs = (es ≡ []) ⊎ (vs ≡ [])

-- where a loop over both ends
pub over : {A B : Type 0} {P : A → Type 0} {Q : B → Type 0} (es : List Entry) (vs : List Three) → ((y : B) × ((length vs ≡ 0) × Q y)) ⊎ ((x : A) × ((es ≡ []) × P x)) → Over es vs
over es vs (inl h) = inr (nil_from_length vs h.1.0)
over es vs (inr h) = inl h.1.0

pub line-front : (ns : List (List ℕ)) (es rest : List Entry) (vs more : List Three) (e : Entry) (v : Three) → (es ≡ e ∷ rest) × (vs ≡ v ∷ more) → lines ns es vs ≡ line ns e v ++ lines ns rest more
line-front ns es rest vs more e v is = λ i. lines ns (is.0 i) (is.1 i)

pub lines-none : (ns : List (List ℕ)) (es : List Entry) (vs : List Three) → Over es vs → lines ns es vs ≡ []
lines-none ns es vs (inl h) = ap (λ xs. lines ns xs vs) h
lines-none ns [] vs (inr h) = refl
lines-none ns (e ∷ es) vs (inr h) = ap (lines ns (e ∷ es)) h
