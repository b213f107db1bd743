-- Where a name stands among others.
use Rattle.std.proofs.Common.{◌≡◌, ℕ, zero, suc, ◌+◌, ◌<◌, List, [], ◌∷◌, ◌++◌, length, get_or, Some, None, Option, sym, refl, ap, ◌∙◌, inl, inr, arith}
use Rattle.std.specs.Str.{bytes_eq}
use Rattle.std.proofs.lemmas.Slice.Eq.{bytes_eq-Decides}
use Rattle.std.proofs.lemmas.List.{get_or_append_left}
use Rattle.std.proofs.lemmas.Bool.{cases_Bool, cond-true, cond-false}
use Rattle.circuit.specs.declared.nets.Net.{Net}
use Rattle.circuit.specs.Names.{net, name_at, place_from, GoodNames}

pub no-some : {A : Type 0} (x : A) → ◌≡◌ {A = Option A} None (Some x) → ⊥
no-some x p = let z : ◌≡◌ {A = ℕ} 0 1 = cc in omega arith

pub same-some : {A : Type 0} (x y : A) → ◌≡◌ {A = Option A} (Some x) (Some y) → x ≡ y
same-some x y p = cc

-- a name that stands at k, and at no place before, is found there
pub place-there : (i : ℕ) (ns : List (List ℕ)) (k : ℕ) → k < length ns → ((j : ℕ) → j < k → get_or ns j [] ≡ get_or ns k [] → ⊥) → place_from i (get_or ns k []) ns ≡ Some (net (i + k))
place-there i [] k h f = absurd (omega arith)
place-there i (m ∷ ms) zero h f =
    let zeros : i ≡ i + 0 = omega arith in
    cond-true (bytes_eq m m) _ _ ((bytes_eq-Decides m m).1 refl) ∙ ap (λ n. Some (net n)) zeros
place-there i (m ∷ ms) (suc k) h f =
    let next : suc i + k ≡ i + suc k = omega arith in
    elim (cases_Bool (bytes_eq m (get_or ms k []))) [
      | inl t ↦ absurd (f 0 (omega arith) ((bytes_eq-Decides m (get_or ms k [])).0 t))
      | inr t ↦ cond-false _ _ _ t ∙ place-there (suc i) ms k (omega arith) (λ j l. f (suc j) (omega arith)) ∙ ap (λ n. Some (net n)) next
    ]

-- where a name is found, it stands
pub place-back : (i : ℕ) (ns : List (List ℕ)) (n : List ℕ) (x : Net) → place_from i n ns ≡ Some x → (k : ℕ) × (x.0 ≡ i + k) × (k < length ns) × (get_or ns k [] ≡ n)
place-back i [] n x e = absurd (no-some x e)
place-back i (m ∷ ms) n x e =
    elim (cases_Bool (bytes_eq m n)) [
      | inl t ↦
          let num = ap (λ (y : Net). y.0) (same-some (net i) x (sym (cond-true _ _ _ t) ∙ e)) in
          (0, omega (arith, num), omega arith, (bytes_eq-Decides m n).0 t)
      | inr t ↦
          let r = place-back (suc i) ms n x (sym (cond-false _ _ _ t) ∙ e) in
          (suc r.0, omega (arith, r.1), omega (arith, r.2), r.3)
    ]

-- a name that does not stand among the names is not found
pub place-none : (i : ℕ) (n : List ℕ) (ns : List (List ℕ)) → ((j : ℕ) → j < length ns → get_or ns j [] ≡ n → ⊥) → place_from i n ns ≡ None
place-none i n [] f = refl
place-none i n (m ∷ ms) f =
    elim (cases_Bool (bytes_eq m n)) [
      | inl t ↦ absurd (f 0 (omega arith) ((bytes_eq-Decides m n).0 t))
      | inr t ↦ cond-false _ _ _ t ∙ place-none (suc i) n ms (λ j l. f (suc j) (omega arith))
    ]

-- a net that is found by its name has it, when more names follow too
pub place-name : (ns : List (List ℕ)) (n : List ℕ) (x : Net) → place_from 0 n ns ≡ Some x → (name_at ns x ≡ n) × (x.0 < length ns)
place-name ns n x e =
    let p = place-back 0 ns n x e in
    let at : x.0 ≡ p.0 = omega (arith, p.1) in
    (ap (λ m. get_or ns m []) at ∙ p.3, omega (arith, p.2, at))

pub place-name-more : (ns more : List (List ℕ)) (n : List ℕ) (x : Net) → place_from 0 n ns ≡ Some x → name_at (ns ++ more) x ≡ n
place-name-more ns more n x e = let p = place-name ns n x e in get_or_append_left ns more [] x.0 p.1 ∙ p.0

-- a net of good names is found by its name
pub name-place : (ns : List (List ℕ)) → GoodNames ns → (x : Net) → x.0 < length ns → place_from 0 (name_at ns x) ns ≡ Some x
name-place ns g x h =
    let zeros : 0 + x.0 ≡ x.0 = omega arith in
    place-there 0 ns x.0 h (λ j l. g.apart j x.0 l h) ∙ ap (λ m. Some (net m)) zeros
