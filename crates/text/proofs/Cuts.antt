-- How `stop` and `cut` go on.
use Rattle.std.proofs.Common.{sym, one-add, ◌≡◌, ◌∙◌, ℕ, suc, ◌<◌, ◌≤◌, true, false, cond, List, [], ◌∷◌, length, take, drop, Some, None, Option, MatchOption, refl, ap, arith}
use Rattle.std.specs.List.{position}
use Rattle.std.specs.Option.{unwrap_or}
use Rattle.std.proofs.lemmas.Grind.{common_steps}
use Rattle.std.proofs.lemmas.List.Recursion.{is_position_or_len}
use Rattle.std.proofs.lemmas.List.Quantifiers.{position-Some}
use Rattle.text.specs.declared.class.Class.{Class}
use Rattle.text.specs.Class.{class_of, same}
use Rattle.text.specs.Cut.{stop, Parts, more, widen, cut}

pub stop-within : (k : Class) (xs : List ℕ) → stop k xs ≤ length xs
stop-within k [] = omega arith
stop-within k (b ∷ bs) =
    elim (same (class_of b) k) as (λ t. cond t 0 (suc (stop k bs)) ≤ suc (length bs)) [ true ↦ omega arith | false ↦ omega (arith, stop-within k bs) ]

-- the place of the first byte of the class, or the length
pub stop_is : (k : Class) (xs : List ℕ) → unwrap_or (position (λ b. same (class_of b) k) xs) (length xs) ≡ stop k xs
stop_is k xs =
    let e = is_position_or_len (stop k) (λ b. same (class_of b) k) refl (λ b bs. ap (λ n. cond (same (class_of b) k) 0 n) (sym (one-add (stop k bs)))) xs in
    grind (arith, common_steps, e, stop-within k xs)

-- where the first byte of the class stands, if there is one
pub first_at : (k : Class) (xs : List ℕ) (o : Option ℕ) → o ≡ position (λ b. same (class_of b) k) xs → MatchOption o (stop k xs ≡ length xs) (λ n. (n ≡ stop k xs) × (n < length xs))
first_at k xs None e = sym (ap (λ o. unwrap_or o (length xs)) e ∙ stop_is k xs)
first_at k xs (Some n) e = (ap (λ o. unwrap_or o (length xs)) e ∙ stop_is k xs, (position-Some (λ b. same (class_of b) k) xs n 0 (sym e)).0)

-- the first part, where a byte closes it
pub cut-more : (k : Class) (xs : List ℕ) → stop k xs < length xs → cut k xs ≡ more (take (stop k xs) xs) (cut k (drop (suc (stop k xs)) xs))
cut-more k [] h = absurd (omega arith)
cut-more k (b ∷ bs) h =
    (elim (same (class_of b) k) as (λ t. cond t 0 (suc (stop k bs)) < suc (length bs) → cond t (more [] (cut k bs)) (widen b (cut k bs).closed (cut k bs).tail) ≡ more (take (cond t 0 (suc (stop k bs))) (b ∷ bs)) (cut k (drop (suc (cond t 0 (suc (stop k bs)))) (b ∷ bs)))) [
      | true ↦ λ l. refl
      | false ↦ λ l. ap (λ (c : Parts). widen b c.closed c.tail) (cut-more k bs (omega arith))
    ]) h

-- no byte closes a part
pub cut-end : (k : Class) (xs : List ℕ) → length xs ≤ stop k xs → cut k xs ≡ record { closed = []; tail = xs }
cut-end k [] h = refl
cut-end k (b ∷ bs) h =
    (elim (same (class_of b) k) as (λ t. suc (length bs) ≤ cond t 0 (suc (stop k bs)) → cond t (more [] (cut k bs)) (widen b (cut k bs).closed (cut k bs).tail) ≡ record { closed = []; tail = b ∷ bs }) [
      | true ↦ λ l. absurd (omega arith)
      | false ↦ λ l. ap (λ (c : Parts). widen b c.closed c.tail) (cut-end k bs (omega arith))
    ]) h
