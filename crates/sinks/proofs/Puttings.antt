-- What one part does to each kind of sink, and how parts follow one another.
use Rattle.std.proofs.Common.{◌≡◌, ℕ, ◌+◌, ◌-◌, ◌≤◌, true, cond, eqb, leb, List, [], ◌∷◌, ◌++◌, length, take, drop, is_err, Some, None, Ok, Err, Result, sym, refl, ap, ◌∙◌, inl, inr, append_assoc, arith, length-append, length-drop, length-take}
use borrow.Rule.Slice.PartMut.{put_mid}
use Rattle.std.proofs.lemmas.Bool.{false≢true, cond-true, cond-false, eq-eqb, eqb-true, cases_Bool}
use Rattle.std.proofs.lemmas.Slice.{take-put_mid, drop-put_mid}
use Rattle.sinks.specs.Sinks.{Meaning, Puts, pastes, strip}

-- a page
module _ (p : ℕ) (out a more : List ℕ) (h : p + length a ≤ length out) where
  abbrev filled : List ℕ
  filled = put_mid p (length a) out a

  abbrev end : ℕ
  end = p + length a + length more

  as-long : length filled ≡ length out
  as-long = simp (length-append, length-take, length-drop) (omega arith)

  same-end : p + length (a ++ more) ≡ end
  same-end = omega (arith, length-append a more)

  same-out : take p out ++ ((a ++ more) ++ drop end out) ≡ take (p + length a) filled ++ (more ++ drop end filled)
  same-out =
      let front = take-put_mid p (length a) out a (p + length a) refl (omega arith) in
      let back = drop-put_mid p (length a) out a end (omega arith) (omega arith) refl in
      ap (λ ys. take p out ++ ys) (append_assoc a more (drop end out)) ∙ sym (append_assoc (take p out) a (more ++ drop end out))
      ∙ ap (λ ys. ys ++ (more ++ drop end out)) (sym front) ∙ ap (λ ys. take (p + length a) filled ++ (more ++ ys)) (sym back)

  pub pastes-on : pastes p out (a ++ more) ≡ pastes (p + length a) (put_mid p (length a) out a) more
  pastes-on =
      ap (λ n. cond (leb n (length out)) (Some (take p out ++ ((a ++ more) ++ drop n out))) None) same-end
      ∙ ap (λ n. cond (leb end n) (Some (take p out ++ ((a ++ more) ++ drop end out))) None) (sym as-long)
      ∙ ap (λ xs. cond (leb end (length filled)) (Some xs) None) same-out

-- to the end that a page came to, by the bytes that it then had
pub pastes-more : (p end : ℕ) (out a ys more : List ℕ) → end ≡ p + length a → end ≤ length out → ys ≡ a → pastes p out (a ++ more) ≡ pastes end (put_mid p (end - p) out ys) more
pastes-more p end out a ys more e h same =
    let k : length a ≡ end - p = omega arith in
    pastes-on p out a more (omega arith)
    ∙ ap (λ n. pastes n (put_mid p (length a) out a) more) (sym e) ∙ ap (λ n. pastes end (put_mid p n out a) more) k ∙ ap (λ xs. pastes end (put_mid p (end - p) out xs) more) (sym same)

-- a text
pub strip-front : (p x more : List ℕ) → strip (p ++ x) (p ++ more) ≡ strip x more
strip-front [] x more = refl
strip-front (b ∷ p) x more = cond-true _ _ _ (eq-eqb b b refl) ∙ strip-front p x more

pub strip-not : (s p more : List ℕ) → ((rest : List ℕ) → s ≡ p ++ rest → ⊥) → strip s (p ++ more) ≡ None
strip-not s [] more h = absurd (h s refl)
strip-not [] (b ∷ p) more h = refl
strip-not (t ∷ s) (b ∷ p) more h =
    (elim (cases_Bool (eqb t b)) as (λ _. strip (t ∷ s) (b ∷ p ++ more) ≡ None) [
      | inl e ↦ cond-true _ _ _ e ∙ strip-not s p more (λ r q. h r ((ap (λ c. c ∷ s) (eqb-true t b e)) ∙ ap (λ ys. b ∷ ys) q))
      | inr e ↦ cond-false _ _ _ e
    ])

-- what the exit of a `?` returns where a part is refused
pub refused : {U E : Type 0} (m n : Meaning) (bs : List ℕ) (r : Result U E) → is_err r ≡ true → n.home ≡ m.home → ((more : List ℕ) → m.comes (bs ++ more) ≡ None) → Puts m n bs r
refused m n bs (Ok u) q h f = absurd (false≢true q)
refused m n bs (Err e) q h f = record { takes = f; home = h }

-- one part after another: the sink meant m at first, and means n when all but these last bytes of all are put
pub record Come (m n : Meaning) (all rest : List ℕ) : Type 0 where
  pub goes : (more : List ℕ) → m.comes (all ++ more) ≡ n.comes (rest ++ more)
  pub home : n.home ≡ m.home

-- nothing is left to put
pub come-all : {U E : Type 0} (m n : Meaning) (all rest : List ℕ) (u : U) → rest ≡ [] → Come m n all rest → Puts {E = E} m n all (Ok u)
come-all m n all rest u e f = record { takes = λ more. f.goes more ∙ ap (λ xs. n.comes (xs ++ more)) e; home = f.home }

-- the part in front is put
pub come-on : {U E : Type 0} (m n o : Meaning) (all part rest next : List ℕ) (u : U) → rest ≡ part ++ next → Come m n all rest → Puts {E = E} n o part (Ok u) → Come m o all next
come-on m n o all part rest next u front f g =
    record { goes = λ more. f.goes more ∙ ap (λ xs. n.comes (xs ++ more)) front ∙ ap n.comes (append_assoc part next more) ∙ g.takes (next ++ more); home = g.home ∙ f.home }

-- the part in front is refused
pub come-out : {U E V F : Type 0} (m n o : Meaning) (all part rest next : List ℕ) (e : E) (r : Result V F) → is_err r ≡ true → rest ≡ part ++ next → Come m n all rest → Puts {U = U} n o part (Err e) → Puts m o all r
come-out m n o all part rest next e r q front f g =
    refused m o all r q (g.home ∙ f.home) (λ more. f.goes more ∙ ap (λ xs. n.comes (xs ++ more)) front ∙ ap n.comes (append_assoc part next more) ∙ g.takes (next ++ more))

-- two parts, the first of which is put, and the first of which is refused
pub puts-then : {U E V F : Type 0} (l m n : Meaning) (a b : List ℕ) (v : V) (r : Result U E) → Puts {E = F} l m a (Ok v) → Puts m n b r → Puts l n (a ++ b) r
puts-then l m n a b v (Ok u) f g = record { takes = λ more. ap l.comes (append_assoc a b more) ∙ f.takes (b ++ more) ∙ g.takes more; home = g.home ∙ f.home }
puts-then l m n a b v (Err e) f g = record { takes = λ more. ap l.comes (append_assoc a b more) ∙ f.takes (b ++ more) ∙ g.takes more; home = g.home ∙ f.home }

pub puts-out : {U E V F : Type 0} (l n : Meaning) (a b : List ℕ) (e : E) (r : Result V F) → is_err r ≡ true → Puts {U = U} l n a (Err e) → Puts l n (a ++ b) r
puts-out l n a b e r q f = refused l n (a ++ b) r q f.home (λ more. ap l.comes (append_assoc a b more) ∙ f.takes (b ++ more))
