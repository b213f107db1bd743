-- What the passes that measure and write come to.
use Rattle.std.proofs.Common.{◌≡◌, ℕ, ◌+◌, ◌-◌, ◌<◌, ◌≤◌, true, false, leb, List, [], ◌∷◌, ◌++◌, length, take, drop, Some, None, Ok, Err, Result, sym, refl, ap, ◌∙◌, ap₂, ⊎_elim, append-nil, arith, take-append-drop}
use Rattle.std.proofs.lemmas.Bool.{cond-true, cond-false, le-leb, lt-leb, cases_Bool, cases_lt}
use Rattle.std.specs.Result.{IsOk}
use Rattle.sinks.specs.Sinks.{Puts, fits, pastes, writes, filled}

-- the pass that measures
unless : {A : Type 0} (x : A) → Some x ≡ None → ⊥
unless x e = let z : ◌≡◌ {A = ℕ} 0 1 = cc in omega arith

same-length : (t : List ℕ) → length (t ++ []) ≡ length t
same-length t = ap length (append-nil t)

pub fits-ok : (n m : ℕ) (t : List ℕ) → ((more : List ℕ) → fits n (t ++ more) ≡ fits m more) → (n - m ≡ length t) × (length t ≤ n) × (m ≤ n)
fits-ok n m t f =
    let right : fits m [] ≡ Some ((m - 0) ∷ []) = cond-true (leb 0 m) (Some ((m - 0) ∷ [])) None (le-leb 0 m (omega arith)) in
    let l = same-length t in
    ⊎_elim
    (λ (long : n < length t). absurd (unless _ (sym right ∙ sym (f []) ∙ cond-false _ _ _ (lt-leb (length (t ++ [])) n (omega (arith, l))))))
    (λ (h : length t ≤ n).
    let got : Some ((n - length (t ++ [])) ∷ []) ≡ Some ((m - 0) ∷ []) = sym (cond-true _ _ _ (le-leb (length (t ++ [])) n (omega (arith, l)))) ∙ f [] ∙ right in
    let same : n - length (t ++ []) ≡ m - 0 = cc in
    (omega (arith, l), h, omega (arith, l)))
    (cases_lt n (length t))

pub fits-err : (n : ℕ) (t : List ℕ) → ((more : List ℕ) → fits n (t ++ more) ≡ None) → n < length t
fits-err n t f =
    let l = same-length t in
    ⊎_elim
    (λ (long : n < length t). long)
    (λ (h : length t ≤ n). absurd (unless _ (sym (cond-true _ _ _ (le-leb (length (t ++ [])) n (omega (arith, l)))) ∙ f [])))
    (cases_lt n (length t))

-- the pass that writes
start : (out t : List ℕ) → length t ≤ length out → pastes 0 out (t ++ []) ≡ Some (filled t out)
start out t h =
    let l = same-length t in
    let zeros : 0 + length (t ++ []) ≡ length t = omega (arith, l) in
    cond-true _ _ _ (le-leb (0 + length (t ++ [])) (length out) (omega (arith, l)))
    ∙ ap₂ (λ xs n. Some (xs ++ drop n out)) (append-nil t) zeros

pub pastes-err : (out t : List ℕ) → length t ≤ length out → ((more : List ℕ) → pastes 0 out (t ++ more) ≡ None) → ⊥
pastes-err out t h f = unless _ (sym (start out t h) ∙ f [])

pub pastes-ok : (out now t : List ℕ) (p : ℕ) → length t ≤ length out → ((more : List ℕ) → pastes 0 out (t ++ more) ≡ pastes p now more) → now ≡ filled t out
pastes-ok out now t p h f =
    let is = sym (start out t h) ∙ f [] in
    ⊎_elim
    (λ (e : leb (p + 0) (length now) ≡ true).
    let zeros : p + 0 ≡ p = omega arith in
    let got : Some (filled t out) ≡ Some (take p now ++ drop (p + 0) now) = is ∙ cond-true _ _ _ e in
    let same : filled t out ≡ take p now ++ drop (p + 0) now = cc in
    sym (same ∙ ap (λ n. take p now ++ drop n now) zeros ∙ take-append-drop p now))
    (λ (e : leb (p + 0) (length now) ≡ false). absurd (unless _ (is ∙ cond-false _ _ _ e)))
    (cases_Bool (leb (p + 0) (length now)))

-- a text that there is room for is written
pub written : {U E : Type 0} (out now t : List ℕ) (p h k : ℕ) (r : Result U E) → length t ≤ length out → Puts (writes 0 out h) (writes p now k) t r → IsOk r × (now ≡ filled t out)
written out now t p h k (Ok u) room put = (refl, pastes-ok out now t p room put.takes)
written out now t p h k (Err e) room put = absurd (pastes-err out t room put.takes)
