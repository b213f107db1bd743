-- Decimals of numbers below 64, there and back.
use Rattle.std.proofs.Common.{◌≡◌, ℕ, zero, suc, ◌+◌, ◌-◌, ◌*◌, ◌/◌, ◌%◌, ◌<◌, Bool, true, false, ◌&&◌, eqb, ltb, leb, List, [], ◌∷◌, Some, None, Option, unwrap_or, sym, refl, ap, ◌∙◌, ⊎_elim, arith}
use Rattle.std.proofs.lemmas.Bool.{cond-true, cond-false, lt-ltb, le-ltb, ltb-true, leb-true, eqb-true, and_parts, cases_Bool}
use Rattle.std.proofs.lemmas.Bool.Decides.{Decides-below_and}
use Rattle.text.specs.Class.{within}
use Rattle.trace.specs.Texts.{decimal}
use Rattle.trace.specs.Readings.{and_then, digit_of, small, number_of}
use Rattle.trace.specs.Laws.{Decimals}

-- a test at every number below a bound
abbrev below : (ℕ → Bool) → ℕ → Bool
below f zero = true
below f (suc n) = f n && below f n

pub at : (f : ℕ → Bool) (n : ℕ) → below f n ≡ true → (k : ℕ) → k < n → f k ≡ true
at f n = (Decides-below_and f (λ k. f k ≡ true) (below f) (λ k. (λ e. e, λ e. e)) refl (λ _. refl) n).0

is-some : (o : Option ℕ) (n : ℕ) → n < 64 → unwrap_or o 64 ≡ n → o ≡ Some n
is-some None n h e = absurd (omega arith)
is-some (Some m) n h e = ap Some e

there : (n : ℕ) → n < 64 → number_of (decimal n) ≡ Some n
there n h = is-some (number_of (decimal n)) n h (eqb-true _ n (at (λ k. eqb (unwrap_or (number_of (decimal k)) 64) k) 64 refl n h))

digit-is : (b n : ℕ) → digit_of b ≡ Some n → (b ≡ 48 + n) × (n < 10)
digit-is b n e =
    ⊎_elim
    (λ (t : within 48 57 b ≡ true).
    let p = and_parts (leb 48 b) (leb b 57) t in
    let low = leb-true 48 b p.0 in
    let high = leb-true b 57 p.1 in
    let got : Some (b - 48) ≡ Some n = sym (cond-true _ _ _ t) ∙ e in
    let same-n : b - 48 ≡ n = cc in
    (omega arith, omega arith))
    (λ (t : within 48 57 b ≡ false). let z : None ≡ Some n = sym (cond-false _ _ _ t) ∙ e in let y : ◌≡◌ {A = ℕ} 0 1 = cc in absurd (omega arith))
    (cases_Bool (within 48 57 b))

small-is : (tens ones n : ℕ) → small tens ones ≡ Some n → (0 < tens) × (n < 64) × (n ≡ 10 * tens + ones)
small-is tens ones n e =
    ⊎_elim
    (λ (t : (ltb 0 tens && ltb (10 * tens + ones) 64) ≡ true).
    let p = and_parts (ltb 0 tens) (ltb (10 * tens + ones) 64) t in
    let some = ltb-true 0 tens p.0 in
    let few = ltb-true (10 * tens + ones) 64 p.1 in
    let got : Some (10 * tens + ones) ≡ Some n = sym (cond-true _ _ _ t) ∙ e in
    let same-n : 10 * tens + ones ≡ n = cc in
    (some, omega arith, sym same-n))
    (λ (t : (ltb 0 tens && ltb (10 * tens + ones) 64) ≡ false). let z : None ≡ Some n = sym (cond-false _ _ _ t) ∙ e in let y : ◌≡◌ {A = ℕ} 0 1 = cc in absurd (omega arith))
    (cases_Bool (ltb 0 tens && ltb (10 * tens + ones) 64))

pub then-some : {A B : Type 0} (o : Option A) (f : A → Option B) (y : B) → and_then o f ≡ Some y → (x : A) × (o ≡ Some x) × (f x ≡ Some y)
then-some None f y e = let z : ◌≡◌ {A = ℕ} 0 1 = cc in absurd (omega arith)
then-some (Some x) f y e = (x, refl, e)

one-digit : (d n : ℕ) → n < 10 → d ≡ 48 + n → d ∷ [] ≡ decimal n
one-digit d n h e =
    let is : d ≡ 48 + n % 10 = omega arith in
    ap (λ b. b ∷ []) is ∙ sym (cond-true (ltb n 10) _ _ (lt-ltb n 10 h))

two-digits : (d e tens ones n : ℕ) → d ≡ 48 + tens → e ≡ 48 + ones → ones < 10 → 0 < tens → n < 64 → n ≡ 10 * tens + ones → d ∷ e ∷ [] ≡ decimal n
two-digits d e tens ones n p q o t h is =
    let first : d ≡ 48 + n / 10 % 10 = omega arith in
    let second : e ≡ 48 + n % 10 = omega arith in
    (λ i. first i ∷ second i ∷ []) ∙ sym (cond-false (ltb n 10) _ _ (le-ltb n 10 (omega arith)))

back : (s : List ℕ) (n : ℕ) → number_of s ≡ Some n → (n < 64) × (s ≡ decimal n)
back [] n e = let z : ◌≡◌ {A = ℕ} 0 1 = cc in absurd (omega arith)
back (d ∷ []) n e = let p = digit-is d n e in (omega arith, one-digit d n p.1 p.0)
back (d ∷ f ∷ []) n e =
    let p = then-some (digit_of d) (λ tens. and_then (digit_of f) (λ ones. small tens ones)) n e in
    let q = then-some (digit_of f) (λ ones. small p.0 ones) n p.2 in
    let tens = digit-is d p.0 p.1 in
    let ones = digit-is f q.0 q.1 in
    let r = small-is p.0 q.0 n q.2 in
    (r.1, two-digits d f p.0 q.0 n tens.0 ones.0 ones.1 r.0 r.1 r.2)
back (d ∷ f ∷ g ∷ s) n e = let z : ◌≡◌ {A = ℕ} 0 1 = cc in absurd (omega arith)

pub decimals : Decimals
decimals = record { there = there; back = back }
