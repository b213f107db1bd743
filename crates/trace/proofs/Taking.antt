-- How a line is read.
use Rattle.std.proofs.Common.{◌≡◌, ℕ, ◌+◌, ◌-◌, ◌<◌, ◌≤◌, cond, eqb, ltb, List, [], ◌∷◌, ◌++◌, length, get_or, take, drop, Some, None, Option, sym, refl, ap, ◌∙◌, append-nil, arith, Bor, MatchOption}
use Rattle.std.specs.Option.{option_map}
use Rattle.std.proofs.lemmas.Bool.{cond-true, cond-false, lt-ltb, le-ltb, eq-eqb}
use Rattle.std.proofs.lemmas.List.{take_rest}
use Rattle.text.specs.declared.class.Class.{Class}
use Rattle.text.specs.Cut.{stop}
use Rattle.trace.specs.declared.entry.Entry.{Entry}
use Rattle.values.specs.declared.three.Three.{Three}
use Rattle.sinks.specs.Sinks.{strip}
use Rattle.trace.specs.Texts.{head}
use Rattle.sinks.proofs.Puttings.{strip-front, strip-not}
use Rattle.values.specs.Bytes.{value_of}
use Rattle.trace.specs.Readings.{Took, Parted, and_then, took, valued, line_at, field_at}

pub field-is : (k : Class) (s : List ℕ) (n : ℕ) → n ≡ stop k s → n < length s → ◌≡◌ {A = Option Parted} (Some (record { part = take n s; rest = take (length s - (n + 1)) (drop (n + 1) s) })) (field_at k s)
field-is k s n e h =
    let first : ◌≡◌ {A = Option Parted} (Some (record { part = take n s; rest = take (length s - (n + 1)) (drop (n + 1) s) })) (Some (record { part = take n s; rest = drop (n + 1) s })) =
    λ i. Some (record { part = take n s; rest = take_rest s (n + 1) i }) in
    first ∙ sym (cond-true (ltb n (length s)) _ None (lt-ltb n (length s) h))
    ∙ ap (λ m. cond (ltb m (length s)) (Some (record { part = take m s; rest = drop (m + 1) s })) None) e

pub field-not : (k : Class) (s : List ℕ) → stop k s ≡ length s → None ≡ field_at k s
field-not k s e = sym (cond-false _ _ None (le-ltb (stop k s) (length s) (omega (arith, e))))

pub value-is : (s : List ℕ) (v : Three) → 2 ≤ length s → get_or s 1 0 ≡ 10 → Some v ≡ value_of (get_or s 0 0) → ◌≡◌ {A = Option Took} (Some (record { value = v; rest = take (length s - 2) (drop 2 s) })) (valued s)
value-is [] v h f e = absurd (omega arith)
value-is (b ∷ []) v h f e = absurd (omega arith)
value-is (b ∷ c ∷ s) v h f e =
    let first : ◌≡◌ {A = Option Took} (Some (record { value = v; rest = take (length (b ∷ c ∷ s) - 2) (drop 2 (b ∷ c ∷ s)) })) (took (Some v) s) =
    λ i. Some (record { value = v; rest = take_rest (b ∷ c ∷ s) 2 i }) in
    first ∙ ap (λ o. took o s) e ∙ sym (cond-true (eqb c 10) _ None (eq-eqb c 10 f))

-- a head that is there, and one that is not
pub head-there : (ns : List (List ℕ)) (e : Entry) (text rest : List ℕ) → ((more : List ℕ) → strip text (head ns e ++ more) ≡ strip rest more) → valued rest ≡ line_at ns e text
head-there ns e text rest f =
    let end : strip rest [] ≡ Some rest = refl in
    let is : strip text (head ns e) ≡ Some rest = ap (strip text) (sym (append-nil (head ns e))) ∙ f [] ∙ end in
    sym (ap (λ o. and_then o valued) is)

pub head-not : (ns : List (List ℕ)) (e : Entry) (text : List ℕ) → ((more : List ℕ) → strip text (head ns e ++ more) ≡ None) → None ≡ line_at ns e text
head-not ns e text f =
    let is : strip text (head ns e) ≡ None = ap (strip text) (sym (append-nil (head ns e))) ∙ f [] in
    sym (ap (λ o. and_then o valued) is)

-- `strip_prefix`
pub after-is : (s p : List ℕ) (r : Option (Bor (List ℕ))) → MatchOption r ((rest : List ℕ) → s ≡ p ++ rest → ⊥) (λ x. s ≡ p ++ x.now) → option_map (λ x. x.now) r ≡ strip s p
after-is s p None h = sym (ap (strip s) (sym (append-nil p)) ∙ strip-not s p [] h)
after-is s p (Some x) h = sym (ap (strip s) (sym (append-nil p)) ∙ ap (λ t. strip t (p ++ [])) h ∙ strip-front p x.now [])
