-- What stands at an open place once a trace is laid out.
use Rattle.std.proofs.Common.{◌≡◌, ℕ, zero, suc, ◌+◌, ◌*◌, ◌<◌, List, [], ◌∷◌, length, get_or, set, sym, subst, arith, length-set}
use native.Mathlib.Decide.{ℕ_discrete}
use Rattle.std.specs.List.{AllByRecursion as All}
use Rattle.std.proofs.lemmas.List.{get_or-set_same, get_or-set_other}
use Rattle.values.specs.declared.three.Three.{Three}
use Rattle.values.specs.declared.three.Three.TheVariants.{Zero}
use Rattle.frames.proofs.Places.{same-place}
use Rattle.trace.specs.declared.entry.Entry.{Entry}
use Rattle.trace.specs.Dashes.{frame_of, place_of}
use Rattle.trace.specs.Laid.{laid}

-- net n of frame s, and what is to hold of its value
module _ (N s n : ℕ) (inside : n < N) (Q : Three → Type 0) where
  -- each value that an entry has there is such
  abbrev pub Pairs : List Entry → List Three → Type 0
  Pairs [] vs = Unit {0}
  Pairs (e ∷ es) [] = Unit {0}
  Pairs (e ∷ es) (v ∷ vs) = (frame_of e ≡ s → e.net.0 ≡ n → Q v) × Pairs es vs

  -- one value put
  put-one : (e : Entry) (v : Three) (cells : List Three) → e.net.0 < N → s * N + n < length cells → (frame_of e ≡ s → e.net.0 ≡ n → Q v) → Q (get_or cells (s * N + n) Zero) → Q (get_or (set cells (place_of N e) v) (s * N + n) Zero)
  put-one e v cells net room fit old = elim (ℕ_discrete (place_of N e) (s * N + n)) [
    | yes at ↦
        let same = same-place N (frame_of e) e.net.0 s n net inside at in
        subst (λ q. Q (get_or (set cells q v) (s * N + n) Zero)) (sym at) (subst Q (sym (get_or-set_same cells (s * N + n) v Zero room)) (fit same.0 same.1))
    | no away ↦ subst Q (sym (get_or-set_other cells (place_of N e) (s * N + n) v Zero (λ q. away (sym q)))) old
  ]

  laid-keeps : (es : List Entry) (vs cells : List Three) → All (λ e. e.net.0 < N) es → s * N + n < length cells → Pairs es vs → Q (get_or cells (s * N + n) Zero) → Q (get_or (laid N es vs cells) (s * N + n) Zero)
  laid-keeps [] vs cells nets room fit old = old
  laid-keeps (e ∷ es) [] cells nets room fit old = old
  laid-keeps (e ∷ es) (v ∷ vs) cells nets room fit old =
      laid-keeps es vs (set cells (place_of N e) v) nets.1 (omega (arith, length-set cells (place_of N e) v)) fit.1 (put-one e v cells nets.0 room fit.0 old)

  -- an entry stands there
  pub laid-finds : (es : List Entry) (vs cells : List Three) (k : ℕ) (d : Entry) → k < length es → length vs ≡ length es → All (λ e. e.net.0 < N) es → s * N + n < length cells → Pairs es vs → frame_of (get_or es k d) ≡ s → (get_or es k d).net.0 ≡ n → Q (get_or (laid N es vs cells) (s * N + n) Zero)
  laid-finds [] vs cells k d h level nets room fit f m = absurd (omega arith)
  laid-finds (e ∷ es) [] cells k d h level nets room fit f m = absurd (omega (arith, level))
  laid-finds (e ∷ es) (v ∷ vs) cells zero d h level nets room fit f m =
      let at : place_of N e ≡ s * N + n = λ i. f i * N + m i in
      laid-keeps es vs (set cells (place_of N e) v) nets.1 (omega (arith, length-set cells (place_of N e) v)) fit.1
      (subst (λ q. Q (get_or (set cells q v) (s * N + n) Zero)) (sym at) (subst Q (sym (get_or-set_same cells (s * N + n) v Zero room)) (fit.0 f m)))
  laid-finds (e ∷ es) (v ∷ vs) cells (suc k) d h level nets room fit f m =
      laid-finds es vs (set cells (place_of N e) v) k d (omega arith) (omega (arith, level)) nets.1 (omega (arith, length-set cells (place_of N e) v)) fit.1 f m
