-- The entries of a trace are the open places of its frames: each is one, and each such place has one.
use Rattle.std.proofs.Common.{◌≡◌, ℕ, zero, suc, ◌+◌, ◌<◌, ◌≤◌, Bool, true, false, cond, eqb, List, [], ◌∷◌, length, get_or, Some, None, Option, sym, refl, ap, ◌∙◌, subst, inl, inr, arith}
use mathlib.Core.Bool.{false≢true}
use Rattle.std.specs.List.{ContainsAt as Has, AllByRecursion as All}
use Rattle.std.proofs.ByRecursion.{All-append, has_append_left, has_append_right}
use Rattle.std.proofs.lemmas.Bool.{eqb-true, eqb-false, cases_Bool}
use Rattle.circuit.specs.declared.nets.Frame.{Frame}
use Rattle.circuit.specs.declared.nets.NetKind.{NetKind}
use Rattle.circuit.specs.declared.nets.NetKind.TheVariants.{Input, Latch, And, Xor, Not}
use Rattle.circuit.specs.declared.nets.Start.TheVariants.{Zero, One, Free}
use Rattle.circuit.specs.Runs.{kind}
use Rattle.frames.specs.Rules.{is_open}
use Rattle.trace.specs.declared.entry.Entry.{Entry}
use Rattle.trace.specs.Dashes.{frame_in, frame_of}
use Rattle.trace.specs.Dashing.{OpenEntry}
use Rattle.trace.specs.Layout.{frame_at, wanted, entry, picks, frames, entries}

wanted-open : (o : Option Frame) (k : NetKind) → wanted o k ≡ true → is_open (frame_in o) k ≡ true
wanted-open None Input w = absurd (false≢true w)
wanted-open None (Latch x Zero) w = absurd (false≢true w)
wanted-open None (Latch x One) w = absurd (false≢true w)
wanted-open None (Latch x Free) w = refl
wanted-open None (And a b) w = absurd (false≢true w)
wanted-open None (Xor a b) w = absurd (false≢true w)
wanted-open None (Not a) w = absurd (false≢true w)
wanted-open (Some f) Input w = refl
wanted-open (Some f) (Latch x s) w = absurd (false≢true w)
wanted-open (Some f) (And a b) w = absurd (false≢true w)
wanted-open (Some f) (Xor a b) w = absurd (false≢true w)
wanted-open (Some f) (Not a) w = absurd (false≢true w)

module _ (nets : List NetKind) (last : ℕ) where
  picks-open : (o : Option Frame) (i : ℕ) (ks : List NetKind) → ((m : ℕ) → m < length ks → get_or ks m Input ≡ kind nets (i + m)) → i + length ks ≤ length nets → frame_in o ≤ last → All (OpenEntry nets last) (picks o i ks)
  picks-open o i [] part few early = tt
  picks-open o i (k ∷ ks) part few early =
      by (wanted o k) refl (picks-open o (suc i) ks (λ m h. let next : i + suc m ≡ suc i + m = omega arith in part (suc m) (omega arith) ∙ ap (kind nets) next) (omega arith) early)
    where
      by : (b : Bool) → wanted o k ≡ b → All (OpenEntry nets last) (picks o (suc i) ks) → All (OpenEntry nets last) (cond b (entry o i ∷ picks o (suc i) ks) (picks o (suc i) ks))
      by false w rest = rest
      by true w rest =
          let here : i + 0 ≡ i = omega arith in
          (record { net = omega arith; frame = early; free = ap (is_open (frame_in o)) (sym (part 0 (omega arith) ∙ ap (kind nets) here)) ∙ wanted-open o k w }, rest)

  whole : (o : Option Frame) → frame_in o ≤ last → All (OpenEntry nets last) (picks o 0 nets)
  whole o early = picks-open o 0 nets (λ m h. let same : m ≡ 0 + m = omega arith in ap (kind nets) same) (omega arith) early

  frames-open : (c f : ℕ) → f + c ≤ last + 1 → All (OpenEntry nets last) (frames c f nets)
  frames-open zero f h = tt
  frames-open (suc c) f h = All-append (OpenEntry nets last) (picks (Some (frame_at f)) 0 nets) (frames c (suc f) nets) (whole (Some (frame_at f)) (omega arith)) (frames-open c (suc f) (omega arith))

  pub all-open : All (OpenEntry nets last) (entries nets last)
  all-open = All-append (OpenEntry nets last) (picks None 0 nets) (frames (last + 1) 0 nets) (whole None (omega arith)) (frames-open (last + 1) 0 (omega arith))

-- one more in front
has-cons : {X : Type 0} (y : X) (xs : List X) (x : X) → Has xs x → Has (y ∷ xs) x
has-cons y xs x h = (suc h.0, omega (arith, h.1), λ d. h.2 d)

has-first : {X : Type 0} (x : X) (xs : List X) → Has (x ∷ xs) x
has-first x xs = (0, omega arith, λ d. refl)

picks-has : (o : Option Frame) (i : ℕ) (ks : List NetKind) (m : ℕ) → m < length ks → wanted o (get_or ks m Input) ≡ true → Has (picks o i ks) (entry o (i + m))
picks-has o i [] m h w = absurd (omega arith)
picks-has o i (k ∷ ks) zero h w =
    let here : i ≡ i + 0 = omega arith in
    subst (λ b. Has (cond b (entry o i ∷ picks o (suc i) ks) (picks o (suc i) ks)) (entry o (i + 0))) (sym w)
    (subst (λ j. Has (entry o i ∷ picks o (suc i) ks) (entry o j)) here (has-first (entry o i) (picks o (suc i) ks)))
picks-has o i (k ∷ ks) (suc m) h w =
    let next : suc i + m ≡ i + suc m = omega arith in
    by (wanted o k) (subst (λ j. Has (picks o (suc i) ks) (entry o j)) next (picks-has o (suc i) ks m (omega arith) w))
  where
    by : (b : Bool) → Has (picks o (suc i) ks) (entry o (i + suc m)) → Has (cond b (entry o i ∷ picks o (suc i) ks) (picks o (suc i) ks)) (entry o (i + suc m))
    by false rest = rest
    by true rest = has-cons (entry o i) (picks o (suc i) ks) (entry o (i + suc m)) rest

module _ (nets : List NetKind) (n : ℕ) (inside : n < length nets) where
  row-has : (o : Option Frame) → wanted o (kind nets n) ≡ true → Has (picks o 0 nets) (entry o n)
  row-has o w = let same : 0 + n ≡ n = omega arith in subst (λ j. Has (picks o 0 nets) (entry o j)) same (picks-has o 0 nets n inside w)

  frames-have : (c f t : ℕ) → f ≤ t → t < f + c → wanted (Some (frame_at t)) (kind nets n) ≡ true → Has (frames c f nets) (entry (Some (frame_at t)) n)
  frames-have zero f t h l w = absurd (omega arith)
  frames-have (suc c) f t h l w =
      elim (cases_Bool (eqb f t)) [
        | inl e ↦
            has_append_left (picks (Some (frame_at f)) 0 nets) (frames c (suc f) nets) (entry (Some (frame_at t)) n)
            (subst (λ j. Has (picks (Some (frame_at j)) 0 nets) (entry (Some (frame_at t)) n)) (sym (eqb-true f t e)) (row-has (Some (frame_at t)) w))
        | inr e ↦
            has_append_right (picks (Some (frame_at f)) 0 nets) (frames c (suc f) nets) (entry (Some (frame_at t)) n)
            (frames-have c (suc f) t (omega (arith, eqb-false f t e)) (omega arith) w)
      ]

  -- the entry of an open place
  pub entries-have : (last t : ℕ) → t ≤ last → is_open t (kind nets n) ≡ true → (e : Entry) × Has (entries nets last) e × (frame_of e ≡ t) × (e.net.0 ≡ n)
  entries-have last t h o = by (kind nets n) refl o
    where
      by : (k : NetKind) → kind nets n ≡ k → is_open t k ≡ true → (e : Entry) × Has (entries nets last) e × (frame_of e ≡ t) × (e.net.0 ≡ n)
      by Input is free = (entry (Some (frame_at t)) n, has_append_right (picks None 0 nets) (frames (last + 1) 0 nets) _ (frames-have (last + 1) 0 t (omega arith) (omega arith) (ap (wanted (Some (frame_at t))) is)), refl, refl)
      by (Latch x Zero) is free = absurd (false≢true free)
      by (Latch x One) is free = absurd (false≢true free)
      by (Latch x Free) is free = (entry None n, has_append_left (picks None 0 nets) (frames (last + 1) 0 nets) _ (row-has None (ap (wanted None) is)), sym (eqb-true t 0 free), refl)
      by (And a b) is free = absurd (false≢true free)
      by (Xor a b) is free = absurd (false≢true free)
      by (Not a) is free = absurd (false≢true free)
