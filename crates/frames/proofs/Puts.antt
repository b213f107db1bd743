-- One place changed, and what it can change worked out anew.
use Rattle.std.proofs.Common.{◌≡◌, ℕ, ◌+◌, ◌-◌, ◌*◌, ◌<◌, ◌≤◌, false, List, length, get_or, set, None, sym, refl, ap, ◌∙◌, subst, arith}
use native.Mathlib.Decide.{dec_lt}
use Rattle.std.proofs.lemmas.List.{get_or-set_other}
use Rattle.std.proofs.lemmas.Grind.{common_steps}
use Rattle.values.specs.Laws.{Algebra}
use Rattle.circuit.specs.Runs.{WellFormed}
use Rattle.circuit.specs.declared.nets.NetKind.{NetKind}
use Rattle.frames.specs.Rules.{Given, grid, rule, frames_in, put, FollowsRules}
use Rattle.frames.specs.Calls.{Changes}
use Rattle.frames.specs.Reworked.{Reworked, Steady}
use Rattle.frames.proofs.Places.{row-room, place-below, same-place, frames-room}
use Rattle.frames.proofs.Nearby.{Near, rule-same, rule-below}
use Rattle.frames.proofs.Rework.{join}

module _ {K : Type 0} (A : Algebra K) (w : ℕ) (C : List K) (t n : ℕ) (v : K) (within : n < w) (room : t * w + n < length C) where
  -- a place written is that place given
  set-put : (s m : ℕ) → m < w → grid A w (set C (t * w + n) v) s m ≡ put (grid A w C) t n v s m
  set-put s m h = grind (arith, common_steps, same-place w s m t n h within)

module _ {K : Type 0} (A : Algebra K) (nets : List NetKind) (formed : WellFormed nets) (frames : ℕ) (C : List K) (t n : ℕ) (v : K) (within : n < length nets) (room : t * length nets + n < length C)
    (follows : FollowsRules A nets None (grid A (length nets) C) frames (grid A (length nets) C)) where
  abbrev G : List K → Given K
  G = grid A (length nets)

  given : (s m : ℕ) → m < length nets → G (set C (t * length nets + n) v) s m ≡ put (G C) t n v s m
  given = set-put A (length nets) C t n v within room

  -- frames behind the one of that place have not changed yet
  still-steady : (D : List K) → Reworked A nets None (t * length nets + n) (t * length nets + length nets) (set C (t * length nets + n) v) D → Steady A nets None (t + 1 + 1) frames D
  still-steady D done s m lo hi h =
      same s m (omega arith) ∙ follows s m hi h ∙ rule-same A nets formed None (G C) (G D) (G C) (G D) s m h (sym (same s m (omega arith))) near
    where
      same : (u k : ℕ) → t < u → G D u k ≡ G C u k
      same u k less = let over = row-room t u (length nets) less in grind (arith, common_steps, done.behind (u * length nets + k))

      near : Near ◌≡◌ (length nets) (G C) (G D) s m
      near = record { here = λ k less. sym (same s k (omega arith)); past = λ k pos less. sym (same (s - 1) k (omega arith)) }

  change-follows : (D : List K) → Reworked A nets None (t * length nets + n) (frames * length nets) (set C (t * length nets + n) v) D → FollowsRules A nets None (put (G C) t n v) frames (G D)
  change-follows D done s m h k = elim (dec_lt (s * length nets + m) (t * length nets + n)) [ yes early ↦ before early | no not ↦ after (omega arith) ]
    where
      same : (i : ℕ) → i < t * length nets + n → get_or C i (A.only false) ≡ get_or D i (A.only false)
      same i less = grind (arith, common_steps, done.before i)

      before : s * length nets + m < t * length nets + n → G D s m ≡ rule A nets None (put (G C) t n v) (G D) s m
      before early = sym (same (s * length nets + m) early) ∙ follows s m h k ∙ rule-below A nets formed None (G C) (put (G C) t n v) C D s m k (grind (arith, common_steps, given s m k)) (λ i less. same i (omega arith))

      after : t * length nets + n ≤ s * length nets + m → G D s m ≡ rule A nets None (put (G C) t n v) (G D) s m
      after lo = done.follows s m k lo (place-below s m frames (length nets) h k) ∙ rule-below A nets formed None (G (set C (t * length nets + n) v)) (put (G C) t n v) D D s m k (given s m k) (λ i less. refl)

  -- a place that has the value already
  no-change-follows : (D : List K) → D ≡ C → D ≡ set C (t * length nets + n) v → FollowsRules A nets None (put (G C) t n v) frames (G D)
  no-change-follows D is written s m h k =
      rw is (follows s m h k ∙ rule-below A nets formed None (G C) (put (G C) t n v) C C s m k (ap (λ xs. G xs s m) (sym is ∙ written) ∙ given s m k) (λ i less. refl))

-- What a change leaves.
module _ {K : Type 0} (A : Algebra K) (nets : List NetKind) (formed : WellFormed nets) (frames : ℕ) (C : List K) (t n : ℕ) (v : K) (within : n < length nets) (count : frames ≡ frames_in (length nets) (length C)) (inside : t < frames) where
  room : t * length nets + n < length C
  room = omega (arith, place-below t n frames (length nets) inside within, frames-room frames (length nets) (length C) count)

  changes : (D : List K) → length D ≡ length C → (FollowsRules A nets None (grid A (length nets) C) frames (grid A (length nets) C) → FollowsRules A nets None (put (grid A (length nets) C) t n v) frames (grid A (length nets) D))
      → ((i : ℕ) → frames * length nets ≤ i → get_or D i (A.only false) ≡ get_or C i (A.only false)) → (grid A (length nets) C t n ≡ v → D ≡ C) → Changes A nets t n v C D
  changes D len follows behind same = record {
    len = len;
    follows = λ worked _ s m h k. follows (λ s m h k. worked s m (subst (λ f. s < f) count h) k) s m (subst (λ f. s < f) (ap (frames_in (length nets)) len ∙ sym count) h) k;
    outside = λ out. absurd (out (subst (λ f. t < f) count inside, within));
    same = same;
    behind = λ i h. behind i (subst (λ f. f * length nets ≤ i) (sym count) h);
  }

  -- the value stood there already
  pub changes-none : (D : List K) → D ≡ C → D ≡ set C (t * length nets + n) v → Changes A nets t n v C D
  changes-none D is written = changes D (ap length is) (λ follows. no-change-follows A nets formed frames C t n v within room follows D is written) (λ i h. ap (λ xs. get_or xs i (A.only false)) is) (λ _. is)

  -- the rest of its frame was worked out anew, and then the frames behind it
  pub changes-all : (B D E : List K) → length E ≡ length C → B ≡ set C (t * length nets + n) v → Reworked A nets None (t * length nets + n) (t * length nets + length nets) B D
      → (Steady A nets None (t + 1 + 1) frames D → Reworked A nets None ((t + 1) * length nets) (frames * length nets) D E)
      → ((i : ℕ) → frames * length nets ≤ i → get_or E i (A.only false) ≡ get_or D i (A.only false)) → (grid A (length nets) C t n ≡ v → ⊥) → Changes A nets t n v C E
  changes-all B D E len written done later behind other = changes E len follows (λ i h. behind i h ∙ first.behind i (omega (arith, row-room t frames (length nets) inside)) ∙ get_or-set_other C (t * length nets + n) i v (A.only false) (omega (arith, row-room t frames (length nets) inside))) (λ e. absurd (other e))
    where
      first : Reworked A nets None (t * length nets + n) (t * length nets + length nets) (set C (t * length nets + n) v) D
      first = subst (λ xs. Reworked A nets None (t * length nets + n) (t * length nets + length nets) xs D) written done

      follows : FollowsRules A nets None (grid A (length nets) C) frames (grid A (length nets) C) → FollowsRules A nets None (put (grid A (length nets) C) t n v) frames (grid A (length nets) E)
      follows worked =
          let rest = later (still-steady A nets formed frames C t n v within room worked D first) in
          let whole = join A nets formed None (t * length nets + n) ((t + 1) * length nets) (frames * length nets) (set C (t * length nets + n) v) D E (omega arith) (omega (arith, row-room t frames (length nets) inside)) (grind arith) rest in
          change-follows A nets formed frames C t n v within room worked E whole
