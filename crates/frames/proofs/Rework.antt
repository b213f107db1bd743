-- Places worked out anew, one after another.
use Rattle.std.proofs.Common.{◌≡◌, ℕ, ◌+◌, ◌-◌, ◌*◌, ◌<◌, ◌≤◌, false, List, length, get_or, set, Option, sym, refl, ap, ◌∙◌, subst, subst₂, arith}
use native.Mathlib.Decide.{dec_lt}
use Rattle.std.proofs.lemmas.List.{get_or-set_same}
use Rattle.std.proofs.lemmas.Grind.{common_steps}
use Rattle.values.specs.Laws.{Algebra}
use Rattle.circuit.specs.Runs.{WellFormed}
use Rattle.circuit.specs.declared.nets.NetKind.{NetKind}
use Rattle.frames.specs.declared.hold.Hold.{Hold}
use Rattle.frames.specs.Rules.{Given, grid, rule}
use Rattle.frames.specs.Reworked.{Reworked, Steady}
use Rattle.frames.proofs.Places.{row-before, row-room, row-within, same-place}
use Rattle.frames.proofs.Nearby.{Near, rule-same, rule-below}

module _ {K : Type 0} (A : Algebra K) (nets : List NetKind) (formed : WellFormed nets) (hold : Option Hold) where
  abbrev G : List K → Given K
  G = grid A (length nets)

  -- one place
  one : (C : List K) (t n : ℕ) (v : K) → n < length nets → t * length nets + n < length C → v ≡ rule A nets hold (G C) (G C) t n
      → Reworked A nets hold (t * length nets + n) (t * length nets + (n + 1)) C (set C (t * length nets + n) v)
  one C t n v h room is = record {
    before = λ i lt. grind (arith, common_steps);
    behind = λ i le. grind (arith, common_steps);
    follows = λ s m m<w lo hi. let same = same-place (length nets) s m t n m<w h (omega arith) in subst₂ (λ u k. G D u k ≡ rule A nets hold (G C) (G D) u k) (sym same.0) (sym same.1) here;
  }
    where
      D : List K
      D = set C (t * length nets + n) v

      here : G D t n ≡ rule A nets hold (G C) (G D) t n
      here = get_or-set_same C (t * length nets + n) v (A.only false) room ∙ is ∙ rule-below A nets formed hold (G C) (G C) C D t n h refl (λ i lt. grind (arith, common_steps))

  pub join : (p q r : ℕ) (C D E : List K) → p ≤ q → q ≤ r → Reworked A nets hold p q C D → Reworked A nets hold q r D E → Reworked A nets hold p r C E
  join p q r C D E pq qr first second = record {
    before = λ i lt. second.before i (omega arith) ∙ first.before i lt;
    behind = λ i le. second.behind i le ∙ first.behind i (omega arith);
    follows = λ t n h lo hi.
        grind (
          arith,
          first.follows t n,
          first.behind (t * length nets + n),
          second.follows t n,
          second.before,
          rule-below A nets formed hold (G C) (G C) D E t n h refl,
          rule-below A nets formed hold (G D) (G C) E E t n h,
        );
  }

  -- as a loop has it that writes one place after another
  pub one-more : (p t n : ℕ) (C D D' : List K) (v : K) → p ≤ t * length nets + n → n < length nets → t * length nets + n < length D → Reworked A nets hold p (t * length nets + n) C D
      → v ≡ rule A nets hold (grid A (length nets) D) (grid A (length nets) D) t n → D' ≡ set D (t * length nets + n) v → Reworked A nets hold p (t * length nets + (n + 1)) C D'
  one-more p t n C D D' v le h room sofar is written =
      join p (t * length nets + n) (t * length nets + (n + 1)) C D D' le (omega arith) sofar
      (subst (Reworked A nets hold (t * length nets + n) (t * length nets + (n + 1)) D) (sym written) (one D t n v h room is))

  -- and one frame after another
  pub frame-more : (p t : ℕ) (C D E : List K) → p ≤ t * length nets → Reworked A nets hold p (t * length nets) C D → Reworked A nets hold (t * length nets + 0) (t * length nets + length nets) D E
      → Reworked A nets hold p ((t + 1) * length nets) C E
  frame-more p t C D E le sofar frame = join p (t * length nets) ((t + 1) * length nets) C D E le (omega arith) sofar (grind arith)

  -- Where a frame comes out as it was, the frames behind it, which follow the rules from themselves, still do.
  pub settled : (from s frames : ℕ) (C D E : List K) → from ≤ s → s < frames → Reworked A nets hold (from * length nets) (s * length nets) C D
      → Reworked A nets hold (from * length nets) ((s + 1) * length nets) C E → E ≡ D → Steady A nets hold (from + 1) frames C → Reworked A nets hold (from * length nets) (frames * length nets) C E
  settled from s frames C D E le lt sofar now same steady = record {
    before = now.before;
    behind = λ i over. now.behind i (omega (arith, row-room s frames (length nets) lt));
    follows = λ t n h lo hi. elim (dec_lt (t * length nets + n) ((s + 1) * length nets)) [ yes early ↦ now.follows t n h lo early | no not ↦ later t n h (omega arith) hi ];
  }
    where
      later : (t n : ℕ) → n < length nets → (s + 1) * length nets ≤ t * length nets + n → t * length nets + n < frames * length nets → G E t n ≡ rule A nets hold (G C) (G E) t n
      later t n h lo hi =
          let within : t < frames = row-within (length nets) t n frames hi in
          let after : s < t = row-within (length nets) s 0 t (omega arith) in
          now.behind (t * length nets + n) lo ∙ steady t n (omega arith) within h ∙ rule-same A nets formed hold (G C) (G C) (G C) (G E) t n h refl (near t n after)
        where
          near : (t n : ℕ) → s < t → Near ◌≡◌ (length nets) (G C) (G E) t n
          near t n after = record {
            here = λ m less. sym (now.behind (t * length nets + m) (omega (arith, row-room s t (length nets) after)));
            past = λ m pos less. sym (ap (λ xs. get_or xs ((t - 1) * length nets + m) (A.only false)) same ∙ sofar.behind ((t - 1) * length nets + m) (omega (arith, row-before t (length nets) pos, row-room s t (length nets) after)));
          }
