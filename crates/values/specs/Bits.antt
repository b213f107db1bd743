-- A bit as a kind of values: it stands for itself.
use Rattle.std.specs.Prelude.{◌≡◌, Bool, true, false, not, ◌&&◌, refl}
use Rattle.std.proofs.Common.{sym, ap, ap₂, subst, ◌∙◌}
use Rattle.circuit.specs.Runs.{differ}
use Rattle.values.specs.Laws.{Algebra, Laws}

abbrev pub bit_admits : Bool → Bool → Bool
bit_admits true b = b
bit_admits false b = not b

abbrev pub bits : Algebra Bool
bits = record { admits = bit_admits; only = λ b. b; opposite = not; both = ◌&&◌; unlike = differ }

-- a bit stands for itself alone
pub bit_self : (a : Bool) → bit_admits a a ≡ true
bit_self true = refl
bit_self false = refl

pub bit_same : (a b : Bool) → bit_admits a b ≡ true → a ≡ b
bit_same true b h = sym h
bit_same false true h = h
bit_same false false h = refl

pub bit_met : (a b : Bool) → a ≡ b → bit_admits a b ≡ true
bit_met a b e = subst (λ x. bit_admits a x ≡ true) e (bit_self a)

pub bit_laws : Laws bits
bit_laws = record {
  some = λ v. (v, bit_self v);
  self = bit_self;
  alone = bit_same;
  not_in = λ v c h. bit_met (not v) c (ap not (bit_same v h.0 h.1) ∙ h.2);
  and_in = λ v w c h. bit_met (v && w) c (ap₂ ◌&&◌ (bit_same v h.0 h.2) (bit_same w h.1 h.3) ∙ h.4);
  xor_in = λ v w c h. bit_met (differ v w) c (ap₂ differ (bit_same v h.0 h.2) (bit_same w h.1 h.3) ∙ h.4);
  not_out = λ v c h. (v, bit_self v, bit_same (not v) c h);
  and_out = λ v w c h. (v, w, bit_self v, bit_self w, bit_same (v && w) c h);
  xor_out = λ v w c h. (v, w, bit_self v, bit_self w, bit_same (differ v w) c h);
}
