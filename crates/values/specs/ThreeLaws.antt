-- The three-way values keep to the laws.
use Rattle.std.specs.Prelude.{◌≡◌, Bool, true, false, not, ◌&&◌, refl}
use Rattle.std.proofs.Common.{subst}
use Rattle.std.proofs.Math.Bool.{and-true}
use Rattle.std.proofs.lemmas.Bool.{false≢true}
use Rattle.circuit.specs.Runs.{differ}
use Rattle.values.specs.Bits.{bit_same}
use Rattle.values.specs.Laws.{Laws, From1, From2, Admits}
use Rattle.values.specs.Threes.{threes, three_of, three_not, three_and, three_xor}
use Rattle.values.specs.declared.three.Three.{Three}
use Rattle.values.specs.declared.three.Three.TheVariants.{Zero, One, U}

some_bit : (v : Three) → (b : Bool) × Admits threes v b
some_bit Zero = (false, refl)
some_bit One = (true, refl)
some_bit U = (true, refl)

pub three_self : (b : Bool) → Admits threes (three_of b) b
three_self true = refl
three_self false = refl

alone : (b c : Bool) → Admits threes (three_of b) c → b ≡ c
alone true = bit_same true
alone false = bit_same false

not_kept : (v : Three) (a : Bool) → Admits threes v a → Admits threes (three_not v) (not a)
not_kept Zero a h = h
not_kept One true h = refl
not_kept One false h = h
not_kept U a h = refl

and_kept : (v w : Three) (a b : Bool) → Admits threes v a → Admits threes w b → Admits threes (three_and v w) (a && b)
and_kept Zero w true b h k = absurd (false≢true h)
and_kept Zero w false b h k = refl
and_kept One w true b h k = k
and_kept One w false b h k = absurd (false≢true h)
and_kept U Zero true b h k = k
and_kept U Zero false b h k = refl
and_kept U One a b h k = refl
and_kept U U a b h k = refl

xor_kept : (v w : Three) (a b : Bool) → Admits threes v a → Admits threes w b → Admits threes (three_xor v w) (differ a b)
xor_kept Zero w true b h k = absurd (false≢true h)
xor_kept Zero w false b h k = k
xor_kept One w true b h k = not_kept w b k
xor_kept One w false b h k = absurd (false≢true h)
xor_kept U w a b h k = refl

not_back : (v : Three) (c : Bool) → Admits threes (three_not v) c → From1 threes not v c
not_back Zero true h = (false, refl, refl)
not_back Zero false h = (true, h, refl)
not_back One true h = (false, h, refl)
not_back One false h = (true, refl, refl)
not_back U true h = (false, refl, refl)
not_back U false h = (true, refl, refl)

and_back : (v w : Three) (c : Bool) → Admits threes (three_and v w) c → From2 threes ◌&&◌ v w c
and_back Zero w true h = absurd (false≢true h)
and_back Zero w false h = (false, (some_bit w).0, refl, (some_bit w).1, refl)
and_back One w c h = (true, c, refl, h, refl)
and_back U Zero true h = absurd (false≢true h)
and_back U Zero false h = (false, false, refl, refl, refl)
and_back U One c h = (c, true, refl, refl, and-true c)
and_back U U c h = (c, true, refl, refl, and-true c)

differ_back : (b c : Bool) → differ (differ b c) b ≡ c
differ_back true true = refl
differ_back true false = refl
differ_back false true = refl
differ_back false false = refl

xor_back : (v w : Three) (c : Bool) → Admits threes (three_xor v w) c → From2 threes differ v w c
xor_back Zero w c h = (false, c, refl, h, refl)
xor_back One w c h = let k = not_back w c h in (true, k.0, refl, k.1, k.2)
xor_back U w c h = (differ (some_bit w).0 c, (some_bit w).0, refl, (some_bit w).1, differ_back (some_bit w).0 c)

pub three_laws : Laws threes
three_laws = record {
  some = some_bit;
  self = three_self;
  alone = alone;
  not_in = λ v c h. subst (Admits threes (three_not v)) h.2 (not_kept v h.0 h.1);
  and_in = λ v w c h. subst (Admits threes (three_and v w)) h.4 (and_kept v w h.0 h.1 h.2 h.3);
  xor_in = λ v w c h. subst (Admits threes (three_xor v w)) h.4 (xor_kept v w h.0 h.1 h.2 h.3);
  not_out = not_back;
  and_out = and_back;
  xor_out = xor_back;
}
