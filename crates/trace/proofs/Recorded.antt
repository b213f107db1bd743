-- What a recording knows of the trace that it holds.
use Rattle.std.proofs.Common.{◌≡◌, ℕ, ◌<◌, true, length, Some, None, Option, subst, arith}
use Rattle.std.specs.Option.{option_map}
use Rattle.std.proofs.lemmas.Bool.{and_parts, ltb-true, eqb-true}
use Rattle.circuit.specs.Circuits.{nets_of}
use Rattle.trace.specs.declared.goal.Goal.{Goal}
use Rattle.trace.specs.declared.recording.Recording.{Recording}
use Rattle.trace.specs.Layout.{entries, fits_in}
use Rattle.trace.specs.Recordings.{held_trace, told_of}
use Rattle.trace.specs.Texts.{Told}

same-some : (s t : Told) → Some s ≡ Some t → s ≡ t
same-some s t e = cc

pub record Fitting (r : Recording) (t : Told) : Type 0 where
  pub short : t.last < 64
  pub target : t.target.0 < length (nets_of r.circuit)
  pub all : length t.values ≡ length (entries (nets_of r.circuit) t.last)

pub fitting : (r : Recording) (t : Told) → held_trace r ≡ Some t → Fitting r t
fitting r t q = go r.goal r.fits q
  where
    go : (o : Option Goal) → fits_in (nets_of r.circuit) o r.values ≡ true → option_map (told_of r.values) o ≡ Some t → Fitting r t
    go None f e = let z : ◌≡◌ {A = ℕ} 0 1 = cc in absurd (omega arith)
    go (Some g) f e =
        let p = and_parts _ _ f in
        let l = and_parts _ _ p.1 in
        subst (Fitting r) (same-some (told_of r.values g) t e) (record { short = ltb-true _ _ p.0; target = ltb-true _ _ l.0; all = eqb-true _ _ l.1 })

pub held-fits : (r : Recording) (t : Told) → held_trace r ≡ Some t → (t.last < 64) × (length t.values ≡ length (entries (nets_of r.circuit) t.last))
held-fits r t q = let f = fitting r t q in (f.short, f.all)
