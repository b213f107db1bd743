-- What reading a trace comes to, by its parts.
use Rattle.std.proofs.Common.{◌≡◌, ℕ, true, Bor, List, [], length, Some, None, Ok, Err, Result, sym, ap, ◌∙◌, subst, arith}
use Rattle.std.proofs.lemmas.Bool.{and_from, lt-ltb, eq-eqb}
use Rattle.circuit.specs.declared.circuit.Circuit.{Circuit}
use Rattle.circuit.specs.declared.names.Names.{Names}
use Rattle.circuit.specs.declared.nets.NetKind.{NetKind}
use Rattle.circuit.specs.Circuits.{names_of}
use Rattle.circuit.specs.Named.{names_in}
use Rattle.values.specs.declared.three.Three.{Three}
use Rattle.trace.specs.declared.entry.Entry.{Entry}
use Rattle.trace.specs.declared.fault.TraceFault.{TraceFault}
use Rattle.trace.specs.declared.fault.TraceFault.TheVariants.{FirstLine}
use Rattle.trace.specs.Laws.{Taken}
use Rattle.trace.specs.declared.goal.Goal.{Goal}
use Rattle.trace.specs.Recordings.{told_of}
use Rattle.trace.specs.Layout.{entries, fits_in}
use Rattle.trace.specs.Outcomes.{ReadsAs}
use Rattle.trace.specs.Readings.{Begun, first_at, read_on, from_first, with_values, trace_read}
use Rattle.trace.proofs.Backs.{only-written, refused}

-- the names that a circuit has in a lent text
pub named-as : (n : Names) (c : Bor Circuit) (text : Bor (List ℕ)) → n.circuit ≡ c → n.text ≡ text → names_in n ≡ names_of text.now c.now
named-as n c text at in_text = λ i. names_of (in_text i).now (at i).now

module _ (ns ms : List (List ℕ)) (same : ms ≡ ns) (ks : List NetKind) (text : List ℕ) where
  -- the first line is not there
  pub first-missing : None ≡ first_at ms text → ReadsAs {U = Unit {0}} (Err FirstLine) None (trace_read ns ks text) × Taken {U = Unit {0}} (Err FirstLine) ns ks text None
  first-missing e =
      let is : trace_read ns ks text ≡ Err FirstLine = ap (from_first ns ks) (ap (λ xs. first_at xs text) (sym same) ∙ sym e) in
      (is, refused ns ks text FirstLine is)

  module _ (b : Begun) (first : Some b ≡ first_at ms text) (es : List Entry) (coming : es ≡ entries ks b.last) where
    whole : trace_read ns ks text ≡ with_values b (read_on ms [] es b.rest)
    whole =
        ap (λ xs. from_first xs ks (first_at xs text)) (sym same) ∙ ap (from_first ms ks) (sym first) ∙ ap (λ xs. with_values b (read_on ms [] xs b.rest)) (sym coming)

    pub read-ok : (vs : List Three) → Ok vs ≡ read_on ms [] es b.rest → trace_read ns ks text ≡ Ok (record { last = b.last; target = b.target; values = vs })
    read-ok vs e = whole ∙ ap (with_values b) (sym e)

    pub read-err : {U : Type 0} (r : Result U TraceFault) (f : TraceFault) → r ≡ Err f → Err f ≡ read_on ms [] es b.rest → ReadsAs r None (trace_read ns ks text) × Taken r ns ks text None
    read-err r f q e =
        let is = whole ∙ ap (with_values b) (sym e) in
        subst (λ s. ReadsAs s None (trace_read ns ks text) × Taken s ns ks text None) (sym q) (is, refused ns ks text f is)

-- a trace that is read fits its circuit
pub fits-read : (ns : List (List ℕ)) (ks : List NetKind) (text : List ℕ) (g : Goal) (vs : List Three) → length ns ≡ length ks → trace_read ns ks text ≡ Ok (told_of vs g) → fits_in ks (Some g) vs ≡ true
fits-read ns ks text g vs level q =
    let fit = (only-written ns ks text (told_of vs g) q).1 in
    and_from _ _ (lt-ltb g.last.0 64 fit.short) (and_from _ _ (lt-ltb g.target.0 (length ks) (omega (arith, fit.target, level))) (eq-eqb _ _ fit.all))
