-- What the answers mean.
use Rattle.std.proofs.Common.{◌≡◌, ℕ, zero, suc, ◌+◌, ◌*◌, ◌<◌, Bool, true, false, cond, eqb, List, [], ◌∷◌, map, length, get_or, Some, Ok, Err, Option, Result, sym, refl, ap, ◌∙◌, subst, inl, inr, arith}
use mathlib.Core.Bool.{false≢true}
use lib.ListN.{length-replicate}
use Rattle.std.proofs.ByRecursion.{All-weaker}
use Rattle.std.proofs.lemmas.List.Sums.{sum_by-cons}
use Rattle.std.proofs.lemmas.Bool.{cases_Bool, cond-true, cond-false, eqb-true, eqb-false}
use Rattle.circuit.specs.declared.fault.ReadFault.{ReadFault}
use Rattle.circuit.specs.declared.nets.NetKind.{NetKind}
use Rattle.circuit.specs.Reading.{Named, reading}
use Rattle.circuit.specs.Runs.{Values, WellFormed, kind}
use Rattle.circuit.proofs.Soundness.{reading-sound}
use Rattle.values.specs.Bits.{bits}
use Rattle.values.specs.Laws.{Admits}
use Rattle.values.specs.Threes.{threes, is_one}
use Rattle.values.specs.ThreeLaws.{three_laws}
use Rattle.values.specs.declared.three.Three.{Three}
use Rattle.values.specs.declared.three.Three.TheVariants.{Zero, One, U}
use Rattle.frames.specs.declared.hold.Hold.{Hold}
use Rattle.frames.specs.Rules.{grid, is_open, FollowsRules}
use Rattle.frames.specs.Worked.{worked}
use Rattle.frames.proofs.Evaluated.{worked-follows}
use Rattle.frames.proofs.Goes.{filling-kept, rules-determine}
use Rattle.frames.proofs.Places.{place-below}
use Rattle.trace.specs.declared.entry.Entry.{Entry}
use Rattle.trace.specs.declared.fault.TraceFault.{TraceFault}
use Rattle.trace.specs.Dashes.{frame_of, given_at}
use Rattle.trace.specs.Dashing.{OpenEntry}
use Rattle.trace.specs.Fillings.{Admitted, Fills}
use Rattle.trace.specs.Laid.{held_laid, blank}
use Rattle.trace.specs.Layout.{entries}
use Rattle.trace.specs.Readings.{trace_read}
use Rattle.trace.specs.Texts.{Told}
use Rattle.trace.specs.Traces.{is_dash, dash_count}
use Rattle.trace.proofs.Backs.{only-written}
use Rattle.trace.proofs.Entering.{all-open, entries-have}
use Rattle.replay.specs.declared.fault.ReplayFault.{ReplayFault}
use Rattle.replay.specs.declared.report.Report.{Report}
use Rattle.replay.specs.Answers.{bit_answer, three_answer, answer_of, report_of, hold_inside, after_trace, after_circuit, replayed}
use Rattle.replay.specs.Law.{AnswerMeans, Lawful}
use Rattle.replay.proofs.Placing.{Pairs, laid-finds}

-- a bit at an entry that is no dash
one-is : (v : Three) (b : Bool) → Admits threes v b → is_dash v ≡ false → is_one v ≡ b
one-is Zero true h d = absurd (false≢true h)
one-is Zero false h d = refl
one-is One b h d = sym h
one-is U b h d = absurd (false≢true (sym d))

no-dash : (v : Three) (vs : List Three) → dash_count (v ∷ vs) ≡ 0 → (is_dash v ≡ false) × (dash_count vs ≡ 0)
no-dash v vs e = by v (sum_by-cons (λ x. cond (is_dash x) 1 0) v vs)
  where
    by : (w : Three) → dash_count (v ∷ vs) ≡ cond (is_dash w) 1 0 + dash_count vs → (is_dash w ≡ false) × (dash_count vs ≡ 0)
    by Zero h = (refl, omega (arith, e, h))
    by One h = (refl, omega (arith, e, h))
    by U h = absurd (omega (arith, e, h))

module _ (nets : List NetKind) (formed : WellFormed nets) (hold : Option Hold) (t : Told) (inside : t.target.0 < length nets) (all : length t.values ≡ length (entries nets t.last)) (β : Values) (fills : Fills nets t β) where
  abbrev cells : List Three
  cells = held_laid nets (Some t) (blank nets t)

  -- what is to hold at an open place follows from what holds at each entry
  at-open : (s n : ℕ) → s < t.last + 1 → (within : n < length nets) → is_open s (kind nets n) ≡ true → (Q : Three → Type 0) → Pairs (length nets) s n within Q (entries nets t.last) t.values → Q (get_or cells (s * length nets + n) Zero)
  at-open s n h within free Q pairs =
      let e = entries-have nets n within t.last s (omega arith) free in
      let has = e.1 in
      laid-finds (length nets) s n within Q (entries nets t.last) t.values (blank nets t) has.0 e.0 has.1 all
      (All-weaker (OpenEntry nets t.last) (λ x. x.net.0 < length nets) (λ x o. o.net) (entries nets t.last) (all-open nets t.last))
      (omega (arith, place-below s n (t.last + 1) (length nets) h within, length-replicate ((t.last + 1) * length nets) Zero)) pairs
      (ap frame_of (has.2 e.0) ∙ e.2) (ap (λ (x : Entry). x.net.0) (has.2 e.0) ∙ e.3)

  admitted-pairs : (s n : ℕ) (within : n < length nets) (es : List Entry) (vs : List Three) → Admitted es vs β → Pairs (length nets) s n within (λ v. Admits threes v (β s n)) es vs
  admitted-pairs s n within [] vs h = tt
  admitted-pairs s n within (e ∷ es) [] h = tt
  admitted-pairs s n within (e ∷ es) (v ∷ vs) h = (λ f m. subst (λ b. Admits threes v b) (λ i. β (f i) (m i)) h.0, admitted-pairs s n within es vs h.1)

  bit-pairs : (s n : ℕ) (within : n < length nets) (es : List Entry) (vs : List Three) → dash_count vs ≡ 0 → Admitted es vs β → Pairs (length nets) s n within (λ v. is_one v ≡ β s n) es vs
  bit-pairs s n within [] vs z h = tt
  bit-pairs s n within (e ∷ es) [] z h = tt
  bit-pairs s n within (e ∷ es) (v ∷ vs) z h =
      let d = no-dash v vs z in
      (λ f m. one-is v (given_at β e) h.0 d.0 ∙ (λ i. β (f i) (m i)), bit-pairs s n within es vs d.1 h.1)

  one-at : (vs : List Three) (i : ℕ) → get_or (map is_one vs) i false ≡ is_one (get_or vs i Zero)
  one-at [] i = refl
  one-at (v ∷ vs) zero = refl
  one-at (v ∷ vs) (suc i) = one-at vs i

  module _ (σ : Values) (follows : FollowsRules bits nets hold β (t.last + 1) σ) where
    by-threes : (b : Bool) → worked threes nets hold (grid threes (length nets) cells) t.last t.target.0 ≡ threes.only b → σ t.last t.target.0 ≡ b
    by-threes b is =
        filling-kept threes three_laws nets hold (t.last + 1) (grid threes (length nets) cells) β (worked threes nets hold (grid threes (length nets) cells)) σ
        (record {
          formed = formed;
          fills = λ s n h within free. at-open s n h within free (λ v. Admits threes v (β s n)) (admitted-pairs s n within (entries nets t.last) t.values fills);
          follows = worked-follows threes nets formed hold (grid threes (length nets) cells) (t.last + 1);
          bits_follow = follows;
        })
        t.last t.target.0 (omega arith) inside b is

    by-bits : dash_count t.values ≡ 0 → (b : Bool) → worked bits nets hold (grid bits (length nets) (map is_one cells)) t.last t.target.0 ≡ b → σ t.last t.target.0 ≡ b
    by-bits none b is =
        sym (rules-determine bits nets formed hold (t.last + 1) (grid bits (length nets) (map is_one cells)) β
        (λ s n h within free. one-at cells (s * length nets + n) ∙ at-open s n h within free (λ v. is_one v ≡ β s n) (bit-pairs s n within (entries nets t.last) t.values none fills))
        (worked bits nets hold (grid bits (length nets) (map is_one cells))) σ (worked-follows bits nets formed hold (grid bits (length nets) (map is_one cells)) (t.last + 1)) follows
        t.last t.target.0 (omega arith) inside) ∙ is

module _ (nets : List NetKind) (formed : WellFormed nets) (hold : Option Hold) (t : Told) (inside : t.target.0 < length nets) (all : length t.values ≡ length (entries nets t.last)) where
  bit-means : dash_count t.values ≡ 0 → (b : Bool) → worked bits nets hold (grid bits (length nets) (map is_one (held_laid nets (Some t) (blank nets t)))) t.last t.target.0 ≡ b → AnswerMeans nets hold t (bit_answer b)
  bit-means none true is = λ β σ fills follows. by-bits nets formed hold t inside all β fills σ follows none true is
  bit-means none false is = λ β σ fills follows. by-bits nets formed hold t inside all β fills σ follows none false is

  three-means : 0 < dash_count t.values → (v : Three) → worked threes nets hold (grid threes (length nets) (held_laid nets (Some t) (blank nets t))) t.last t.target.0 ≡ v → AnswerMeans nets hold t (three_answer v)
  three-means some Zero is = λ β σ fills follows. by-threes nets formed hold t inside all β fills σ follows false is
  three-means some One is = λ β σ fills follows. by-threes nets formed hold t inside all β fills σ follows true is
  three-means some U is = some

  pub answer-means : AnswerMeans nets hold t (answer_of nets hold t)
  answer-means = elim (cases_Bool (eqb (dash_count t.values) 0)) [
    | inl none ↦ subst (AnswerMeans nets hold t) (sym (cond-true _ _ _ none)) (bit-means (eqb-true _ 0 none) _ refl)
    | inr some ↦ subst (AnswerMeans nets hold t) (sym (cond-false _ _ _ some)) (three-means (omega (arith, eqb-false (dash_count t.values) 0 some)) _ refl)
  ]

same-report : (a b : Report) → ◌≡◌ {A = Result Report ReplayFault} (Ok a) (Ok b) → a ≡ b
same-report a b e = cc

never-ok : (f : ReplayFault) (r : Report) → ◌≡◌ {A = Result Report ReplayFault} (Err f) (Ok r) → ⊥
never-ok f r e = let z : ◌≡◌ {A = ℕ} 0 1 = cc in omega arith

-- every replay is lawful
pub lawful : (circuit trace : List ℕ) (hold : Option Hold) (r : Result Report ReplayFault) → r ≡ replayed circuit trace hold → Lawful circuit trace hold r
lawful circuit trace hold (Err f) e = tt
lawful circuit trace hold (Ok r) e = go (reading circuit) refl (sym e)
  where
    third : (x : Named) → reading circuit ≡ Ok x → (o : Result Told TraceFault) → trace_read x.names x.nets trace ≡ o → after_trace x.nets hold o ≡ Ok r → Lawful {E = ReplayFault} circuit trace hold (Ok r)
    third x read (Err f) traced q = absurd (never-ok _ r q)
    third x read (Ok t) traced q =
        let sound = reading-sound circuit x read in
        let fit = (only-written x.names x.nets trace t traced).1 in
        (x, t, read, traced, subst (AnswerMeans x.nets hold t) (ap (λ (y : Report). y.answer) (same-report (report_of x.nets hold t) r q)) (answer-means x.nets sound.formed hold t (omega (arith, fit.target, sound.level)) fit.all))

    go : (o : Result Named ReadFault) → reading circuit ≡ o → after_circuit o hold trace ≡ Ok r → Lawful {E = ReplayFault} circuit trace hold (Ok r)
    go (Err f) read q = absurd (never-ok _ r q)
    go (Ok x) read q = elim (cases_Bool (hold_inside hold (length x.nets))) [
      | inl h ↦ third x read (trace_read x.names x.nets trace) refl (sym (cond-true _ _ _ h) ∙ q)
      | inr h ↦ absurd (never-ok _ r (sym (cond-false _ _ _ h) ∙ q))
    ]

-- the parts of a replay that goes well
pub plays : (circuit trace : List ℕ) (hold : Option Hold) (x : Named) (t : Told) (r : Report) → reading circuit ≡ Ok x → hold_inside hold (length x.nets) ≡ true → trace_read x.names x.nets trace ≡ Ok t → r ≡ report_of x.nets hold t → Ok r ≡ replayed circuit trace hold
plays circuit trace hold x t r read inside traced is =
    ap Ok is ∙ sym (ap (λ o. after_circuit o hold trace) read ∙ cond-true _ _ _ inside ∙ ap (after_trace x.nets hold) traced)
