-- So many cells as the trace's frames have.
use Rattle.std.proofs.Common.{◌≡◌, ℕ, ◌+◌, ◌*◌, List, [], ◌∷◌, length, set, replicate, Some, None, Option, sym, refl, ap, ◌∙◌, arith, length-set}
use lib.ListN.{length-replicate}
use Rattle.circuit.specs.declared.nets.Net.{Net}
use Rattle.circuit.specs.declared.nets.NetKind.{NetKind}
use Rattle.circuit.specs.Circuits.{nets_of}
use Rattle.values.specs.declared.three.Three.{Three}
use Rattle.values.specs.declared.three.Three.TheVariants.{Zero}
use Rattle.trace.specs.declared.entry.Entry.{Entry}
use Rattle.trace.specs.declared.goal.Goal.{Goal}
use Rattle.trace.specs.declared.recording.Recording.{Recording}
use Rattle.trace.specs.Dashes.{place_of}
use Rattle.trace.specs.Dashing.{Ready}
use Rattle.trace.specs.Laid.{laid, held_laid, blank}
use Rattle.trace.specs.Layout.{entries}
use Rattle.trace.specs.Recordings.{held_trace}
use Rattle.trace.specs.Texts.{Told}
use Rattle.trace.specs.Traces.{dash_count}
use Rattle.trace.specs.Layout.{frame_at}
use Rattle.trace.proofs.Recorded.{fitting}
use Rattle.frames.specs.declared.hold.Hold.{Hold}
use Rattle.replay.specs.declared.report.Answer.{Answer}
use Rattle.replay.specs.declared.report.Report.{Report}
use Rattle.replay.specs.Answers.{answer_by, goal_of, report_of}

length-laid : (N : ℕ) (es : List Entry) (vs cells : List Three) → length (laid N es vs cells) ≡ length cells
length-laid N [] vs cells = refl
length-laid N (e ∷ es) [] cells = refl
length-laid N (e ∷ es) (v ∷ vs) cells = length-laid N es vs (set cells (place_of N e) v) ∙ length-set cells (place_of N e) v

pub length-held : (nets : List NetKind) (o : Option Told) (cells : List Three) → length (held_laid nets o cells) ≡ length cells
length-held nets None cells = refl
length-held nets (Some t) cells = length-laid (length nets) (entries nets t.last) t.values cells

module _ (r : Recording) (t : Told) (held : held_trace r ≡ Some t) (w : ℕ) (width : w ≡ length (nets_of r.circuit)) where
  pub cells-ready : (g : Goal) → g.last.0 ≡ t.last → g.target ≡ t.target → (C : List Three) → C ≡ held_laid (nets_of r.circuit) (held_trace r) (replicate ((t.last + 1) * w) Zero) → Ready (nets_of r.circuit) g (length C)
  cells-ready g last target C is =
      let fit = fitting r t held in
      let long = ap length is ∙ length-held (nets_of r.circuit) (held_trace r) (replicate ((t.last + 1) * w) Zero) ∙ length-replicate ((t.last + 1) * w) Zero in
      record {
        short = omega (arith, last, fit.short);
        target = omega (arith, ap (λ (n : Net). n.0) target, fit.target);
        whole = ap (λ k. (k + 1) * length (nets_of r.circuit)) last ∙ ap (λ m. (t.last + 1) * m) (sym width) ∙ sym long;
      }

  -- what is reported, by what the calls tell
  pub report-is : (hold : Option Hold) (g : Goal) → g.last.0 ≡ t.last → g.target ≡ t.target → (C : List Three) → C ≡ held_laid (nets_of r.circuit) (held_trace r) (replicate ((t.last + 1) * w) Zero)
      → (dashes : ℕ) → dashes ≡ dash_count t.values → (a : Answer) → a ≡ answer_by (nets_of r.circuit) hold dashes C g
      → ◌≡◌ {A = Report} (record { nets = w; frames = t.last + 1; dashes = dashes; answer = a }) (report_of (nets_of r.circuit) hold t)
  report-is hold g last target C is dashes count a answer =
      let nets = nets_of r.circuit in
      let cells : C ≡ held_laid nets (Some t) (blank nets t) = is ∙ (λ i. held_laid nets (held i) (replicate ((t.last + 1) * width i) Zero)) in
      let goal : ◌≡◌ {A = Goal} g (goal_of t) = λ i. record { last = frame_at (last i); target = target i } in
      let all = answer ∙ (λ i. answer_by nets hold (count i) (cells i) (goal i)) in
      λ i. record { nets = width i; frames = t.last + 1; dashes = count i; answer = all i }
