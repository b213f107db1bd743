use Rattle.std.proofs.Common.{rules, ◌≡◌, ◌+◌, ◌*◌, map, length, Some, Err, Ok, refl, ap, ◌∙◌}
use Rattle.circuit.specs.Circuits.{nets_of}
use Rattle.store.proofs.Rewritten.{rewritten-all}
use Rattle.values.specs.Threes.{three_of}
use Rattle.trace.specs.Dashes.{grid_at, kept_trace}
use Rattle.trace.specs.Keeping.{Found}
use Rattle.trace.specs.Layout.{entries}
use Rattle.trace.specs.Texts.{Told}
use Rattle.trace.proofs.Aiming.{from-aim, aim-short, aim-inside}
use Rattle.trace.proofs.Keptly.{not-kept, puts-on, values-are, kept-certain, kept-out}
use Rattle.trace.proofs.recording.Recording.keep.Goals as goal

pub returns-in_err-find_dashes : goal.returns-in_err-find_dashes
returns-in_err-find_dashes c =
    let circuit = c.args.self.now.circuit in
    let g = c.args.goal in
    let a = c.in_ok-aim.aim in
    let at : (a.circuit.now ≡ circuit) × (a.goal ≡ g) = search rules in
    let lifted : c.as_mut_slice.result.now ≡ map three_of c.args.solution.now = c.as_mut_slice.ensures.is ∙ c.lift.ensures in
    let size : length c.args.solution.now ≡ (g.last.0 + 1) * length (nets_of circuit) = search rules in
    let found = from-aim circuit g a at (λ x y. Found (nets_of x) y c.as_mut_slice.result.now c.find_dashes.new.cells (Err c.in_err-find_dashes.field-0.0)) c.in_err-find_dashes.ensures in
    kept-out c.from_residual-in_err-find_dashes.result c.args.solution.now g c.args.self.now _ c.from_residual-in_err-find_dashes.ensures.0
    (not-kept (nets_of circuit) circuit.formed g c.args.solution.now (aim-short circuit g a at) (aim-inside circuit g a at) size c.as_mut_slice.result.now c.find_dashes.new.cells lifted c.in_err-find_dashes.field-0.0 found, refl, refl)

pub returns : goal.returns
returns c =
    let circuit = c.args.self.now.circuit in
    let g = c.args.goal in
    let a = c.in_ok-aim.aim in
    let at : (a.circuit.now ≡ circuit) × (a.goal ≡ g) = search rules in
    let short = aim-short circuit g a at in
    let inside = aim-inside circuit g a at in
    let lifted : c.as_mut_slice.result.now ≡ map three_of c.args.solution.now = c.as_mut_slice.ensures.is ∙ c.lift.ensures in
    let size : length c.args.solution.now ≡ (g.last.0 + 1) * length (nets_of circuit) = search rules in
    let D = c.find_dashes.new.cells in
    let ok = c.in_ok-find_dashes.field-0 in
    let found = from-aim circuit g a at (λ x y. Found (nets_of x) y c.as_mut_slice.result.now D (Ok ok)) c.in_ok-find_dashes.ensures in
    let stays : c.as_slice.result.now ≡ D = c.as_slice.ensures.is ∙ rewritten-all c.lift.new.cells D (found.1 ∙ ap length c.as_mut_slice.ensures.is) in
    let collected = from-aim circuit g a at (λ x y. c.collect.new.values ≡ map (grid_at (length (nets_of x)) c.as_slice.result.now) (entries (nets_of x) y.last.0)) c.collect.ensures in
    let held = values-are (nets_of circuit) circuit.formed g c.args.solution.now short inside size c.as_mut_slice.result.now D lifted ok found c.as_slice.result.now c.collect.new.values stays collected in
    let told : ◌≡◌ {A = Told} (record { last = g.last.0; target = g.target; values = c.collect.new.values }) (kept_trace (nets_of circuit) g c.args.solution.now) = λ i. record { last = g.last.0; target = g.target; values = held i } in (
      puts-on (nets_of circuit) circuit.formed g c.args.solution.now short inside size c.as_mut_slice.result.now D lifted ok found,
      refl,
      ap Some told,
      kept-certain (nets_of circuit) circuit.formed g c.args.solution.now short inside size c.as_mut_slice.result.now D lifted ok found,
    )
