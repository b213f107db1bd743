use Rattle.std.proofs.Common.{◌≡◌, sym, ap, ◌∙◌, subst}
use Rattle.std.specs.List.{AllByRecursion as All}
use Rattle.circuit.specs.Circuits.{nets_of}
use Rattle.trace.specs.Coming.{left}
use Rattle.trace.specs.Dashes.{tried, dashed}
use Rattle.trace.specs.Dashing.{OpenEntry, Worked}
use Rattle.trace.specs.Layout.{entries}
use Rattle.trace.proofs.Entering.{all-open}
use Rattle.trace.proofs.aim.Aim.dash_all.Goals as goal

pub loop-entry-init : goal.loop-entry-init
loop-entry-init c =
    let nets = nets_of c.args.self.circuit.now in
    let g = c.args.self.goal in
    let coming : left c.into_iter-entry-iterator.result ≡ entries nets g.last.0 = ap left c.into_iter-entry-iterator.ensures.into_iter_gives ∙ c.new-entry-items.ensures in
    (subst (All (OpenEntry nets g.last.0)) (sym coming) (all-open nets g.last.0), λ G works. (G, works, ap (λ es. dashed nets g es G) coming))

pub try_dash-requires-clause-opened : goal.try_dash-requires-clause-opened
try_dash-requires-clause-opened c = (subst (All (OpenEntry (nets_of c.args.self.circuit.now) c.args.self.goal.last.0)) c.in-Some.ensures.steps c.loop-entry.invariant.0).0

pub loop-entry-preserved : goal.loop-entry-preserved
loop-entry-preserved c =
    let nets = nets_of c.args.self.circuit.now in
    let g = c.args.self.goal in
    let here = c.in-Some.ensures.steps in (
      (subst (All (OpenEntry nets g.last.0)) here c.loop-entry.invariant.0).1,
      λ G works.
          let so = c.loop-entry.invariant.1 G works in
          (tried nets g c.in-Some.entry so.0, c.try_dash.ensures.tries so.0 so.1, ap (λ es. dashed nets g es so.0) (sym here) ∙ so.2),
    )

pub returns : goal.returns
returns c =
    let nets = nets_of c.args.self.circuit.now in
    let g = c.args.self.goal in
    record {
      len = c.loop-entry.auto.cells;
      tries = λ G works.
          let so = c.loop-entry.invariant.1 G works in
          subst (λ H. Worked nets g H c.loop-entry.cells) (ap (λ es. dashed nets g es so.0) (sym c.in-None.ensures.steps.0) ∙ so.2) so.1;
    }
