use Rattle.std.proofs.Common.{◌≡◌, ◌+◌, ◌<◌, ◌∷◌, ◌++◌, map, length, get_or, sym, ap, ◌∙◌, subst, append_assoc, append-nil, arith, length-append}
use Rattle.std.specs.List.{AllByRecursion as All}
use Rattle.std.proofs.ByRecursion.{All-weaker}
use Rattle.circuit.specs.Circuits.{nets_of}
use Rattle.values.specs.declared.three.Three.TheVariants.{Zero}
use Rattle.frames.proofs.Places.{place-below}
use Rattle.trace.specs.Coming.{left}
use Rattle.trace.specs.Dashes.{frame_of, place_of, grid_at}
use Rattle.trace.specs.Dashing.{OpenEntry}
use Rattle.trace.specs.Layout.{entries}
use Rattle.trace.proofs.Entering.{all-open}
use Rattle.trace.proofs.Picking.{few-entries}
use Rattle.trace.proofs.aim.Aim.collect.Goals as goal

pub loop-entry-init : goal.loop-entry-init
loop-entry-init c =
    let nets = nets_of c.args.self.circuit.now in
    let last = c.args.self.goal.last.0 in
    let f = grid_at (length nets) c.args.cells.now in
    let coming : left c.into_iter-entry-iterator.result ≡ entries nets last = ap left c.into_iter-entry-iterator.ensures.into_iter_gives ∙ c.new-entry-items.ensures in
    let count = ap length coming in
    let inside : All (λ e. place_of (length nets) e < length c.args.cells.now) (entries nets last) =
    All-weaker (OpenEntry nets last) (λ e. place_of (length nets) e < length c.args.cells.now)
    (λ e o. omega (arith, place-below (frame_of e) e.net.0 (last + 1) (length nets) (omega (arith, o.frame)) o.net, c.requires)) (entries nets last) (all-open nets last) in
    record {
      is = ap (λ vs. vs ++ map f (left c.into_iter-entry-iterator.result)) c.clear.ensures ∙ ap (map f) coming;
      few = omega (arith, count, few-entries nets last c.args.self.circuit.now.few c.args.self.short, ap length c.clear.ensures);
      within = subst (All (λ e. place_of (length nets) e < length c.args.cells.now)) (sym coming) inside;
    }

pub loop-entry-preserved : goal.loop-entry-preserved
loop-entry-preserved c =
    let N = length (nets_of c.args.self.circuit.now) in
    let f = grid_at N c.args.cells.now in
    let vs = c.loop-entry.values in
    let rest = left c.next.new.self in
    let here = c.in-Some.ensures.steps in
    let value = ap (λ i. get_or c.args.cells.now i Zero) c.place.ensures in
    let longer = c.push_if_room.ensures.room (omega (arith, ap length here, c.loop-entry.invariant.few)) in
    record {
      is = ap (λ ws. ws ++ map f rest) longer ∙ append_assoc vs _ (map f rest) ∙ ap (λ v. vs ++ v ∷ map f rest) value ∙ ap (λ es. vs ++ map f es) (sym here) ∙ c.loop-entry.invariant.is;
      few = omega (arith, simp length-append at (ap length longer), ap length here, c.loop-entry.invariant.few);
      within = (subst (All (λ x. place_of N x < length c.args.cells.now)) here c.loop-entry.invariant.within).1;
    }

pub returns : goal.returns
returns c =
    let nets = nets_of c.args.self.circuit.now in
    let f = grid_at (length nets) c.args.cells.now in
    let vs = c.loop-entry.values in
    sym (append-nil vs) ∙ ap (λ es. vs ++ map f es) (sym c.in-None.ensures.steps.0) ∙ c.loop-entry.invariant.is
