use Rattle.std.proofs.Common.{set, sym, ap, ◌∙◌}
use Rattle.std.proofs.lemmas.List.{set-get_or}
use Rattle.frames.proofs.work.replace.Goals as goal

pub returns-then-eq-clause-is : goal.returns-then-eq-clause-is
returns-then-eq-clause-is g c =
    let stands = sym c.cell.ensures ∙ (g.met.K.Kind.eq_decides _ _).0 (sym c.eq.ensures ∙ c.if-eq.true) in
    sym (ap (set c.args.cells.now c.args.i) (sym stands) ∙ set-get_or c.args.cells.now c.args.i _)
