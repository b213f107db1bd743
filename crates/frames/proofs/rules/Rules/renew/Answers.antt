use Rattle.std.proofs.Common.{◌+◌, ◌*◌, length, arith}
use Rattle.std.proofs.lemmas.Grind.{common_steps}
use Rattle.frames.proofs.Rework.{one-more}
use Rattle.frames.proofs.rules.Rules.renew.Goals as goal

pub loop-n-preserved : goal.loop-n-preserved
loop-n-preserved g c =
    let rules = c.args.self.now in
    record {
      reworked = one-more g.K.Kind.algebra rules.nets.now rules.formed rules.hold (c.args.t * length rules.nets.now + c.args.from) c.args.t c.loop-n.n c.args.cells.now c.loop-n.cells c.replace.new.cells c.value-v.result
          (omega arith) (omega arith) (omega arith) c.loop-n.invariant.reworked c.value-v.ensures (rw c.place.ensures at c.replace.ensures.is);
      same = grind (arith, common_steps, c.loop-n.invariant.same, c.replace.ensures.same);
    }
