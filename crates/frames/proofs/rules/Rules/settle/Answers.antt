use Rattle.std.proofs.Common.{◌*◌, ◌≤◌, length, mul-le-mul_right, arith}
use Rattle.frames.proofs.Places.{row-room}
use Rattle.frames.proofs.Rework.{frame-more, settled}
use Rattle.frames.proofs.rules.Rules.settle.Goals as goal

pub loop-s-preserved : goal.loop-s-preserved
loop-s-preserved g c =
    let rules = c.args.self.now in
    frame-more g.K.Kind.algebra rules.nets.now rules.formed rules.hold (c.args.from * length rules.nets.now) c.loop-s.s c.args.cells.now c.loop-s.cells c.renew.new.cells
    (mul-le-mul_right (length rules.nets.now) c.loop-s.auto.s) c.loop-s.invariant c.renew.ensures.reworked

pub returns-then-not-renew : goal.returns-then-not-renew
returns-then-not-renew g c =
    let A = g.K.Kind.algebra in
    let rules = c.args.self.now in
    let nets = rules.nets.now in
    let le : c.args.from * length nets ≤ c.loop-s.s * length nets = mul-le-mul_right (length nets) c.loop-s.auto.s in
    let sofar = frame-more A nets rules.formed rules.hold (c.args.from * length nets) c.loop-s.s c.args.cells.now c.loop-s.cells c.renew.new.cells le c.loop-s.invariant c.renew.ensures.reworked in
    record {
      reworked = settled A nets rules.formed rules.hold c.args.from c.loop-s.s c.args.frames c.args.cells.now c.loop-s.cells c.renew.new.cells
          c.loop-s.auto.s (omega (arith, c.loop-s-test.true)) c.loop-s.invariant sofar (c.renew.ensures.same c.if-not-renew.true);
      behind = λ i h. sofar.behind i (omega (arith, row-room c.loop-s.s c.args.frames (length nets) (omega (arith, c.loop-s-test.true))));
    }
