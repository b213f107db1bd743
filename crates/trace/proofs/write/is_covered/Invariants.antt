use Rattle.std.proofs.Common.{◌≡◌, drop}
use Rattle.trace.specs.Writing.{covered}
use Rattle.trace.proofs.write.is_covered.Given as goal

abbrev pub invariant-loop-i : goal.invariant-loop-i
invariant-loop-i l = covered l.count 0 l.nets ≡ covered l.count l.i (drop l.i l.nets)
