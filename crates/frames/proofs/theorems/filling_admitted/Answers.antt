use Rattle.frames.proofs.Goes.{filling-admitted, filling-kept}
use Rattle.frames.proofs.theorems.filling_admitted.Goals as goal

pub returns : goal.returns
returns g c = record { admitted = filling-admitted g.K.Kind.algebra g.K.Kind.laws; kept = filling-kept g.K.Kind.algebra g.K.Kind.laws }
