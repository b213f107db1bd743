use Rattle.std.proofs.Common.{None, Some}
use Rattle.text.proofs.Cuts.{first_at}
use Rattle.trace.proofs.Taking.{field-is, field-not}
use Rattle.trace.proofs.reading.field.Goals as goal

pub returns-in_err-n : goal.returns-in_err-n
returns-in_err-n c = rw c.from_residual.ensures (field-not c.args.class c.args.text.now (first_at c.args.class c.args.text.now None c.in_err-n.ensures))

pub returns : goal.returns
returns c =
    let at = first_at c.args.class c.args.text.now (Some c.in_ok-n.n) c.in_ok-n.ensures in
    field-is c.args.class c.args.text.now c.in_ok-n.n at.0 at.1
