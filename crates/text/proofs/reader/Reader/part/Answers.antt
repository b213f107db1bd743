use Rattle.std.proofs.Common.{◌+◌, None, Some, refl, ap}
use Rattle.text.proofs.Cuts.{first_at}
use Rattle.text.proofs.Yielding.{yields, ends}
use Rattle.text.proofs.reader.Reader.part.Goals as goal

pub returns-in_err-n : goal.returns-in_err-n
returns-in_err-n c =
    rw c.from_residual.ensures
    (ends c.args.class c.args.self.now c.left-rest.result.bytes.now _ c.left-rest.ensures.bytes refl (first_at c.args.class c.left-rest.result.bytes.now None c.in_err-n.ensures))

pub returns : goal.returns
returns c =
    let at = first_at c.args.class c.left-rest.result.bytes.now (Some c.in_ok-n.n) c.in_ok-n.ensures in
    yields c.args.class c.args.self.now c.left-rest.result.bytes.now c.in_ok-n.n c.left-rest.ensures.bytes at.0 at.1 _ _ refl refl refl
    (ap (λ n. c.args.self.now.line + n) c.lines_closed.ensures.is) refl c.left-rest.ensures.line c.left-rest.ensures.place
