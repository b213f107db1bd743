use Rattle.std.proofs.Common.{◌∷◌, subst}
use Rattle.circuit.specs.Named.{names_in}
use Rattle.trace.specs.Texts.{head, feed}
use Rattle.sinks.specs.Sinks.{Puts}
use Rattle.sinks.proofs.Puttings.{puts-then, puts-out}
use Rattle.trace.proofs.writing.put_line.Goals as goal

pub returns-in_err-put_head : goal.returns-in_err-put_head
returns-in_err-put_head g c = puts-out _ _ _ _ _ c.from_residual.result c.from_residual.ensures.0 c.in_err-put_head.ensures

pub returns : goal.returns
returns g c =
    let m = g.S.Sink.meaning in
    puts-then _ _ _ (head (names_in c.args.names) c.args.entry) _ _ c.put.result c.in_ok-put_head.ensures
    (subst (λ b. Puts (m c.put_head.new.sink) (m c.put.new.self) (b ∷ feed) c.put.result) c.from.ensures c.put.ensures)
