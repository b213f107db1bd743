use Rattle.std.proofs.Common.{ap, subst}
use Rattle.circuit.specs.Named.{names_in}
use Rattle.trace.specs.Texts.{lines}
use Rattle.sinks.specs.Sinks.{Puts}
use Rattle.sinks.proofs.Puttings.{puts-then}
use Rattle.trace.proofs.script.Script.put.Goals as goal

pub returns : goal.returns
returns g c =
    let m = g.S.Sink.meaning in
    let same = ap (λ es. lines (names_in c.args.self.names) es c.args.self.trace.values.now) c.new-entries.ensures in
    puts-then _ _ _ _ _ _ c.put_lines.result c.in_ok-put_first.ensures
    (subst (λ b. Puts (m c.put_first.new.sink) (m c.put_lines.new.sink) b c.put_lines.result) same c.put_lines.ensures)
