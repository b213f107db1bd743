use Rattle.circuit.specs.Named.{names_in}
use Rattle.sinks.proofs.Puttings.{come-all, come-on, come-out}
use Rattle.trace.specs.Coming.{left}
use Rattle.trace.proofs.Lines.{over, line-front, lines-none}
use Rattle.trace.proofs.writing.put_lines.Goals as goal

pub loop-value-preserved : goal.loop-value-preserved
loop-value-preserved g c =
    let front = line-front (names_in c.args.names) (left c.loop-value.value-iterator.b) (left c.next.new.self.b) c.loop-value.value-iterator.a.rest.now c.next.new.self.a.rest.now c.in-Some.entry c.in-Some.value.now (c.in-Some.ensures.steps.1, c.in-Some.ensures.steps.0) in
    come-on _ _ _ _ _ _ _ _ front c.loop-value.invariant c.in_ok-put_line.ensures

pub returns-in_err-put_line : goal.returns-in_err-put_line
returns-in_err-put_line g c =
    let front = line-front (names_in c.args.names) (left c.loop-value.value-iterator.b) (left c.next.new.self.b) c.loop-value.value-iterator.a.rest.now c.next.new.self.a.rest.now c.in-Some.entry c.in-Some.value.now (c.in-Some.ensures.steps.1, c.in-Some.ensures.steps.0) in
    come-out _ _ _ _ _ _ _ _ c.from_residual.result c.from_residual.ensures.0 front c.loop-value.invariant c.in_err-put_line.ensures

pub returns : goal.returns
returns g c =
    let es = left c.loop-value.value-iterator.b in
    let vs = c.loop-value.value-iterator.a.rest.now in
    come-all _ _ _ _ _ (lines-none (names_in c.args.names) es vs (over es vs c.in-None.ensures.steps)) c.loop-value.invariant
