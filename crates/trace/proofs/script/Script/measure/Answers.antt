use Rattle.std.proofs.Common.{length}
use Rattle.sinks.proofs.Passes.{fits-ok, fits-err}
use Rattle.trace.specs.Scripts.{script_text}
use Rattle.trace.proofs.Written.{measured-out}
use Rattle.trace.proofs.script.Script.measure.Goals as goal

pub returns-in_err-put : goal.returns-in_err-put
returns-in_err-put c =
    let text = script_text c.args.self in
    measured-out (length text) c.args.room c.from_residual.result c.from_residual.ensures.0 (fits-err c.args.room text c.in_err-put.ensures.takes)

pub overflow_sub-result : goal.overflow_sub-result
overflow_sub-result c = (fits-ok c.args.room c.put.new.sink.left (script_text c.args.self) c.in_ok-put.ensures.takes).2

pub returns : goal.returns
returns c =
    let p = fits-ok c.args.room c.put.new.sink.left (script_text c.args.self) c.in_ok-put.ensures.takes in
    (p.0, p.1)
