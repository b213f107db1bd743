use Rattle.std.proofs.Common.{◌∙◌}
use Rattle.circuit.specs.Named.{names_in}
use Rattle.trace.proofs.Taking.{head-there, head-not}
use Rattle.trace.proofs.reading.take_line.Goals as goal

pub returns : goal.returns
returns c = c.take_value.ensures ∙ head-there (names_in c.args.names) c.args.entry c.args.text.now _ c.in-Ok.ensures.takes

pub returns-in_default : goal.returns-in_default
returns-in_default c = head-not (names_in c.args.names) c.args.entry c.args.text.now c.in_default.ensures.takes
