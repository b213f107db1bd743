use Rattle.std.proofs.Common.{sym}
use Rattle.std.proofs.lemmas.List.{set_past}
use Rattle.trace.proofs.laying.put_cell.Goals as goal

pub returns-else-i-cells : goal.returns-else-i-cells
returns-else-i-cells c = sym (set_past c.args.cells.now c.args.i c.args.value c.if-i-cells.false)
