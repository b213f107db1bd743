use Rattle.std.proofs.Common.{rules}
use Rattle.circuit.proofs.Finding.{name_given}
use Rattle.circuit.proofs.names.Names.name.Goals as goal

pub returns : goal.returns
returns c = name_given c.args.self.text.now c.args.self.circuit.now.listing.entries c.args.net.0 c.get.result c.map_or.result.now (search rules) (search rules) (search rules)
