use Rattle.std.proofs.Common.{◌≡◌, rules}
use Rattle.sinks.specs.Sinks.{filled}
use Rattle.sinks.proofs.Passes.{written}
use Rattle.trace.specs.Scripts.{script_text}
use Rattle.trace.proofs.script.Script.fill.Goals as goal

pub unwrap-requires : goal.unwrap-requires
unwrap-requires c = (written c.args.out.now _ (script_text c.args.self) _ _ _ c.put.result c.requires c.put.ensures).0

pub returns : goal.returns
returns c =
    let text = script_text c.args.self in
    let is : c.put.new.sink.out.now ≡ filled text c.args.out.now = (written c.args.out.now _ text _ _ _ c.put.result c.requires c.put.ensures).1 in
    search rules
