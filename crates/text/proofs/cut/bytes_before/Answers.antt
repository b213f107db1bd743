use Rattle.std.proofs.Common.{length, ap, ◌∙◌}
use Rattle.std.specs.Option.{unwrap_or}
use Rattle.text.proofs.Cuts.{stop_is}
use Rattle.text.proofs.cut.bytes_before.Goals as goal

pub returns-clause-is : goal.returns-clause-is
returns-clause-is c = c.unwrap_or.ensures ∙ ap (λ o. unwrap_or o (length c.args.text.now)) c.first_of.ensures ∙ stop_is c.args.class c.args.text.now
