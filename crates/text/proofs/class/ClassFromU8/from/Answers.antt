use Rattle.std.proofs.Common.{rules, ap, get_or, ◌∙◌}
use Rattle.text.specs.declared.class.TheConstants.{CLASSES}
use Rattle.text.specs.declared.class.Class.TheVariants.{Letter}
use Rattle.text.proofs.Classes.{classes}
use Rattle.text.proofs.class.ClassFromU8.from.Goals as goal

pub returns : goal.returns
returns c = ap (λ k. get_or CLASSES k Letter) c.from.ensures ∙ classes c.args.b (search rules)
