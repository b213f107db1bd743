use Rattle.std.proofs.Common.{drop}
use Rattle.sinks.specs.Sinks.{concat, texts}
use Rattle.sinks.proofs.Puttings.{Come}
use Rattle.sinks.proofs.parts.put_all.Given as goal

abbrev pub invariant-loop-part : goal.invariant-loop-part
invariant-loop-part g l =
    Come (g.S.Sink.meaning l.initial.sink) (g.S.Sink.meaning l.sink) (concat (texts l.parts)) (concat (texts (drop l.part-index l.parts)))
