use Rattle.std.proofs.Common.{◌≡◌, [], length, drop}
use Rattle.circuit.specs.Drafts.{drafts_in}
use Rattle.circuit.specs.Lookups.{known}
use Rattle.circuit.specs.Reading.{resolve}
use Rattle.circuit.proofs.lookup.Lookup.resolve.Given as goal

abbrev pub invariant-loop-entry : goal.invariant-loop-entry
invariant-loop-entry l =
    (resolve (known l.self) l.nets (drafts_in l.self.text.now (drop l.entry-index l.self.entries.now)) ≡ resolve (known l.self) [] (drafts_in l.self.text.now l.self.entries.now))
    × (length l.nets ≡ l.entry-index)
