use Rattle.std.proofs.Common.{◌≡◌, ◌+◌, length}
use Rattle.text.specs.Readers.{left}
use Rattle.circuit.specs.Drafts.{state_of}
use Rattle.circuit.specs.Reading.{gathered}
use Rattle.circuit.proofs.listing.Listing.gather.Given as goal

abbrev pub invariant-loop-line : goal.invariant-loop-line
invariant-loop-line l =
    (gathered (state_of l.text l.self) (left l.lines) ≡ gathered (state_of l.text l.initial.self) l.text)
    × (l.lines.line ≡ length l.self.entries + 1)
    × (l.lines.text.now ≡ l.text)

abbrev pub decreases-loop-line : goal.decreases-loop-line
decreases-loop-line l = length (left l.lines)
