-- The sentences of the refusals: what is wrong, and what to do about it.
use Rattle.std.specs.Prelude.{ℕ, List, codes}
use Rattle.circuit.specs.declared.fault.Refusal.{Refusal}
use Rattle.circuit.specs.declared.fault.Refusal.TheVariants.{TextTooLong, TooManyLines, LineOpen, BadRecord, BadName, NameTaken, OperandUnknown, BadStart, NextUnknown}

abbrev pub sentence_of : Refusal → List ℕ
sentence_of TextTooLong = codes "the circuit text is longer than 16384 bytes, and no circuit of 256 lines is: look for stray bytes"
sentence_of TooManyLines = codes "the circuit has more than 256 lines: it is too large to be played"
sentence_of LineOpen = codes "the last line of the circuit has no line feed: end the text with one"
sentence_of BadRecord = codes "a circuit line has an unknown letter or a wrong number of fields: write I, L, A, X or N, and one tab between fields"
sentence_of BadName = codes "a name in the circuit is not 1 to 16 of a-z, 0-9 and underscore: rename the net"
sentence_of NameTaken = codes "a circuit line takes the name of an earlier line: give each net its own name"
sentence_of OperandUnknown = codes "a gate of the circuit names an operand that no earlier line has: put that line first"
sentence_of BadStart = codes "a latch of the circuit starts with something other than 0, 1 or -: write one of these"
sentence_of NextUnknown = codes "a latch of the circuit takes over a net that no line names: add that net or correct the name"
