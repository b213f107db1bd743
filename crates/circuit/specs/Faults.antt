-- The numbers of the refusals.
use Rattle.std.specs.Prelude.{ℕ}
use Rattle.circuit.specs.declared.fault.ReadFault.{ReadFault}
use Rattle.circuit.specs.declared.fault.Refusal.{Refusal}
use Rattle.circuit.specs.declared.fault.Refusal.TheVariants.{TextTooLong, TooManyLines, LineOpen, BadRecord, BadName, NameTaken, OperandUnknown, BadStart, NextUnknown}

abbrev pub number_of : Refusal → ℕ
number_of TextTooLong = 1
number_of TooManyLines = 2
number_of LineOpen = 3
number_of BadRecord = 4
number_of BadName = 5
number_of NameTaken = 6
number_of OperandUnknown = 7
number_of BadStart = 8
number_of NextUnknown = 9

-- a refusal at a line
abbrev pub fault : Refusal → ℕ → ReadFault
fault e n = record { refusal = e; line = n }
