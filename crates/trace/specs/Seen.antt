-- What the code's values say.
use Rattle.std.specs.Prelude.{Some, None, Option}
use Rattle.trace.specs.declared.reading.Taken.{Taken}
use Rattle.trace.specs.declared.reading.Split.{Split}
use Rattle.trace.specs.declared.reading.First.{First}
use Rattle.trace.specs.Readings.{Took, Parted, Begun}

abbrev pub seen_taken : Option Taken → Option Took
seen_taken None = None
seen_taken (Some t) = Some (record { value = t.value; rest = t.rest.now })

abbrev pub seen_split : Option Split → Option Parted
seen_split None = None
seen_split (Some f) = Some (record { part = f.part.now; rest = f.rest.now })

abbrev pub begun : First → Begun
begun f = record { last = f.goal.last.0; target = f.goal.target; rest = f.rest.now }

abbrev pub seen_first : Option First → Option Begun
seen_first None = None
seen_first (Some f) = Some (begun f)
