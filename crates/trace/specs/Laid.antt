-- A trace laid out by frame and net.
use Rattle.std.specs.Prelude.{ℕ, ◌+◌, ◌*◌, List, [], ◌∷◌, length, replicate, Some, None, Option, slice_set}
use Rattle.circuit.specs.declared.nets.NetKind.{NetKind}
use Rattle.values.specs.declared.three.Three.{Three}
use Rattle.values.specs.declared.three.Three.TheVariants.{Zero}
use Rattle.values.specs.Threes.{threes}
use Rattle.frames.specs.Rules.{Given, grid}
use Rattle.trace.specs.declared.entry.Entry.{Entry}
use Rattle.trace.specs.Dashes.{place_of}
use Rattle.trace.specs.Layout.{entries}
use Rattle.trace.specs.Texts.{Told}

-- each value at the place of its entry, where the frames of N nets stand one after another
abbrev pub laid : ℕ → List Entry → List Three → List Three → List Three
laid N [] vs cells = cells
laid N (e ∷ es) [] cells = cells
laid N (e ∷ es) (v ∷ vs) cells = laid N es vs (slice_set cells (place_of N e) v)

abbrev pub held_laid : List NetKind → Option Told → List Three → List Three
held_laid nets None cells = cells
held_laid nets (Some t) cells = laid (length nets) (entries nets t.last) t.values cells

-- so many cells as the trace's frames have, with nothing laid out yet
abbrev pub blank : List NetKind → Told → List Three
blank nets t = replicate ((t.last + 1) * length nets) Zero

-- what the trace gives, frame by frame
abbrev pub given_by : List NetKind → Told → Given Three
given_by nets t = grid threes (length nets) (held_laid nets (Some t) (blank nets t))
