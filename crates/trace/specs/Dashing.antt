-- What the tries of entries leave in the cells: C before, and D after.
use Rattle.std.specs.Prelude.{◌≡◌, ℕ, ◌+◌, ◌*◌, ◌<◌, ◌≤◌, true, List, length, None}
use Rattle.circuit.specs.declared.nets.NetKind.{NetKind}
use Rattle.circuit.specs.Runs.{kind}
use Rattle.values.specs.declared.three.Three.{Three}
use Rattle.values.specs.Threes.{threes}
use Rattle.frames.specs.Rules.{Given, grid, is_open, FollowsRules}
use Rattle.trace.specs.declared.entry.Entry.{Entry}
use Rattle.trace.specs.declared.goal.Goal.{Goal}
use Rattle.trace.specs.Dashes.{frame_of, tried, dashed}

-- so many cells are the frames up to the last, in which the target is a net
pub record Ready (nets : List NetKind) (g : Goal) (size : ℕ) : Type 0 where
  pub short : g.last.0 < 64
  pub target : g.target.0 < length nets
  pub whole : (g.last.0 + 1) * length nets ≡ size

-- the entry is an input or a free start of these frames
pub record OpenEntry (nets : List NetKind) (last : ℕ) (e : Entry) : Type 0 where
  pub net : e.net.0 < length nets
  pub frame : frame_of e ≤ last
  pub free : is_open (frame_of e) (kind nets e.net.0) ≡ true

-- the cells are worked out from G
abbrev pub Worked : List NetKind → Goal → Given Three → List Three → Type 0
Worked nets g G cells = FollowsRules threes nets None G (g.last.0 + 1) (grid threes (length nets) cells)

pub record Dashes (nets : List NetKind) (g : Goal) (e : Entry) (C D : List Three) : Type 0 where
  pub len : length D ≡ length C
  pub tries : (G : Given Three) → Worked nets g G C → Worked nets g (tried nets g e G) D

pub record DashesAll (nets : List NetKind) (g : Goal) (es : List Entry) (C D : List Three) : Type 0 where
  pub len : length D ≡ length C
  pub tries : (G : Given Three) → Worked nets g G C → Worked nets g (dashed nets g es G) D
