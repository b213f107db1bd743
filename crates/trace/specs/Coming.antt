-- The entries that are still to come.
use Rattle.std.specs.Prelude.{◌≡◌, ◌-◌, List, [], ◌∷◌, ◌++◌, drop, Some, None, Option}
use Rattle.trace.specs.declared.entry.Entry.{Entry}
use Rattle.trace.specs.declared.entry.Entries.{Entries}
use Rattle.trace.specs.Layout.{picks, frames}

-- what is still to come of the row, and of all
abbrev pub row : Entries → List Entry
row e = picks e.frame e.place (drop e.place e.nets.now)

abbrev pub left : Entries → List Entry
left e = row e ++ frames (e.frames.end - e.frames.start) e.frames.start e.nets.now

-- the entry e of the row is read, from s to t
pub record Row (s t : Entries) (e : Entry) : Type 0 where
  pub was : row s ≡ e ∷ row t
  pub nets : t.nets ≡ s.nets
  pub frame : t.frame ≡ s.frame
  pub frames : t.frames ≡ s.frames

abbrev pub Rows : Entries → Entries → Option Entry → Type 0
Rows s t None = (row s ≡ []) × (t ≡ s)
Rows s t (Some e) = Row s t e
