-- What the calls of a reader do.
use Rattle.std.specs.Prelude.{◌≡◌, ℕ, ◌+◌, ◌-◌, min, cond, List, [], length, take, drop}
use Rattle.std.specs.Borrow.{Bor}
use Rattle.text.specs.declared.class.Class.{Class}
use Rattle.text.specs.declared.class.Class.TheVariants.{Feed}
use Rattle.text.specs.declared.part.Part.{Part}
use Rattle.text.specs.declared.reader.Reader.{Reader}
use Rattle.text.specs.Class.{same}
use Rattle.text.specs.Cut.{more, cut}
use Rattle.text.specs.Parts.{bytes_of, Stands}

-- how many lines a byte of the class closes
abbrev pub lines_closed : Class → ℕ
lines_closed k = cond (same k Feed) 1 0

-- what a reader has still to read
abbrev pub left : Reader → List ℕ
left r = take (r.end - r.place) (drop r.place r.text.now)

-- a reader of the whole text
pub record Starts (r : Reader) (text : Bor (List ℕ)) : Type 0 where
  pub reads : r.text ≡ text
  pub all : left r ≡ text.now
  pub place : r.place ≡ 0
  pub line : r.line ≡ 1

-- a reader of the part p of what s reads, cut off where that text ends; where p stands in that text, it has all of p to read
pub record Inside (s : Reader) (p : Part) (r : Reader) : Type 0 where
  pub reads : r.text ≡ s.text
  pub from : r.place ≡ min p.place (length s.text.now)
  pub up_to : r.end ≡ r.place + min (length (bytes_of p)) (length s.text.now - r.place)
  pub on : r.line ≡ min p.line (r.place + 1)
  pub all : Stands s.text.now p → left r ≡ bytes_of p
  pub place : Stands s.text.now p → r.place ≡ p.place
  pub line : Stands s.text.now p → r.line ≡ p.line

-- The part p, closed by a byte of class k, is read: it stands where the reader stood, and the reader goes on behind
-- that byte, one line further where the byte is a line feed.
pub record Yields (k : Class) (p : Part) (s t : Reader) : Type 0 where
  pub parts : cut k (left s) ≡ more (bytes_of p) (cut k (left t))
  pub stands : Stands s.text.now p
  pub line : p.line ≡ s.line
  pub place : p.place ≡ s.place
  pub reads : t.text ≡ s.text
  pub on_end : t.end ≡ s.end
  pub on_place : t.place ≡ s.place + length (bytes_of p) + 1
  pub on_line : t.line ≡ s.line + lines_closed k

-- no such byte is left
pub record Ends (k : Class) (s t : Reader) : Type 0 where
  pub parts : cut k (left s) ≡ record { closed = []; tail = left s }
  pub same : t ≡ s
