-- What a sink of bytes makes of what comes.
use Rattle.std.specs.Prelude.{◌≡◌, ℕ, ◌+◌, ◌-◌, cond, List, [], ◌∷◌, ◌++◌, map, length, take, drop, Some, None, Ok, Err, Option, Result, ◌==◌, nat_le}
use Rattle.std.specs.Borrow.{Bor}

-- what a sink comes to when given bytes come to it, if it does not refuse them
abbrev pub Coming : Type 0
Coming = List ℕ → Option (List ℕ)

-- what a sink means: what it comes to, and what it writes to, if it does
pub record Meaning : Type 0 where
  pub comes : Coming
  pub home : ℕ

-- bytes were offered to what comes by f: it took them, and goes on by g, or it refuses them
abbrev pub Takes : {U E : Type 0} → Coming → Coming → List ℕ → Result U E → Type 0
Takes f g bs (Ok u) = (more : List ℕ) → f (bs ++ more) ≡ g more
Takes f g bs (Err e) = (more : List ℕ) → f (bs ++ more) ≡ None

-- a call that offered these bytes to a sink that meant m, and left it meaning n
pub record Puts {U E : Type 0} (m n : Meaning) (bs : List ℕ) (r : Result U E) : Type 0 where
  pub takes : Takes m.comes n.comes bs r
  pub home : n.home ≡ m.home

-- what a list of references points to
abbrev pub texts : List (Bor (List ℕ)) → List (List ℕ)
texts xs = map (λ (x : Bor (List ℕ)). x.now) xs

-- parts one after the other
abbrev pub concat : List (List ℕ) → List ℕ
concat [] = []
concat (p ∷ ps) = p ++ concat ps

-- so much room: what is left of it
abbrev pub fits : ℕ → Coming
fits room bs = cond (nat_le (length bs) room) (Some ((room - length bs) ∷ [])) None

-- a buffer of which some is written
abbrev pub pastes : ℕ → List ℕ → Coming
pastes place out bs = cond (nat_le (place + length bs) (length out)) (Some (take place out ++ (bs ++ drop (place + length bs) out))) None

-- a buffer that a text is written into, from its start
abbrev pub filled : List ℕ → List ℕ → List ℕ
filled text out = text ++ drop (length text) out

-- a text that is to begin so: what follows
abbrev pub strip : List ℕ → Coming
strip text [] = Some text
strip [] (b ∷ bs) = None
strip (t ∷ ts) (b ∷ bs) = cond (t == b) (strip ts bs) None

-- such sinks; one that writes to nothing of its caller's has home 0
abbrev pub counts : ℕ → Meaning
counts room = record { comes = fits room; home = 0 }

abbrev pub writes : ℕ → List ℕ → ℕ → Meaning
writes place out home = record { comes = pastes place out; home = home }

abbrev pub compares : List ℕ → Meaning
compares text = record { comes = strip text; home = 0 }
