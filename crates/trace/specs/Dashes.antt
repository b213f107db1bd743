-- Which entries of a trace become dashes.
use Rattle.std.specs.Prelude.{ℕ, ◌+◌, ◌*◌, Bool, false, cond, ◌&&◌, List, [], ◌∷◌, map, length, Some, None, Option, ◌==◌, nat_lt, slice_index_or}
use Rattle.circuit.specs.declared.nets.Frame.{Frame}
use Rattle.circuit.specs.declared.nets.NetKind.{NetKind}
use Rattle.values.specs.declared.three.Three.{Three}
use Rattle.values.specs.declared.three.Three.TheVariants.{U}
use Rattle.values.specs.Bits.{bits}
use Rattle.values.specs.Threes.{threes, three_of, is_one}
use Rattle.frames.specs.Rules.{Given, grid, put}
use Rattle.frames.specs.Worked.{worked}
use Rattle.trace.specs.declared.entry.Entry.{Entry}
use Rattle.trace.specs.declared.goal.Goal.{Goal}
use Rattle.trace.specs.Layout.{entries}
use Rattle.trace.specs.Texts.{Told}

-- a start stands in frame 0
abbrev pub frame_in : Option Frame → ℕ
frame_in None = 0
frame_in (Some f) = f.0

abbrev pub frame_of : Entry → ℕ
frame_of e = frame_in e.frame

-- the places of an entry and of the goal, where the frames of N nets stand one after another
abbrev pub place_of : ℕ → Entry → ℕ
place_of N e = frame_of e * N + e.net.0

abbrev pub goal_place : ℕ → Goal → ℕ
goal_place N g = g.last.0 * N + g.target.0

-- what is given at an entry
abbrev pub given_at : {K : Type 0} → Given K → Entry → K
given_at G e = G (frame_of e) e.net.0

abbrev pub grid_at : ℕ → List Three → Entry → Three
grid_at N cells = given_at (grid threes N cells)

abbrev pub put_at : Given Three → Entry → Three → Given Three
put_at G e v = put G (frame_of e) e.net.0 v

-- the target comes on for certain
abbrev pub on : List NetKind → Goal → Given Three → Bool
on nets g G = is_one (worked threes nets None G g.last.0 g.target.0)

-- the entry is made a dash, if the target still comes on
abbrev pub tried : List NetKind → Goal → Entry → Given Three → Given Three
tried nets g e G = cond (on nets g (put_at G e U)) (put_at G e U) G

-- one entry after the other
abbrev pub dashed : List NetKind → Goal → List Entry → Given Three → Given Three
dashed nets g [] G = G
dashed nets g (e ∷ es) G = dashed nets g es (tried nets g e G)

-- a solution: a bit for each net in each frame
abbrev pub solved : ℕ → List Bool → Given Bool
solved N solution t n = slice_index_or solution (t * N + n) false

-- what a solution gives, as three-way values with no dash yet
abbrev pub lifted : ℕ → List Bool → Given Three
lifted N solution = grid threes N (map three_of solution)

-- the solution has a bit for each net in each frame, and its free starts and inputs put the target on
abbrev pub puts_on : List NetKind → Goal → List Bool → Bool
puts_on nets g solution =
    (nat_lt g.last.0 64 && nat_lt g.target.0 (length nets))
    && (length solution == (g.last.0 + 1) * length nets && worked bits nets None (solved (length nets) solution) g.last.0 g.target.0)

-- the trace that is kept of a solution
abbrev pub kept_trace : List NetKind → Goal → List Bool → Told
kept_trace nets g solution =
    record {
      last = g.last.0;
      target = g.target;
      values = map (given_at (dashed nets g (entries nets g.last.0) (lifted (length nets) solution))) (entries nets g.last.0);
    }
