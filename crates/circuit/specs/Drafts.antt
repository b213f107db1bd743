-- What the code's drafts say, by the text that their names stand in.
use Rattle.std.specs.Prelude.{ℕ, List, map, Ok, Err, Result}
use Rattle.text.specs.Spans.{spanned}
use Rattle.circuit.specs.declared.draft.Draft.{Draft}
use Rattle.circuit.specs.declared.draft.Draft.TheVariants as draft
use Rattle.circuit.specs.declared.draft.Entry.{Entry}
use Rattle.circuit.specs.declared.fault.Refusal.{Refusal}
use Rattle.circuit.specs.declared.listing.Listing.{Listing}
use Rattle.circuit.specs.Judge.{Drafted, done, waits, Kept}
use Rattle.circuit.specs.Entries.{listed}
use Rattle.circuit.specs.Reading.{State}

abbrev pub drawn : List ℕ → Draft → Drafted
drawn text (draft.Done k) = done k
drawn text (draft.Latch n s) = waits (spanned text n) s

abbrev pub drafted : List ℕ → Result Draft Refusal → Result Drafted Refusal
drafted text (Ok d) = Ok (drawn text d)
drafted text (Err e) = Err e

abbrev pub kept : List ℕ → Result Entry Refusal → Result Kept Refusal
kept text (Ok e) = Ok (record { name = spanned text e.name; draft = drawn text e.draft })
kept text (Err e) = Err e

-- the nets of the lines, as far as they are known
abbrev pub drafts_in : List ℕ → List Entry → List Drafted
drafts_in text es = map (λ e. drawn text e.draft) es

abbrev pub state_of : List ℕ → Listing → State
state_of text l = record { names = listed text l.entries; drafts = drafts_in text l.entries }
