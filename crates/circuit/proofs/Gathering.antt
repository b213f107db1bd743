-- How many lines a listing holds.
use Rattle.std.proofs.Common.{◌≡◌, ℕ, List, length, ◌∙◌}
use Rattle.std.proofs.lemmas.List.{length-map}
use Rattle.text.specs.Spans.{spanned}
use Rattle.circuit.specs.declared.draft.Entry.{Entry}
use Rattle.circuit.specs.declared.listing.Listing.{Listing}
use Rattle.circuit.specs.Drafts.{state_of}
use Rattle.circuit.specs.Entries.{spans_in}

-- as many names as lines
pub count : (text : List ℕ) (t : Listing) → length (state_of text t).names ≡ length t.entries
count text t = length-map (spans_in t.entries) (spanned text) ∙ length-map t.entries (λ (e : Entry). e.name)
