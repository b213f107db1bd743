-- A list that was filled anew.
use Rattle.std.proofs.Common.{◌≡◌, ◌≤◌, ℕ, List, Option, length, map, take, ap, sym, ◌∙◌, map-id}
use Rattle.std.specs.Iterator.{Drains}
use Rattle.std.specs.List.{AllZip}
use Rattle.std.proofs.lemmas.Iterator.{YieldsList, items_from_drains}
use Rattle.std.proofs.lemmas.List.{take_all}
use Rattle.std.proofs.lemmas.Slice.Zip.{AllZip-map}

-- by a chain of iterators: it has what the chain gives
pub refilled : {S A : Type 0} {steps : S → Option A → S → Type 0} {s : S} {all : List A} (new : List A) → ((xs : List A) × Drains steps s xs × (new ≡ xs)) → YieldsList steps (λ x. x) s all → new ≡ all
refilled new ran chain =
    let drains = ran.1 in
    ran.2 ∙ sym (map-id ran.0) ∙ items_from_drains ran.0 (drains.1.0, drains.1.1, λ u. (drains.0, drains.1.2)) chain

-- from a slice: it has what is made from each item, where there is room for all
pub refilled-from-slice : {A B : Type 0} {n : ℕ} (v : A → B) (items : List A) (new : List B) → length items ≤ n → AllZip (λ x y. y ≡ v x) (take n items) new → new ≡ map v items
refilled-from-slice {n = n} v items new few made = AllZip-map v (take n items) new made ∙ ap (map v) (take_all n items few)
