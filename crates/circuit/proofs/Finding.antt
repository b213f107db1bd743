-- What a look-up among the lines of a listing gives.
use Rattle.std.proofs.Common.{◌≡◌, ℕ, suc, ◌+◌, ◌<◌, Bool, true, false, cond, List, [], ◌∷◌, length, get_or, Some, None, Option, MatchOption, is_some, ltb, Bor, refl, sym, ap, ◌∙◌, arith}
use Rattle.std.specs.List.{position, position_from}
use Rattle.std.specs.Option.{option_map}
use Rattle.std.specs.Str.{bytes_eq}
use Rattle.std.proofs.lemmas.Iterator.Adapters.{position_from-zero}
use Rattle.std.proofs.lemmas.List.{get_or-map, length-map, get_or_past}
use Rattle.std.proofs.lemmas.Bool.{ltb-true, ltb-false}
use Rattle.text.specs.Spans.{spanned}
use Rattle.circuit.specs.declared.draft.Entry.{Entry}
use Rattle.circuit.specs.Entries.{spans_in, listed}
use Rattle.circuit.specs.Names.{net, place_from}

option_map-cond : {A B : Type 0} (f : A → B) (b : Bool) (x y : Option A) → cond b (option_map f x) (option_map f y) ≡ option_map f (cond b x y)
option_map-cond f true x y = refl
option_map-cond f false x y = refl

found_from : (text n : List ℕ) (es : List Entry) (i : ℕ) → place_from i n (listed text es) ≡ option_map net (position_from (λ (e : Entry). bytes_eq (spanned text e.name) n) i es)
found_from text n [] i = refl
found_from text n (e ∷ es) i =
    let next : suc i ≡ i + 1 = omega arith in
    let b = bytes_eq (spanned text e.name) n in
    ap (cond b (Some (net i))) (ap (λ j. place_from j n (listed text es)) next ∙ found_from text n es (i + 1)) ∙ option_map-cond net b (Some i) _

-- the line of that name, as a net
pub found : (text n : List ℕ) (es : List Entry) → place_from 0 n (listed text es) ≡ option_map net (position (λ (e : Entry). bytes_eq (spanned text e.name) n) es)
found text n es = found_from text n es 0 ∙ ap (option_map net) (sym (position_from-zero (λ (e : Entry). bytes_eq (spanned text e.name) n) es))

-- the name of a line
name_listed : (text : List ℕ) (es : List Entry) (i : ℕ) (e : Entry) → i < length es → get_or (listed text es) i [] ≡ spanned text (get_or es i e).name
name_listed text es i e h =
    get_or-map (spanned text) (spans_in es) i e.name [] (omega (arith, h, length-map es (λ (x : Entry). x.name))) ∙ ap (spanned text) (get_or-map (λ (x : Entry). x.name) es i e e.name h)

-- the name of a line, if there is that line
pub name_given : (text : List ℕ) (es : List Entry) (i : ℕ) (o : Option (Bor Entry)) (r : List ℕ) → is_some o ≡ ltb i (length es) → ((x : Bor Entry) → o ≡ Some x → get_or es i x.now ≡ x.now) → MatchOption o (r ≡ []) (λ x. r ≡ spanned text x.now.name) → r ≡ get_or (listed text es) i []
name_given text es i None r l g h =
    h ∙ sym (get_or_past (listed text es) i [] (omega (arith, ltb-false i (length es) (sym l), length-map (spans_in es) (spanned text), length-map es (λ (x : Entry). x.name))))
name_given text es i (Some x) r l g h = h ∙ ap (λ (e : Entry). spanned text e.name) (sym (g x refl)) ∙ sym (name_listed text es i x.now (ltb-true i (length es) (sym l)))
