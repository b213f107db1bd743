-- Reading undoes writing, and only what writing gives is read.
use Rattle.std.proofs.Common.{◌≡◌, ℕ, suc, ◌+◌, ◌<◌, true, false, cond, eqb, ltb, leb, List, [], ◌∷◌, ◌++◌, length, get_or, take, drop, Some, None, Ok, Err, Option, Result, sym, refl, ap, ◌∙◌, subst, ⊎_elim, append_assoc, append-nil, arith, length-append, take-append-drop}
use Rattle.std.proofs.lemmas.List.{take_at, drop_at, drop_more}
use Rattle.std.proofs.lemmas.Bool.{cond-true, cond-false, lt-ltb, ltb-true, eqb-true, and_parts, cases_Bool}
use Rattle.text.specs.declared.class.Class.{Class}
use Rattle.text.specs.declared.class.Class.TheVariants.{Tab, Feed}
use Rattle.circuit.specs.declared.nets.Net.{Net}
use Rattle.circuit.specs.declared.nets.NetKind.{NetKind}
use Rattle.text.specs.Class.{class_of, same}
use Rattle.text.specs.Cut.{stop}
use Rattle.text.specs.Name.{all_in_names}
use Rattle.circuit.specs.Names.{net, name_at, place_from, GoodNames}
use Rattle.trace.specs.declared.entry.Entry.{Entry}
use Rattle.trace.specs.declared.fault.TraceFault.{TraceFault}
use Rattle.trace.specs.declared.fault.TraceFault.TheVariants.{FirstLine, LaterLine}
use Rattle.values.specs.declared.three.Three.{Three}
use Rattle.values.specs.declared.three.Three.TheVariants.{Zero, One, U}
use Rattle.trace.specs.Layout.{entries}
use Rattle.sinks.specs.Sinks.{strip}
use Rattle.trace.specs.Texts.{Told, decimal, head, line, lines, first_line, feed, trace_text}
use Rattle.values.specs.Bytes.{byte_of, value_of}
use Rattle.trace.specs.Readings.{Took, Parted, Begun, and_then, took, valued, line_at, field_at, number_of, run, target_at, first_at, on_line, ended, read_on, with_values, from_first, trace_read}
use Rattle.trace.specs.Laws.{Fits, Exactly, Back, Stuck, StopsAt}
use Rattle.trace.specs.declared.fault.WriteFault.{WriteFault}
use Rattle.trace.specs.declared.fault.WriteFault.TheVariants.{NoNet, Short}
use Rattle.trace.specs.Writing.{covered, named, sized, writing, writes, held_text, written}
use Rattle.circuit.specs.declared.fault.ReadFault.{ReadFault}
use Rattle.circuit.specs.Reading.{Named, reading}
use Rattle.text.proofs.Joins.{none_of, stop-at, tab-is, feed-is, name-free}
use Rattle.circuit.proofs.Places.{place-there, place-back}
use Rattle.circuit.proofs.Soundness.{reading-sound}
use Rattle.sinks.proofs.Puttings.{strip-front}
use Rattle.trace.proofs.Numbering.{at, then-some, decimals}

not-some : {A : Type 0} (x : A) → None ≡ Some x → ⊥
not-some x e = let z : ◌≡◌ {A = ℕ} 0 1 = cc in omega arith

not-ok : {A E : Type 0} (e : E) (x : A) → Err e ≡ Ok x → ⊥
not-ok e x q = let z : ◌≡◌ {A = ℕ} 0 1 = cc in omega arith

-- ---- values
value-there : (v : Three) → value_of (byte_of v) ≡ Some v
value-there Zero = refl
value-there One = refl
value-there U = refl

value-back : (b : ℕ) (v : Three) → value_of b ≡ Some v → b ≡ byte_of v
value-back b v e =
    ⊎_elim
    (λ (z : eqb b 48 ≡ true). let is : Some Zero ≡ Some v = sym (cond-true _ _ _ z) ∙ e in let s : Zero ≡ v = cc in eqb-true b 48 z ∙ ap byte_of s)
    (λ (z : eqb b 48 ≡ false).
    ⊎_elim
    (λ (o : eqb b 49 ≡ true). let is : Some One ≡ Some v = sym (cond-true _ _ _ o) ∙ sym (cond-false _ _ _ z) ∙ e in let s : One ≡ v = cc in eqb-true b 49 o ∙ ap byte_of s)
    (λ (o : eqb b 49 ≡ false).
    ⊎_elim
    (λ (u : eqb b 45 ≡ true). let is : Some U ≡ Some v = sym (cond-true _ _ _ u) ∙ sym (cond-false _ _ _ o) ∙ sym (cond-false _ _ _ z) ∙ e in let s : U ≡ v = cc in eqb-true b 45 u ∙ ap byte_of s)
    (λ (u : eqb b 45 ≡ false). absurd (not-some v (sym (cond-false _ _ _ u) ∙ sym (cond-false _ _ _ o) ∙ sym (cond-false _ _ _ z) ∙ e)))
    (cases_Bool (eqb b 45)))
    (cases_Bool (eqb b 49)))
    (cases_Bool (eqb b 48))

took-back : (o : Option Three) (bs : List ℕ) (t : Took) → took o bs ≡ Some t → (o ≡ Some t.value) × (bs ≡ t.rest)
took-back None bs t e = absurd (not-some t e)
took-back (Some v) bs t e = let is : ◌≡◌ {A = Took} (record { value = v; rest = bs }) t = cc in (ap (λ (x : Took). Some x.value) is, ap (λ (x : Took). x.rest) is)

valued-back : (s : List ℕ) (t : Took) → valued s ≡ Some t → s ≡ byte_of t.value ∷ 10 ∷ t.rest
valued-back [] t e = absurd (not-some t e)
valued-back (b ∷ []) t e = absurd (not-some t e)
valued-back (b ∷ c ∷ bs) t e =
    ⊎_elim
    (λ (f : eqb c 10 ≡ true).
    let p = took-back (value_of b) bs t (sym (cond-true _ _ _ f) ∙ e) in
    λ i. value-back b t.value p.0 i ∷ eqb-true c 10 f i ∷ p.1 i)
    (λ (f : eqb c 10 ≡ false). absurd (not-some t (sym (cond-false _ _ _ f) ∙ e)))
    (cases_Bool (eqb c 10))

-- ---- fronts
strip-there : (p r : List ℕ) → strip (p ++ r) p ≡ Some r
strip-there p r = ap (strip (p ++ r)) (sym (append-nil p)) ∙ strip-front p r []

strip-back : (s p r : List ℕ) → strip s p ≡ Some r → s ≡ p ++ r
strip-back s [] r e = let is : s ≡ r = cc in is
strip-back [] (b ∷ p) r e = absurd (not-some r e)
strip-back (t ∷ s) (b ∷ p) r e =
    ⊎_elim
    (λ (f : eqb t b ≡ true). λ i. eqb-true t b f i ∷ strip-back s p r (sym (cond-true _ _ _ f) ∙ e) i)
    (λ (f : eqb t b ≡ false). absurd (not-some r (sym (cond-false _ _ _ f) ∙ e)))
    (cases_Bool (eqb t b))

-- ---- the lines of entries
line-there : (ns : List (List ℕ)) (e : Entry) (v : Three) (rest : List ℕ) → line_at ns e (line ns e v ++ rest) ≡ Some (record { value = v; rest = rest })
line-there ns e v rest =
    let front : strip (line ns e v ++ rest) (head ns e) ≡ Some (byte_of v ∷ 10 ∷ rest) =
    ap (λ s. strip s (head ns e)) (append_assoc (head ns e) (byte_of v ∷ feed) rest) ∙ strip-there (head ns e) (byte_of v ∷ 10 ∷ rest) in
    ap (λ o. and_then o valued) front ∙ ap (λ o. took o rest) (value-there v)

line-back : (ns : List (List ℕ)) (e : Entry) (text : List ℕ) (t : Took) → line_at ns e text ≡ Some t → text ≡ line ns e t.value ++ t.rest
line-back ns e text t q =
    let p = then-some (strip text (head ns e)) valued t q in
    strip-back text (head ns e) p.0 p.1 ∙ ap (λ s. head ns e ++ s) (valued-back p.0 t p.2) ∙ sym (append_assoc (head ns e) (byte_of t.value ∷ feed) t.rest)

lines-there : (ns : List (List ℕ)) (us : List Three) (es : List Entry) (vs : List Three) → length vs ≡ length es → read_on ns us es (lines ns es vs) ≡ Ok (us ++ vs)
lines-there ns us [] [] h = ap Ok (sym (append-nil us))
lines-there ns us [] (v ∷ vs) h = absurd (omega (arith, h))
lines-there ns us (e ∷ es) [] h = absurd (omega (arith, h))
lines-there ns us (e ∷ es) (v ∷ vs) h =
    ap (λ o. on_line us o (λ t. read_on ns (us ++ t.value ∷ []) es t.rest)) (line-there ns e v (lines ns es vs))
    ∙ lines-there ns (us ++ v ∷ []) es vs (omega (arith, h)) ∙ ap Ok (append_assoc us (v ∷ []) vs)

line-some : (us : List Three) (o : Option Took) (f : Took → Result (List Three) TraceFault) (ws : List Three) → on_line us o f ≡ Ok ws → (t : Took) × (o ≡ Some t) × (f t ≡ Ok ws)
line-some us None f ws q = absurd (not-ok _ ws q)
line-some us (Some t) f ws q = (t, refl, q)

ended-back : (us : List Three) (text : List ℕ) (ws : List Three) → ended us text ≡ Ok ws → (ws ≡ us) × (text ≡ [])
ended-back us [] ws q = let is : ws ≡ us = cc in (is, refl)
ended-back us (b ∷ bs) ws q = absurd (not-ok _ ws q)

lines-back : (ns : List (List ℕ)) (us : List Three) (es : List Entry) (text : List ℕ) (ws : List Three) → read_on ns us es text ≡ Ok ws → (vs : List Three) × (ws ≡ us ++ vs) × (length vs ≡ length es) × (text ≡ lines ns es vs)
lines-back ns us [] text ws q = let p = ended-back us text ws q in ([], p.0 ∙ sym (append-nil us), refl, p.1)
lines-back ns us (e ∷ es) text ws q =
    let p = line-some us (line_at ns e text) (λ t. read_on ns (us ++ t.value ∷ []) es t.rest) ws q in
    let t = p.0 in
    let r = lines-back ns (us ++ t.value ∷ []) es t.rest ws p.2 in
    (t.value ∷ r.0, r.1 ∙ append_assoc us (t.value ∷ []) r.0, ap suc r.2, line-back ns e text t p.1 ∙ ap (λ s. line ns e t.value ++ s) r.3)

-- ---- what a byte of a class closes
field-there : (k : Class) (a : List ℕ) (b : ℕ) (rest : List ℕ) → none_of k a ≡ true → same (class_of b) k ≡ true → field_at k (a ++ b ∷ rest) ≡ Some (record { part = a; rest = rest })
field-there k a b rest n s =
    let all = a ++ b ∷ rest in
    let at-stop = stop-at k a b rest n s in
    let long = length-append a (b ∷ rest) in
    let inside : length a < length all = omega (arith, long) in
    let front = take_at a (b ∷ rest) (length a) refl in
    let back : drop (length a + 1) all ≡ rest = ap (drop (length a + 1)) (sym (append_assoc a (b ∷ []) rest)) ∙ drop_at (a ++ b ∷ []) rest (length a + 1) (length-append a (b ∷ [])) in
    ap (λ m. cond (ltb m (length all)) (Some (record { part = take m all; rest = drop (m + 1) all })) None) at-stop
    ∙ cond-true _ _ _ (lt-ltb (length a) (length all) inside)
    ∙ (λ i. Some (record { part = front i; rest = back i }))

stop-class : (k : Class) (s : List ℕ) → stop k s < length s → same (class_of (get_or s (stop k s) 0)) k ≡ true
stop-class k [] h = absurd (omega arith)
stop-class k (b ∷ s) h =
    ⊎_elim
    (λ (e : same (class_of b) k ≡ true). ap (λ n. same (class_of (get_or (b ∷ s) n 0)) k) (cond-true _ 0 (suc (stop k s)) e) ∙ e)
    (λ (e : same (class_of b) k ≡ false).
    let next : stop k (b ∷ s) ≡ suc (stop k s) = cond-false _ 0 (suc (stop k s)) e in
    ap (λ n. same (class_of (get_or (b ∷ s) n 0)) k) next ∙ stop-class k s (omega (arith, next)))
    (cases_Bool (same (class_of b) k))

field-back : (k : Class) (s : List ℕ) (p : Parted) → field_at k s ≡ Some p → (b : ℕ) × (same (class_of b) k ≡ true) × (s ≡ p.part ++ b ∷ p.rest)
field-back k s p e =
    ⊎_elim
    (λ (h : ltb (stop k s) (length s) ≡ true).
    let n = stop k s in
    let inside = ltb-true n (length s) h in
    let got : Some (record { part = take n s; rest = drop (n + 1) s }) ≡ Some p = sym (cond-true _ _ _ h) ∙ e in
    let is : ◌≡◌ {A = Parted} (record { part = take n s; rest = drop (n + 1) s }) p = cc in (
      get_or s n 0,
      stop-class k s inside,
      sym (take-append-drop n s) ∙ ap (λ ys. take n s ++ ys) (drop_more s n 0 inside) ∙ (λ i. (is i).part ++ get_or s n 0 ∷ (is i).rest),
    ))
    (λ (h : ltb (stop k s) (length s) ≡ false). absurd (not-some p (sym (cond-false _ _ _ h) ∙ e)))
    (cases_Bool (ltb (stop k s) (length s)))

-- ---- tabs and feeds
no-tab : (n : ℕ) → n < 64 → none_of Tab (decimal n) ≡ true
no-tab n h = at (λ k. none_of Tab (decimal k)) 64 refl n h

-- ---- the first line
first-shape : (ns : List (List ℕ)) (k : ℕ) (x : Net) (rest : List ℕ) → first_line ns k x ++ rest ≡ run ++ (decimal k ++ 9 ∷ (name_at ns x ++ 10 ∷ rest))
first-shape ns k x rest =
    ap (λ s. run ++ s) (append_assoc (decimal k) (9 ∷ (name_at ns x ++ 10 ∷ [])) rest ∙ ap (λ s. decimal k ++ 9 ∷ s) (append_assoc (name_at ns x) (10 ∷ []) rest))

first-there : (ns : List (List ℕ)) (k : ℕ) (x : Net) (rest : List ℕ) → GoodNames ns → k < 64 → x.0 < length ns → first_at ns (first_line ns k x ++ rest) ≡ Some (record { last = k; target = x; rest = rest })
first-there ns k x rest g short h =
    let name = name_at ns x in
    let good = (and_parts _ (all_in_names name) (g.each x.0 h)).1 in
    let one = strip-there run (decimal k ++ 9 ∷ (name ++ 10 ∷ rest)) in
    let two = field-there Tab (decimal k) 9 (name ++ 10 ∷ rest) (no-tab k short) refl in
    let three = decimals.there k short in
    let four = field-there Feed name 10 rest (name-free Feed name refl good) refl in
    let five = place-there 0 ns x.0 h (λ j l. g.apart j x.0 l h) in
    let zeros : 0 + x.0 ≡ x.0 = omega arith in
    ap (first_at ns) (first-shape ns k x rest)
    ∙ ap (λ o. and_then o (λ s. and_then (field_at Tab s) (λ f. and_then (number_of f.part) (λ k. target_at ns k f.rest)))) one
    ∙ ap (λ o. and_then o (λ f. and_then (number_of f.part) (λ k. target_at ns k f.rest))) two
    ∙ ap (λ o. and_then o (λ k. target_at ns k (name ++ 10 ∷ rest))) three
    ∙ ap (λ o. and_then o (λ g. and_then (place_from 0 g.part ns) (λ t. Some (record { last = k; target = t; rest = g.rest })))) four
    ∙ ap (λ o. and_then o (λ t. Some (record { last = k; target = t; rest = rest }))) (five ∙ ap (λ n. Some (net n)) zeros)

first-back : (ns : List (List ℕ)) (text : List ℕ) (b : Begun) → first_at ns text ≡ Some b → (text ≡ first_line ns b.last b.target ++ b.rest) × (b.last < 64) × (b.target.0 < length ns)
first-back ns text b e =
    let one = then-some (strip text run) (λ s. and_then (field_at Tab s) (λ f. and_then (number_of f.part) (λ k. target_at ns k f.rest))) b e in
    let s = one.0 in
    let two = then-some (field_at Tab s) (λ f. and_then (number_of f.part) (λ k. target_at ns k f.rest)) b one.2 in
    let f = two.0 in
    let three = then-some (number_of f.part) (λ k. target_at ns k f.rest) b two.2 in
    let k = three.0 in
    let four = then-some (field_at Feed f.rest) (λ g. and_then (place_from 0 g.part ns) (λ t. Some (record { last = k; target = t; rest = g.rest }))) b three.2 in
    let g = four.0 in
    let five = then-some (place_from 0 g.part ns) (λ t. Some (record { last = k; target = t; rest = g.rest })) b four.2 in
    let x = five.0 in
    let is : ◌≡◌ {A = Begun} (record { last = k; target = x; rest = g.rest }) b = cc five.2 in
    let number = decimals.back f.part k three.1 in
    let tabbed = field-back Tab s f two.1 in
    let closed = field-back Feed f.rest g four.1 in
    let place = place-back 0 ns g.part x five.1 in
    let zeros : place.0 ≡ x.0 = omega (arith, place.1) in
    let named : g.part ≡ name_at ns x = sym place.3 ∙ ap (λ n. get_or ns n []) zeros in
    let whole : text ≡ run ++ (decimal k ++ 9 ∷ (name_at ns x ++ 10 ∷ g.rest)) =
    strip-back text run s one.1
    ∙ ap (λ ys. run ++ ys) (tabbed.2 ∙ (λ i. number.1 i ++ tab-is tabbed.0 tabbed.1 i ∷ (closed.2 ∙ (λ j. named j ++ feed-is closed.0 closed.1 j ∷ g.rest)) i)) in (
      whole ∙ sym (first-shape ns k x g.rest) ∙ (λ i. first_line ns (is i).last (is i).target ++ (is i).rest),
      subst (λ (c : Begun). c.last < 64) is number.0,
      subst (λ (c : Begun). c.target.0 < length ns) is (omega (arith, place.1, place.2)),
    )

-- ---- the whole text
-- the text of a trace is read as that trace
reads-back : (ns : List (List ℕ)) (ks : List NetKind) (t : Told) → GoodNames ns → Fits ns ks t → trace_read ns ks (trace_text ns ks t) ≡ Ok t
reads-back ns ks t g f =
    ap (from_first ns ks) (first-there ns t.last t.target (lines ns (entries ks t.last) t.values) g f.short f.target)
    ∙ ap (with_values (record { last = t.last; target = t.target; rest = lines ns (entries ks t.last) t.values })) (lines-there ns [] (entries ks t.last) t.values f.all)

from-some : (ns : List (List ℕ)) (ks : List NetKind) (o : Option Begun) (t : Told) → from_first ns ks o ≡ Ok t → (b : Begun) × (o ≡ Some b) × (with_values b (read_on ns [] (entries ks b.last) b.rest) ≡ Ok t)
from-some ns ks None t q = absurd (not-ok _ t q)
from-some ns ks (Some b) t q = (b, refl, q)

with-ok : (b : Begun) (r : Result (List Three) TraceFault) (t : Told) → with_values b r ≡ Ok t → (vs : List Three) × (r ≡ Ok vs) × (◌≡◌ {A = Told} (record { last = b.last; target = b.target; values = vs }) t)
with-ok b (Ok vs) t q = let is : ◌≡◌ {A = Told} (record { last = b.last; target = b.target; values = vs }) t = cc in (vs, refl, is)
with-ok b (Err f) t q = absurd (not-ok _ t q)

-- a text that is read as a trace is the text of that trace
pub only-written : (ns : List (List ℕ)) (ks : List NetKind) (text : List ℕ) (t : Told) → trace_read ns ks text ≡ Ok t → (text ≡ trace_text ns ks t) × Fits ns ks t
only-written ns ks text t q =
    let one = from-some ns ks (first_at ns text) t q in
    let b = one.0 in
    let two = with-ok b (read_on ns [] (entries ks b.last) b.rest) t one.2 in
    let first = first-back ns text b one.1 in
    let rest = lines-back ns [] (entries ks b.last) b.rest two.0 two.1 in
    let same-values : rest.0 ≡ two.0 = sym rest.1 in (
      first.0 ∙ ap (λ s. first_line ns b.last b.target ++ s) (rest.3 ∙ ap (lines ns (entries ks b.last)) same-values)
          ∙ ap (trace_text ns ks) two.2,
      subst (Fits ns ks) two.2 (record { short = first.1; target = first.2; all = sym (ap length same-values) ∙ rest.2 }),
    )

-- ---- what is written is read back
sized-ok : (n room m : ℕ) → sized n room ≡ Ok m → m ≡ n
sized-ok n room m q =
    ⊎_elim
    (λ (e : leb n room ≡ true). let got : ◌≡◌ {A = Result ℕ WriteFault} (Ok n) (Ok m) = sym (cond-true _ _ _ e) ∙ q in let is : m ≡ n = cc in is)
    (λ (e : leb n room ≡ false). absurd (not-ok Short m (sym (cond-false _ _ _ e) ∙ q)))
    (cases_Bool (leb n room))

writing-ok : (ns : List (List ℕ)) (ks : List NetKind) (t : Told) (room n : ℕ) → writing ns ks t room ≡ Ok n → (n ≡ length (trace_text ns ks t)) × (t.target.0 < length ns)
writing-ok ns ks t room n q =
    ⊎_elim
    (λ (e : named ns ks t ≡ true). (sized-ok (length (trace_text ns ks t)) room n (sym (cond-true _ _ _ e) ∙ q), ltb-true t.target.0 (length ns) (and_parts _ (covered (length ns) 0 ks) e).0))
    (λ (e : named ns ks t ≡ false). absurd (not-ok NoNet n (sym (cond-false _ _ _ e) ∙ q)))
    (cases_Bool (named ns ks t))

pub back : (text : List ℕ) (ks : List NetKind) (o : Option Told) (out now : List ℕ) (r : Result ℕ WriteFault)
    → ((t : Told) → o ≡ Some t → (t.last < 64) × (length t.values ≡ length (entries ks t.last)))
    → r ≡ writes (reading text) ks o (length out) → now ≡ written (held_text (reading text) ks o) out r → Back r (reading text) ks o now
back text ks o out now (Err e) fits q is = tt
back text ks o out now (Ok n) fits q is = go (reading text) o refl refl (sym q) is
  where
    go : (x : Result Named ReadFault) (p : Option Told) → reading text ≡ x → o ≡ p → writes x ks p (length out) ≡ Ok n → now ≡ written (held_text x ks p) out (Ok n) → Back {E = WriteFault} (Ok n) x ks p now
    go (Err f) p read held ok after = tt
    go (Ok x) None read held ok after = tt
    go (Ok x) (Some t) read held ok after =
        let ns = x.names in
        let p = writing-ok ns ks t (length out) n ok in
        let fit = fits t held in
        let front : take n now ≡ trace_text ns ks t = ap (take n) after ∙ take_at (trace_text ns ks t) (drop (length (trace_text ns ks t)) out) n (sym p.0) in
        ap (trace_read ns ks) front ∙ reads-back ns ks t (reading-sound text x read).names (record { short = fit.0; target = p.1; all = fit.1 })

-- ---- the line of a refusal
ok-not : {A E : Type 0} (x : A) (e : E) → Ok x ≡ Err e → ⊥
ok-not x e q = let z : ◌≡◌ {A = ℕ} 0 1 = cc in omega arith

same-line : (m n : ℕ) → ◌≡◌ {A = Result (List Three) TraceFault} (Err (LaterLine m)) (Err (LaterLine n)) → m ≡ n
same-line m n q = cc

ended-stops : (ns : List (List ℕ)) (us : List Three) (text : List ℕ) (n : ℕ) → ended us text ≡ Err (LaterLine n) → (m : ℕ) × (n ≡ length us + m) × StopsAt ns [] text m
ended-stops ns us [] n q = absurd (ok-not us _ q)
ended-stops ns us (b ∷ bs) n q =
    (2, sym (same-line _ n q), record { done = []; todo = []; values = []; rest = b ∷ bs; parts = refl; each = refl; text_is = refl; number = refl; stuck = λ e. let z : ◌≡◌ {A = ℕ} 0 1 = cc in omega arith })

line-stuck : (ns : List (List ℕ)) (e : Entry) (es : List Entry) (text : List ℕ) → line_at ns e text ≡ None → Stuck ns (e ∷ es) text
line-stuck ns e es text q v more is = not-some _ (sym q ∙ ap (line_at ns e) is ∙ line-there ns e v more)

lines-stop : (ns : List (List ℕ)) (us : List Three) (es : List Entry) (text : List ℕ) (n : ℕ) → read_on ns us es text ≡ Err (LaterLine n) → (m : ℕ) × (n ≡ length us + m) × StopsAt ns es text m
lines-stop ns us [] text n q = ended-stops ns us text n q
lines-stop ns us (e ∷ es) text n q =
    (elim (line_at ns e text) as (λ o. line_at ns e text ≡ o → on_line us o (λ t. read_on ns (us ++ t.value ∷ []) es t.rest) ≡ Err (LaterLine n) → (m : ℕ) × (n ≡ length us + m) × StopsAt ns (e ∷ es) text m) [
      | None ↦ λ at r. (2, sym (same-line _ n r), record { done = []; todo = e ∷ es; values = []; rest = text; parts = refl; each = refl; text_is = refl; number = refl; stuck = line-stuck ns e es text at })
      | Some t ↦ λ at r.
          let p = lines-stop ns (us ++ t.value ∷ []) es t.rest n r in
          let s = p.2 in
          let longer = length-append us (t.value ∷ []) in
          let split : text ≡ lines ns (e ∷ s.done) (t.value ∷ s.values) ++ s.rest =
          line-back ns e text t at ∙ ap (λ ys. line ns e t.value ++ ys) s.text_is ∙ sym (append_assoc (line ns e t.value) (lines ns s.done s.values) s.rest) in
          (suc p.0, omega (arith, p.1, longer), record { done = e ∷ s.done; todo = s.todo; values = t.value ∷ s.values; rest = s.rest; parts = ap (λ xs. e ∷ xs) s.parts; each = ap suc s.each; text_is = split; number = omega (arith, s.number); stuck = s.stuck })
    ]) refl q

with-err : (b : Begun) (r : Result (List Three) TraceFault) (f : TraceFault) → with_values b r ≡ Err f → r ≡ Err f
with-err b (Ok vs) f q = absurd (ok-not _ f q)
with-err b (Err g) f q = let is : g ≡ f = cc in ap Err is

from-later : (ns : List (List ℕ)) (ks : List NetKind) (o : Option Begun) (n : ℕ) → from_first ns ks o ≡ Err (LaterLine n) → (b : Begun) × (o ≡ Some b) × (read_on ns [] (entries ks b.last) b.rest ≡ Err (LaterLine n))
from-later ns ks None n q = let z : ◌≡◌ {A = ℕ} 0 1 = cc in absurd (omega arith)
from-later ns ks (Some b) n q = (b, refl, with-err b _ (LaterLine n) q)

later : (ns : List (List ℕ)) (ks : List NetKind) (text : List ℕ) (n : ℕ) → trace_read ns ks text ≡ Err (LaterLine n) → Exactly (LaterLine n) ns ks text
later ns ks text n q =
    let one = from-later ns ks (first_at ns text) n q in
    let b = one.0 in
    let first = first-back ns text b one.1 in
    let p = lines-stop ns [] (entries ks b.last) b.rest n one.2 in
    let num : p.0 ≡ n = omega (arith, p.1) in
    (b.last, b.target, b.rest, first.0, subst (StopsAt ns (entries ks b.last) b.rest) num p.2)

with-first : (b : Begun) (r : Result (List Three) TraceFault) → ((f : TraceFault) → r ≡ Err f → f ≡ FirstLine → ⊥) → with_values b r ≡ Err FirstLine → ⊥
with-first b (Ok vs) h q = ok-not _ FirstLine q
with-first b (Err f) h q = let is : f ≡ FirstLine = cc in h f refl is

never-first : (ns : List (List ℕ)) (us : List Three) (es : List Entry) (text : List ℕ) (f : TraceFault) → read_on ns us es text ≡ Err f → f ≡ FirstLine → ⊥
never-first ns us [] [] f q e = ok-not us f q
never-first ns us [] (b ∷ bs) f q e = let z : ◌≡◌ {A = ℕ} 0 1 = cc in omega arith
never-first ns us (c ∷ es) text f q e =
    (elim (line_at ns c text) as (λ o. on_line us o (λ t. read_on ns (us ++ t.value ∷ []) es t.rest) ≡ Err f → ⊥) [
      | None ↦ λ r. let z : ◌≡◌ {A = ℕ} 0 1 = cc in omega arith
      | Some t ↦ λ r. never-first ns (us ++ t.value ∷ []) es t.rest f r e
    ]) q

no-first : (ns : List (List ℕ)) (ks : List NetKind) (text : List ℕ) → trace_read ns ks text ≡ Err FirstLine → Exactly FirstLine ns ks text
no-first ns ks text q k x rest good short h is =
    let begun : Begun = record { last = k; target = x; rest = rest } in
    let first = ap (first_at ns) is ∙ first-there ns k x rest good short h in
    with-first begun (read_on ns [] (entries ks k) rest) (never-first ns [] (entries ks k) rest) (sym (ap (from_first ns ks) first) ∙ q)

-- a refused text is none, from the line on that is told
pub refused : (ns : List (List ℕ)) (ks : List NetKind) (text : List ℕ) (f : TraceFault) → trace_read ns ks text ≡ Err f → Exactly f ns ks text
refused ns ks text FirstLine q = no-first ns ks text q
refused ns ks text (LaterLine n) q = later ns ks text n q
