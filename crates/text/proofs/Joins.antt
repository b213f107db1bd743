-- Parts joined by a closing byte and a text cut at it: each undoes the other.
use Rattle.std.proofs.Common.{◌≡◌, ℕ, suc, Bool, true, false, cond, not, ◌&&◌, eqb, List, [], ◌∷◌, ◌++◌, length, sym, refl, ap, ◌∙◌, inl, inr}
use Rattle.std.proofs.lemmas.Bool.{false≢true, cond-true, cond-false, cases_Bool, and_parts, and_from, not-true, not_from_false, both_ways, eqb-true}
use Rattle.text.specs.declared.class.Class.{Class}
use Rattle.text.specs.declared.class.Class.TheVariants.{Letter, Digit, Underscore, Tab, Feed, Other}
use Rattle.text.specs.Class.{class_of, same, within}
use Rattle.text.specs.Cut.{stop, Parts, more, widen, cut}
use Rattle.text.specs.Name.{in_names, all_in_names}
use Rattle.text.proofs.Classes.{same-eq}

-- no byte is of class k
abbrev pub none_of : Class → List ℕ → Bool
none_of k [] = true
none_of k (b ∷ bs) = not (same (class_of b) k) && none_of k bs

pub none-append : (k : Class) (p q : List ℕ) → none_of k p ≡ true → none_of k q ≡ true → none_of k (p ++ q) ≡ true
none-append k [] q m n = n
none-append k (b ∷ p) q m n =
    let h = and_parts (not (same (class_of b) k)) (none_of k p) m in
    and_from _ _ h.0 (none-append k p q h.1 n)

-- the bytes before the first of class k
pub stop-at : (k : Class) (p : List ℕ) (b : ℕ) (rest : List ℕ) → none_of k p ≡ true → same (class_of b) k ≡ true → stop k (p ++ b ∷ rest) ≡ length p
stop-at k [] b rest n s = cond-true _ _ _ s
stop-at k (x ∷ p) b rest n s =
    let h = and_parts (not (same (class_of x) k)) (none_of k p) n in
    cond-false _ _ _ (not-true (same (class_of x) k) h.0) ∙ ap suc (stop-at k p b rest h.1 s)

-- a part that a byte of class k closes comes first
pub cut-part : (k : Class) (p : List ℕ) (b : ℕ) (rest : List ℕ) → none_of k p ≡ true → same (class_of b) k ≡ true → cut k (p ++ b ∷ rest) ≡ more p (cut k rest)
cut-part k [] b rest n s = cond-true _ _ _ s
cut-part k (x ∷ p) b rest n s =
    let h = and_parts (not (same (class_of x) k)) (none_of k p) n in
    cond-false _ _ _ (not-true (same (class_of x) k) h.0) ∙ ap (λ (c : Parts). widen x c.closed c.tail) (cut-part k p b rest h.1 s)

pub cut-none : (k : Class) (p : List ℕ) → none_of k p ≡ true → cut k p ≡ record { closed = []; tail = p }
cut-none k [] n = refl
cut-none k (x ∷ p) n =
    let h = and_parts (not (same (class_of x) k)) (none_of k p) n in
    cond-false _ _ _ (not-true (same (class_of x) k) h.0) ∙ ap (λ (c : Parts). widen x c.closed c.tail) (cut-none k p h.1)

-- each part closed by b, and a tail
abbrev pub joined : ℕ → List (List ℕ) → List ℕ → List ℕ
joined b [] t = t
joined b (p ∷ ps) t = p ++ b ∷ joined b ps t

joined-widen : (b c : ℕ) (ps : List (List ℕ)) (t : List ℕ) → joined b (widen c ps t).closed (widen c ps t).tail ≡ c ∷ joined b ps t
joined-widen b c [] t = refl
joined-widen b c (p ∷ ps) t = refl

-- a text is its parts joined, where b is the one byte of class k
pub joined-cut : (k : Class) (b : ℕ) → ((c : ℕ) → same (class_of c) k ≡ true → c ≡ b) → (text : List ℕ) → joined b (cut k text).closed (cut k text).tail ≡ text
joined-cut k b only [] = refl
joined-cut k b only (c ∷ cs) =
    elim (cases_Bool (same (class_of c) k)) [
      | inl e ↦ ap (λ (x : Parts). joined b x.closed x.tail) (cond-true _ _ _ e) ∙ (λ i. sym (only c e) i ∷ joined-cut k b only cs i)
      | inr e ↦
          ap (λ (x : Parts). joined b x.closed x.tail) (cond-false _ _ _ e)
          ∙ joined-widen b c (cut k cs).closed (cut k cs).tail ∙ ap (λ xs. c ∷ xs) (joined-cut k b only cs)
    ]

other : (c k : Class) → in_names c ≡ true → in_names k ≡ false → same c k ≡ true → ⊥
other c k m n t = both_ways (in_names k) n (ap in_names (sym (same-eq c k t)) ∙ m)

-- a test that the class does not come from, and one that it comes from
on : (t : Bool) (x y k : Class) → (same x k ≡ true → ⊥) → same (cond t x y) k ≡ true → same y k ≡ true
on true x y k n e = absurd (n e)
on false x y k n e = e

here : (t : Bool) (x y k : Class) → (same y k ≡ true → ⊥) → same (cond t x y) k ≡ true → t ≡ true
here true x y k n e = refl
here false x y k n e = absurd (n e)

past : (b : ℕ) (k : Class) → in_names k ≡ false → same (class_of b) k ≡ true → same (cond (eqb b 9) Tab (cond (eqb b 10) Feed Other)) k ≡ true
past b k n e =
    on (eqb b 95) Underscore _ k (other Underscore k refl n)
    (on (within 48 57 b) Digit _ k (other Digit k refl n) (on (within 97 122 b) Letter _ k (other Letter k refl n) e))

-- the one tab and the one line feed
pub tab-is : (b : ℕ) → same (class_of b) Tab ≡ true → b ≡ 9
tab-is b e = eqb-true b 9 (here (eqb b 9) Tab _ Tab (λ f. false≢true (on (eqb b 10) Feed Other Tab false≢true f)) (past b Tab refl e))

pub feed-is : (b : ℕ) → same (class_of b) Feed ≡ true → b ≡ 10
feed-is b e = eqb-true b 10 (here (eqb b 10) Feed Other Feed false≢true (on (eqb b 9) Tab _ Feed false≢true (past b Feed refl e)))

-- a name has no byte of a class that is not a name's
pub name-free : (k : Class) (s : List ℕ) → in_names k ≡ false → all_in_names s ≡ true → none_of k s ≡ true
name-free k [] n e = refl
name-free k (b ∷ s) n e =
    let h = and_parts (in_names (class_of b)) (all_in_names s) e in
    and_from _ _ (not_from_false _ (elim (cases_Bool (same (class_of b) k)) [ inl t ↦ absurd (other (class_of b) k h.0 n t) | inr t ↦ t ])) (name-free k s n h.1)
