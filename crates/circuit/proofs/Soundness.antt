-- What a text is read as is well formed.
use Rattle.std.proofs.Common.{◌≡◌, ℕ, zero, suc, ◌+◌, ◌<◌, ◌≤◌, Bool, true, false, cond, ◌&&◌, ltb, List, [], ◌∷◌, ◌++◌, length, get_or, is_some, is_err, Some, None, Ok, Err, Option, Result, sym, refl, ap, ◌∙◌, subst, inl, inr, arith}
use Rattle.std.specs.Str.{bytes_eq}
use Rattle.std.proofs.lemmas.List.{length_push, get_or_append_left, get_or_push}
use Rattle.std.proofs.lemmas.Slice.Eq.{bytes_eq-Decides}
use Rattle.std.proofs.lemmas.Bool.{cases_lt, and_from, and_parts, lt-ltb, ltb-true, ltb-false, eqb-false, cases_Bool, cond-true, cond-false, false≢true}
use Rattle.circuit.specs.declared.nets.Net.{Net}
use Rattle.circuit.specs.declared.nets.NetKind.{NetKind}
use Rattle.circuit.specs.declared.nets.NetKind.TheVariants.{Input, Latch, And, Xor, Not}
use Rattle.circuit.specs.declared.fault.Refusal.{Refusal}
use Rattle.circuit.specs.declared.fault.Refusal.TheVariants.{TooManyLines, LineOpen}
use Rattle.circuit.specs.declared.nets.Start.{Start}
use Rattle.text.specs.declared.class.Class.TheVariants.{Feed}
use Rattle.text.specs.Cut.{cut}
use Rattle.text.specs.Name.{is_name}
use Rattle.circuit.specs.Judge.{Drafted, done, waits, Kept, start_of, started, pair, gate, inverse, fitted, under, judged_row, judged, names_good}
use Rattle.circuit.specs.Names.{place_from, GoodNames}
use Rattle.circuit.specs.Faults.{fault}
use Rattle.circuit.specs.Runs.{kind, placed, WellFormed}
use Rattle.circuit.specs.Reading.{State, nothing, grown, added, full, taken, closing, gather, gathered, and_then, latched, settled, resolve, Named, named, reading, outcome}
use Rattle.circuit.specs.Record.{Said, input, latch, and, xor, not, Line, row_of}
use Rattle.circuit.proofs.Places.{no-some, place-back}

-- the net with number i among n, where it may stand
abbrev pub sits : ℕ → ℕ → NetKind → Bool
sits i n k = placed k i n

-- the nets of the list, the first of which has the number i
abbrev pub all_sit : ℕ → ℕ → List NetKind → Bool
all_sit i n [] = true
all_sit i n (k ∷ ks) = sits i n k && all_sit (suc i) n ks

pub no-ok : {A E : Type 0} (e : E) (x : A) → ◌≡◌ {A = Result A E} (Err e) (Ok x) → ⊥
no-ok e x p = let z : ◌≡◌ {A = ℕ} 0 1 = cc in omega arith

pub same-ok : {A E : Type 0} (x y : A) → ◌≡◌ {A = Result A E} (Ok x) (Ok y) → x ≡ y
same-ok x y p = cc

-- a sequence that ends well went well in both parts
pub then-ok : {A B E : Type 0} (r : Result A E) (f : A → Result B E) (y : B) → and_then r f ≡ Ok y → (x : A) × (r ≡ Ok x) × (f x ≡ Ok y)
then-ok (Ok x) f y p = (x, refl, p)
then-ok (Err e) f y p = absurd (no-ok e y p)

-- a name that is found stands among the names
pub found-below : (i : ℕ) (n : List ℕ) (ms : List (List ℕ)) (x : Net) → place_from i n ms ≡ Some x → x.0 < i + length ms
found-below i n ms x p = let r = place-back i ms n x p in omega (arith, r.1, r.2)

-- a draft with number i: a gate's operands stand before it
abbrev pub draft_sits : ℕ → Drafted → Bool
draft_sits i (done k) = sits i 0 k
draft_sits i (waits a s) = true

abbrev pub all_draft : ℕ → List Drafted → Bool
all_draft i [] = true
all_draft i (d ∷ ds) = draft_sits i d && all_draft (suc i) ds

gate-sits : (K : Net → Net → NetKind) (n : ℕ) → ((x y : Net) → x.0 < n → y.0 < n → sits n 0 (K x y) ≡ true) → (o p : Option Net) → ((x : Net) → o ≡ Some x → x.0 < n) → ((y : Net) → p ≡ Some y → y.0 < n) → (d : Drafted) → gate K (pair o p) ≡ Ok d → draft_sits n d ≡ true
gate-sits K n each None p f g d q = absurd (no-ok _ d q)
gate-sits K n each (Some x) None f g d q = absurd (no-ok _ d q)
gate-sits K n each (Some x) (Some y) f g d q = subst (λ (e : Drafted). draft_sits n e ≡ true) (same-ok _ d q) (each x y (f x refl) (g y refl))

inverse-sits : (n : ℕ) (o : Option Net) → ((x : Net) → o ≡ Some x → x.0 < n) → (d : Drafted) → inverse o ≡ Ok d → draft_sits n d ≡ true
inverse-sits n None f d q = absurd (no-ok _ d q)
inverse-sits n (Some x) f d q = subst (λ (e : Drafted). draft_sits n e ≡ true) (same-ok _ d q) (lt-ltb x.0 n (f x refl))

started-sits : (n : ℕ) (a : List ℕ) (o : Option Start) (d : Drafted) → started a o ≡ Ok d → draft_sits n d ≡ true
started-sits n a None d q = absurd (no-ok _ d q)
started-sits n a (Some s) d q = subst (λ (e : Drafted). draft_sits n e ≡ true) (same-ok _ d q) refl

known : (ns : List (List ℕ)) (a : List ℕ) (x : Net) → place_from 0 a ns ≡ Some x → x.0 < length ns
known ns a x e = omega (arith, found-below 0 a ns x e)

two : (n : ℕ) (x y : Net) → x.0 < n → y.0 < n → (ltb x.0 n && ltb y.0 n) ≡ true
two n x y h k = and_from _ _ (lt-ltb x.0 n h) (lt-ltb y.0 n k)

fitted-sits : (ns : List (List ℕ)) (s : Said) (d : Drafted) → fitted ns s ≡ Ok d → draft_sits (length ns) d ≡ true
fitted-sits ns input d q = subst (λ (e : Drafted). draft_sits (length ns) e ≡ true) (same-ok _ d q) refl
fitted-sits ns (latch a s) d q = started-sits (length ns) a (start_of s) d q
fitted-sits ns (and a b) d q = gate-sits And (length ns) (two (length ns)) (place_from 0 a ns) (place_from 0 b ns) (known ns a) (known ns b) d q
fitted-sits ns (xor a b) d q = gate-sits Xor (length ns) (two (length ns)) (place_from 0 a ns) (place_from 0 b ns) (known ns a) (known ns b) d q
fitted-sits ns (not a) d q = inverse-sits (length ns) (place_from 0 a ns) (known ns a) d q

-- lists grow at their end
draft-push : (i : ℕ) (ds : List Drafted) (d : Drafted) → all_draft i ds ≡ true → draft_sits (i + length ds) d ≡ true → all_draft i (ds ++ d ∷ []) ≡ true
draft-push i [] d h k = and_from (draft_sits i d) true (subst (λ (j : ℕ). draft_sits j d ≡ true) (omega arith) k) refl
draft-push i (c ∷ ds) d h k =
    let p = and_parts (draft_sits i c) (all_draft (suc i) ds) h in
    and_from (draft_sits i c) _ p.0 (draft-push (suc i) ds d p.1 (subst (λ (j : ℕ). draft_sits j d ≡ true) (omega arith) k))

sit-push : (i n : ℕ) (ks : List NetKind) (k : NetKind) → all_sit i n ks ≡ true → sits (i + length ks) n k ≡ true → all_sit i n (ks ++ k ∷ []) ≡ true
sit-push i n [] k h s = and_from (sits i n k) true (subst (λ (j : ℕ). sits j n k ≡ true) (omega arith) s) refl
sit-push i n (c ∷ ks) k h s =
    let p = and_parts (sits i n c) (all_sit (suc i) n ks) h in
    and_from (sits i n c) _ p.0 (sit-push (suc i) n ks k p.1 (subst (λ (j : ℕ). sits j n k ≡ true) (omega arith) s))

-- a name that is not found is not among the names
absent : (i : ℕ) (m : List ℕ) (ns : List (List ℕ)) → place_from i m ns ≡ None → (k : ℕ) → k < length ns → get_or ns k [] ≡ m → ⊥
absent i m [] e k h q = omega arith
absent i m (n ∷ ns) e zero h q = no-some _ (sym e ∙ cond-true _ _ _ ((bytes_eq-Decides n m).1 q))
absent i m (n ∷ ns) e (suc k) h q =
    elim (cases_Bool (bytes_eq n m)) [
      | inl t ↦ no-some _ (sym e ∙ cond-true _ _ _ t)
      | inr t ↦ absent (suc i) m ns (sym (cond-false _ _ _ t) ∙ e) k (omega arith) q
    ]

module _ (ns : List (List ℕ)) (m : List ℕ) (g : GoodNames ns) (good : is_name m ≡ true) (new : place_from 0 m ns ≡ None) where
  before : (i : ℕ) → i < length ns → get_or (ns ++ m ∷ []) i [] ≡ get_or ns i []
  before i h = get_or_append_left ns (m ∷ []) [] i h

  end : (i : ℕ) → length ns ≤ i → i < length (ns ++ m ∷ []) → get_or (ns ++ m ∷ []) i [] ≡ m
  end i h l = get_or_push ns m [] i (omega (arith, length_push ns m))

  pub names-push : GoodNames (ns ++ m ∷ [])
  names-push = record {
    each = λ i h. elim (cases_lt i (length ns)) [
      | inl l ↦ ap is_name (before i l) ∙ g.each i l
      | inr l ↦ ap is_name (end i l h) ∙ good
    ];
    apart = λ i j l h e. elim (cases_lt j (length ns)) [
      | inl k ↦ g.apart i j l k (sym (before i (omega arith)) ∙ e ∙ before j k)
      | inr k ↦ absent 0 m ns new i (omega (arith, length_push ns m)) (sym (before i (omega (arith, length_push ns m))) ∙ e ∙ end j k h)
    ];
  }

not-found : (o : Option Net) → is_some o ≡ false → o ≡ None
not-found None e = refl
not-found (Some x) e = absurd (false≢true (sym e))

under-ok : (n : List ℕ) (r : Result Drafted Refusal) (k : Kept) → under n r ≡ Ok k → (r ≡ Ok k.draft) × (n ≡ k.name)
under-ok n (Ok d) k q = let is = same-ok _ k q in (ap (λ (x : Kept). Ok x.draft) is, ap (λ (x : Kept). x.name) is)
under-ok n (Err e) k q = absurd (no-ok e k q)

-- a line that is kept: its name is good and new, and its net fits
pub judged-ok : (ns : List (List ℕ)) (o : Option Line) (k : Kept) → judged_row ns o ≡ Ok k → (l : Line) × (o ≡ Some l) × (l.name ≡ k.name) × (fitted ns l.said ≡ Ok k.draft) × (is_name k.name ≡ true) × (place_from 0 k.name ns ≡ None)
judged-ok ns None k q = absurd (no-ok _ k q)
judged-ok ns (Some l) k q =
    elim (cases_Bool (names_good l.name l.said)) [
      | inr e ↦ absurd (no-ok _ k (sym (cond-false _ _ _ e) ∙ q))
      | inl e ↦
          let p = sym (cond-true _ _ _ e) ∙ q in
          elim (cases_Bool (is_some (place_from 0 l.name ns))) [
            | inl f ↦ absurd (no-ok _ k (sym (cond-true _ _ _ f) ∙ p))
            | inr f ↦
                let is = under-ok l.name (fitted ns l.said) k (sym (cond-false _ _ _ f) ∙ p) in
                (l, refl, is.1, is.0, ap is_name (sym is.1) ∙ (and_parts (is_name l.name) _ e).0, ap (λ n. place_from 0 n ns) (sym is.1) ∙ not-found _ f)
          ]
    ]

pub record Good (s : State) : Type 0 where
  pub names : GoodNames s.names
  pub level : length s.names ≡ length s.drafts
  pub few : length s.names ≤ 256
  pub sit : all_draft 0 s.drafts ≡ true

added-ok : (s : State) (r : Result Kept Refusal) (n : State) → added s r ≡ Ok n → (k : Kept) × (r ≡ Ok k) × (grown s k ≡ n)
added-ok s (Ok k) n q = (k, refl, same-ok _ n q)
added-ok s (Err e) n q = absurd (no-ok _ n q)

-- a line that is taken: there is room, and it is kept
pub taken-ok : (s : State) (l : List ℕ) (n : State) → taken s l ≡ Ok n → (k : Kept) × (judged s.names l ≡ Ok k) × (grown s k ≡ n) × (length s.names ≡ 256 → ⊥)
taken-ok s l n q =
    elim (cases_Bool (full s)) [
      | inl e ↦ absurd (no-ok _ n (sym (cond-true (full s) _ _ e) ∙ q))
      | inr e ↦ let a = added-ok s (judged s.names l) n (sym (cond-false (full s) _ _ e) ∙ q) in (a.0, a.1, a.2, eqb-false (length s.names) 256 e)
    ]

taken-good : (s : State) (l : List ℕ) (n : State) → Good s → taken s l ≡ Ok n → Good n
taken-good s l n g q =
    let a = taken-ok s l n q in
    let j = judged-ok s.names (row_of l) a.0 a.1 in
    let below : length s.names < 256 = omega (arith, g.few, a.3) in
    subst Good a.2 (record {
      names = names-push s.names a.0.name g.names j.4 j.5;
      level = length_push s.names a.0.name ∙ ap (λ m. m + 1) g.level ∙ sym (length_push s.drafts a.0.draft);
      few = omega (arith, length_push s.names a.0.name, below);
      sit = draft-push 0 s.drafts a.0.draft g.sit (subst (λ (m : ℕ). draft_sits m a.0.draft ≡ true) (omega (arith, g.level)) (fitted-sits s.names j.0.said a.0.draft j.3));
    })

closing-good : (s : State) (t : List ℕ) (n : State) → Good s → closing s t ≡ Ok n → Good n
closing-good s [] n g q = subst Good (same-ok s n q) g
closing-good s (b ∷ bs) n g q =
    (elim (full s) as (λ v. cond v (Err (fault TooManyLines (length s.names + 1))) (Err (fault LineOpen (length s.names + 1))) ≡ Ok n → Good n) [ true ↦ λ p. absurd (no-ok _ n p) | false ↦ λ p. absurd (no-ok _ n p) ]) q

gather-good : (s : State) (ls : List (List ℕ)) (t : List ℕ) (n : State) → Good s → gather s ls t ≡ Ok n → Good n
gather-good s [] t n g q = closing-good s t n g q
gather-good s (l ∷ ls) t n g q =
    let p = then-ok (taken s l) (λ m. gather m ls t) n q in
    gather-good p.0 ls t n (taken-good s l p.0 g p.1) p.2

latched-sits : (i m n : ℕ) (s : Start) (o : Option Net) → ((x : Net) → o ≡ Some x → x.0 < n) → (k : NetKind) → latched m s o ≡ Ok k → sits i n k ≡ true
latched-sits i m n s None f k q = absurd (no-ok _ k q)
latched-sits i m n s (Some x) f k q = subst (λ (e : NetKind). sits i n e ≡ true) (same-ok _ k q) (lt-ltb x.0 n (f x refl))

sits-wider : (i n : ℕ) (k : NetKind) → sits i 0 k ≡ true → sits i n k ≡ true
sits-wider i n Input h = refl
sits-wider i n (Latch x s) h = absurd (omega (arith, ltb-true x.0 0 h))
sits-wider i n (And a b) h = h
sits-wider i n (Xor a b) h = h
sits-wider i n (Not a) h = h

settled-sits : (ns : List (List ℕ)) (i m : ℕ) (d : Drafted) (k : NetKind) → draft_sits i d ≡ true → settled ns m d ≡ Ok k → sits i (length ns) k ≡ true
settled-sits ns i m (done j) k h q = subst (λ (e : NetKind). sits i (length ns) e ≡ true) (same-ok j k q) (sits-wider i (length ns) j h)
settled-sits ns i m (waits a s) k h q = latched-sits i m (length ns) s (place_from 0 a ns) (known ns a) k q

resolve-good : (ns : List (List ℕ)) (ks : List NetKind) (ds : List Drafted) (js : List NetKind) → all_sit 0 (length ns) ks ≡ true → all_draft (length ks) ds ≡ true → length ks + length ds ≡ length ns → resolve ns ks ds ≡ Ok js → (all_sit 0 (length ns) js ≡ true) × (length js ≡ length ns)
resolve-good ns ks [] js h d e q = let same = same-ok ks js q in (subst (λ (xs : List NetKind). all_sit 0 (length ns) xs ≡ true) same h, sym (ap length same) ∙ omega (arith, e))
resolve-good ns ks (c ∷ ds) js h d e q =
    let p = then-ok (settled ns (length ks + 1) c) (λ k. resolve ns (ks ++ k ∷ []) ds) js q in
    let parts = and_parts (draft_sits (length ks) c) (all_draft (suc (length ks)) ds) d in
    let sat = settled-sits ns (length ks) (length ks + 1) c p.0 parts.0 p.1 in
    let longer = length_push ks p.0 in
    let next : suc (length ks) ≡ length (ks ++ p.0 ∷ []) = omega (arith, longer) in
    resolve-good ns (ks ++ p.0 ∷ []) ds js
    (sit-push 0 (length ns) ks p.0 h (subst (λ (j : ℕ). sits j (length ns) p.0 ≡ true) (omega arith) sat))
    (subst (λ (j : ℕ). all_draft j ds ≡ true) next parts.1)
    (omega (arith, e, longer))
    p.2

-- each net of the list sits
sits-from : (i n : ℕ) (ks : List NetKind) (k : ℕ) (d : NetKind) → all_sit i n ks ≡ true → k < length ks → sits (i + k) n (get_or ks k d) ≡ true
sits-from i n [] k d h l = absurd (omega arith)
sits-from i n (c ∷ ks) zero d h l = subst (λ (j : ℕ). sits j n c ≡ true) (omega arith) (and_parts (sits i n c) (all_sit (suc i) n ks) h).0
sits-from i n (c ∷ ks) (suc k) d h l =
    subst (λ (j : ℕ). sits j n (get_or ks k d) ≡ true) (omega arith) (sits-from (suc i) n ks k d (and_parts (sits i n c) (all_sit (suc i) n ks) h).1 (omega arith))

start-good : Good nothing
start-good = record { names = record { each = λ i h. absurd (omega arith); apart = λ i j l h e. absurd (omega arith) }; level = refl; few = omega arith; sit = refl }

-- what is gathered and resolved: good names, as many nets, each where it may stand
pub record Sound (ns : List (List ℕ)) (ks : List NetKind) : Type 0 where
  pub names : GoodNames ns
  pub formed : WellFormed ks
  pub level : length ks ≡ length ns
  pub few : length ks ≤ 256

sound : (text : List ℕ) (s : State) (ks : List NetKind) → gathered nothing text ≡ Ok s → resolve s.names [] s.drafts ≡ Ok ks → Sound s.names ks
sound text s ks g r =
    let good = gather-good nothing (cut Feed text).closed (cut Feed text).tail s start-good g in
    let p = resolve-good s.names [] s.drafts ks refl good.sit (omega (arith, good.level)) r in
    let sat = subst (λ (n : ℕ). all_sit 0 n ks ≡ true) (sym p.1) p.0 in
    record {
      names = good.names;
      formed = λ n h. subst (λ (j : ℕ). sits j (length ks) (kind ks n) ≡ true) (omega arith) (sits-from 0 (length ks) ks n Input sat h);
      level = p.1;
      few = omega (arith, good.few, p.1);
    }

-- a text that is read: it is short enough, its lines are gathered, and their nexts are found
pub reading-ok : (text : List ℕ) (x : Named) → reading text ≡ Ok x → (s : State) × (ks : List NetKind) × (length text ≤ 16384) × (gathered nothing text ≡ Ok s) × (resolve s.names [] s.drafts ≡ Ok ks) × (named s.names ks ≡ x)
reading-ok text x q =
    elim (cases_Bool (ltb 16384 (length text))) [
      | inl e ↦ absurd (no-ok _ x (sym (cond-true _ _ _ e) ∙ q))
      | inr e ↦
          let p = then-ok (gathered nothing text) (λ s. and_then (resolve s.names [] s.drafts) (λ ks. Ok (named s.names ks))) x (sym (cond-false _ _ _ e) ∙ q) in
          let r = then-ok (resolve p.0.names [] p.0.drafts) (λ ks. Ok (named p.0.names ks)) x p.2 in
          (p.0, r.0, ltb-false 16384 (length text) e, p.1, r.1, same-ok _ x r.2)
    ]

pub reading-sound : (text : List ℕ) (x : Named) → reading text ≡ Ok x → Sound x.names x.nets
reading-sound text x q =
    let p = reading-ok text x q in
    subst (λ (y : Named). Sound y.names y.nets) p.5 (sound text p.0 p.1 p.3 p.4)

-- a call that did not fail
pub ok-outcome : {A U E : Type 0} (r : Result U E) (x : A) → false ≡ is_err r → outcome r x ≡ Ok x
ok-outcome (Ok u) x e = refl
ok-outcome (Err f) x e = absurd (false≢true e)
