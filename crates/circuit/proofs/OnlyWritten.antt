-- Only what writing gives is read.
use Rattle.std.proofs.Common.{◌≡◌, ℕ, suc, ◌+◌, ◌<◌, ◌≤◌, cond, eqb, List, [], ◌∷◌, ◌++◌, length, get_or, Some, None, Ok, Option, sym, refl, ap, ◌∙◌, subst, inl, inr, arith}
use Rattle.std.proofs.lemmas.List.{append-nil, append_assoc, get_or-append-add, length_push}
use Rattle.std.proofs.lemmas.Bool.{cases_Bool, eqb-true, cond-true, cond-false}
use Rattle.text.specs.declared.class.Class.TheVariants.{Tab, Feed}
use Rattle.text.specs.Cut.{cut}
use Rattle.text.proofs.Joins.{joined, joined-cut, tab-is, feed-is}
use Rattle.circuit.specs.declared.nets.Net.{Net}
use Rattle.circuit.specs.declared.nets.NetKind.{NetKind}
use Rattle.circuit.specs.declared.nets.NetKind.TheVariants.{Latch, And, Xor, Not}
use Rattle.circuit.specs.declared.nets.Start.{Start}
use Rattle.circuit.specs.declared.nets.Start.TheVariants.{Zero, One, Free}
use Rattle.circuit.specs.Judge.{Drafted, done, waits, Kept, start_of, started, pair, gate, inverse, fitted, judged}
use Rattle.circuit.specs.Names.{net, name_at, place_from}
use Rattle.circuit.specs.Reading.{State, nothing, full, taken, closing, gather, gathered, latched, settled, resolve, Named, reading}
use Rattle.circuit.specs.Record.{Said, input, latch, and, xor, not, Line, letter_of, row, row_of}
use Rattle.circuit.specs.Written.{start_byte, line_text, lines_from, circuit_text, IsCircuit}
use Rattle.circuit.proofs.Places.{no-some, same-some, place-name, place-name-more}
use Rattle.circuit.proofs.Soundness.{no-ok, same-ok, then-ok, judged-ok, taken-ok, reading-ok, reading-sound}

-- the text of a record
abbrev said_text : List ℕ → Said → List ℕ
said_text n input = 73 ∷ 9 ∷ n
said_text n (latch a s) = 76 ∷ 9 ∷ (n ++ 9 ∷ (a ++ 9 ∷ s))
said_text n (and a b) = 65 ∷ 9 ∷ (n ++ 9 ∷ (a ++ 9 ∷ b))
said_text n (xor a b) = 88 ∷ 9 ∷ (n ++ 9 ∷ (a ++ 9 ∷ b))
said_text n (not a) = 78 ∷ 9 ∷ (n ++ 9 ∷ a)

-- the line of a draft, where all are the names, and the lines of drafts
abbrev draft_text : List (List ℕ) → Drafted → List ℕ → List ℕ
draft_text all (done k) n = line_text all k n
draft_text all (waits a s) n = said_text n (latch a (start_byte s ∷ []))

abbrev drafts_from : List (List ℕ) → ℕ → List Drafted → List ℕ
drafts_from all i [] = []
drafts_from all i (d ∷ ds) = draft_text all d (name_at all (net i)) ++ 10 ∷ drafts_from all (suc i) ds

letter-is : (p : List ℕ) (c : ℕ) → 0 < c → letter_of p ≡ c → p ≡ c ∷ []
letter-is [] c h e = absurd (omega (arith, e))
letter-is (b ∷ []) c h e = ap (λ x. x ∷ []) e
letter-is (b ∷ d ∷ bs) c h e = absurd (omega (arith, e))

-- a choice by a field's letter
pick : {A : Type 0} (p : List ℕ) (c : ℕ) (a : A) (o : Option A) (r : A) (P : Type 0) → 0 < c → cond (eqb (letter_of p) c) (Some a) o ≡ Some r → (p ≡ c ∷ [] → a ≡ r → P) → (o ≡ Some r → P) → P
pick p c a o r P h q f g =
    elim (cases_Bool (eqb (letter_of p) c)) [
      | inl e ↦ f (letter-is p c h (eqb-true (letter_of p) c e)) (same-some a r (sym (cond-true _ _ _ e) ∙ q))
      | inr e ↦ g (sym (cond-false _ _ _ e) ∙ q)
    ]

start-back : (t : List ℕ) (s : Start) → start_of t ≡ Some s → t ≡ start_byte s ∷ []
start-back t s q =
    pick t 48 Zero _ s _ (omega arith) q (λ e is. e ∙ ap (λ x. start_byte x ∷ []) is)
    (λ q. pick t 49 One _ s _ (omega arith) q (λ e is. e ∙ ap (λ x. start_byte x ∷ []) is)
    (λ q. pick t 45 Free None s _ (omega arith) q (λ e is. e ∙ ap (λ x. start_byte x ∷ []) is) (λ q. absurd (no-some s q))))

-- a field and the rest of its line, by its letter
said-back : (p : List ℕ) (c : ℕ) (n : List ℕ) (s : Said) (r : Line) (rest : List ℕ) → said_text n s ≡ c ∷ rest → p ≡ c ∷ [] → ◌≡◌ {A = Line} (record { name = n; said = s }) r → p ++ rest ≡ said_text r.name r.said
said-back p c n s r rest t e is = ap (λ (x : List ℕ). x ++ rest) e ∙ sym t ∙ ap (λ (x : Line). said_text x.name x.said) is

row-back : (ps : List (List ℕ)) (t : List ℕ) (r : Line) → row ps t ≡ Some r → joined 9 ps t ≡ said_text r.name r.said
row-back [] t r q = absurd (no-some r q)
row-back (k ∷ []) t r q = pick k 73 _ None r _ (omega arith) q (said-back k 73 t input r _ refl) (λ q. absurd (no-some r q))
row-back (k ∷ n ∷ []) t r q = pick k 78 _ None r _ (omega arith) q (said-back k 78 n (not t) r _ refl) (λ q. absurd (no-some r q))
row-back (k ∷ n ∷ a ∷ []) t r q =
    pick k 76 _ _ r _ (omega arith) q (said-back k 76 n (latch a t) r _ refl)
    (λ q. pick k 65 _ _ r _ (omega arith) q (said-back k 65 n (and a t) r _ refl)
    (λ q. pick k 88 _ None r _ (omega arith) q (said-back k 88 n (xor a t) r _ refl) (λ q. absurd (no-some r q))))
row-back (k ∷ n ∷ a ∷ b ∷ cs) t r q = absurd (no-some r q)

started-back : (a : List ℕ) (o : Option Start) (d : Drafted) → started a o ≡ Ok d → (s : Start) × (o ≡ Some s) × (waits a s ≡ d)
started-back a None d q = absurd (no-ok _ d q)
started-back a (Some s) d q = (s, refl, same-ok _ d q)

gate-back : (K : Net → Net → NetKind) (o p : Option Net) (d : Drafted) → gate K (pair o p) ≡ Ok d → (x : Net) × (y : Net) × (o ≡ Some x) × (p ≡ Some y) × (done (K x y) ≡ d)
gate-back K None p d q = absurd (no-ok _ d q)
gate-back K (Some x) None d q = absurd (no-ok _ d q)
gate-back K (Some x) (Some y) d q = (x, y, refl, refl, same-ok _ d q)

inverse-back : (o : Option Net) (d : Drafted) → inverse o ≡ Ok d → (x : Net) × (o ≡ Some x) × (done (Not x) ≡ d)
inverse-back None d q = absurd (no-ok _ d q)
inverse-back (Some x) d q = (x, refl, same-ok _ d q)

latched-back : (m : ℕ) (s : Start) (o : Option Net) (k : NetKind) → latched m s o ≡ Ok k → (x : Net) × (o ≡ Some x) × (Latch x s ≡ k)
latched-back m s None k q = absurd (no-ok _ k q)
latched-back m s (Some x) k q = (x, refl, same-ok _ k q)

-- the names ns of the lines so far, and those that follow
module _ (ns more : List (List ℕ)) (n : List ℕ) where
  fitted-back : (s : Said) (d : Drafted) → fitted ns s ≡ Ok d → said_text n s ≡ draft_text (ns ++ more) d n
  fitted-back input d q = ap (λ (x : Drafted). draft_text (ns ++ more) x n) (same-ok _ d q)
  fitted-back (latch a t) d q =
      let p = started-back a (start_of t) d q in
      ap (λ (x : List ℕ). said_text n (latch a x)) (start-back t p.0 p.1) ∙ ap (λ (x : Drafted). draft_text (ns ++ more) x n) p.2
  fitted-back (and a b) d q =
      let p = gate-back And (place_from 0 a ns) (place_from 0 b ns) d q in
      (λ i. said_text n (and (sym (place-name-more ns more a p.0 p.2) i) (sym (place-name-more ns more b p.1 p.3) i))) ∙ ap (λ (x : Drafted). draft_text (ns ++ more) x n) p.4
  fitted-back (xor a b) d q =
      let p = gate-back Xor (place_from 0 a ns) (place_from 0 b ns) d q in
      (λ i. said_text n (xor (sym (place-name-more ns more a p.0 p.2) i) (sym (place-name-more ns more b p.1 p.3) i))) ∙ ap (λ (x : Drafted). draft_text (ns ++ more) x n) p.4
  fitted-back (not a) d q =
      let p = inverse-back (place_from 0 a ns) d q in
      ap (λ (x : List ℕ). said_text n (not x)) (sym (place-name-more ns more a p.0 p.1)) ∙ ap (λ (x : Drafted). draft_text (ns ++ more) x n) p.2

judged-back : (ns more : List (List ℕ)) (l : List ℕ) (k : Kept) → judged ns l ≡ Ok k → l ≡ draft_text (ns ++ more) k.draft k.name
judged-back ns more l k q =
    let j = judged-ok ns (row_of l) k q in
    sym (joined-cut Tab 9 tab-is l) ∙ row-back (cut Tab l).closed (cut Tab l).tail j.0 j.1
    ∙ ap (λ (n : List ℕ). said_text n j.0.said) j.2 ∙ fitted-back ns more k.name j.0.said k.draft j.3

closing-back : (s : State) (t : List ℕ) (n : State) → closing s t ≡ Ok n → (t ≡ []) × (s ≡ n)
closing-back s [] n q = (refl, same-ok s n q)
closing-back s (b ∷ bs) n q =
    elim (cases_Bool (full s)) [
      | inl e ↦ absurd (no-ok _ n (sym (cond-true _ _ _ e) ∙ q))
      | inr e ↦ absurd (no-ok _ n (sym (cond-false _ _ _ e) ∙ q))
    ]

-- the lines that are gathered are those of the drafts that they add
gather-back : (s : State) (ls : List (List ℕ)) (t : List ℕ) (n : State) → gather s ls t ≡ Ok n → (ns : List (List ℕ)) × (ds : List Drafted) × (n.names ≡ s.names ++ ns) × (n.drafts ≡ s.drafts ++ ds) × (joined 10 ls t ≡ drafts_from n.names (length s.names) ds)
gather-back s [] t n q =
    let p = closing-back s t n q in
    ([], [], ap (λ (x : State). x.names) (sym p.1) ∙ sym (append-nil s.names), ap (λ (x : State). x.drafts) (sym p.1) ∙ sym (append-nil s.drafts), p.0)
gather-back s (l ∷ ls) t n q =
    let p = then-ok (taken s l) (λ m. gather m ls t) n q in
    let a = taken-ok s l p.0 p.1 in
    let k = a.0 in
    let r = gather-back p.0 ls t n p.2 in
    let i = length s.names in
    let names-on : n.names ≡ s.names ++ k.name ∷ r.0 = r.2 ∙ ap (λ (x : State). x.names ++ r.0) (sym a.2) ∙ append_assoc s.names (k.name ∷ []) r.0 in
    let drafts-on : n.drafts ≡ s.drafts ++ k.draft ∷ r.1 = r.3 ∙ ap (λ (x : State). x.drafts ++ r.1) (sym a.2) ∙ append_assoc s.drafts (k.draft ∷ []) r.1 in
    let longer : length p.0.names ≡ suc i = ap (λ (x : State). length x.names) (sym a.2) ∙ length_push s.names k.name ∙ omega arith in
    let at : i ≡ i + 0 = omega arith in
    let this : k.name ≡ get_or n.names i [] = sym (ap (λ (m : ℕ). get_or n.names m []) at ∙ ap (λ (ms : List (List ℕ)). get_or ms (i + 0) []) names-on ∙ get_or-append-add s.names (k.name ∷ r.0) 0 []) in
    let first : l ≡ draft_text n.names k.draft (get_or n.names i []) = judged-back s.names (k.name ∷ r.0) l k a.1 ∙ (λ j. draft_text (sym names-on j) k.draft (this j)) in
    (k.name ∷ r.0, k.draft ∷ r.1, names-on, drafts-on, (λ j. first j ++ 10 ∷ (r.4 ∙ ap (λ (m : ℕ). drafts_from n.names m r.1) longer) j))

settled-back : (all : List (List ℕ)) (m : ℕ) (d : Drafted) (k : NetKind) (n : List ℕ) → settled all m d ≡ Ok k → draft_text all d n ≡ line_text all k n
settled-back all m (done j) k n q = ap (λ (x : NetKind). line_text all x n) (same-ok j k q)
settled-back all m (waits a s) k n q =
    let p = latched-back m s (place_from 0 a all) k q in
    ap (λ (x : List ℕ). said_text n (latch x (start_byte s ∷ []))) (sym (place-name all a p.0 p.1).0) ∙ ap (λ (x : NetKind). line_text all x n) p.2

-- the nets that drafts are resolved to have the same lines
resolve-back : (all : List (List ℕ)) (ks : List NetKind) (ds : List Drafted) (js : List NetKind) (i : ℕ) → resolve all ks ds ≡ Ok js → (ms : List NetKind) × (js ≡ ks ++ ms) × (drafts_from all i ds ≡ lines_from all i ms)
resolve-back all ks [] js i q = ([], sym (same-ok ks js q) ∙ sym (append-nil ks), refl)
resolve-back all ks (d ∷ ds) js i q =
    let p = then-ok (settled all (length ks + 1) d) (λ k. resolve all (ks ++ k ∷ []) ds) js q in
    let r = resolve-back all (ks ++ p.0 ∷ []) ds js (suc i) p.2 in
    (p.0 ∷ r.0, r.1 ∙ append_assoc ks (p.0 ∷ []) r.0, (λ j. settled-back all (length ks + 1) d p.0 (name_at all (net i)) p.1 j ++ 10 ∷ r.2 j))

written : (text : List ℕ) (s : State) (ks : List NetKind) → gathered nothing text ≡ Ok s → resolve s.names [] s.drafts ≡ Ok ks → text ≡ circuit_text s.names ks
written text s ks g r =
    let p = gather-back nothing (cut Feed text).closed (cut Feed text).tail s g in
    let q = resolve-back s.names [] s.drafts ks 0 r in
    sym (joined-cut Feed 10 feed-is text) ∙ p.4 ∙ ap (drafts_from s.names 0) (sym p.3) ∙ q.2 ∙ ap (lines_from s.names 0) (sym q.1)

pub only-written : (text : List ℕ) (x : Named) → reading text ≡ Ok x → IsCircuit x.names x.nets × (text ≡ circuit_text x.names x.nets)
only-written text x q =
    let p = reading-ok text x q in
    let is : text ≡ circuit_text x.names x.nets = written text p.0 p.1 p.3 p.4 ∙ ap (λ (y : Named). circuit_text y.names y.nets) p.5 in
    let sound = reading-sound text x q in (
      record {
        named = sound.names;
        level = sym sound.level;
        few = sound.few;
        formed = sound.formed;
        short = subst (λ (t : List ℕ). length t ≤ 16384) is p.2;
      },
      is,
    )
