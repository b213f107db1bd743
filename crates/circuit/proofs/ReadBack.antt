-- Reading undoes writing.
use Rattle.std.proofs.Common.{◌≡◌, ℕ, suc, ◌+◌, ◌<◌, ◌≤◌, true, false, ◌&&◌, ltb, List, [], ◌∷◌, ◌++◌, map, length, get_or, is_some, Some, None, Ok, sym, refl, ap, ◌∙◌, subst, arith, length-append}
use Rattle.std.proofs.lemmas.List.{append-nil, append_assoc, get_or_append_left, get_or-append-add, length_push}
use Rattle.std.proofs.lemmas.Bool.{and_from, and_parts, ltb-true, le-ltb, ne_eqb, cond-true, cond-false}
use Rattle.text.specs.declared.class.Class.{Class}
use Rattle.text.specs.declared.class.Class.TheVariants.{Tab, Feed}
use Rattle.text.specs.Cut.{Parts, more, cut}
use Rattle.text.specs.Name.{in_names, all_in_names, is_name}
use Rattle.text.proofs.Joins.{none_of, none-append, cut-part, cut-none, name-free}
use Rattle.circuit.specs.declared.nets.Net.{Net}
use Rattle.circuit.specs.declared.nets.NetKind.{NetKind}
use Rattle.circuit.specs.declared.nets.NetKind.TheVariants.{Input, Latch, And, Xor, Not}
use Rattle.circuit.specs.declared.nets.Start.{Start}
use Rattle.circuit.specs.declared.nets.Start.TheVariants.{Zero, One, Free}
use Rattle.circuit.specs.Judge.{Drafted, done, waits, Kept, start_of, started, pair, gate, inverse, fitted, under, judged_row, judged, others_good}
use Rattle.circuit.specs.Names.{name_at, place_from, GoodNames}
use Rattle.circuit.specs.Reading.{State, nothing, grown, added, full, gather, gathered, and_then, latched, settled, resolve, named, reading}
use Rattle.circuit.specs.Record.{Said, input, latch, and, xor, not, line, row, row_of}
use Rattle.circuit.specs.Runs.{kind, placed}
use Rattle.circuit.specs.Written.{start_byte, line_text, lines_from, circuit_text, IsCircuit}
use Rattle.circuit.proofs.Places.{place-none, name-place}
use Rattle.circuit.proofs.Soundness.{sits, all_sit}

-- what a net's line says, and the draft that it gives
abbrev said_of : List (List ℕ) → NetKind → Said
said_of names Input = input
said_of names (Latch q s) = latch (name_at names q) (start_byte s ∷ [])
said_of names (And a b) = and (name_at names a) (name_at names b)
said_of names (Xor a b) = xor (name_at names a) (name_at names b)
said_of names (Not a) = not (name_at names a)

abbrev draft_of : List (List ℕ) → NetKind → Drafted
draft_of names Input = done Input
draft_of names (Latch q s) = waits (name_at names q) s
draft_of names (And a b) = done (And a b)
draft_of names (Xor a b) = done (Xor a b)
draft_of names (Not a) = done (Not a)

start-there : (s : Start) → start_of (start_byte s ∷ []) ≡ Some s
start-there Zero = refl
start-there One = refl
start-there Free = refl

start-free : (s : Start) → (none_of Tab (start_byte s ∷ []) ≡ true) × (none_of Feed (start_byte s ∷ []) ≡ true)
start-free Zero = (refl, refl)
start-free One = (refl, refl)
start-free Free = (refl, refl)

-- every net that the net is worked out from is below N
abbrev Below : ℕ → NetKind → Type 0
Below N Input = Unit {0}
Below N (Latch q s) = q.0 < N
Below N (And a b) = (a.0 < N) × (b.0 < N)
Below N (Xor a b) = (a.0 < N) × (b.0 < N)
Below N (Not a) = a.0 < N

both-below : (i N : ℕ) (a b : Net) → i ≤ N → (ltb a.0 i && ltb b.0 i) ≡ true → (a.0 < N) × (b.0 < N)
both-below i N a b l p =
    let h = and_parts (ltb a.0 i) (ltb b.0 i) p in
    (omega (arith, ltb-true a.0 i h.0), omega (arith, ltb-true b.0 i h.1))

below : (i N : ℕ) (k : NetKind) → i ≤ N → placed k i N ≡ true → Below N k
below i N Input l p = tt
below i N (Latch q s) l p = ltb-true q.0 N p
below i N (And a b) l p = both-below i N a b l p
below i N (Xor a b) l p = both-below i N a b l p
below i N (Not a) l p = omega (arith, ltb-true a.0 i p)

two : (n a : List ℕ) → none_of Tab n ≡ true → none_of Tab a ≡ true → cut Tab (n ++ 9 ∷ a) ≡ record { closed = n ∷ []; tail = a }
two n a f g = cut-part Tab n 9 a f refl ∙ ap (more n) (cut-none Tab a g)

three : (n a b : List ℕ) → none_of Tab n ≡ true → none_of Tab a ≡ true → none_of Tab b ≡ true → cut Tab (n ++ 9 ∷ (a ++ 9 ∷ b)) ≡ record { closed = n ∷ a ∷ []; tail = b }
three n a b f g h = cut-part Tab n 9 (a ++ 9 ∷ b) f refl ∙ ap (more n) (two a b g h)

-- the fields of a line that begins with the letter k
fields : (k : ℕ) (c d : Parts) → c ≡ d → row ((k ∷ []) ∷ c.closed) c.tail ≡ row ((k ∷ []) ∷ d.closed) d.tail
fields k c d e = ap (λ (x : Parts). row ((k ∷ []) ∷ x.closed) x.tail) e

module _ (names : List (List ℕ)) (g : GoodNames names) where
  free : (k : Class) → in_names k ≡ false → (x : ℕ) → x < length names → none_of k (get_or names x []) ≡ true
  free k n x h = name-free k (get_or names x []) n (and_parts _ (all_in_names (get_or names x [])) (g.each x h)).1

  row-there : (n : List ℕ) → none_of Tab n ≡ true → (k : NetKind) → Below (length names) k → row_of (line_text names k n) ≡ line n (said_of names k)
  row-there n f Input h = fields 73 _ _ (cut-none Tab n f)
  row-there n f (Latch q s) h = fields 76 _ _ (three n _ _ f (free Tab refl q.0 h) (start-free s).0)
  row-there n f (And a b) h = fields 65 _ _ (three n _ _ f (free Tab refl a.0 h.0) (free Tab refl b.0 h.1))
  row-there n f (Xor a b) h = fields 88 _ _ (three n _ _ f (free Tab refl a.0 h.0) (free Tab refl b.0 h.1))
  row-there n f (Not a) h = fields 78 _ _ (two n _ f (free Tab refl a.0 h))

  line-free : (n : List ℕ) → none_of Feed n ≡ true → (k : NetKind) → Below (length names) k → none_of Feed (line_text names k n) ≡ true
  line-free n f Input h = f
  line-free n f (Latch q s) h = none-append Feed n _ f (none-append Feed (name_at names q) (9 ∷ start_byte s ∷ []) (free Feed refl q.0 h) (start-free s).1)
  line-free n f (And a b) h = none-append Feed n _ f (none-append Feed (name_at names a) (9 ∷ name_at names b) (free Feed refl a.0 h.0) (free Feed refl b.0 h.1))
  line-free n f (Xor a b) h = none-append Feed n _ f (none-append Feed (name_at names a) (9 ∷ name_at names b) (free Feed refl a.0 h.0) (free Feed refl b.0 h.1))
  line-free n f (Not a) h = none-append Feed n (9 ∷ name_at names a) f (free Feed refl a.0 h)

  others-there : (k : NetKind) → Below (length names) k → others_good (said_of names k) ≡ true
  others-there Input h = refl
  others-there (Latch q s) h = g.each q.0 h
  others-there (And a b) h = and_from _ _ (g.each a.0 h.0) (g.each b.0 h.1)
  others-there (Xor a b) h = and_from _ _ (g.each a.0 h.0) (g.each b.0 h.1)
  others-there (Not a) h = g.each a.0 h

  -- the names ns of the lines so far
  module _ (ns more : List (List ℕ)) (is : names ≡ ns ++ more) where
    all : length names ≡ length ns + length more
    all = ap length is ∙ length-append ns more

    old : (x : ℕ) → x < length ns → get_or names x [] ≡ get_or ns x []
    old x h = ap (λ (ms : List (List ℕ)). get_or ms x []) is ∙ get_or_append_left ns more [] x h

    front : GoodNames ns
    front = record {
      each = λ i h. ap is_name (sym (old i h)) ∙ g.each i (omega (arith, all));
      apart = λ i j l h e. g.apart i j l (omega (arith, all)) (old i (omega arith) ∙ e ∙ sym (old j h));
    }

    found : (x : Net) → x.0 < length ns → place_from 0 (name_at names x) ns ≡ Some x
    found x h = ap (λ n. place_from 0 n ns) (old x.0 h) ∙ name-place ns front x h

    new : length ns < length names → place_from 0 (get_or names (length ns) []) ns ≡ None
    new l = place-none 0 _ ns (λ j h q. g.apart j (length ns) h l (old j h ∙ q))

    fits : (k : NetKind) (N : ℕ) → placed k (length ns) N ≡ true → fitted ns (said_of names k) ≡ Ok (draft_of names k)
    fits Input N p = refl
    fits (Latch q s) N p = ap (started (name_at names q)) (start-there s)
    fits (And a b) N p = let h = both-below (length ns) (length ns) a b (omega arith) p in λ i. gate And (pair (found a h.0 i) (found b h.1 i))
    fits (Xor a b) N p = let h = both-below (length ns) (length ns) a b (omega arith) p in λ i. gate Xor (pair (found a h.0 i) (found b h.1 i))
    fits (Not a) N p = ap inverse (found a (ltb-true a.0 (length ns) p))

    -- the next line
    module _ (l : length ns < length names) (k : NetKind) (p : placed k (length ns) (length names) ≡ true) where
      low : Below (length names) k
      low = below (length ns) (length names) k (omega arith) p

      kept-there : judged ns (line_text names k (get_or names (length ns) [])) ≡ Ok (record { name = get_or names (length ns) []; draft = draft_of names k })
      kept-there =
          ap (judged_row ns) (row-there (get_or names (length ns) []) (free Tab refl (length ns) l) k low)
          ∙ cond-true _ _ _ (and_from _ _ (g.each (length ns) l) (others-there k low))
          ∙ cond-false _ _ _ (ap is_some (new l))
          ∙ ap (under (get_or names (length ns) [])) (fits k (length names) p)

      closed-there : none_of Feed (line_text names k (get_or names (length ns) [])) ≡ true
      closed-there = line-free (get_or names (length ns) []) (free Feed refl (length ns) l) k low

-- a closed line comes first
line-first : (s : State) (l rest : List ℕ) (k : Kept) → none_of Feed l ≡ true → length s.names < 256 → judged s.names l ≡ Ok k → gathered s (l ++ 10 ∷ rest) ≡ gathered (grown s k) rest
line-first s l rest k f h j =
    ap (λ (c : Parts). gather s c.closed c.tail) (cut-part Feed l 10 rest f refl)
    ∙ ap (λ r. and_then r (λ n. gathered n rest)) (cond-false (full s) _ _ (ne_eqb _ 256 (λ e. omega arith)) ∙ ap (added s) j)

module _ (names : List (List ℕ)) (g : GoodNames names) (few : length names ≤ 256) where
  gather-there : (s : State) (more : List (List ℕ)) (ks : List NetKind) → names ≡ s.names ++ more → length more ≡ length ks → all_sit (length s.names) (length names) ks ≡ true → gathered s (lines_from names (length s.names) ks) ≡ Ok (record { names = names; drafts = s.drafts ++ map (draft_of names) ks })
  gather-there s [] [] is e a = λ i. Ok (record { names = sym (is ∙ append-nil s.names) i; drafts = sym (append-nil s.drafts) i })
  gather-there s (n ∷ more) [] is e a = absurd (omega (arith, e))
  gather-there s [] (k ∷ ks) is e a = absurd (omega (arith, e))
  gather-there s (n ∷ more) (k ∷ ks) is e a =
      let i = length s.names in
      let sat = and_parts (sits i (length names) k) (all_sit (suc i) (length names) ks) a in
      let l : i < length names = omega (arith, all names g s.names (n ∷ more) is) in
      let kept : Kept = record { name = get_or names i []; draft = draft_of names k } in
      let longer : suc i ≡ length (s.names ++ get_or names i [] ∷ []) = omega (arith, length_push s.names (get_or names i [])) in
      let at : i + 0 ≡ i = omega arith in
      let this : n ≡ get_or names i [] = sym (ap (λ (m : ℕ). get_or names m []) (sym at) ∙ ap (λ (ms : List (List ℕ)). get_or ms (i + 0) []) is ∙ get_or-append-add s.names (n ∷ more) 0 []) in
      let on : names ≡ (s.names ++ get_or names i [] ∷ []) ++ more = is ∙ ap (λ (m : List ℕ). s.names ++ m ∷ more) this ∙ sym (append_assoc s.names (get_or names i [] ∷ []) more) in
      line-first s (line_text names k (get_or names i [])) (lines_from names (suc i) ks) kept (closed-there names g s.names (n ∷ more) is l k sat.0) (omega arith) (kept-there names g s.names (n ∷ more) is l k sat.0)
      ∙ ap (λ (m : ℕ). gathered (grown s kept) (lines_from names m ks)) longer
      ∙ gather-there (grown s kept) more ks on (omega (arith, e)) (subst (λ (m : ℕ). all_sit m (length names) ks ≡ true) longer sat.1)
      ∙ ap (λ (ds : List Drafted). Ok (record { names = names; drafts = ds })) (append_assoc s.drafts (draft_of names k ∷ []) (map (draft_of names) ks))

  settled-there : (k : NetKind) (i m : ℕ) → placed k i (length names) ≡ true → settled names m (draft_of names k) ≡ Ok k
  settled-there Input i m p = refl
  settled-there (Latch q s) i m p = ap (latched m s) (name-place names g q (ltb-true q.0 (length names) p))
  settled-there (And a b) i m p = refl
  settled-there (Xor a b) i m p = refl
  settled-there (Not a) i m p = refl

  resolve-there : (i : ℕ) (js ks : List NetKind) → all_sit i (length names) ks ≡ true → resolve names js (map (draft_of names) ks) ≡ Ok (js ++ ks)
  resolve-there i js [] a = ap Ok (sym (append-nil js))
  resolve-there i js (k ∷ ks) a =
      let sat = and_parts (sits i (length names) k) (all_sit (suc i) (length names) ks) a in
      ap (λ r. and_then r (λ k. resolve names (js ++ k ∷ []) (map (draft_of names) ks))) (settled-there k i (length js + 1) sat.0)
      ∙ resolve-there (suc i) (js ++ k ∷ []) ks sat.1 ∙ ap Ok (append_assoc js (k ∷ []) ks)

all-sit : (i N : ℕ) (ks : List NetKind) → ((n : ℕ) → n < length ks → placed (kind ks n) (i + n) N ≡ true) → all_sit i N ks ≡ true
all-sit i N [] f = refl
all-sit i N (k ∷ ks) f =
    and_from _ _ (subst (λ (m : ℕ). placed k m N ≡ true) (omega arith) (f 0 (omega arith)))
    (all-sit (suc i) N ks (λ n h. subst (λ (m : ℕ). placed (kind ks n) m N ≡ true) (omega arith) (f (suc n) (omega arith))))

pub reads-back : (names : List (List ℕ)) (nets : List NetKind) → IsCircuit names nets → reading (circuit_text names nets) ≡ Ok (named names nets)
reads-back names nets c =
    let many : length names ≤ 256 = omega (arith, c.level, c.few) in
    let sat : all_sit 0 (length names) nets ≡ true = subst (λ (m : ℕ). all_sit 0 m nets ≡ true) (sym c.level) (all-sit 0 (length nets) nets (λ n h. subst (λ (m : ℕ). placed (kind nets n) m (length nets) ≡ true) (omega arith) (c.formed n h))) in
    cond-false _ _ _ (le-ltb 16384 (length (circuit_text names nets)) c.short)
    ∙ ap (λ r. and_then r (λ s. and_then (resolve s.names [] s.drafts) (λ ks. Ok (named s.names ks)))) (gather-there names c.named many nothing names nets refl c.level sat)
    ∙ ap (λ r. and_then r (λ ks. Ok (named names ks))) (resolve-there names c.named many 0 [] nets sat)
