-- How the entries go on.
use Rattle.std.proofs.Common.{◌≡◌, ℕ, zero, suc, ◌+◌, ◌-◌, ◌*◌, ◌<◌, ◌≤◌, true, false, cond, List, [], ◌∷◌, ◌++◌, length, drop, not, position, MatchOption, ⊎_elim, Some, None, Option, sym, refl, ap, ◌∙◌, subst, arith, length-append}
use Rattle.std.specs.Iterator.{YieldsFirst}
use Rattle.std.specs.List.{position_or_len}
use Rattle.std.proofs.lemmas.Bool.{cond-true, cond-false, lt-ltb, le-ltb, cases_lt}
use Rattle.circuit.specs.declared.nets.Frame.{Frame}
use Rattle.circuit.specs.declared.nets.NetKind.{NetKind}
use Rattle.trace.specs.declared.entry.Entry.{Entry}
use Rattle.trace.specs.declared.entry.Entries.{Entries}
use Rattle.trace.specs.Layout.{frame_at, wanted, enters, entry, picks, frames, entries}
use Rattle.trace.specs.Coming.{row, left, Rows}

-- how many nets stand before the first that is wanted
abbrev pub ahead : Option Frame → List NetKind → ℕ
ahead o xs = position_or_len (wanted o) xs

pub picks-none : (o : Option Frame) (i : ℕ) (xs : List NetKind) → length xs ≤ ahead o xs → picks o i xs ≡ []
picks-none o i [] h = refl
picks-none o i (k ∷ ks) h =
    (elim (wanted o k) as (λ b. suc (length ks) ≤ cond (not b) (1 + ahead o ks) 0 → cond b (entry o i ∷ picks o (suc i) ks) (picks o (suc i) ks) ≡ []) [
      | true ↦ λ l. absurd (omega arith)
      | false ↦ λ l. picks-none o (suc i) ks (omega arith)
    ]) h

pub picks-first : (o : Option Frame) (i : ℕ) (xs : List NetKind) → ahead o xs < length xs
    → picks o i xs ≡ entry o (i + ahead o xs) ∷ picks o (i + ahead o xs + 1) (drop (ahead o xs + 1) xs)
picks-first o i [] h = absurd (omega arith)
picks-first o i (k ∷ ks) h =
    (elim (wanted o k) as (λ b. cond (not b) (1 + ahead o ks) 0 < suc (length ks)
    → cond b (entry o i ∷ picks o (suc i) ks) (picks o (suc i) ks) ≡ entry o (i + cond (not b) (1 + ahead o ks) 0) ∷ picks o (i + cond (not b) (1 + ahead o ks) 0 + 1) (drop (cond (not b) (1 + ahead o ks) 0 + 1) (k ∷ ks))) [
      | true ↦ λ l. let here : i ≡ i + 0 = omega arith in let next : suc i ≡ i + 0 + 1 = omega arith in λ j. entry o (here j) ∷ picks o (next j) ks
      | false ↦ λ l.
          let at : suc i + ahead o ks ≡ i + (1 + ahead o ks) = omega arith in
          let next : suc (ahead o ks + 1) ≡ 1 + ahead o ks + 1 = omega arith in
          picks-first o (suc i) ks (omega arith) ∙ (λ j. entry o (at j) ∷ picks o (at j + 1) (drop (next j) (k ∷ ks)))
    ]) h

-- what the place of the first wanted net says
abbrev pub Picked : Option Frame → ℕ → List NetKind → Option ℕ → Type 0
Picked o i xs r = MatchOption r (picks o i xs ≡ []) (λ j. (j < length xs) × (picks o i xs ≡ entry o (i + j) ∷ picks o (i + j + 1) (drop (j + 1) xs)))

pub picked : (o : Option Frame) (i : ℕ) (xs : List NetKind) (r : Option ℕ) → r ≡ position (wanted o) xs → Picked o i xs r
picked o i xs r is =
    ⊎_elim
    (λ (h : ahead o xs < length xs). subst (Picked o i xs) (sym (is ∙ cond-true _ _ _ (lt-ltb (ahead o xs) (length xs) h))) (h, picks-first o i xs h))
    (λ (h : length xs ≤ ahead o xs). subst (Picked o i xs) (sym (is ∙ cond-false _ _ _ (le-ltb (ahead o xs) (length xs) h))) (picks-none o i xs h))
    (cases_lt (ahead o xs) (length xs))

-- a circuit without inputs has no entry in any frame
no-picks : (f g i : ℕ) (ks : List NetKind) → picks (Some (frame_at f)) i ks ≡ [] → picks (Some (frame_at g)) i ks ≡ []
no-picks f g i [] e = refl
no-picks f g i (k ∷ ks) e =
    (elim (enters k) as (λ b. cond b (entry (Some (frame_at f)) i ∷ picks (Some (frame_at f)) (suc i) ks) (picks (Some (frame_at f)) (suc i) ks) ≡ [] → cond b (entry (Some (frame_at g)) i ∷ picks (Some (frame_at g)) (suc i) ks) (picks (Some (frame_at g)) (suc i) ks) ≡ []) [
      | true ↦ λ q. let z : ◌≡◌ {A = ℕ} 0 1 = cc in absurd (omega arith)
      | false ↦ λ q. no-picks f g (suc i) ks q
    ]) e

pub no-frames : (c f g : ℕ) (ks : List NetKind) → picks (Some (frame_at f)) 0 ks ≡ [] → frames c g ks ≡ []
no-frames zero f g ks e = refl
no-frames (suc c) f g ks e = ap (λ xs. xs ++ frames c (suc g) ks) (no-picks f g 0 ks e) ∙ no-frames c f (suc g) ks e

pub frames-more : (c f : ℕ) (ks : List NetKind) → 0 < c → frames c f ks ≡ picks (Some (frame_at f)) 0 ks ++ frames (c - 1) (f + 1) ks
frames-more zero f ks h = absurd (omega arith)
frames-more (suc c) f ks h =
    let less : c ≡ suc c - 1 = omega arith in
    let next : suc f ≡ f + 1 = omega arith in
    ap (λ n. picks (Some (frame_at f)) 0 ks ++ frames n (suc f) ks) less ∙ ap (λ n. picks (Some (frame_at f)) 0 ks ++ frames (suc c - 1) n ks) next

-- how many there are
pub few-picks : (o : Option Frame) (i : ℕ) (ks : List NetKind) → length (picks o i ks) ≤ length ks
few-picks o i [] = omega arith
few-picks o i (k ∷ ks) =
    let r = few-picks o (suc i) ks in
    (elim (wanted o k) as (λ b. length (cond b (entry o i ∷ picks o (suc i) ks) (picks o (suc i) ks)) ≤ suc (length ks)) [ true ↦ omega (arith, r) | false ↦ omega (arith, r) ])

pub few-frames : (c f : ℕ) (ks : List NetKind) → length ks ≤ 256 → length (frames c f ks) ≤ c * 256
few-frames zero f ks h = omega arith
few-frames (suc c) f ks h = omega (arith, length-append (picks (Some (frame_at f)) 0 ks) (frames c (suc f) ks), few-picks (Some (frame_at f)) 0 ks, few-frames c (suc f) ks h)

pub few-entries : (ks : List NetKind) (k : ℕ) → length ks ≤ 256 → k < 64 → length (entries ks k) ≤ 16640
few-entries ks k h l = omega (arith, length-append (picks None 0 ks) (frames (k + 1) 0 ks), few-picks None 0 ks, few-frames (k + 1) 0 ks h)

-- a row is over, and the next one begins
pub enter : (s u : Entries) → row s ≡ [] → s.frames.start < s.frames.end → u.nets ≡ s.nets → u.frame ≡ Some (frame_at s.frames.start) → u.place ≡ 0 → u.frames.start ≡ s.frames.start + 1 → u.frames.end ≡ s.frames.end → left s ≡ left u
enter s u over some nets frame place start end =
    let count : s.frames.end - s.frames.start - 1 ≡ u.frames.end - u.frames.start = omega (arith, start, end) in
    ap (λ xs. xs ++ frames (s.frames.end - s.frames.start) s.frames.start s.nets.now) over ∙ frames-more (s.frames.end - s.frames.start) s.frames.start s.nets.now (omega arith)
    ∙ (λ i. picks (sym frame i) (sym place i) (drop (sym place i) (sym nets i).now) ++ frames (count i) (sym start i) (sym nets i).now)

pub on : (u t : Entries) (o : Option Entry) (f : ℕ) → u.frame ≡ Some (frame_at f) → u.place ≡ 0 → Rows u t o → YieldsFirst left u o t
on u t None f frame place r =
    let none : picks (Some (frame_at f)) 0 u.nets.now ≡ [] = (λ i. picks (sym frame i) (sym place i) (drop (sym place i) u.nets.now)) ∙ r.0 in
    let over : left u ≡ [] = ap (λ xs. xs ++ frames (u.frames.end - u.frames.start) u.frames.start u.nets.now) r.0 ∙ no-frames (u.frames.end - u.frames.start) f u.frames.start u.nets.now none in
    (over, ap left r.1 ∙ over)
on u t (Some e) f frame place r =
    ap (λ xs. xs ++ frames (u.frames.end - u.frames.start) u.frames.start u.nets.now) r.was
    ∙ (λ i. e ∷ (row t ++ frames ((sym r.frames i).end - (sym r.frames i).start) (sym r.frames i).start (sym r.nets i).now))

pub next-row : (s r u t : Entries) (o : Option Entry) → (row s ≡ []) × (r ≡ s) → r.frames.start < r.frames.end → u.nets ≡ r.nets → u.frame ≡ Some (frame_at r.frames.start) → u.place ≡ 0 → u.frames.start ≡ r.frames.start + 1 → u.frames.end ≡ r.frames.end → Rows u t o → YieldsFirst left s o t
next-row s r u t o over some nets frame place start end is =
    let same : left s ≡ left u = ap left (sym over.1) ∙ enter r u (ap row over.1 ∙ over.0) some nets frame place start end in
    subst (λ xs. MatchOption o ((xs ≡ []) × (left t ≡ [])) (λ x. xs ≡ x ∷ left t)) (sym same) (on u t o r.frames.start frame place is)
