-- One part read: what it is, and what is left.
use Rattle.std.proofs.Common.{◌≡◌, ℕ, suc, ◌+◌, ◌-◌, ◌<◌, ◌≤◌, List, [], length, take, drop, sym, refl, ap, ◌∙◌, arith, length-drop}
use Rattle.std.proofs.lemmas.List.{take-take, drop-take, drop-drop, length-take-le}
use Rattle.text.specs.declared.class.Class.{Class}
use Rattle.text.specs.declared.part.Part.{Part}
use Rattle.text.specs.declared.reader.Reader.{Reader}
use Rattle.text.specs.Cut.{stop, more, cut}
use Rattle.text.specs.Parts.{bytes_of}
use Rattle.text.specs.Readers.{lines_closed, left, Yields, Ends}
use Rattle.text.proofs.Cuts.{cut-more, cut-end}

-- the bytes of xs from p up to e
module _ (xs : List ℕ) (p e : ℕ) (forward : p ≤ e) (within : e ≤ length xs) where
  pub between : length (take (e - p) (drop p xs)) ≡ e - p
  between = length-take-le (e - p) (drop p xs) (omega (arith, length-drop p xs))

  -- what stands behind the first m of them
  behind : (m : ℕ) → p + m ≤ e → drop m (take (e - p) (drop p xs)) ≡ take (e - (p + m)) (drop (p + m) xs)
  behind m h =
      let size : e - p ≡ m + (e - (p + m)) = omega arith in
      ap (λ k. drop m (take k (drop p xs))) size ∙ drop-take m (e - (p + m)) (drop p xs) ∙ ap (take (e - (p + m))) (drop-drop m p xs)

  -- the first m of them
  front : (m : ℕ) → p + m ≤ e → take m (take (e - p) (drop p xs)) ≡ take m (drop p xs)
  front m h = take-take m (e - p) (drop p xs) (omega arith)

module _ (k : Class) (s : Reader) (all : List ℕ) (n : ℕ) (is : all ≡ left s) (at : n ≡ stop k all) where
  xs : List ℕ
  xs = s.text.now

  long : length all ≡ s.end - s.place
  long = ap length is ∙ between s.text.now s.place s.end s.forward s.within

  pub yields : n < length all → (t : Reader) (p : Part) → t.text ≡ s.text → t.end ≡ s.end → t.place ≡ s.place + (n + 1) → t.line ≡ s.line + lines_closed k
      → bytes_of p ≡ take n all → p.line ≡ s.line → p.place ≡ s.place → Yields k p s t
  yields inside t p text end place line first p-line p-place =
      let near : s.place + n ≤ s.end = omega (arith, long, s.forward) in
      let room : s.place + suc n ≤ s.end = omega (arith, long, s.forward) in
      let count : length (bytes_of p) ≡ n = ap length first ∙ length-take-le n all (omega arith) in
      let here : bytes_of p ≡ take n (drop s.place s.text.now) =
      first ∙ ap (take n) is ∙ front s.text.now s.place s.end s.forward s.within n near in
      let next : s.place + suc n ≡ t.place = omega (arith, place) in
      let rest : drop (suc n) all ≡ left t =
      ap (drop (suc n)) is ∙ behind s.text.now s.place s.end s.forward s.within (suc n) room
      ∙ ap (λ q. take (s.end - q) (drop q s.text.now)) next ∙ (λ i. take (sym end i - t.place) (drop t.place (sym text i).now)) in
      let cuts = cut-more k all (omega (arith, at)) in
      let stop_is : stop k all ≡ n = sym at in
      record {
        parts = ap (cut k) (sym is) ∙ cuts ∙ ap (λ m. more (take m all) (cut k (drop (suc m) all))) stop_is ∙ (λ i. more (sym first i) (cut k (rest i)));
        stands = record {
          bytes = here ∙ (λ i. take (sym count i) (drop (sym p-place i) s.text.now));
          within = omega (arith, count, p-place, near, s.within);
          counted = omega (arith, p-line, p-place, s.counted);
        };
        line = p-line;
        place = p-place;
        reads = text;
        on_end = end;
        on_place = omega (arith, place, count);
        on_line = line;
      }

  pub ends : n ≡ length all → Ends k s s
  ends e = record { parts = ap (cut k) (sym is) ∙ cut-end k all (omega (arith, at)) ∙ ap (λ (ys : List ℕ). record { closed = []; tail = ys }) is; same = refl }
