use Rattle.std.proofs.Common.{◌≡◌, ◌+◌, ◌∷◌, drop, sym, refl, ap, ◌∙◌, subst, arith}
use Rattle.std.proofs.lemmas.List.{take_rest, drop-drop}
use Rattle.trace.specs.Coming.{Rows}
use Rattle.trace.specs.Layout.{entry, picks}
use Rattle.trace.proofs.Picking.{picked}
use Rattle.trace.proofs.entry.Entries.in_row.Goals as goal

pub returns-in_err-place : goal.returns-in_err-place
returns-in_err-place c =
    let s = c.args.self.now in
    let rest = c.in_ok-rest.ensures.lookup.0.2 ∙ take_rest s.nets.now s.place in
    let over = ap (picks s.frame s.place) (sym rest) ∙ picked s.frame s.place c.in_ok-rest.rest.now _ c.in_err-place.ensures in
    subst (Rows s s) (sym c.from_residual-in_err-place.ensures) (over, refl)

pub returns : goal.returns
returns c =
    let s = c.args.self.now in
    let j = c.in_ok-place.field-0 in
    let rest = c.in_ok-rest.ensures.lookup.0.2 ∙ take_rest s.nets.now s.place in
    let first = picked s.frame s.place c.in_ok-rest.rest.now _ c.in_ok-place.ensures in
    let next : drop (j + 1) c.in_ok-rest.rest.now ≡ drop (s.place + j + 1) s.nets.now =
    let at : s.place + (j + 1) ≡ s.place + j + 1 = omega arith in
    ap (drop (j + 1)) rest ∙ drop-drop (j + 1) s.place s.nets.now ∙ ap (λ n. drop n s.nets.now) at in
    record {
      was = ap (picks s.frame s.place) (sym rest) ∙ first.1 ∙ ap (λ xs. entry s.frame (s.place + j) ∷ picks s.frame (s.place + j + 1) xs) next;
      nets = refl;
      frame = refl;
      frames = refl;
    }
