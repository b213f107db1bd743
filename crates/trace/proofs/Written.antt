-- What writing answers.
use Rattle.std.proofs.Common.{◌≡◌, ℕ, suc, ◌+◌, ◌<◌, ◌≤◌, Bool, true, ◌&&◌, List, length, get_or, drop, is_err, Ok, Err, Result, sym, ap, ◌∙◌, arith}
use Rattle.std.proofs.lemmas.Bool.{false≢true}
use Rattle.std.proofs.lemmas.List.{at_drop_more, at_drop_all}
use Rattle.circuit.specs.declared.nets.NetKind.{NetKind}
use Rattle.trace.specs.Writing.{has_name, covered, Measured}

-- each net, one by one
module _ (n : ℕ) (ks : List NetKind) (i : ℕ) (d : NetKind) (t : Bool) (h : i < length ks) (is : t ≡ has_name n i (get_or ks i d)) where
  pub cover-more : covered n i (drop i ks) ≡ (t && covered n (i + 1) (drop (i + 1) ks))
  cover-more =
      let next : suc i ≡ i + 1 = omega arith in
      at_drop_more (covered n i) ks i d h
      ∙ ap (λ b. b && covered n (suc i) (drop (i + 1) ks)) (sym is) ∙ ap (λ j. t && covered n j (drop (i + 1) ks)) next

pub cover-all : (n : ℕ) (ks : List NetKind) (i : ℕ) → length ks ≤ i → covered n i (drop i ks) ≡ true
cover-all n ks i h = at_drop_all (covered n i) ks i h

-- a measured text that there is no room for
pub measured-out : {E : Type 0} (n room : ℕ) (r : Result ℕ E) → is_err r ≡ true → room < n → Measured n room r
measured-out n room (Ok m) q h = absurd (false≢true q)
measured-out n room (Err e) q h = h
