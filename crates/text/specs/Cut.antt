-- A text cut at the bytes of a class: the parts that such a byte closes, and what follows the last.
use Rattle.std.specs.Prelude.{ℕ, suc, cond, List, [], ◌∷◌}
use Rattle.text.specs.declared.class.Class.{Class}
use Rattle.text.specs.Class.{class_of, same}

-- how many bytes at the front are not of class k
abbrev pub stop : Class → List ℕ → ℕ
stop k [] = 0
stop k (b ∷ bs) = cond (same (class_of b) k) 0 (suc (stop k bs))

pub record Parts : Type 0 where
  pub closed : List (List ℕ)
  pub tail : List ℕ

abbrev pub more : List ℕ → Parts → Parts
more p c = record { closed = p ∷ c.closed; tail = c.tail }

-- a byte in front of the first part
abbrev pub widen : ℕ → List (List ℕ) → List ℕ → Parts
widen b [] t = record { closed = []; tail = b ∷ t }
widen b (p ∷ ps) t = record { closed = (b ∷ p) ∷ ps; tail = t }

abbrev pub cut : Class → List ℕ → Parts
cut k [] = record { closed = []; tail = [] }
cut k (b ∷ bs) = cond (same (class_of b) k) (more [] (cut k bs)) (widen b (cut k bs).closed (cut k bs).tail)
