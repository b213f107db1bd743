-- The rule of the table of classes, proved at all of its entries by one test that antt computes.
use Rattle.std.proofs.Common.{◌≡◌, ℕ, ◌<◌, true, cond, eqb, get_or, sym, refl, ap, ◌∙◌}
use Rattle.std.proofs.lemmas.Bool.{agree_below_at, eqb-true}
use Rattle.text.specs.declared.class.Class.{Class}
use Rattle.text.specs.declared.class.TheConstants.{CLASSES}
use Rattle.text.specs.declared.class.Class.TheVariants.{Letter, Digit, Underscore, Tab, Feed, Other}
use Rattle.text.specs.Class.{class_of, same, number}

-- the class of a number: `number` undone
abbrev back : ℕ → Class
back n = cond (eqb n 0) Letter (cond (eqb n 1) Digit (cond (eqb n 2) Underscore (cond (eqb n 3) Tab (cond (eqb n 4) Feed Other))))

back-number : (a : Class) → back (number a) ≡ a
back-number Letter = refl
back-number Digit = refl
back-number Underscore = refl
back-number Tab = refl
back-number Feed = refl
back-number Other = refl

pub same-eq : (a b : Class) → same a b ≡ true → a ≡ b
same-eq a b e = sym (back-number a) ∙ ap back (eqb-true (number a) (number b) e) ∙ back-number b

pub classes : (b : ℕ) → b < 256 → get_or CLASSES b Letter ≡ class_of b
classes b h = same-eq _ _ (agree_below_at (λ k. same (get_or CLASSES k Letter) (class_of k)) (λ k. true) 256 b refl h)
