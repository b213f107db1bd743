use Rattle.std.proofs.Common.{◌≡◌, ℕ, List, ◌++◌, Some, None, refl, ap, ◌∙◌}
use Rattle.std.proofs.lemmas.Slice.Eq.{strip_prefix_is}
use Rattle.std.proofs.lemmas.Bool.Decides.{Decides-eqb}
use Rattle.sinks.specs.Sinks.{compares, strip}
use Rattle.sinks.proofs.Puttings.{refused, strip-front, strip-not}
use Rattle.sinks.proofs.matcher.MatcherSink.put.Goals as goal

pub returns-in_err-self : goal.returns-in_err-self
returns-in_err-self c =
    let s = c.args.self.now.rest.now in
    let p = c.args.bytes.now in
    let no : (rest : List ℕ) → s ≡ p ++ rest → ⊥ = strip_prefix_is Decides-eqb s p None (rw c.in_err-self.ensures.ok_part at c.strip_prefix.ensures.cases) in
    refused (compares s) (compares s) p c.from_residual.result c.from_residual.ensures.0 refl (λ more. strip-not s p more no)

pub returns : goal.returns
returns c =
    let s = c.args.self.now.rest.now in
    let p = c.args.bytes.now in
    let x = c.in_ok-self.field-0 in
    let is : s ≡ p ++ x.now = strip_prefix_is Decides-eqb s p (Some x) (rw c.in_ok-self.ensures.ok_part at c.strip_prefix.ensures.cases) in
    record { takes = λ more. ap (λ t. strip t (p ++ more)) is ∙ strip-front p x.now more; home = refl }
