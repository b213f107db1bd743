-- Items that were lent to be written.
use Rattle.std.proofs.Common.{◌≡◌, List, ◌++◌, length, take, drop, sym, ap, ◌∙◌}
use Rattle.std.proofs.Math.Seq.{take-append_seam}
use Rattle.store.specs.Lending.{rewritten}

-- items as many as before
pub rewritten-all : {A : Type 0} (xs ws : List A) → length ws ≡ length xs → rewritten xs ws ≡ ws
rewritten-all xs ws same = ap (λ n. take n (ws ++ drop (length ws) xs)) (sym same) ∙ take-append_seam ws _
