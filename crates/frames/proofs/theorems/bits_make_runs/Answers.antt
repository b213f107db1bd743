use Rattle.frames.proofs.Goes.{rules-make-runs, runs-follow}
use Rattle.frames.proofs.theorems.bits_make_runs.Goals as goal

pub returns : goal.returns
returns c = record { runs = rules-make-runs; back = runs-follow }
