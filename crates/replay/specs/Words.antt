-- The words for an answer.
use Rattle.std.specs.Prelude.{ℕ, List, codes}
use Rattle.replay.specs.declared.report.Answer.{Answer}
use Rattle.replay.specs.declared.report.Answer.TheVariants.{On, Off, Unsure}

abbrev pub word_of : Answer → List ℕ
word_of On = codes "on"
word_of Off = codes "off"
word_of Unsure = codes "unsure"
