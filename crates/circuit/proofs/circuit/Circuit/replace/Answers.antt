use Rattle.std.proofs.Common.{sym, ◌∙◌, arith}
use Rattle.circuit.specs.Drafts.{state_of}
use Rattle.circuit.specs.Reading.{named}
use Rattle.circuit.proofs.Gathering.{count}
use Rattle.circuit.proofs.Soundness.{ok-outcome, reading-sound}
use Rattle.circuit.proofs.circuit.Circuit.replace.Goals as goal

pub invariant_of-self-else-is_err : goal.invariant_of-self-else-is_err
invariant_of-self-else-is_err c =
    let text = c.args.text.now in
    let nets = c.read-r.new.nets in
    let listing = c.read-r.new.self in
    let all = named (state_of text listing).names nets in
    let p = reading-sound text all (sym c.read-r.ensures ∙ ok-outcome c.read-r.result all c.if-is_err.ensures.value) in
    record { few = p.few; formed = p.formed; named = omega (arith, p.level, count text listing) }
