use Rattle.std.proofs.Common.{◌≡◌, length, rules}
use Rattle.circuit.specs.Circuits.{nets_of}
use Rattle.circuit.specs.Reading.{reading}
use Rattle.trace.specs.Recordings.{held_trace}
use Rattle.trace.specs.Writing.{writes, held_text, written}
use Rattle.trace.proofs.Backs.{back}
use Rattle.trace.proofs.Recorded.{held-fits}
use Rattle.trace.proofs.recording.Recording.write.Goals as goal

pub returns : goal.returns
returns c =
    let r = c.args.self.now in
    let text = c.args.text.now in
    let ks = nets_of r.circuit in
    let out = c.args.out.now in
    let answer : c.write.result ≡ writes (reading text) ks (held_trace r) (length out) = search rules in
    let after : c.write.new.out ≡ written (held_text (reading text) ks (held_trace r)) out c.write.result = search rules in
    record { answer = answer; out = after; back = back text ks (held_trace r) out c.write.new.out c.write.result (held-fits r) answer after; spare = search rules }
