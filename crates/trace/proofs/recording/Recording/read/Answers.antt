use Rattle.std.proofs.Common.{◌≡◌, ◌<◌, length, Err, refl, ap, ◌∙◌, arith, rules}
use Rattle.std.proofs.lemmas.Result.{err_from_is_err_and}
use Rattle.circuit.specs.Circuits.{nets_of, names_of}
use Rattle.circuit.proofs.Gathering.{count}
use Rattle.trace.specs.Seen.{begun}
use Rattle.trace.proofs.Backs.{only-written}
use Rattle.trace.proofs.Outcome.{named-as, first-missing, read-ok, read-err, fits-read}
use Rattle.trace.proofs.Picking.{few-entries}
use Rattle.trace.proofs.recording.Recording.read.Goals as goal

pub read_lines-requires-clause-few : goal.read_lines-requires-clause-few
read_lines-requires-clause-few c =
    let short : c.in-Some.first.goal.last.0 < 64 = search rules in
    omega (arith, ap length c.new-entries.ensures, few-entries (nets_of c.args.self.now.circuit) c.in-Some.first.goal.last.0 c.args.self.now.circuit.few short)

pub returns-in_default : goal.returns-in_default
returns-in_default c =
    let circuit = c.args.self.now.circuit in
    let same = named-as c.new-names.result _ c.args.names c.new-names.ensures.circuit c.new-names.ensures.text in
    let p = first-missing (names_of c.args.names.now circuit) _ same (nets_of circuit) c.args.text.now c.in_default.ensures in
    record { is = p.0; taken = p.1; circuit = refl }

pub invariant_of-self-2 : goal.invariant_of-self-2
invariant_of-self-2 c =
    let circuit = c.args.self.now.circuit in
    let ns = names_of c.args.names.now circuit in
    let same = named-as c.new-names.result _ c.args.names c.new-names.ensures.circuit c.new-names.ensures.text in
    let is = read-ok ns _ same (nets_of circuit) c.args.text.now (begun c.in-Some.first) c.in-Some.ensures _ c.new-entries.ensures c.read_lines.new.values c.in_ok-read_lines.ensures in
    let level : length ns ≡ length (nets_of circuit) = omega (arith, count c.args.names.now circuit.listing, circuit.named) in
    record { fits = fits-read ns (nets_of circuit) c.args.text.now c.in-Some.first.goal c.read_lines.new.values level is }

pub returns : goal.returns
returns c =
    let circuit = c.args.self.now.circuit in
    let ns = names_of c.args.names.now circuit in
    let same = named-as c.new-names.result _ c.args.names c.new-names.ensures.circuit c.new-names.ensures.text in
    let is = read-ok ns _ same (nets_of circuit) c.args.text.now (begun c.in-Some.first) c.in-Some.ensures _ c.new-entries.ensures c.read_lines.new.values c.in_ok-read_lines.ensures in
    record { is = is; taken = only-written ns (nets_of circuit) c.args.text.now _ is; circuit = refl }

pub returns-in_err-read_lines : goal.returns-in_err-read_lines
returns-in_err-read_lines c =
    let circuit = c.args.self.now.circuit in
    let ns = names_of c.args.names.now circuit in
    let same = named-as c.new-names.result _ c.args.names c.new-names.ensures.circuit c.new-names.ensures.text in
    let e = err_from_is_err_and c.from_residual.result c.from_residual.ensures.1 in
    let p = read-err ns _ same (nets_of circuit) c.args.text.now (begun c.in-Some.first) c.in-Some.ensures _ c.new-entries.ensures c.from_residual.result _ (e.1 ∙ ap Err e.2) c.in_err-read_lines.ensures in
    record { is = p.0; taken = p.1; circuit = refl }
