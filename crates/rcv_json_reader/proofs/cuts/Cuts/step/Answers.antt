-- The next value is the role's pair, or it isn't.
use Rattle.std.proofs.Common.{◌+◌, ◌∙◌, Some, map, length, set, ap, sym, subst, arith, length-drop}
use Rattle.std.proofs.lemmas.List.{length-map}
use Rattle.serde_json.specs.View.{view}
use Rattle.rcv_journal.specs.Recorded.{bare}
use Rattle.rcv_json_reader.specs.Parts.{HasRead, pair_data}
use Rattle.rcv_json_reader.proofs.Items.{viewed_at}
use Rattle.rcv_json_reader.proofs.Pairs.{front_is, skipped, taken}
use Rattle.rcv_json_reader.proofs.cuts.Cuts.step.Goals as goal

pub returns-in_default : goal.returns-in_default
returns-in_default c =
    let pairs = map view c.args.pairs.now in
    let past = c.in_default.ensures.lookup.3 in
    skipped (bare c.args.protocol.now) pairs c.args.role c.args.self.now.read c.args.self.now.concerned.0 c.args.self.now.kept c.requires.role c.requires.few
    (λ n fits rest is. absurd (omega (arith, past, ap length is, length-drop c.args.self.now.read pairs, length-map c.args.pairs.now view))) c.requires.below

pub returns-in_default-cut : goal.returns-in_default-cut
returns-in_default-cut c =
    let pairs = map view c.args.pairs.now in
    let read = c.args.self.now.read in
    let found = c.in-Some.ensures.lookup in
    let here = viewed_at c.args.pairs.now read c.in-Some.pair.now found.3.0 found.1 in
    skipped (bare c.args.protocol.now) pairs c.args.role read c.args.self.now.concerned.0 c.args.self.now.kept c.requires.role c.requires.few
    (λ n fits rest is. c.in_default-cut.ensures.none n fits (front_is pairs read (view c.in-Some.pair.now) (pair_data (bare c.args.protocol.now) c.args.role n) rest here is))
    c.requires.below

pub returns : goal.returns
returns c =
    let pairs = map view c.args.pairs.now in
    let read = c.args.self.now.read in
    let found = c.in-Some.ensures.lookup in
    let here = viewed_at c.args.pairs.now read c.in-Some.pair.now found.3.0 found.1 in
    let setup = bare c.args.protocol.now in
    let kept = c.in-Some-cut.kept in
    subst (λ q. HasRead setup pairs (c.args.role + 1) (read + 1) c.with-self.result.0 (set c.args.self.now.kept q kept)) (sym c.role.view_is)
    (taken setup pairs c.args.role read c.args.self.now.concerned.0 c.with-self.result.0 kept c.args.self.now.kept c.in-Some-cut.ensures.fits (omega (arith, c.with-self.type_inv)) c.requires.role c.requires.few c.requires.differ
    (here ∙ ap Some c.in-Some-cut.ensures.some) c.with-self.ensures.all c.requires.below)
