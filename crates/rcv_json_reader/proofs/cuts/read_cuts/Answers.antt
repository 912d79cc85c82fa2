-- All pairs are read, or no recovery says them.
use Rattle.std.proofs.Common.{◌≡◌, ◌∙◌, length, map, ap, sym, subst, arith}
use Rattle.std.proofs.lemmas.List.{length-map}
use Rattle.serde_json.specs.View.{view}
use Rattle.rcv_journal.specs.Recorded.{bare}
use Rattle.rcv_json_reader.specs.Parts.{HasRead, SaysCuts}
use Rattle.rcv_json_reader.proofs.Pairs.{all_read, must_be_read, must_concern}
use Rattle.rcv_json_reader.proofs.cuts.read_cuts.Goals as goal

pub returns-then-cuts-pairs-clause-none : goal.returns-then-cuts-pairs-clause-none
returns-then-cuts-pairs-clause-none c = λ concerned kept says.
    let setup = bare c.args.protocol.now in
    let pairs = map view c.in_ok-pairs.pairs.now in
    let last : c.loop-role.role ≡ length c.args.protocol.now.roles = omega (arith, c.loop-role-test.false, c.loop-role.auto.role-end, ap length c.as_slice-role-end.ensures) in
    let so_far = subst (λ q. HasRead setup pairs q c.loop-role.cuts.read c.loop-role.cuts.concerned.0 c.loop-role.cuts.kept) last c.loop-role.invariant in
    let full = must_be_read setup pairs c.loop-role.cuts.read c.loop-role.cuts.concerned.0 c.loop-role.cuts.kept so_far concerned kept
    (subst (λ d. SaysCuts setup d concerned kept) c.in_ok-pairs.ensures.some says) in
    c.if-cuts-pairs.true (full ∙ length-map c.in_ok-pairs.pairs.now view)

pub returns-then-cuts-eq0-clause-none : goal.returns-then-cuts-eq0-clause-none
returns-then-cuts-eq0-clause-none c = λ concerned kept says.
    let setup = bare c.args.protocol.now in
    let pairs = map view c.in_ok-pairs.pairs.now in
    let last : c.loop-role.role ≡ length c.args.protocol.now.roles = omega (arith, c.loop-role-test.false, c.loop-role.auto.role-end, ap length c.as_slice-role-end.ensures) in
    let so_far = subst (λ q. HasRead setup pairs q c.loop-role.cuts.read c.loop-role.cuts.concerned.0 c.loop-role.cuts.kept) last c.loop-role.invariant in
    must_concern setup pairs c.loop-role.cuts.read c.loop-role.cuts.kept
    (subst (λ n. HasRead setup pairs (length c.args.protocol.now.roles) c.loop-role.cuts.read n c.loop-role.cuts.kept) c.if-cuts-eq0.true so_far) concerned kept
    (subst (λ d. SaysCuts setup d concerned kept) c.in_ok-pairs.ensures.some says)

pub returns-clause-some : goal.returns-clause-some
returns-clause-some c =
    let setup = bare c.args.protocol.now in
    let pairs = map view c.in_ok-pairs.pairs.now in
    let last : c.loop-role.role ≡ length c.args.protocol.now.roles = omega (arith, c.loop-role-test.false, c.loop-role.auto.role-end, ap length c.as_slice-role-end.ensures) in
    let so_far = subst (λ q. HasRead setup pairs q c.loop-role.cuts.read c.loop-role.cuts.concerned.0 c.loop-role.cuts.kept) last c.loop-role.invariant in
    subst (λ d. SaysCuts setup d c.loop-role.cuts.concerned.0 c.loop-role.cuts.kept) (sym c.in_ok-pairs.ensures.some)
    (all_read setup pairs c.loop-role.cuts.read c.loop-role.cuts.concerned.0 c.loop-role.cuts.kept c.requires.few so_far
    (c.if-cuts-pairs.false ∙ sym (length-map c.in_ok-pairs.pairs.now view)) c.if-cuts-eq0.false)
