-- The machine over the lines, one after another.
use Rattle.std.proofs.Common.{◌≡◌, length, arith}
use Rattle.std.proofs.lemmas.Bool.Decides.{nat_tests}
use Rattle.rcv_journal.specs.Recorded.{bare}
use Rattle.rcv_lines.proofs.FirstWrong.{gone_on, stopped, finished_ok, finished_line}
use Rattle.rcv_lines.proofs.Accepting.{says_one}
use Rattle.rcv_lines.proofs.text.read_text.Goals as goal

pub loop-rest-preserved : goal.loop-rest-preserved
loop-rest-preserved c =
    gone_on (bare c.args.accepted.now.protocol) c.args.text.now c.loop-rest.rest.now c.first_line.result.0.now c.first_line.result.1.now c.loop-rest.number c.loop-rest.reading c.read_next.new.reading c.in_ok-read_next.field-0 c.loop-rest.invariant c.first_line.ensures.line c.first_line.ensures.shorter c.in_ok-read_next.ensures c.if-not-branch.false

pub returns-then-not-branch-clause-line : goal.returns-then-not-branch-clause-line
returns-then-not-branch-clause-line c = λ k at.
    stopped (bare c.args.accepted.now.protocol) c.args.text.now c.loop-rest.rest.now c.first_line.result.0.now c.first_line.result.1.now c.loop-rest.number k c.loop-rest.reading c.read_next.new.reading c.in_ok-read_next.field-0 (says_one c.args.accepted.now.protocol c.protocol.ensures.accepted) c.loop-rest.invariant c.first_line.ensures.line c.in_ok-read_next.ensures c.if-not-branch.true at

pub returns-clause-ok : goal.returns-clause-ok
returns-clause-ok c =
    let told = c.is_empty.ensures in
    let all = c.loop-rest-test.false in
    let empty : length c.loop-rest.rest.now ≡ 0 = grind (arith, nat_tests) in
    finished_ok (bare c.args.accepted.now.protocol) c.args.text.now c.loop-rest.rest.now c.loop-rest.number c.loop-rest.reading c.finish.result _ c.ok_or.result c.ok_or.ensures.value c.loop-rest.invariant empty c.finish.ensures.some

pub returns-clause-line : goal.returns-clause-line
returns-clause-line c =
    let told = c.is_empty.ensures in
    let all = c.loop-rest-test.false in
    let empty : length c.loop-rest.rest.now ≡ 0 = grind (arith, nat_tests) in
    finished_line (bare c.args.accepted.now.protocol) c.args.text.now c.loop-rest.rest.now c.loop-rest.number c.loop-rest.reading c.finish.result c.ok_or.result (says_one c.args.accepted.now.protocol c.protocol.ensures.accepted) c.ok_or.ensures.value c.loop-rest.invariant empty c.finish.ensures.none
