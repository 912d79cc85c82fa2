-- Entry by entry.
use Rattle.std.proofs.Common.{◌≡◌, length, refl, ◌∙◌, subst}
use Rattle.std.specs.Prelude.{Some, slice_get}
use Rattle.std.proofs.lemmas.Option.{slice_get_read}
use Rattle.rcv_session.specs.Session.{rules_of}
use Rattle.rcv_judge.specs.Judged.{IsFirstWrong}
use Rattle.rcv_judge.proofs.FirstWrong.{read_more, first_wrong}
use Rattle.rcv_judge.proofs.judge.judge.Goals as goal

pub loop-number-init : goal.loop-number-init
loop-number-init c = record {
  book_is = c.stop_choosing.ensures ∙ c.in_ok-book.ensures;
  legal = tt;
}

pub returns-then-not-may_come-clause-wrong : goal.returns-then-not-may_come-clause-wrong
returns-then-not-may_come-clause-wrong c k told =
    let at : slice_get c.args.entries.now c.loop-number.number ≡ Some c.index-entries-number.result = slice_get_read c.args.entries.now (length c.args.entries.now) c.loop-number.number c.index-entries-number.result refl c.loop-number-test.true c.index-entries-number.is in
    let same : c.loop-number.number ≡ k = cc in
    subst (IsFirstWrong (rules_of c.args.setup.now) c.args.entries.now) same
    (first_wrong c.args.setup.now c.args.entries.now c.loop-number.number c.index-entries-number.result c.loop-number.book c.loop-number.invariant at (λ come. let yes = c.may_come.ensures.1 come in let no = c.if-not-may_come.true in absurd (cc)))

pub loop-number-preserved : goal.loop-number-preserved
loop-number-preserved c =
    let at : slice_get c.args.entries.now c.loop-number.number ≡ Some c.index-entries-number.result = slice_get_read c.args.entries.now (length c.args.entries.now) c.loop-number.number c.index-entries-number.result refl c.loop-number-test.true c.index-entries-number.is in
    read_more c.args.setup.now c.args.entries.now c.loop-number.number c.index-entries-number.result c.loop-number.book c.loop-number.invariant at c.push.new.self (c.may_come.ensures.0 c.if-not-may_come.false) c.in_ok-push.ensures.ok
