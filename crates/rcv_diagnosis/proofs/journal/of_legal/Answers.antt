-- By the first closing line that is wrong, if one is.
use Rattle.std.proofs.Common.{List, refl, subst}
use Rattle.rcv_tree.specs.declared.entry.Entry.{Entry}
use Rattle.rcv_model.specs.Journal.{reading, IsLegal}
use Rattle.rcv_session.specs.Session.{rules_of}
use Rattle.rcv_judge.specs.Closing.{IsFirstWrongClosing}
use Rattle.rcv_replay.proofs.Judging.{at_some}
use Rattle.rcv_diagnosis.proofs.Judged.{end_found}
use Rattle.rcv_diagnosis.proofs.journal.of_legal.Goals as goal

pub returns-in-Some : goal.returns-in-Some
returns-in-Some c =
    let rules = rules_of c.args.book.now.setup in
    let wrong = at_some (IsFirstWrongClosing rules (reading rules c.args.book.now.entries) c.args.journal.now.roles c.args.journal.now.limited) c.in_ok-wrong.wrong c.in-Some.field-0 c.in-Some.is c.in_ok-wrong.ensures.wrong in
    end_found c.of_end.result c.args.book.now.setup c.args.journal.now c.args.written c.args.book.now c.in-Some.field-0 refl c.requires.entries (subst (IsLegal rules) c.requires.entries c.requires.legal)
    (subst (λ (es : List Entry). IsFirstWrongClosing rules (reading rules es) c.args.journal.now.roles c.args.journal.now.limited c.in-Some.field-0) c.requires.entries wrong) c.of_end.ensures
