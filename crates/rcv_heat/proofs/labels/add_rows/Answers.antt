-- One role more.
use Rattle.std.proofs.Common.{rules, ◌≡◌, ◌++◌, ◌∙◌, ap}
use Rattle.rcv_session.specs.Session.{roles_of}
use Rattle.rcv_losses.proofs.Saying.{said_one_more}
use Rattle.rcv_heat.specs.Words.{words_in, row_words, rows_words}
use Rattle.rcv_heat.proofs.labels.add_rows.Goals as goal

pub loop-role-preserved : goal.loop-role-preserved
loop-role-preserved c =
    said_one_more (row_words c.args.setup.now c.args.costs.now) (words_in c.args.shapes.now.items) (words_in c.loop-role.shapes.items) (words_in c.add_row.new.shapes.items) c.loop-role.role c.loop-role.invariant c.in_ok-add_row.ensures

pub returns : goal.returns
returns c =
    let all : c.loop-role.role ≡ roles_of c.args.setup.now = search rules in
    c.loop-role.invariant ∙ ap (λ n. words_in c.args.shapes.now.items ++ rows_words c.args.setup.now c.args.costs.now n) all
