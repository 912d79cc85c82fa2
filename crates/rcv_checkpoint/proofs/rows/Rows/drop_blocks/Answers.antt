-- Each list is without what the first events needed.
use Rattle.std.proofs.Common.{length, ◌∙◌, sym, ap, subst}
use Rattle.rcv_checkpoint.specs.Rows.{Lists, lists_of, states_of, state_in, AreRows}
use Rattle.rcv_checkpoint.proofs.Changes.{same_rows}
use Rattle.rcv_checkpoint.proofs.Forgetting.{less_by, start_there, start_within, rows_without, states_without, last_without}
use Rattle.rcv_checkpoint.proofs.rows.Rows.drop_blocks.Goals as goal

pub drop_first-requires-3 : goal.drop_first-requires-3
drop_first-requires-3 c = (start_within (lists_of c.args.self.now) c.args.blocks c.index-changes.result.now c.requires.rows c.requires.held c.index-changes.ensures).0

pub drop_first-requires-4 : goal.drop_first-requires-4
drop_first-requires-4 c = (start_within (lists_of c.args.self.now) c.args.blocks c.index-changes.result.now c.requires.rows c.requires.held c.index-changes.ensures).1

pub returns-clause-rows : goal.returns-clause-rows
returns-clause-rows c =
    let m = c.index-changes.result.now in
    let at = start_there (lists_of c.args.self.now) c.args.blocks m c.requires.rows c.requires.held c.index-changes.ensures in
    let same = same_rows c.drop_first.ensures.items c.drop_first-2.ensures.items c.drop_first-3.ensures.items c.drop_first-4.ensures.items c.drop_first-5.ensures.items (c.lessen.ensures.items ∙ ap (less_by m) c.drop_first-6.ensures.items) in
    subst AreRows (sym same) (rows_without (lists_of c.args.self.now) c.args.blocks m c.requires.rows c.requires.held at)

pub returns-clause-states : goal.returns-clause-states
returns-clause-states c =
    let m = c.index-changes.result.now in
    let at = start_there (lists_of c.args.self.now) c.args.blocks m c.requires.rows c.requires.held c.index-changes.ensures in
    let same = same_rows c.drop_first.ensures.items c.drop_first-2.ensures.items c.drop_first-3.ensures.items c.drop_first-4.ensures.items c.drop_first-5.ensures.items (c.lessen.ensures.items ∙ ap (less_by m) c.drop_first-6.ensures.items) in
    ap states_of same ∙ states_without (lists_of c.args.self.now) c.args.blocks m c.requires.rows c.requires.held at

pub returns-clause-last : goal.returns-clause-last
returns-clause-last c =
    let m = c.index-changes.result.now in
    let at = start_there (lists_of c.args.self.now) c.args.blocks m c.requires.rows c.requires.held c.index-changes.ensures in
    let same = same_rows c.drop_first.ensures.items c.drop_first-2.ensures.items c.drop_first-3.ensures.items c.drop_first-4.ensures.items c.drop_first-5.ensures.items (c.lessen.ensures.items ∙ ap (less_by m) c.drop_first-6.ensures.items) in
    ap (λ (l : Lists). state_in l (length l.points)) same ∙ last_without (lists_of c.args.self.now) c.args.blocks m c.requires.rows c.requires.held at
