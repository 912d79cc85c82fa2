-- A role that stays crashed was crashed; of another one the state to go back to is held.
use Rattle.std.proofs.Common.{◌≤◌, subst, sym}
use Rattle.rcv_rollback.proofs.Ending.{is_running, was_crashed, gone_in_place}
use Rattle.rcv_rollback.proofs.settling.settle_cell.Goals as goal

pub back_or_cut-requires-clause-base : goal.back_or_cut-requires-clause-base
back_or_cut-requires-clause-base c = subst (λ k. c.args.cell.now.part.base ≤ k) (sym c.kept.ensures) c.requires.going.base

pub back_or_cut-requires-clause-held : goal.back_or_cut-requires-clause-held
back_or_cut-requires-clause-held c = λ e. subst (λ k. k ≤ c.args.cell.now.part.held) (sym c.kept.ensures)
    (c.requires.going.held (is_running c.args.book.now c.args.role c.crashed-stays.result
    c.entries-entries.ensures.legal c.requires.role c.crashed-stays.ensures e))

pub back_or_cut-requires-clause-crashed : goal.back_or_cut-requires-clause-crashed
back_or_cut-requires-clause-crashed c = λ e. was_crashed c.args.book.now c.args.role c.crashed-stays.result
    c.entries-entries.ensures.legal c.requires.role c.crashed-stays.ensures c.args.cell.now c.requires.going e

pub returns : goal.returns
returns c = gone_in_place c.args.book.now c.args.role c.crashed-stays.result c.entries-entries.ensures.legal
    c.requires.role c.crashed-stays.ensures c.args.cell.now c.back_or_cut.new.cell c.kept.result c.clock.result
    c.requires.going c.kept.ensures c.clock.ensures c.back_or_cut.ensures.back c.back_or_cut.ensures.settled
    c.known.ensures.strangers
