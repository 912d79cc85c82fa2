-- Few events are kept, and those behind them with the next one are the first so many of the cell.
use Rattle.std.proofs.Common.{rules, ◌≡◌, ◌≤◌, arith}
use Rattle.rcv_cells.specs.Home.{cell_at}
use Rattle.rcv_cells.proofs.Ahead.{few_events, vars_held}
use Rattle.rcv_cells.proofs.push.vars_behind.Goals as goal

pub overflow_add-kept : goal.overflow_add-kept
overflow_add-kept c =
    let few : c.kept-kept.result ≤ 100000 = few_events c.args.book.now c.setup.result.now c.args.event.now.role c.kept-kept.result c.limit-limit.result c.setup.ensures c.entries-entries.ensures.legal c.kept-kept.ensures c.limit-limit.ensures.value c.limit-limit.ensures.last in
    omega (arith, few)

pub returns : goal.returns
returns c =
    let is : c.index-lanes-event.result ≡ cell_at c.args.lanes.now c.args.event.now.role c.index-lanes-event.result = search rules in
    vars_held c.args.book.now c.args.lanes.now c.args.event.now c.index-lanes-event.result c.kept-kept.result c.vars_behind.result c.requires is c.kept-kept.ensures c.vars_behind.ensures.value
