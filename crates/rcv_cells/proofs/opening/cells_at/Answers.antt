-- The next role's ends go to its cell.
use Rattle.std.proofs.Common.{rules, ◌<◌, length}
use Rattle.rcv_session.specs.Session.{roles_of}
use Rattle.rcv_cells.proofs.Starting.{front_taken, front_is, ends_there, fresh_there, one_cell_more}
use Rattle.rcv_cells.proofs.opening.cells_at.Goals as goal

pub new-requires-clause-ends : goal.new-requires-clause-ends
new-requires-clause-ends c =
    let lt : c.loop-role.role < roles_of c.args.setup.now = search rules in
    let within : c.loop-role.role < length c.args.all.now.items = search rules in
    ends_there c.args.setup.now c.args.all.now.items c.requires c.loop-role.role
    (record { posts = c.posts.inside.posts.items; inboxes = c.posts.inside.inboxes.items }) lt
    (front_is c.args.all.now.items c.loop-role.all.items c.loop-role.role _ c.remove.result c.loop-role.invariant.0
    within c.posts.view_is c.remove.ensures.value)

pub new-requires-clause-fresh : goal.new-requires-clause-fresh
new-requires-clause-fresh c =
    let lt : c.loop-role.role < roles_of c.args.setup.now = search rules in
    let within : c.loop-role.role < length c.args.all.now.items = search rules in
    fresh_there c.args.setup.now c.args.all.now.items c.requires c.loop-role.role
    (record { posts = c.posts.inside.posts.items; inboxes = c.posts.inside.inboxes.items }) lt
    (front_is c.args.all.now.items c.loop-role.all.items c.loop-role.role _ c.remove.result c.loop-role.invariant.0
    within c.posts.view_is c.remove.ensures.value)

pub loop-role-preserved : goal.loop-role-preserved
loop-role-preserved c =
    let within : c.loop-role.role < length c.args.all.now.items = search rules in (
      front_taken c.args.all.now.items c.loop-role.all.items c.remove.new.self.items c.loop-role.role
          c.loop-role.invariant.0 within c.remove.ensures.items,
      one_cell_more c.args.setup.now c.args.all.now.items c.loop-role.role c.loop-role.cells.items c.push.new.self.items
          c.in_ok-cell.cell (record { posts = c.posts.inside.posts.items; inboxes = c.posts.inside.inboxes.items })
          c.loop-role.invariant.1 c.in_ok-cell.ensures.cell
          (front_is c.args.all.now.items c.loop-role.all.items c.loop-role.role _ c.remove.result
          c.loop-role.invariant.0 within c.posts.view_is c.remove.ensures.value)
          c.in_ok-cell.ensures.settled c.in_ok-push.ensures.items,
    )
