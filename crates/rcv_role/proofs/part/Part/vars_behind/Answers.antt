-- A state that is held is the one behind so many events.
use Rattle.std.proofs.Common.{rules, ◌≤◌}
use Rattle.rcv_role.proofs.Parts.{seen_holds, seen_vars}
use Rattle.rcv_role.proofs.part.Part.vars_behind.Goals as goal

pub state_at-requires : goal.state_at-requires
state_at-requires c = seen_holds _ c.args.self.now c.self.inside.tail c.self.view_is c.self.invariant.0 c.args.count (search rules) (search rules)

pub returns-clause-value : goal.returns-clause-value
returns-clause-value c =
    let from : c.self.inside.tail.base ≤ c.args.count = search rules in
    let to : c.args.count ≤ c.self.inside.held = search rules in
    seen_vars _ c.args.self.now c.self.inside.tail c.self.view_is c.self.invariant.0 c.args.count c.state_at.result from to c.state_at.ensures
