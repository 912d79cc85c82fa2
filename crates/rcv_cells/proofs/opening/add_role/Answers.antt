-- The new role's ends stand behind the others'.
use Rattle.std.proofs.Common.{rules, ◌≡◌, subst, sym}
use Rattle.rcv_session.specs.Session.{rules_of}
use Rattle.rcv_cells.specs.Making.{AreOpen}
use Rattle.rcv_cells.proofs.Wiring.{all_open}
use Rattle.rcv_cells.proofs.opening.add_role.Goals as goal

pub returns : goal.returns
returns c =
    let all : c.loop-other.other ≡ c.args.role = search rules in
    subst (AreOpen (rules_of c.args.setup.now) _) (sym c.in_ok-push.ensures.items) (all_open (rules_of c.args.setup.now) c.args.role c.loop-other.all.items c.loop-other.other c.loop-other.mine c.loop-other.invariant all)
