-- The setup has the one crash; and what the role did up to it is all that it does without crashes.
use Rattle.rcv_costs.proofs.Sessions.{differs_self}
use Rattle.rcv_costs.proofs.Adding.{differs_behind}
use Rattle.rcv_costs.proofs.Telling.{own_told, few_told}
use Rattle.rcv_costs.proofs.points.own_points.Goals as goal

pub returns-in_err-book-clause-setup : goal.returns-in_err-book-clause-setup
returns-in_err-book-clause-setup c = differs_behind c.args.setup.now c.args.setup.now c.crash_once.new.setup c.args.role 100000 (differs_self c.args.setup.now) c.in_ok-crash_once.ensures.ok

pub returns-in_err-points-clause-setup : goal.returns-in_err-points-clause-setup
returns-in_err-points-clause-setup c = differs_behind c.args.setup.now c.args.setup.now c.crash_once.new.setup c.args.role 100000 (differs_self c.args.setup.now) c.in_ok-crash_once.ensures.ok

pub returns-clause-setup : goal.returns-clause-setup
returns-clause-setup c = differs_behind c.args.setup.now c.args.setup.now c.crash_once.new.setup c.args.role 100000 (differs_self c.args.setup.now) c.in_ok-crash_once.ensures.ok

pub returns-clause-points : goal.returns-clause-points
returns-clause-points c = own_told c.args.setup.now c.crash_once.new.setup c.args.role c.in_ok-crash_once.ensures.ok c.roles-roles.ensures.accepted c.roles-roles.ensures.planned c.in_ok-book.book c.run_to_recovery-recovery.new.book c.run_to_recovery-recovery.result c.in_ok-book.ensures c.run_to_recovery-recovery.ensures c.in_ok-points.points.items c.in_ok-points.ensures

pub returns-clause-few : goal.returns-clause-few
returns-clause-few c = few_told c.crash_once.new.setup c.args.role c.roles-roles.ensures.planned c.in_ok-book.book c.run_to_recovery-recovery.new.book c.in_ok-book.ensures c.run_to_recovery-recovery.ensures.0 c.entries-entries.ensures.legal c.in_ok-points.points.items c.in_ok-points.ensures
