-- The role crashes, and what comes next is its recovery.
use Rattle.std.proofs.Common.{◌≡◌, subst, arith}
use Rattle.rcv_tree.specs.declared.entry.Entry.{Entry}
use Rattle.rcv_tree.specs.declared.entry.Entry.TheVariants.{Recover}
use Rattle.rcv_model.specs.Final.{IsStep}
use Rattle.rcv_session.specs.Session.{rules_of}
use Rattle.rcv_core.specs.Book.{state_of, with_entry}
use Rattle.rcv_core.proofs.Alone.{succeeded}
use Rattle.rcv_costs.proofs.Telling.{must_crash, kept_and_crash, is_read, again_told}
use Rattle.rcv_costs.proofs.crashes.cost_now.Goals as goal

pub unreachable-requires : goal.unreachable-requires
unreachable-requires c = must_crash c.args.setup.now c.args.role c.args.count c.roles-roles.ensures.accepted c.requires.crash c.in_ok-book.book c.run_to_recovery.new.book c.in_ok-book.ensures c.in_default.ensures.0 c.requires.declared c.args.points.now c.requires.points c.requires.count c.in_default.ensures.1

pub overflow_sub-kept : goal.overflow_sub-kept
overflow_sub-kept c =
    let step = subst (λ (e : Entry). IsStep (rules_of c.run_to_recovery.new.book.setup) (state_of c.run_to_recovery.new.book) e) c.in-Recover.is c.in-Some.ensures.1.1 in
    let one = kept_and_crash c.args.setup.now c.args.role c.args.count c.roles-roles.ensures.accepted c.requires.crash c.in_ok-book.book c.run_to_recovery.new.book c.in_ok-book.ensures c.in-Some.ensures.0 c.in-Recover.role c.in-Recover.concerned c.in-Recover.kept c.in-Recover.undone step in
    omega (arith, one, c.len.ensures.value)

pub returns-clause-cost : goal.returns-clause-cost
returns-clause-cost c =
    let step = subst (λ (e : Entry). IsStep (rules_of c.run_to_recovery.new.book.setup) (state_of c.run_to_recovery.new.book) e) c.in-Recover.is c.in-Some.ensures.1.1 in
    let one = kept_and_crash c.args.setup.now c.args.role c.args.count c.roles-roles.ensures.accepted c.requires.crash c.in_ok-book.book c.run_to_recovery.new.book c.in_ok-book.ensures c.in-Some.ensures.0 c.in-Recover.role c.in-Recover.concerned c.in-Recover.kept c.in-Recover.undone step in
    let entry = Recover c.in-Recover.role c.in-Recover.concerned c.in-Recover.kept c.in-Recover.undone in
    let grown = succeeded c.push-added.result (c.push-added.new.self ≡ with_entry c.run_to_recovery.new.book entry) c.push-added.ensures.reserved c.push-added.ensures.ok in
    let received = again_told c.run_to_recovery.new.book c.push-added.new.self entry c.received-received.result c.again-again.result grown c.received-received.ensures c.again-again.ensures in
    record {
      numbers = is_read c.args.setup.now c.args.role c.args.count c.roles-roles.ensures.accepted c.requires.crash c.in_ok-book.book c.run_to_recovery.new.book c.in_ok-book.ensures c.in-Some.ensures.0 c.in-Recover.role c.in-Recover.concerned c.in-Recover.kept c.in-Recover.undone step
          c.push-added.new.self grown
          c.point_before.result c.point_after.result c.lost-lost.result _ c.again-again.result
          (omega (arith, one, c.len.ensures.value))
          c.lost-lost.ensures
          (received);
      before_is = c.point_before.ensures;
      after_is = c.point_after.ensures;
    }
