-- The next event is added if it stays.
use Rattle.std.proofs.Common.{◌+◌, ℕ, List, sym, ◌∙◌, subst, arith}
use Rattle.std.specs.Prelude.{slice_index, slice_set}
use Rattle.rcv_points.specs.Follow.{net_in}
use Rattle.rcv_ledger.specs.Ledger.{LedgerView}
use Rattle.rcv_guide.specs.Renewal.{ArePassed, IsRenewing}
use Rattle.rcv_guide.proofs.Passing.{low, is_sound, passed_more}
use Rattle.rcv_guide.proofs.Renewing.{next_as, keeps_is, few_count, few_sent, few_own, waits, left_out, added}
use Rattle.rcv_guide.proofs.renewal.go_over.Goals as goal
use Rattle.rcv_guide.proofs.renewal.go_over.Goals.{then-keeps+in_ok-add_event, else-keeps}

pub add_event-requires-clause-waits : goal.add_event-requires-clause-waits
add_event-requires-clause-waits c =
    let small = low (net_in c.args.points.now) c.args.ledger.now.logs c.requires.ordered c.args.passed.now.counts c.args.role c.requires.next in
    let sound = is_sound (net_in c.args.points.now) c.args.ledger.now.logs c.requires.ordered c.args.passed.now.counts c.args.role (next_as (net_in c.args.points.now) c.args.ledger.now.logs c.args.passed.now.counts c.args.role c.event-event.result.now c.requires.next c.event-event.ensures) in
    waits (net_in c.args.points.now) c.args.ledger.now.logs c.args.ends.now c.args.room c.requires.ordered c.args.passed.now.counts c.args.passed.now.put c.requires.passed c.args.fresh.now c.requires.fresh c.args.role
    (next_as (net_in c.args.points.now) c.args.ledger.now.logs c.args.passed.now.counts c.args.role c.event-event.result.now c.requires.next c.event-event.ensures)
    (sym (keeps_is (net_in c.args.points.now) c.args.ledger.now.logs c.args.ends.now c.args.passed.now.counts c.args.passed.now.put c.args.received.now c.args.role c.event-event.result.now c.requires.passed c.requires.received small sound.receiver) ∙ sym c.keeps.ensures ∙ c.if-keeps.true)

pub add_event-requires-clause-few : goal.add_event-requires-clause-few
add_event-requires-clause-few c =
    few_own (net_in c.args.points.now) c.args.ledger.now.logs c.args.ends.now c.args.room c.requires.ordered c.args.passed.now.counts c.args.passed.now.put c.requires.passed c.args.fresh.now c.requires.fresh c.args.role
    (next_as (net_in c.args.points.now) c.args.ledger.now.logs c.args.passed.now.counts c.args.role c.event-event.result.now c.requires.next c.event-event.ensures)

pub add-requires-clause-count : goal.add-requires-clause-count
add-requires-clause-count c = let a = few_count (net_in c.args.points.now) c.args.ledger.now.logs c.requires.ordered c.args.passed.now.counts c.args.passed.now.put c.requires.passed c.args.role c.requires.next in omega (arith, a)

pub add-requires-clause-put : goal.add-requires-clause-put
add-requires-clause-put c =
    let a = few_sent (net_in c.args.points.now) c.args.ledger.now.logs c.requires.ordered c.args.passed.now.counts c.args.passed.now.put c.requires.passed c.args.role
    (next_as (net_in c.args.points.now) c.args.ledger.now.logs c.args.passed.now.counts c.args.role c.event-event.result.now c.requires.next c.event-event.ensures) in
    omega (arith, a)

pub returns-clause-passed : goal.returns-clause-passed
returns-clause-passed c = subst (λ (l : List ℕ). ArePassed (net_in c.args.points.now) c.args.ledger.now.logs l c.add.new.self.put) (sym c.add.ensures.counts)
    (passed_more (net_in c.args.points.now) c.args.ledger.now.logs c.requires.ordered c.args.passed.now.counts c.args.role
    (next_as (net_in c.args.points.now) c.args.ledger.now.logs c.args.passed.now.counts c.args.role c.event-event.result.now c.requires.next c.event-event.ensures)
    c.args.passed.now.put c.add.new.self.put c.requires.passed c.add.ensures.sent c.add.ensures.got)

pub returns-clause-fresh : goal.returns-clause-fresh
returns-clause-fresh c =
    let small = low (net_in c.args.points.now) c.args.ledger.now.logs c.requires.ordered c.args.passed.now.counts c.args.role c.requires.next in
    let sound = is_sound (net_in c.args.points.now) c.args.ledger.now.logs c.requires.ordered c.args.passed.now.counts c.args.role (next_as (net_in c.args.points.now) c.args.ledger.now.logs c.args.passed.now.counts c.args.role c.event-event.result.now c.requires.next c.event-event.ensures) in
    let is = sym (keeps_is (net_in c.args.points.now) c.args.ledger.now.logs c.args.ends.now c.args.passed.now.counts c.args.passed.now.put c.args.received.now c.args.role c.event-event.result.now c.requires.passed c.requires.received small sound.receiver) ∙ sym c.keeps.ensures in
    subst (λ (l : List ℕ). IsRenewing (net_in c.args.points.now) c.args.ledger.now.logs c.args.ends.now c.args.room l c.if-keeps.fresh) (sym c.add.ensures.counts)
    (elim c.if-keeps.branch [
      | then-keeps+in_ok-add_event w ↦
          subst (λ (l : LedgerView). IsRenewing (net_in c.args.points.now) c.args.ledger.now.logs c.args.ends.now c.args.room (slice_set c.args.passed.now.counts c.args.role (slice_index c.args.passed.now.counts c.args.role + 1)) l) (sym w.fresh-is)
          (added (net_in c.args.points.now) c.args.ledger.now.logs c.args.ends.now c.args.room c.requires.ordered c.args.passed.now.counts c.args.passed.now.put c.requires.passed c.args.fresh.now c.requires.fresh c.args.role
          (next_as (net_in c.args.points.now) c.args.ledger.now.logs c.args.passed.now.counts c.args.role c.event-event.result.now c.requires.next c.event-event.ensures)
          (is ∙ w.if-keeps.true) w.add_event.new.fresh w.in_ok-add_event.ensures.ok)
      | else-keeps w ↦
          subst (λ (l : LedgerView). IsRenewing (net_in c.args.points.now) c.args.ledger.now.logs c.args.ends.now c.args.room (slice_set c.args.passed.now.counts c.args.role (slice_index c.args.passed.now.counts c.args.role + 1)) l) (sym w.fresh-is)
          (left_out (net_in c.args.points.now) c.args.ledger.now.logs c.args.ends.now c.args.room c.requires.ordered c.args.passed.now.counts c.args.passed.now.put c.requires.passed c.args.fresh.now c.requires.fresh c.args.role
          (next_as (net_in c.args.points.now) c.args.ledger.now.logs c.args.passed.now.counts c.args.role c.event-event.result.now c.requires.next c.event-event.ensures)
          (is ∙ w.if-keeps.false))
    ])
