-- Each entry is one that one thread adds, and no Recover.
use Rattle.std.proofs.Common.{◌≡◌, subst}
use Rattle.rcv_core.specs.Book.{IsOneThreadStep, with_entry}
use Rattle.rcv_core.proofs.Alone.{succeeded}
use Rattle.rcv_costs.proofs.Going.{calm_more}
use Rattle.rcv_costs.proofs.rehearsal.run_to_recovery.Goals as goal

pub skip_behind-skip-requires : goal.skip_behind-skip-requires
skip_behind-skip-requires c = (
  c.loop-entry.book,
  subst (IsOneThreadStep c.loop-entry.book) c.in-Some.is c.next_entry.ensures.step,
  succeeded c.push-added.result (c.push-added.new.self ≡ with_entry c.loop-entry.book c.in-Some.entry) c.push-added.ensures.reserved c.push-added.ensures.ok,
)

pub loop-entry-preserved : goal.loop-entry-preserved
loop-entry-preserved c = (
  calm_more c.args.book.now c.loop-entry.book c.push-added.new.self c.in-Some.entry c.loop-entry.invariant.0 (subst (IsOneThreadStep c.loop-entry.book) c.in-Some.is c.next_entry.ensures.step)
      (λ is. absurd (let t = c.is_recover.ensures.1 is in let f = c.if-is_recover.false in cc))
      (succeeded c.push-added.result (c.push-added.new.self ≡ with_entry c.loop-entry.book c.in-Some.entry) c.push-added.ensures.reserved c.push-added.ensures.ok),
  c.skip_behind-skip.ensures,
)
