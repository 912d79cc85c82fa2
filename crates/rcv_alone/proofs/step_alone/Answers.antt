-- The entry that was added is the one that one thread makes.
use Rattle.std.proofs.Common.{◌≡◌, subst}
use Rattle.rcv_model.specs.Final.{IsStep}
use Rattle.rcv_session.specs.Session.{rules_of}
use Rattle.rcv_core.specs.Book.{state_of, IsOneThreadStep, with_entry}
use Rattle.rcv_alone.proofs.Stepping.{step_left}
use Rattle.rcv_core.proofs.Alone.{succeeded}
use Rattle.rcv_alone.proofs.step_alone.Goals as goal

pub returns : goal.returns
returns g c =
    let step : IsStep (rules_of c.args.book.now.setup) (state_of c.args.book.now) c.in-Some.entry = subst (IsOneThreadStep c.args.book.now) c.in-Some.is c.next_entry.ensures.step in (
      step_left c.args.book.now c.in-Some.entry c.entries-entries.ensures.legal step,
      record {
        entry = c.in-Some.entry;
        step = step;
        added = succeeded c.push-added.result (c.push-added.new.self ≡ with_entry c.args.book.now c.in-Some.entry) c.push-added.ensures.reserved c.push-added.ensures.ok;
      },
      c.skip_behind.ensures,
    )

pub skip_behind-requires : goal.skip_behind-requires
skip_behind-requires g c = (
  c.args.book.now,
  subst (IsOneThreadStep c.args.book.now) c.in-Some.is c.next_entry.ensures.step,
  succeeded c.push-added.result (c.push-added.new.self ≡ with_entry c.args.book.now c.in-Some.entry) c.push-added.ensures.reserved c.push-added.ensures.ok,
)
