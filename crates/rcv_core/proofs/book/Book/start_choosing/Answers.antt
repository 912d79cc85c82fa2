-- Each role chooses by where the book says that it stands.
use Rattle.std.proofs.Common.{length, ap, subst, sym, ◌∙◌}
use Rattle.rcv_core.specs.Choices.{HaveChosen, HaveStayed}
use Rattle.rcv_core.proofs.Books.{ready}
use Rattle.rcv_core.proofs.book.Book.start_choosing.Goals as goal

pub choose_anew-requires-clause-all : goal.choose_anew-requires-clause-all
choose_anew-requires-clause-all c = c.self.invariant.chosen.all

pub choose_anew-requires-clause-logs : goal.choose_anew-requires-clause-logs
choose_anew-requires-clause-logs c = c.self.invariant.book.holds.logs

pub choose_anew-requires-clause-stand : goal.choose_anew-requires-clause-stand
choose_anew-requires-clause-stand c = ap length c.as_slice.ensures.value ∙ c.self.invariant.book.many

pub choose_anew-requires-clause-ready : goal.choose_anew-requires-clause-ready
choose_anew-requires-clause-ready c = ready c.self.inside.setup.now c.self.inside.ledger.entries c.self.inside.numbers.items c.self.inside.ledger c.self.invariant.book

pub choose_anew-requires-clause-stayed : goal.choose_anew-requires-clause-stayed
choose_anew-requires-clause-stayed c =
    subst (λ t. HaveStayed c.self.inside.setup.now t c.self.inside.ledger.stacks c.self.inside.choices.items 255) (sym c.as_slice.ensures.value)
    (λ r lt out state at. c.self.invariant.chosen.each r state lt at)

pub invariant_of-self : goal.invariant_of-self
invariant_of-self c = record {
  book = c.self.invariant.book;
  chosen = subst (λ t. HaveChosen c.self.inside.setup.now t c.self.inside.ledger.stacks c.choose_anew.new.choices.items) c.as_slice.ensures.value c.choose_anew.ensures;
  rooms = c.self.invariant.rooms;
}
