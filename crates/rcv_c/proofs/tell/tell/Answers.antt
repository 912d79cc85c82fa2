-- The session is held with its answer.
use Rattle.std.proofs.Common.{◌∙◌, sym, ap, length, Some}
use Rattle.rcv_c.specs.declared.held.Held.{Held}
use Rattle.rcv_c.proofs.tell.tell.Goals as goal

pub returns-in-Ok : goal.returns-in-Ok
returns-in-Ok c = record {
  held = c.deref_mut.result.now;
  before_is = sym c.in-Some.ensures.value ∙ ap (λ (h : Held). Some h) (sym c.deref_mut.ensures.value);
  next = c.answer.new.held;
  after_is = c.hold.ensures;
  told = c.in-Ok.ensures;
  count_is = ap length (c.as_slice.ensures.value ∙ ap (λ (h : Held). h.answer.items) c.deref.ensures);
}
