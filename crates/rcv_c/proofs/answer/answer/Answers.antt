-- The session is held again as it was.
use Rattle.std.proofs.Common.{◌∙◌, refl, sym, ap}
use Rattle.rcv_c.specs.declared.held.Held.{Held}
use Rattle.rcv_c.proofs.answer.answer.Goals as goal

pub returns-then-out-bytes : goal.returns-then-out-bytes
returns-then-out-bytes c = record {
  answer = c.as_slice-bytes.result.now;
  has = record {
    held = c.in-Some.held.value;
    before_is = sym c.in-Some.ensures.value;
    same = c.hold.ensures ∙ c.in-Some.ensures.value;
    answer_is = c.as_slice-bytes.ensures.value ∙ ap (λ (h : Held). h.answer.items) c.deref.ensures;
    count_is = refl;
  };
  short = c.if-out-bytes.true;
  untouched = refl;
}

pub returns : goal.returns
returns c = record {
  answer = c.as_slice-bytes.result.now;
  has = record {
    held = c.in-Some.held.value;
    before_is = sym c.in-Some.ensures.value;
    same = c.hold-2.ensures ∙ c.in-Some.ensures.value;
    answer_is = c.as_slice-bytes.ensures.value ∙ ap (λ (h : Held). h.answer.items) c.deref.ensures;
    count_is = refl;
  };
  front = c.copy.ensures.front;
  rest = c.copy.ensures.rest;
}
