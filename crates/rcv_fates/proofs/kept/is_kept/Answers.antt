-- An event that is kept has the number that is found.
use Rattle.std.proofs.Common.{◌∙◌, subst, sym, arith}
use Rattle.std.proofs.lemmas.Option.{slice_get_within}
use Rattle.rcv_model.proofs.Lists.{some_same}
use Rattle.rcv_model.proofs.Bystanders.{as_many}
use Rattle.rcv_model.specs.Journal.{events_of}
use Rattle.rcv_core.specs.Book.{state_of}
use Rattle.rcv_fates.specs.Fates.{IsAmong}
use Rattle.rcv_fates.proofs.Rising.{kept_by_number, kept_own}
use Rattle.rcv_fates.proofs.kept.is_kept.Goals as goal

pub returns-then-number-kept : goal.returns-then-number-kept
returns-then-number-kept c = (
  λ t. absurd (cc),
  λ kept. absurd (
      let at = kept_by_number (state_of c.args.book.now).kept c.args.event.now c.number_of-number.result c.number_of-number.ensures kept in
      let inside = slice_get_within (events_of c.args.event.now.role (state_of c.args.book.now).kept) c.number_of-number.result c.args.event.now at in
      let all = as_many c.args.event.now.role (state_of c.args.book.now).kept in
      let over = c.if-number-kept.true in
      let count = c.kept.ensures in
      omega (arith, inside, all, over, count)),
)

pub returns : goal.returns
returns c =
    let both = c.is_same.ensures in (
      λ t. subst (λ e. IsAmong e (state_of c.args.book.now).kept) (both.0 t) (kept_own c.args.event.now.role (state_of c.args.book.now).kept c.number_of-number.result c.event.result.now c.event.ensures),
      λ kept. both.1 (some_same (sym c.event.ensures ∙ kept_by_number (state_of c.args.book.now).kept c.args.event.now c.number_of-number.result c.number_of-number.ensures kept)),
    )
