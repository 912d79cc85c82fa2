-- Event by event.
use Rattle.std.proofs.Common.{List, length, refl, sym, ◌∙◌, ap, subst, arith}
use Rattle.std.specs.Prelude.{◌++◌, [], ◌∷◌}
use Rattle.std.proofs.lemmas.List.{take_all}
use Rattle.std.proofs.lemmas.Option.{slice_get_read}
use Rattle.rcv_tree.specs.declared.event.Event.{Event}
use Rattle.rcv_model.specs.Journal.{events_of}
use Rattle.rcv_depend.proofs.Rounds.{next_own}
use Rattle.rcv_depend.proofs.tests.log_of.Goals as goal

pub loop-number-preserved : goal.loop-number-preserved
loop-number-preserved c =
    let h = c.args.events.now in
    let there = slice_get_read h (length h) c.loop-number.number c.index-events-number.result refl c.loop-number-test.true c.index-events-number.is in
    c.in_ok-add_own.ensures ∙ ap (λ (l : List Event). l ++ events_of c.args.role (c.index-events-number.result ∷ [])) c.loop-number.invariant ∙ sym (next_own c.args.role c.loop-number.number h c.index-events-number.result there)

pub returns : goal.returns
returns c = c.loop-number.invariant ∙ ap (events_of c.args.role) (take_all c.loop-number.number c.args.events.now (let over = c.loop-number-test.false in omega (arith, over)))
