-- The place is in the state that was found.
use Rattle.std.proofs.Common.{[], sym, ◌∙◌, subst}
use Rattle.std.specs.Prelude.{◌==◌, ◌<◌, length}
use Rattle.std.specs.List.{list_any}
use Rattle.rcv_model.specs.Net.{IsIn}
use Rattle.rcv_project.specs.Act.{Ended}
use Rattle.rcv_charts.specs.States.{StateView}
use Rattle.rcv_charts.specs.Wires.{state_at}
use Rattle.rcv_charts.proofs.Counted.{position_is, position_none}
use Rattle.rcv_charts.proofs.Holding.{first_passes, any_in, none_holds}
use Rattle.rcv_charts.proofs.states.state_with.Goals as goal

pub returns-in-Some : goal.returns-in-Some
returns-in-Some c =
    let has = λ (s : StateView). list_any (λ other. other == c.args.place) s.places in
    let found = position_is has c.args.states.now c.in-Some.index (sym c.holding.ensures ∙ c.in-Some.is) in
    subst (λ i. IsIn c.args.place (state_at c.args.states.now i).places) (sym found.1)
    (any_in c.args.place _ (first_passes has (record { act = Ended; places = [] }) c.args.states.now (subst (λ i. i < length c.args.states.now) found.1 found.0)))

pub returns-in-None : goal.returns-in-None
returns-in-None c =
    let has = λ (s : StateView). list_any (λ other. other == c.args.place) s.places in
    absurd (none_holds c.args.place c.args.states.now (position_none has c.args.states.now (sym c.holding.ensures ∙ c.in-None.is)) c.requires)
