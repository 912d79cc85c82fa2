-- The states that were found.
use Rattle.std.proofs.Common.{List, sym, subst}
use Rattle.std.specs.List.{All}
use Rattle.std.proofs.lemmas.List.Elements.{All-from_recursion}
use Rattle.rcv_tree.specs.declared.protocol.Protocol.{Protocol}
use Rattle.rcv_model.specs.Net.{Net}
use Rattle.rcv_model.proofs.Forms.{proper}
use Rattle.rcv_points.specs.Follow.{net_in}
use Rattle.rcv_points.proofs.Whole.{same_net}
use Rattle.rcv_accept.specs.Accepted.{net_for, text_of, roles_of}
use Rattle.rcv_project.specs.Act.{AreInText}
use Rattle.rcv_charts.specs.States.{StateView, next_in}
use Rattle.rcv_charts.specs.Wires.{HavePlace, AreClosed}
use Rattle.rcv_charts.specs.Machine.{ShowsStates}
use Rattle.rcv_charts.specs.Titles.{titled_of}
use Rattle.rcv_charts.proofs.Together.{are_states, closed}
use Rattle.rcv_charts.proofs.role.role_picture.Goals as goal

pub states_picture-requires-clause-in_text : goal.states_picture-requires-clause-in_text
states_picture-requires-clause-in_text c =
    let accepted = c.args.accepted.now in
    let items = c.in_ok-states.states.items in
    let same = same_net (text_of accepted) (roles_of accepted) c.points.result.now c.protocol.ensures.accepted.form c.points.ensures in
    subst (λ (net : Net). All (λ (s : StateView). AreInText net (next_in s.act)) c.as_slice.result.now) (sym same)
    (subst (λ (xs : List StateView). All (λ (s : StateView). AreInText (net_for accepted) (next_in s.act)) xs) (sym c.as_slice.ensures.value)
    (All-from_recursion (λ (s : StateView). AreInText (net_for accepted) (next_in s.act)) items c.in_ok-states.ensures.in_text))

pub states_picture-requires-clause-closed : goal.states_picture-requires-clause-closed
states_picture-requires-clause-closed c =
    let accepted = c.args.accepted.now in
    let items = c.in_ok-states.states.items in
    let form = proper (text_of accepted) (roles_of accepted) c.protocol.ensures.accepted.form in
    subst (λ (xs : List StateView). AreClosed xs) (sym c.as_slice.ensures.value)
    (All-from_recursion (λ (s : StateView). All (HavePlace items) (next_in s.act)) items (closed (net_for accepted) (roles_of accepted) c.args.local.now.role form items items c.in_ok-states.ensures.each_once c.in_ok-states.ensures.each))

pub returns : goal.returns
returns c =
    let accepted = c.args.accepted.now in
    let net = net_for accepted in
    let items = c.in_ok-states.states.items in
    let picture = c.in_ok-picture.picture in
    let same = same_net (text_of accepted) (roles_of accepted) c.points.result.now c.protocol.ensures.accepted.form c.points.ensures in
    let form = proper (text_of accepted) (roles_of accepted) c.protocol.ensures.accepted.form in
    record {
      states = items;
      are_states = are_states net c.args.local.now.role form.two_ends items c.in_ok-states.ensures;
      shown =
          subst (λ (p : Protocol). ShowsStates p.roles net items (titled_of picture)) c.protocol.ensures.value
          (subst (λ (n : Net). ShowsStates c.protocol.result.now.roles n items (titled_of picture)) same
          (subst (λ (xs : List StateView). ShowsStates c.protocol.result.now.roles (net_in c.points.result.now) xs (titled_of picture)) c.as_slice.ensures.value c.in_ok-picture.ensures));
    }
