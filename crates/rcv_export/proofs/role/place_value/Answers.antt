-- The next points stand in the text.
use Rattle.rcv_model.proofs.Forms.{proper}
use Rattle.rcv_accept.specs.Accepted.{roles_of, text_of, net_for}
use Rattle.rcv_project.proofs.Machine.{are_in_text}
use Rattle.rcv_export.proofs.role.place_value.Goals as goal

pub steps_value-requires-clause-points : goal.steps_value-requires-clause-points
steps_value-requires-clause-points c =
    let acts = c.in-Sends.ensures.exact (net_for c.args.accepted.now) c.args.role c.requires.local c.requires.place in
    are_in_text (net_for c.args.accepted.now) (roles_of c.args.accepted.now) c.args.role c.args.place c.in-Sends.points.now (proper (text_of c.args.accepted.now) (roles_of c.args.accepted.now) c.protocol-protocol.ensures.accepted.form) acts.0

pub steps_value-requires-in-Receives-clause-points : goal.steps_value-requires-in-Receives-clause-points
steps_value-requires-in-Receives-clause-points c =
    let acts = c.in-Receives.ensures.exact (net_for c.args.accepted.now) c.args.role c.requires.local c.requires.place in
    are_in_text (net_for c.args.accepted.now) (roles_of c.args.accepted.now) c.args.role c.args.place c.in-Receives.points.now (proper (text_of c.args.accepted.now) (roles_of c.args.accepted.now) c.protocol-protocol.ensures.accepted.form) acts.0
