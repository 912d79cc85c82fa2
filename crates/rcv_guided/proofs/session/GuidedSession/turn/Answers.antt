-- A next point is one of the text's.
use Rattle.std.proofs.Common.{◌≡◌, ℕ, Some, List, [], ◌∷◌, inl, subst}
use Rattle.std.specs.Prelude.{slice_get}
use Rattle.rcv_model.specs.Net.{IsIn}
use Rattle.rcv_model.specs.Text.{body_of}
use Rattle.rcv_model.proofs.Forms.{proper}
use Rattle.rcv_model.proofs.Ways.{next_in_text}
use Rattle.rcv_accept.specs.Accepted.{IsAcceptedProtocol}
use Rattle.rcv_guide.specs.Guide.{net_for, roles_of, stand}
use Rattle.rcv_dialogue.specs.Answers.{IsDeclared}
use Rattle.rcv_guided.specs.Session.{SessionView}
use Rattle.rcv_guided.specs.Hearing.{accepted_of}
use Rattle.rcv_guided.proofs.session.GuidedSession.turn.Goals as goal

first_in : (points : List ℕ) (p : ℕ) → Some p ≡ slice_get points 0 → IsIn p points
first_in [] p e = absurd (cc)
first_in (q ∷ points) p e = inl (cc)

pub sender-requires : goal.sender-requires
sender-requires c =
    let g = c.self.inside.guide in
    let accepted = subst IsAcceptedProtocol c.accepted.ensures c.protocol-protocol.ensures.accepted in
    subst (λ (s : SessionView). IsDeclared (accepted_of s) c.in-Some.first.now) c.self.view_is
    (next_in_text (net_for g) (roles_of g) c.args.role (stand g c.args.role).place c.in-Some.first.now (proper (body_of g.protocol.body) (roles_of g) accepted.form)
    (c.next-next.ensures.sound c.in-Some.first.now (first_in c.next-next.result.now c.in-Some.first.now c.in-Some.ensures.value)))
