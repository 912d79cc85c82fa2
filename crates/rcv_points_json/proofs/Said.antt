-- What is said of a protocol by its points is said of it.
use Rattle.std.proofs.Common.{◌≡◌, ℕ, List, length, ◌∙◌, ap, subst}
use Rattle.std.specs.Prelude.{Result, Ok, Err, IfOk}
use Rattle.std.specs.declared.alloc.AllocError.{AllocError}
use Rattle.rcv_tree.specs.declared.protocol.Protocol.{Protocol}
use Rattle.rcv_tree.specs.declared.refusal.Refusal.{Refusal}
use Rattle.rcv_tree.specs.declared.refusal.Refusal.TheVariants as refusals
use Rattle.rcv_model.specs.Text.{body_of}
use Rattle.rcv_model.specs.Form.{HasForm}
use Rattle.rcv_model.specs.Places.{net_of}
use Rattle.rcv_tree.specs.declared.refusal.TextError.TheVariants as errors
use Rattle.rcv_points.specs.Follow.{PointsView, ArePointsOf, net_in}
use Rattle.rcv_points.proofs.Whole.{same_net}
use Rattle.rcv_accept.specs.Accepted.{IsAcceptedProtocol, IsRefusedBy}
use Rattle.rcv_listing.specs.declared.listing.Listing.{Listing}
use Rattle.rcv_listing.specs.declared.listing.Listing.TheVariants.{Accepted, RuledOut, HalfRead, Unread}
use Rattle.rcv_listing.specs.declared.written.PointLines.{PointLines}
use Rattle.rcv_listing.specs.Listing.{IsSourceOf}
use Rattle.rcv_export.specs.Pieces.{line_of}
use Rattle.rcv_points_json.specs.PointsJson.{protocol_data, refusal_data, IsSaidOf, IsRuledOut, IsJson}

said_is : (input : List ℕ) (p : Protocol) (written : List PointLines) (listing : Listing) → IsAcceptedProtocol p → IsSourceOf input p written
    → IsSaidOf input p p.roles (net_of (body_of p.body)) written listing → IsJson input listing
said_is input p written (Accepted x) accepted source said = (p, written, source, (accepted, said))
said_is input p written (HalfRead x) accepted source said = (p, written, source, (accepted, said))
said_is input p written (RuledOut x) accepted source said = absurd said
said_is input p written (Unread x) accepted source said = absurd said

pub accepted_said : (input : List ℕ) (p q : Protocol) (points : PointsView) (names : List (List ℕ)) (written given : List PointLines) (result : Result Listing AllocError)
    → HasForm (body_of p.body) (length p.roles) → ArePointsOf (body_of p.body) points → names ≡ p.roles → given ≡ written → q ≡ p
    → IsAcceptedProtocol q → IsSourceOf input p written
    → IfOk result (IsSaidOf input q names (net_in points) given) → IfOk result (IsJson input)
accepted_said input p q points names written given (Ok listing) form are named same is accepted source said =
    said_is input p written listing (subst IsAcceptedProtocol is accepted) source
    (subst (λ (r : Protocol). IsSaidOf input r p.roles (net_of (body_of p.body)) written listing) is
    (subst (λ (l : List PointLines). IsSaidOf input q p.roles (net_of (body_of p.body)) l listing) same
    (subst (λ net. IsSaidOf input q p.roles net given listing) (same_net (body_of p.body) (length p.roles) points form are)
    (subst (λ (l : List (List ℕ)). IsSaidOf input q l (net_in points) given listing) named said))))
accepted_said input p q points names written given (Err e) form are named same is accepted source said = tt

ruled_is : (p : Protocol) (written : List PointLines) (text : List ℕ) (r : Refusal) → IsRefusedBy (body_of p.body) (length p.roles) (errors.Refused r)
    → text ≡ line_of (protocol_data p.name p.roles (net_of (body_of p.body)) written (refusal_data p.roles r))
    → IsRuledOut p p.roles (net_of (body_of p.body)) written text
ruled_is p written text (refusals.Rule code role number) refused is = (code, role, number, refused, is)
ruled_is p written text (refusals.Text code line) refused is = absurd refused
ruled_is p written text refusals.NoRole refused is = absurd refused

pub ruled_said : (p : Protocol) (points : PointsView) (name : List ℕ) (names : List (List ℕ)) (written given : List PointLines) (text : List ℕ) (r : Refusal)
    → HasForm (body_of p.body) (length p.roles) → ArePointsOf (body_of p.body) points → name ≡ p.name → names ≡ p.roles → given ≡ written
    → IsRefusedBy (body_of p.body) (length p.roles) (errors.Refused r)
    → text ≡ line_of (protocol_data name names (net_in points) given (refusal_data names r))
    → IsRuledOut p p.roles (net_of (body_of p.body)) written text
ruled_said p points name names written given text r form are called named same refused is =
    ruled_is p written text r refused
    (is
    ∙ ap (λ (n : List ℕ). line_of (protocol_data n names (net_in points) given (refusal_data names r))) called
    ∙ ap (λ (l : List (List ℕ)). line_of (protocol_data p.name l (net_in points) given (refusal_data l r))) named
    ∙ ap (λ net. line_of (protocol_data p.name p.roles net given (refusal_data p.roles r))) (same_net (body_of p.body) (length p.roles) points form are)
    ∙ ap (λ (l : List PointLines). line_of (protocol_data p.name p.roles (net_of (body_of p.body)) l (refusal_data p.roles r))) same)
