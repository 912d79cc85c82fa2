-- What is answered by the other pictures and by texts.
use Rattle.std.proofs.Common.{◌≡◌, ℕ, List, Option, None, Some, refl, sym, subst, inl, inr}
use Rattle.std.specs.Prelude.{Result, Ok, Err, IfOk}
use Rattle.rcv_tree.specs.declared.protocol.Protocol.{Protocol}
use Rattle.rcv_tree.specs.Names.{place_of}
use Rattle.rcv_session.specs.Session.{SessionView}
use Rattle.rcv_input.specs.declared.refused.Refused as refusals
use Rattle.rcv_input.specs.declared.refused.Refused.TheVariants.{NoRole}
use Rattle.rcv_input.specs.declared.refused.InputError.{InputError}
use Rattle.rcv_input.specs.declared.refused.InputError.TheVariants as causes
use Rattle.rcv_input.specs.Input.{IsTaken}
use Rattle.rcv_input.specs.Refusals.{IsRefused}
use Rattle.rcv_input.specs.Line.{refusal_line}
use Rattle.std.specs.declared.alloc.Global.{Global}
use Rattle.std.specs.declared.vec.Vec.{Vec}
use Rattle.rcv_explain.specs.Explained.{IsToldOf}
use Rattle.rcv_accept.specs.Accepted.{net_for}
use Rattle.rcv_charts.specs.Machine.{IsMachine}
use Rattle.rcv_picture.specs.declared.picture.Picture.{Picture}
use Rattle.rcv_look.specs.declared.output.Output.{Output}
use Rattle.rcv_look.specs.declared.status.Status.TheVariants as statuses
use Rattle.rcv_look.specs.Commands.{CommandView}
use Rattle.rcv_look.specs.Drawing.{IsTextOf, IsRoleAnswer, IsRoleDrawing, accepted_as, IsExplanation, explained, unknown, no_rule_line}
use Rattle.rcv_look.specs.Outcome.{IsChartAnswer, Draws}
use Rattle.rcv_look.specs.Outcome as outcomes
use Rattle.rcv_look.proofs.Making.{Makes, made, widen, refused}

module _ {E : Type 0} (result : Result Output E) where
  pub chart_drawn : (command : CommandView) (input : List ℕ) (session : SessionView) → IsTaken input session → Makes (Draws session command) result → Makes (IsChartAnswer command input) result
  chart_drawn command input session taken makes = widen (Draws session command) (IsChartAnswer command input) result (λ s b draws. outcomes.drawn session taken draws) makes

  pub chart_refused : (command : CommandView) (input : List ℕ) (error : InputError) → IsRefused input error
      → IfOk result (λ output. (refusal : refusals.Refused) × (error ≡ causes.Refused refusal) × (output.status ≡ statuses.Refused) × (output.bytes.items ≡ refusal_line refusal))
      → Makes (IsChartAnswer command input) result
  chart_refused command input error is said = refused (IsChartAnswer command input) error result said (λ refusal same. outcomes.refused refusal (subst (IsRefused input) same is))

  -- the text of a picture, which says more of what is drawn
  pub drawn_as : (picture : Picture) (Says : List ℕ → Type 0) → ((bytes : List ℕ) → IsTextOf picture bytes → Says bytes)
      → IfOk result (λ output. output.status ≡ statuses.Drawn) → IfOk result (λ output. IsTextOf picture output.bytes.items)
      → IfOk result (λ output. (output.status ≡ statuses.Drawn) × Says output.bytes.items)
  drawn_as picture Says so status text = go result status text
    where
      go : (r : Result Output E) → IfOk r (λ output. output.status ≡ statuses.Drawn) → IfOk r (λ output. IsTextOf picture output.bytes.items) → IfOk r (λ output. (output.status ≡ statuses.Drawn) × Says output.bytes.items)
      go (Ok output) status text = (status, so output.bytes.items text)
      go (Err e) status text = tt

  -- a role's picture, or the line for one that isn't declared
  pub role_drawn : (protocol : Protocol) (name : List ℕ) (role : ℕ) (picture : Picture) → place_of protocol.roles name ≡ Some role → IsMachine protocol.roles (net_for (accepted_as protocol)) role picture
      → IfOk result (λ output. output.status ≡ statuses.Drawn) → IfOk result (λ output. IsTextOf picture output.bytes.items) → Makes (IsRoleAnswer (IsRoleDrawing protocol) protocol name) result
  role_drawn protocol name role picture is machine status text = go result status text
    where
      go : (r : Result Output E) → IfOk r (λ output. output.status ≡ statuses.Drawn) → IfOk r (λ output. IsTextOf picture output.bytes.items) → Makes (IsRoleAnswer (IsRoleDrawing protocol) protocol name) r
      go (Ok output) status text = inl (role, is, status, record { picture = picture; machine = machine; is_text = text })
      go (Err e) status text = tt

  pub no_role : (IsShown : ℕ → List ℕ → Type 0) (protocol : Protocol) (name : List ℕ) → place_of protocol.roles name ≡ None
      → IfOk result (λ output. output.status ≡ statuses.Refused) → IfOk result (λ output. output.bytes.items ≡ refusal_line NoRole) → Makes (IsRoleAnswer IsShown protocol name) result
  no_role IsShown protocol name none status bytes = made (IsRoleAnswer IsShown protocol name) result statuses.Refused (refusal_line NoRole) status bytes (inr (none, refl, refl))

  -- no rule has this code
  pub no_rule_said : (code number : ℕ) (told : Option (Vec ℕ Global)) → number ≡ code → told ≡ None → IsToldOf number told
      → IfOk result (λ output. output.status ≡ statuses.Refused) → IfOk result (λ output. output.bytes.items ≡ no_rule_line code) → Makes (IsExplanation code) result
  no_rule_said code number told same none is status bytes =
      made (IsExplanation code) result statuses.Refused (no_rule_line code) status bytes
      (unknown (subst (λ (n : ℕ). IsToldOf n None) same (subst (IsToldOf number) none is)))

-- one has
pub explained_said : (code number : ℕ) (told : Option (Vec ℕ Global)) (text : Vec ℕ Global) → number ≡ code → told ≡ Some text → IsToldOf number told → IsExplanation code statuses.Drawn text.items
explained_said code number told text same some is =
    let said : IsToldOf code (Some text) = subst (λ (n : ℕ). IsToldOf n (Some text)) same (subst (IsToldOf number) some is) in
    subst (IsExplanation code statuses.Drawn) (sym said.2) (explained said.0 said.1)
