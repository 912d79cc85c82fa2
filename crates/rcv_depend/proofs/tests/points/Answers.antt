-- The points of the text say its protocol.
use Rattle.std.proofs.Common.{ℕ, List, [], ◌∷◌, ◌++◌, length, sym, ◌∙◌, ap, subst}
use Rattle.std.proofs.lemmas.Result.{IfOk-weaker}
use Rattle.rcv_model.specs.Form.{HasForm}
use Rattle.rcv_model.specs.Places.{net_of, IsFullText}
use Rattle.rcv_model.specs.Text.{Body, body_of}
use Rattle.rcv_points.proofs.Whole.{same_net}
use Rattle.rcv_depend.proofs.Rounds.{has_form, is_full}
use Rattle.rcv_depend.proofs.tests.points.Goals as goal

pub points_of-requires-clause-form : goal.points_of-requires-clause-form
points_of-requires-clause-form c =
    let roles = c.in_ok-push-2.ensures.ok ∙ ap (λ (l : List (List ℕ)). l ++ c.new-2.result ∷ []) (c.in_ok-push.ensures.ok ∙ ap (λ (l : List (List ℕ)). l ++ c.new.result ∷ []) c.new-roles.ensures) in
    subst (λ (names : List (List ℕ)). HasForm (body_of c.in_ok-body.field-0) (length names)) (sym (c.roles-2.view_is ∙ roles)) (subst (λ (b : Body). HasForm b 2) (sym c.in_ok-body.ensures) has_form)

pub points_of-requires-clause-full : goal.points_of-requires-clause-full
points_of-requires-clause-full c = subst IsFullText (sym c.in_ok-body.ensures) is_full

pub returns : goal.returns
returns c = IfOk-weaker c.points_of.result _ _ (λ points are. same_net (body_of c.in_ok-body.field-0) 2 points (subst (λ (b : Body). HasForm b 2) (sym c.in_ok-body.ensures) has_form) are ∙ ap net_of c.in_ok-body.ensures) c.points_of.ensures
