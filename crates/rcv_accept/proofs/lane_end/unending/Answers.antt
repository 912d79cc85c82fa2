use Rattle.std.proofs.Common.{refl, sym, ◌∙◌, ap, subst, inl, inr}
use Rattle.std.specs.Prelude.{Some}
use Rattle.rcv_model.specs.Next.{HasLater, CanEnd}
use Rattle.rcv_points.proofs.Whole.{same_net}
use Rattle.rcv_points.proofs.Finding.{no_flag_is_up}
use Rattle.rcv_accept.specs.declared.rule.Rule.TheVariants.{LaneEnd}
use Rattle.rcv_accept.specs.Faults.{IsFirst, FailsAtEnd}
use Rattle.rcv_accept.specs.Lists.{IsInText}
use Rattle.rcv_accept.proofs.Lists.{not_so}
use Rattle.rcv_accept.proofs.Faults.{end_none, end_some}
use Rattle.rcv_accept.proofs.lane_end.unending.Goals as goal

pub returns-then-ends : goal.returns-then-ends
returns-then-ends c body roles are = end_none body roles are.form c.args.point (inl (subst (λ net. CanEnd net c.args.point) (same_net body roles c.args.points.now are.form are.all) (c.requires.told.0 c.if-ends.true)))

pub returns-then-not-has_later : goal.returns-then-not-has_later
returns-then-not-has_later c body roles are = end_none body roles are.form c.args.point (inr (λ later. no_flag_is_up (c.if-not-has_later.ensures.1 (subst (λ net. HasLater net c.args.point) (sym (same_net body roles c.args.points.now are.form are.all)) later))))

pub returns : goal.returns
returns c body roles are =
    let same = same_net body roles c.args.points.now are.form are.all in
    let text = subst (λ net. IsInText net c.args.point) same c.requires.text in
    subst (λ n. IsFirst (FailsAtEnd body roles c.args.point) (Some (record { rule = LaneEnd; role = c.sender.result; number = n }))) (sym c.point.view_is)
    (end_some body roles are.form c.args.point c.sender.result (subst (λ net. CanEnd net c.args.point → ⊥) same (not_so c.args.ends c.if-ends.false c.requires.told.1)) (subst (λ net. HasLater net c.args.point) same (c.if-not-has_later.ensures.0 refl)) text.0 text.1 (sym (c.sender.ensures ∙ ap (λ net. net.sender c.args.point) same)))
