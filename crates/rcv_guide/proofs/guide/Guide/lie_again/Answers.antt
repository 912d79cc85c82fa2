-- The Send of a message that may lie there fits.
use Rattle.std.proofs.Common.{rules, w64, ◌≡◌, ◌∙◌, ◌+◌, true, sym, ap, subst}
use mir.Val.{SFits}
use Rattle.std.proofs.lemmas.Int.{to_z-of_z}
use Rattle.rcv_tree.specs.declared.event.Event.{Event}
use Rattle.rcv_guide.specs.Numbers.{numbers_at}
use Rattle.rcv_guide.specs.Guide.{GuideView}
use Rattle.rcv_guide.specs.Restoring.{MayLie, FitsEvent, sent_by}
use Rattle.rcv_guide.proofs.Again.{lie_fits, sent_with}
use Rattle.rcv_guide.proofs.guide.Guide.lie_again.Goals as goal

pub log-requires : goal.log-requires
log-requires c =
    let yes : c.may_lie.result ≡ true = (let f = c.if-not-may_lie.false in cc) in
    let may = subst (λ (g : GuideView). MayLie g c.args.role c.args.message.now) (sym c.self.view_is) (c.may_lie.ensures.0 yes) in
    let fits : SFits w64 c.args.message.now.value = search rules in
    let same = to_z-of_z w64 c.args.message.now.value fits in
    subst (λ (e : Event). FitsEvent c.args.self.now e (c.seeds_of-seeds.result + 1)) (sym (c.send-sent.ensures ∙ ap (sent_with c.args.role c.args.message.now) same))
    (subst (λ k. FitsEvent c.args.self.now (sent_by c.args.role c.args.message.now) (k + 1)) (sym c.seeds_of-seeds.ensures.value)
    (subst (λ (g : GuideView). FitsEvent g (sent_by c.args.role c.args.message.now) ((numbers_at g.numbers c.args.role).seeds + 1)) c.self.view_is (lie_fits c.self.invariant c.args.role c.args.message.now may)))
