-- A role that is able is declared.
use Rattle.std.proofs.Common.{◌<◌, sym, subst}
use Rattle.rcv_guide.specs.Guide.{GuideView, roles_of, IsAble}
use Rattle.rcv_guide.proofs.Telling.{able_declared}
use Rattle.rcv_guide.proofs.guide.Guide.may_send.Goals as goal

pub is_turn_to_send-requires : goal.is_turn_to_send-requires
is_turn_to_send-requires c = (subst (λ (g : GuideView). c.args.news.now.role < roles_of g) c.self.view_is (able_declared c.self.invariant c.args.news.now (subst (λ (g : GuideView). IsAble g c.args.news.now) (sym c.self.view_is) c.in_default.ensures)))

pub returns-clause-declared : goal.returns-clause-declared
returns-clause-declared c = (subst (λ (g : GuideView). c.args.news.now.role < roles_of g) c.self.view_is (able_declared c.self.invariant c.args.news.now (subst (λ (g : GuideView). IsAble g c.args.news.now) (sym c.self.view_is) c.in_default.ensures)))
