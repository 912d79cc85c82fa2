-- The guide goes back to what the failure leaves.
use Rattle.std.proofs.Common.{◌+◌, subst, sym, arith}
use Rattle.rcv_model.specs.Net.{Net}
use Rattle.rcv_model.specs.Text.{body_of}
use Rattle.rcv_points.proofs.Whole.{same_net}
use Rattle.rcv_ledger.specs.Ledger.{MayCut, IsCutTo}
use Rattle.rcv_guide.specs.Guide.{GuideView, guide_of, MayRecover, AreLeft, IsFailureOf, HasGoneBack, IsAfter, recovery_entry, IsGuide}
use Rattle.rcv_guide.proofs.Guides.{few_roles, low}
use Rattle.rcv_guide.proofs.Returning.{gone_view, may_cut, log_cut, guide_cut, after_cut, few_attempts, few_clocks}
use Rattle.rcv_guide.proofs.Memories.{declared_by}
use Rattle.rcv_guide.proofs.guide.Guide.fall_back.Goals as goal

pub group-group-requires : goal.group-group-requires
group-group-requires c = low c.self.invariant c.args.role (declared_by (guide_of c.self.inside.accepted.protocol c.self.inside.plan c.self.inside.ledger c.self.inside.numbers.items c.self.inside.room c.self.inside.told) c.self.invariant.holds.memory c.self.invariant.holds.is c.args.role _ (subst (λ (g : GuideView). MayRecover g c.args.role c.args.saved.now) (sym c.self.view_is) c.requires.may).down)

pub go_back-requires-clause-eight : goal.go_back-requires-clause-eight
go_back-requires-clause-eight c = let a = c.self.invariant.numbers in let b = few_roles c.self.invariant in omega (arith, a, b)

pub go_back-requires-clause-same : goal.go_back-requires-clause-same
go_back-requires-clause-same c = let a = c.self.invariant.numbers in let b = c.self.invariant.logs in omega (arith, a, b)

pub go_back-requires-clause-attempts : goal.go_back-requires-clause-attempts
go_back-requires-clause-attempts c = few_attempts c.self.invariant c.args.role c.group-group.result.0 c.args.saved.now (subst (λ (g : GuideView). MayRecover g c.args.role c.args.saved.now) (sym c.self.view_is) c.requires.may) c.group-group.ensures c.args.left.now (subst (λ (g : GuideView). AreLeft g c.args.role c.args.saved.now c.args.left.now) (sym c.self.view_is) c.requires.left) c.args.back.now (subst (λ (g : GuideView). IsFailureOf g c.args.role c.args.saved.now c.args.back.now) (sym c.self.view_is) c.requires.back)

pub go_back-requires-clause-clocks : goal.go_back-requires-clause-clocks
go_back-requires-clause-clocks c = few_clocks c.self.invariant c.args.role c.group-group.result.0 c.args.saved.now (subst (λ (g : GuideView). MayRecover g c.args.role c.args.saved.now) (sym c.self.view_is) c.requires.may) c.group-group.ensures c.args.left.now (subst (λ (g : GuideView). AreLeft g c.args.role c.args.saved.now c.args.left.now) (sym c.self.view_is) c.requires.left) c.args.back.now (subst (λ (g : GuideView). IsFailureOf g c.args.role c.args.saved.now c.args.back.now) (sym c.self.view_is) c.requires.back)

pub cut_to-requires : goal.cut_to-requires
cut_to-requires c = subst (λ (net : Net). MayCut net c.self.inside.ledger c.args.left.now) (sym (same_net (body_of c.self.inside.accepted.protocol.body) _ c.points.result.now c.self.invariant.protocol.form c.points.ensures)) (may_cut c.self.invariant c.args.role c.group-group.result.0 c.args.saved.now (subst (λ (g : GuideView). MayRecover g c.args.role c.args.saved.now) (sym c.self.view_is) c.requires.may) c.group-group.ensures c.args.left.now (subst (λ (g : GuideView). AreLeft g c.args.role c.args.saved.now c.args.left.now) (sym c.self.view_is) c.requires.left) c.args.back.now (subst (λ (g : GuideView). IsFailureOf g c.args.role c.args.saved.now c.args.back.now) (sym c.self.view_is) c.requires.back))

pub invariant_of-self : goal.invariant_of-self
invariant_of-self c = subst (λ (n : GuideView). IsGuide n c.self.inside.table c.cut_to.new.self) (sym (gone_view c.self.inside.accepted.protocol c.self.inside.plan c.self.inside.ledger c.cut_to.new.self c.self.inside.numbers.items c.go_back.new.numbers.items c.self.inside.room c.self.inside.told c.cut_to.ensures.entries)) (guide_cut c.self.invariant c.args.role c.group-group.result.0 c.args.saved.now (subst (λ (g : GuideView). MayRecover g c.args.role c.args.saved.now) (sym c.self.view_is) c.requires.may) c.group-group.ensures c.args.left.now (subst (λ (g : GuideView). AreLeft g c.args.role c.args.saved.now c.args.left.now) (sym c.self.view_is) c.requires.left) c.args.back.now (subst (λ (g : GuideView). IsFailureOf g c.args.role c.args.saved.now c.args.back.now) (sym c.self.view_is) c.requires.back) c.cut_to.new.self c.go_back.new.numbers.items (subst (λ (net : Net). IsCutTo net c.self.inside.ledger c.cut_to.new.self c.args.left.now) (same_net (body_of c.self.inside.accepted.protocol.body) _ c.points.result.now c.self.invariant.protocol.form c.points.ensures) c.cut_to.ensures) c.go_back.ensures)

pub returns-clause-told : goal.returns-clause-told
returns-clause-told c =
    subst (λ (g : GuideView). HasGoneBack g (guide_of c.self.inside.accepted.protocol c.self.inside.plan c.cut_to.new.self c.go_back.new.numbers.items c.self.inside.room (c.self.inside.told + 1)) c.args.role c.args.left.now c.args.back.now) c.self.view_is
    (record {
      log = log_cut c.self.invariant c.args.role c.group-group.result.0 c.args.saved.now (subst (λ (g : GuideView). MayRecover g c.args.role c.args.saved.now) (sym c.self.view_is) c.requires.may) c.group-group.ensures c.args.left.now (subst (λ (g : GuideView). AreLeft g c.args.role c.args.saved.now c.args.left.now) (sym c.self.view_is) c.requires.left) c.args.back.now (subst (λ (g : GuideView). IsFailureOf g c.args.role c.args.saved.now c.args.back.now) (sym c.self.view_is) c.requires.back) c.cut_to.new.self c.go_back.new.numbers.items (subst (λ (net : Net). IsCutTo net c.self.inside.ledger c.cut_to.new.self c.args.left.now) (same_net (body_of c.self.inside.accepted.protocol.body) _ c.points.result.now c.self.invariant.protocol.form c.points.ensures) c.cut_to.ensures) c.go_back.ensures;
      group = c.group-group.result;
      group_is = c.group-group.ensures;
      numbers = c.go_back.ensures;
      rest = (gone_view c.self.inside.accepted.protocol c.self.inside.plan c.self.inside.ledger c.cut_to.new.self c.self.inside.numbers.items c.go_back.new.numbers.items c.self.inside.room c.self.inside.told c.cut_to.ensures.entries);
    })

pub returns-clause-after : goal.returns-clause-after
returns-clause-after c =
    subst (λ (g : GuideView). IsAfter g (guide_of c.self.inside.accepted.protocol c.self.inside.plan c.cut_to.new.self c.go_back.new.numbers.items c.self.inside.room (c.self.inside.told + 1)) (recovery_entry c.args.role c.args.back.now)) c.self.view_is
    (subst (λ (n : GuideView). IsAfter (guide_of c.self.inside.accepted.protocol c.self.inside.plan c.self.inside.ledger c.self.inside.numbers.items c.self.inside.room c.self.inside.told) n (recovery_entry c.args.role c.args.back.now)) (sym (gone_view c.self.inside.accepted.protocol c.self.inside.plan c.self.inside.ledger c.cut_to.new.self c.self.inside.numbers.items c.go_back.new.numbers.items c.self.inside.room c.self.inside.told c.cut_to.ensures.entries)) (after_cut c.self.invariant c.args.role c.group-group.result.0 c.args.saved.now (subst (λ (g : GuideView). MayRecover g c.args.role c.args.saved.now) (sym c.self.view_is) c.requires.may) c.group-group.ensures c.args.left.now (subst (λ (g : GuideView). AreLeft g c.args.role c.args.saved.now c.args.left.now) (sym c.self.view_is) c.requires.left) c.args.back.now (subst (λ (g : GuideView). IsFailureOf g c.args.role c.args.saved.now c.args.back.now) (sym c.self.view_is) c.requires.back) c.cut_to.new.self c.go_back.new.numbers.items (subst (λ (net : Net). IsCutTo net c.self.inside.ledger c.cut_to.new.self c.args.left.now) (same_net (body_of c.self.inside.accepted.protocol.body) _ c.points.result.now c.self.invariant.protocol.form c.points.ensures) c.cut_to.ensures) c.go_back.ensures))
