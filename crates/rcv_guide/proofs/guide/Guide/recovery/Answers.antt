-- The answer to a failure, by the ledger and the table.
use Rattle.std.proofs.Common.{List, length, subst, sym, ap, arith}
use Rattle.rcv_model.specs.Net.{Net}
use Rattle.rcv_model.specs.Text.{body_of}
use Rattle.rcv_points.proofs.Whole.{same_net}
use Rattle.rcv_depend.specs.Keeps as keeping
use Rattle.rcv_ledger.specs.Ledger.{AreCarried}
use Rattle.rcv_depend.specs.Cuts.{IsKeptOf}
use Rattle.rcv_depend.specs.Logs.{AreOfEvents}
use Rattle.rcv_guide.specs.declared.numbers.Numbers.{Numbers}
use Rattle.rcv_guide.specs.Failing.{HaveLogs, AreKeeps, AreMade}
use Rattle.rcv_guide.specs.Guide.{GuideView, guide_of, MayRecover, AreLeft, IsFailureOf}
use Rattle.rcv_guide.proofs.Memories.{declared_by}
use Rattle.rcv_guide.proofs.Guides.{few_roles, low, carried, few_all}
use Rattle.rcv_guide.proofs.Leaving.{logs_are, few_to_cut, no_group, have_logs, have_rows, counts_within, made_fits, is_failure, are_left}
use Rattle.rcv_guide.proofs.guide.Guide.recovery.Goals as goal

pub group-group-requires : goal.group-group-requires
group-group-requires c = low c.self.invariant c.args.role (declared_by (guide_of c.self.inside.accepted.protocol c.self.inside.plan c.self.inside.ledger c.self.inside.numbers.items c.self.inside.room c.self.inside.told) c.self.invariant.holds.memory c.self.invariant.holds.is c.args.role _ (subst (λ (g : GuideView). MayRecover g c.args.role c.args.saved.now) (sym c.self.view_is) c.requires).down)

pub keeps-keeps-requires-clause-logs : goal.keeps-keeps-requires-clause-logs
keeps-keeps-requires-clause-logs c = have_logs c.self.invariant c.args.role c.group-group.result.0 c.args.saved.now (subst (λ (g : GuideView). MayRecover g c.args.role c.args.saved.now) (sym c.self.view_is) c.requires) c.group-group.ensures

pub keeps-keeps-requires-clause-same : goal.keeps-keeps-requires-clause-same
keeps-keeps-requires-clause-same c =
    let a = ap (λ (n : List Numbers). length n) c.as_slice.ensures.value in
    let b = c.self.invariant.numbers in
    let d = c.self.invariant.logs in
    omega (arith, a, b, d)

pub cut-left-requires-clause-protocol : goal.cut-left-requires-clause-protocol
cut-left-requires-clause-protocol c = subst (λ (net : Net). AreCarried net c.self.inside.ledger.logs c.self.inside.ledger.channels) (sym (same_net (body_of c.self.inside.accepted.protocol.body) _ c.points.result.now c.self.invariant.protocol.form c.points.ensures)) (carried c.self.invariant)

pub cut-left-requires-clause-few : goal.cut-left-requires-clause-few
cut-left-requires-clause-few c = few_to_cut c.self.invariant

pub cut-left-requires-clause-logs : goal.cut-left-requires-clause-logs
cut-left-requires-clause-logs c = subst (λ (net : Net). AreOfEvents net c.self.inside.ledger.logs) (sym (same_net (body_of c.self.inside.accepted.protocol.body) _ c.points.result.now c.self.invariant.protocol.form c.points.ensures)) (c.self.invariant.holds.memory.held, logs_are c.self.invariant c.self.invariant.holds.memory c.self.invariant.holds.is)

pub starts-starts-requires : goal.starts-starts-requires
starts-starts-requires c = subst (λ set. HaveLogs set c.self.inside.ledger.logs) (sym c.keeps-keeps.ensures.group_is) (have_logs c.self.invariant c.args.role c.group-group.result.0 c.args.saved.now (subst (λ (g : GuideView). MayRecover g c.args.role c.args.saved.now) (sym c.self.view_is) c.requires) c.group-group.ensures)

pub concerned_many-requires : goal.concerned_many-requires
concerned_many-requires c = have_rows c.self.invariant c.args.role c.group-group.result.0 c.args.saved.now (subst (λ (g : GuideView). MayRecover g c.args.role c.args.saved.now) (sym c.self.view_is) c.requires) c.group-group.ensures c.keeps-keeps.result c.starts-starts.result (subst (λ (n : List Numbers). AreKeeps n c.self.inside.ledger.logs c.group-group.result.0 c.args.saved.now c.keeps-keeps.result) c.as_slice.ensures.value c.keeps-keeps.ensures) c.starts-starts.ensures

pub made-requires-clause-few : goal.made-requires-clause-few
made-requires-clause-few c =
    let a = ap (λ (n : List Numbers). length n) c.as_slice-2.ensures.value in
    let b = c.self.invariant.numbers in
    let d = few_roles c.self.invariant in
    omega (arith, a, b, d)

pub made-requires-clause-seeds : goal.made-requires-clause-seeds
made-requires-clause-seeds c r lt = (made_fits c.self.invariant c.args.role c.group-group.result.0 c.args.saved.now (subst (λ (g : GuideView). MayRecover g c.args.role c.args.saved.now) (sym c.self.view_is) c.requires) c.group-group.ensures c.cut-left.result (are_left c.self.invariant c.args.role c.group-group.result.0 c.args.saved.now (subst (λ (g : GuideView). MayRecover g c.args.role c.args.saved.now) (sym c.self.view_is) c.requires) c.group-group.ensures c.keeps-keeps.result c.cut-left.result (subst (λ (n : List Numbers). AreKeeps n c.self.inside.ledger.logs c.group-group.result.0 c.args.saved.now c.keeps-keeps.result) c.as_slice.ensures.value c.keeps-keeps.ensures) (subst (λ (net : Net). IsKeptOf net c.self.inside.ledger.logs (keeping.ceiling_of c.keeps-keeps.result) c.cut-left.result) (same_net (body_of c.self.inside.accepted.protocol.body) _ c.points.result.now c.self.invariant.protocol.form c.points.ensures) c.cut-left.ensures)) c.as_slice-2.result.now c.as_slice-2.ensures.value r lt).0

pub made-requires-clause-fits : goal.made-requires-clause-fits
made-requires-clause-fits c r lt = (made_fits c.self.invariant c.args.role c.group-group.result.0 c.args.saved.now (subst (λ (g : GuideView). MayRecover g c.args.role c.args.saved.now) (sym c.self.view_is) c.requires) c.group-group.ensures c.cut-left.result (are_left c.self.invariant c.args.role c.group-group.result.0 c.args.saved.now (subst (λ (g : GuideView). MayRecover g c.args.role c.args.saved.now) (sym c.self.view_is) c.requires) c.group-group.ensures c.keeps-keeps.result c.cut-left.result (subst (λ (n : List Numbers). AreKeeps n c.self.inside.ledger.logs c.group-group.result.0 c.args.saved.now c.keeps-keeps.result) c.as_slice.ensures.value c.keeps-keeps.ensures) (subst (λ (net : Net). IsKeptOf net c.self.inside.ledger.logs (keeping.ceiling_of c.keeps-keeps.result) c.cut-left.result) (same_net (body_of c.self.inside.accepted.protocol.body) _ c.points.result.now c.self.invariant.protocol.form c.points.ensures) c.cut-left.ensures)) c.as_slice-2.result.now c.as_slice-2.ensures.value r lt).1

pub undone-requires-clause-logs : goal.undone-requires-clause-logs
undone-requires-clause-logs c = no_group c.self.invariant

pub undone-requires-clause-counts : goal.undone-requires-clause-counts
undone-requires-clause-counts c = counts_within c.self.invariant c.args.role c.group-group.result.0 c.args.saved.now (subst (λ (g : GuideView). MayRecover g c.args.role c.args.saved.now) (sym c.self.view_is) c.requires) c.group-group.ensures c.cut-left.result (are_left c.self.invariant c.args.role c.group-group.result.0 c.args.saved.now (subst (λ (g : GuideView). MayRecover g c.args.role c.args.saved.now) (sym c.self.view_is) c.requires) c.group-group.ensures c.keeps-keeps.result c.cut-left.result (subst (λ (n : List Numbers). AreKeeps n c.self.inside.ledger.logs c.group-group.result.0 c.args.saved.now c.keeps-keeps.result) c.as_slice.ensures.value c.keeps-keeps.ensures) (subst (λ (net : Net). IsKeptOf net c.self.inside.ledger.logs (keeping.ceiling_of c.keeps-keeps.result) c.cut-left.result) (same_net (body_of c.self.inside.accepted.protocol.body) _ c.points.result.now c.self.invariant.protocol.form c.points.ensures) c.cut-left.ensures))

pub undone-requires-clause-few : goal.undone-requires-clause-few
undone-requires-clause-few c = let a = few_all c.self.invariant in omega (arith, a)

pub returns-clause-left : goal.returns-clause-left
returns-clause-left c = subst (λ (g : GuideView). AreLeft g c.args.role c.args.saved.now c.cut-left.result) c.self.view_is (are_left c.self.invariant c.args.role c.group-group.result.0 c.args.saved.now (subst (λ (g : GuideView). MayRecover g c.args.role c.args.saved.now) (sym c.self.view_is) c.requires) c.group-group.ensures c.keeps-keeps.result c.cut-left.result (subst (λ (n : List Numbers). AreKeeps n c.self.inside.ledger.logs c.group-group.result.0 c.args.saved.now c.keeps-keeps.result) c.as_slice.ensures.value c.keeps-keeps.ensures) (subst (λ (net : Net). IsKeptOf net c.self.inside.ledger.logs (keeping.ceiling_of c.keeps-keeps.result) c.cut-left.result) (same_net (body_of c.self.inside.accepted.protocol.body) _ c.points.result.now c.self.invariant.protocol.form c.points.ensures) c.cut-left.ensures))

pub returns-clause-failure : goal.returns-clause-failure
returns-clause-failure c =
    subst (λ (g : GuideView). IsFailureOf g c.args.role c.args.saved.now (record { concerned = c.concerned_many.result; kept = c.made.result; undone = c.undone.result })) c.self.view_is
    (is_failure c.self.invariant c.args.role c.group-group.result.0 c.args.saved.now (subst (λ (g : GuideView). MayRecover g c.args.role c.args.saved.now) (sym c.self.view_is) c.requires) c.group-group.ensures c.keeps-keeps.result c.cut-left.result c.starts-starts.result (record { concerned = c.concerned_many.result; kept = c.made.result; undone = c.undone.result }) (subst (λ (n : List Numbers). AreKeeps n c.self.inside.ledger.logs c.group-group.result.0 c.args.saved.now c.keeps-keeps.result) c.as_slice.ensures.value c.keeps-keeps.ensures) (subst (λ (net : Net). IsKeptOf net c.self.inside.ledger.logs (keeping.ceiling_of c.keeps-keeps.result) c.cut-left.result) (same_net (body_of c.self.inside.accepted.protocol.body) _ c.points.result.now c.self.invariant.protocol.form c.points.ensures) c.cut-left.ensures) c.starts-starts.ensures c.concerned_many.ensures (subst (λ (n : List Numbers). AreMade n c.cut-left.result c.made.result) c.as_slice-2.ensures.value c.made.ensures) c.undone.ensures)
