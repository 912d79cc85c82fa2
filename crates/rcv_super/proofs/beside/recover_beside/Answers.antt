-- The concerned cells can go back behind the Recover and the others run, and all can be put together again.
use Rattle.std.proofs.Common.{◌≡◌, ℕ, List, length, drop, sym, ◌∙◌, subst, refl, arith}
use Rattle.std.specs.Prelude.{OnOk}
use Rattle.rcv_tree.specs.declared.role.RoleSet.{RoleSet}
use Rattle.rcv_accept.specs.Accepted.{IsAcceptedProtocol}
use Rattle.rcv_plan.specs.Lines.{IsPlanned}
use Rattle.rcv_fence.specs.Shown.{Shown}
use Rattle.rcv_session.specs.Session.{SessionView, roles_of}
use Rattle.rcv_core.specs.Book.{BookView, with_entry}
use Rattle.rcv_core.proofs.Alone.{succeeded}
use Rattle.rcv_role.specs.Cell.{CellView}
use Rattle.rcv_cells.specs.Home.{AreHome, SameBases}
use Rattle.rcv_cells.specs.Running.{IsLowered}
use Rattle.rcv_rollback.specs.Halves.{AreSplit}
use Rattle.rcv_rollback.specs.Back.{CanGoBack, HaveGoneBack}
use Rattle.rcv_super.specs.Super.{HasWatches}
use Rattle.rcv_super.specs.Beside.{ArePartedBehind, HaveMerged}
use Rattle.rcv_super.proofs.Bases.{parted_bases, then_ok}
use Rattle.rcv_super.proofs.Leaving.{can_go_back_by}
use Rattle.rcv_super.proofs.Behind.{parted_behind, ready_beside}
use Rattle.rcv_super.proofs.Besides.{taken_back, parted_at, recovered_beside}
use Rattle.rcv_super.proofs.InOrder.{stays_in_order}
use Rattle.rcv_super.proofs.Uniting.{halves, parted}
use Rattle.rcv_super.proofs.beside.recover_beside.Goals as goal

pub part-requires-clause-lowered : goal.part-requires-clause-lowered
part-requires-clause-lowered g c κs within = subst IsLowered (sym c.lower.ensures) (record { before = c.args.house.now.watch.raised; last = refl })

pub part-requires-clause-watched : goal.part-requires-clause-watched
part-requires-clause-watched g c κs within = subst (λ (w : Shown). HasWatches w c.args.house.now.watches.items) (sym c.lower.ensures) c.requires.order.watched

pub part-requires-clause-back : goal.part-requires-clause-back
part-requires-clause-back g c κs within = subst (λ (b : BookView). CanGoBack b c.in_ok-back.back.items) (sym (succeeded c.push-reserved.result (c.push-reserved.new.self ≡ with_entry c.args.house.now.book c.in_ok-entry.entry) c.push-reserved.ensures.reserved c.push-reserved.ensures.ok))
    (can_go_back_by c.args.house.now.book c.args.house.now.lanes.items c.args.role c.in_ok-entry.entry c.in_ok-back.back.items c.in_ok-back.beside.items
    (subst (λ (s : SessionView). IsAcceptedProtocol s.protocol) c.setup.ensures c.roles-roles.ensures.accepted)
    (subst (λ (s : SessionView). IsPlanned (roles_of s) s.plan) c.setup.ensures c.roles-roles.ensures.planned)
    c.entries-entries.ensures.legal
    c.in_ok-entry.ensures.recovers
    c.requires.order.home
    c.requires.order.based
    c.know_all.ensures
    (subst (λ (x : RoleSet). AreSplit x c.args.house.now.lanes.items c.in_ok-back.back.items c.in_ok-back.beside.items) c.concerned_by-concerned.ensures c.in_ok-back.ensures.split))

pub part-requires-clause-ready : goal.part-requires-clause-ready
part-requires-clause-ready g c κs within = ready_beside c.args.house.now.book c.concerned_by-concerned.result c.args.house.now.lanes.items c.in_ok-back.back.items c.in_ok-back.beside.items c.requires.order.home c.in_ok-back.ensures.split

pub unite-requires-clause-halves : goal.unite-requires-clause-halves
unite-requires-clause-halves g c = halves c.lower.new.self c.push-reserved.new.self c.concerned_by-concerned.result c.args.house.now.lanes.items c.in_ok-back.back.items c.in_ok-back.beside.items c.part.new.back.items c.part.new.beside.items c.in_ok-back.ensures.split c.part.ensures.back c.part.ensures.beside

pub hand_in-requires : goal.hand_in-requires
hand_in-requires g c =
    let gone : ArePartedBehind c.lower.new.self c.part.new.house.book c.unite.new.cells.items = parted_behind c.lower.new.self c.args.house.now.book c.part.new.house.book c.args.role c.in_ok-entry.entry c.concerned_by-concerned.result c.args.house.now.lanes.items c.unite.new.cells.items c.in_ok-back.back.items c.in_ok-back.beside.items c.part.new.back.items c.part.new.beside.items
    c.in_ok-entry.ensures.recovers
    (c.part.ensures.book ∙ (succeeded c.push-reserved.result (c.push-reserved.new.self ≡ with_entry c.args.house.now.book c.in_ok-entry.entry) c.push-reserved.ensures.reserved c.push-reserved.ensures.ok))
    c.concerned_by-concerned.ensures
    c.requires.order.home
    c.in_ok-back.ensures.split
    (subst (λ (b : BookView). HaveGoneBack b c.in_ok-back.back.items c.part.new.back.items) (sym c.part.ensures.book) c.part.ensures.back)
    c.part.ensures.beside
    c.unite.ensures in
    subst (λ (cells : List CellView). ArePartedBehind c.part.new.house.watch c.part.new.house.book cells) (sym c.as_mut_slice.ensures.value)
    (subst (λ (w : Shown). ArePartedBehind w c.part.new.house.book c.unite.new.cells.items) (sym c.part.ensures.watch) gone)

pub returns-clause-order : goal.returns-clause-order
returns-clause-order g c =
    let value : c.as_mut_slice.result.now ≡ c.unite.new.cells.items = c.as_mut_slice.ensures.value in
    let count : c.unite.new.cells.len ≡ length c.hand_in.new.lanes = (let len = c.as_mut_slice.ensures.len in let same = c.hand_in.ensures.count in omega (arith, len, same)) in
    let split : SameBases c.args.house.now.lanes.items c.unite.new.cells.items = parted_bases c.lower.new.self.fence c.push-reserved.new.self c.concerned_by-concerned.result c.args.house.now.lanes.items c.unite.new.cells.items
    (parted c.lower.new.self c.push-reserved.new.self c.concerned_by-concerned.result c.args.house.now.lanes.items c.in_ok-back.back.items c.in_ok-back.beside.items c.part.new.back.items c.part.new.beside.items c.in_ok-back.ensures.split c.part.ensures.back c.part.ensures.beside c.unite.new.cells.items c.unite.ensures) in
    let back = taken_back c.unite.new.cells.len c.hand_in.new.lanes (drop (length c.hand_in.new.lanes) c.unite.new.cells.items) count in
    stays_in_order c.hand_in.result c.args.house.now _
    (subst (λ (cells : List CellView). OnOk c.hand_in.result (AreHome c.hand_in.new.book cells)) (sym back) c.hand_in.ensures.home)
    (subst (λ (cells : List CellView). OnOk c.hand_in.result (SameBases c.args.house.now.lanes.items cells)) (sym back)
    (then_ok c.hand_in.result (λ (handed : SameBases c.as_mut_slice.result.now c.hand_in.new.lanes) (r : ℕ) (d : CellView). subst (λ (cells : List CellView). SameBases cells c.hand_in.new.lanes) value handed r d ∙ split r d) c.hand_in.ensures.bases))
    c.part.ensures.watched

pub returns-clause-recovered : goal.returns-clause-recovered
returns-clause-recovered g c =
    let value : c.as_mut_slice.result.now ≡ c.unite.new.cells.items = c.as_mut_slice.ensures.value in
    let gone : ArePartedBehind c.lower.new.self c.part.new.house.book c.unite.new.cells.items = parted_behind c.lower.new.self c.args.house.now.book c.part.new.house.book c.args.role c.in_ok-entry.entry c.concerned_by-concerned.result c.args.house.now.lanes.items c.unite.new.cells.items c.in_ok-back.back.items c.in_ok-back.beside.items c.part.new.back.items c.part.new.beside.items
    c.in_ok-entry.ensures.recovers
    (c.part.ensures.book ∙ (succeeded c.push-reserved.result (c.push-reserved.new.self ≡ with_entry c.args.house.now.book c.in_ok-entry.entry) c.push-reserved.ensures.reserved c.push-reserved.ensures.ok))
    c.concerned_by-concerned.ensures
    c.requires.order.home
    c.in_ok-back.ensures.split
    (subst (λ (b : BookView). HaveGoneBack b c.in_ok-back.back.items c.part.new.back.items) (sym c.part.ensures.book) c.part.ensures.back)
    c.part.ensures.beside
    c.unite.ensures in
    then_ok c.hand_in.result
    (λ (merged : HaveMerged c.part.new.house.book c.hand_in.new.book c.as_mut_slice.result.now).
    recovered_beside c.lower.new.self c.args.house.now.book c.part.new.house.book c.hand_in.new.book c.args.house.now.lanes.items c.unite.new.cells.items c.args.role c.in_ok-entry.entry
    c.in_ok-entry.ensures.recovers (c.part.ensures.book ∙ (succeeded c.push-reserved.result (c.push-reserved.new.self ≡ with_entry c.args.house.now.book c.in_ok-entry.entry) c.push-reserved.ensures.reserved c.push-reserved.ensures.ok)) c.requires.order.home gone.lowered
    (parted_at c.lower.new.self c.push-reserved.new.self c.args.house.now.book c.in_ok-entry.entry c.concerned_by-concerned.result c.args.house.now.lanes.items c.unite.new.cells.items (succeeded c.push-reserved.result (c.push-reserved.new.self ≡ with_entry c.args.house.now.book c.in_ok-entry.entry) c.push-reserved.ensures.reserved c.push-reserved.ensures.ok) c.concerned_by-concerned.ensures
    (parted c.lower.new.self c.push-reserved.new.self c.concerned_by-concerned.result c.args.house.now.lanes.items c.in_ok-back.back.items c.in_ok-back.beside.items c.part.new.back.items c.part.new.beside.items c.in_ok-back.ensures.split c.part.ensures.back c.part.ensures.beside c.unite.new.cells.items c.unite.ensures))
    (subst (λ (cells : List CellView). HaveMerged c.part.new.house.book c.hand_in.new.book cells) value merged))
    c.hand_in.ensures.merged
