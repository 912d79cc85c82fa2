-- The concerned cells can go back behind the Recover, can be put back, and are at home then.
use Rattle.std.proofs.Common.{◌≡◌, sym, subst}
use Rattle.rcv_tree.specs.declared.role.RoleSet.{RoleSet}
use Rattle.rcv_accept.specs.Accepted.{IsAcceptedProtocol}
use Rattle.rcv_plan.specs.Lines.{IsPlanned}
use Rattle.rcv_session.specs.Session.{SessionView, roles_of}
use Rattle.rcv_core.specs.Book.{BookView, with_entry}
use Rattle.rcv_core.proofs.Alone.{succeeded}
use Rattle.rcv_cells.specs.Home.{AreHome}
use Rattle.rcv_rollback.specs.Halves.{AreSplit}
use Rattle.rcv_rollback.specs.Back.{CanGoBack, HaveGoneBack}
use Rattle.rcv_super.proofs.Bases.{split_bases}
use Rattle.rcv_super.proofs.Leaving.{can_go_back_by}
use Rattle.rcv_super.proofs.Returning.{can_unite, come_back_by}
use Rattle.rcv_super.proofs.recovery.recover_alone.Goals as goal

pub go_back-requires : goal.go_back-requires
go_back-requires c = subst (λ (b : BookView). CanGoBack b c.in_ok-back.back.items) (sym (succeeded c.push-reserved.result (c.push-reserved.new.self ≡ with_entry c.args.book.now c.in_ok-entry.entry) c.push-reserved.ensures.reserved c.push-reserved.ensures.ok))
    (can_go_back_by c.args.book.now c.args.lanes.now.items c.args.role c.in_ok-entry.entry c.in_ok-back.back.items c.in_ok-back.beside.items
    (subst (λ (s : SessionView). IsAcceptedProtocol s.protocol) c.setup.ensures c.roles-roles.ensures.accepted)
    (subst (λ (s : SessionView). IsPlanned (roles_of s) s.plan) c.setup.ensures c.roles-roles.ensures.planned)
    c.entries-entries.ensures.legal
    c.in_ok-entry.ensures.recovers
    c.requires.home
    c.requires.based
    c.know_all.ensures
    (subst (λ (x : RoleSet). AreSplit x c.args.lanes.now.items c.in_ok-back.back.items c.in_ok-back.beside.items) c.concerned_by-concerned.ensures c.in_ok-back.ensures.split))

pub unite-requires-clause-halves : goal.unite-requires-clause-halves
unite-requires-clause-halves c = can_unite c.push-reserved.new.self c.concerned_by-concerned.result c.args.lanes.now.items c.in_ok-back.back.items c.go_back.new.half.items c.in_ok-back.beside.items c.in_ok-back.ensures.split c.go_back.ensures

pub returns-clause-home : goal.returns-clause-home
returns-clause-home c = subst (λ (b : BookView). AreHome b c.unite.new.cells.items) (sym (succeeded c.push-reserved.result (c.push-reserved.new.self ≡ with_entry c.args.book.now c.in_ok-entry.entry) c.push-reserved.ensures.reserved c.push-reserved.ensures.ok))
    (come_back_by c.args.book.now c.args.lanes.now.items c.unite.new.cells.items c.args.role c.in_ok-entry.entry c.in_ok-back.back.items c.go_back.new.half.items c.in_ok-back.beside.items
    (subst (λ (s : SessionView). IsAcceptedProtocol s.protocol) c.setup.ensures c.roles-roles.ensures.accepted)
    c.entries-entries.ensures.legal
    c.in_ok-entry.ensures.recovers
    c.requires.home
    (subst (λ (x : RoleSet). AreSplit x c.args.lanes.now.items c.in_ok-back.back.items c.in_ok-back.beside.items) c.concerned_by-concerned.ensures c.in_ok-back.ensures.split)
    (subst (λ (b : BookView). HaveGoneBack b c.in_ok-back.back.items c.go_back.new.half.items) (succeeded c.push-reserved.result (c.push-reserved.new.self ≡ with_entry c.args.book.now c.in_ok-entry.entry) c.push-reserved.ensures.reserved c.push-reserved.ensures.ok) c.go_back.ensures)
    (subst (λ (x : RoleSet). AreSplit x c.unite.new.cells.items c.go_back.new.half.items c.in_ok-back.beside.items) c.concerned_by-concerned.ensures c.unite.ensures))

pub returns-clause-bases : goal.returns-clause-bases
returns-clause-bases c =
    split_bases c.push-reserved.new.self c.concerned_by-concerned.result c.args.lanes.now.items c.unite.new.cells.items c.in_ok-back.back.items c.go_back.new.half.items c.in_ok-back.beside.items c.in_ok-back.ensures.split c.go_back.ensures c.unite.ensures

pub returns-clause-recovered : goal.returns-clause-recovered
returns-clause-recovered c = record {
  entry = c.in_ok-entry.entry;
  recovers = c.in_ok-entry.ensures.recovers;
  added = (succeeded c.push-reserved.result (c.push-reserved.new.self ≡ with_entry c.args.book.now c.in_ok-entry.entry) c.push-reserved.ensures.reserved c.push-reserved.ensures.ok);
}
