-- A Recv that may come keeps the book, with what stands behind it.
use Rattle.std.proofs.Common.{refl, ◌≡◌, ◌<◌, subst, sym, arith}
use Rattle.rcv_model.specs.Journal.{numbers_at, MayRecv}
use Rattle.rcv_session.specs.Session.{rules_of}
use Rattle.rcv_core.specs.Book.{BookView, state_of, vars_in}
use Rattle.rcv_checkpoint.specs.Changed.{IsChange}
use Rattle.rcv_ledger.specs.Ledger.{behind_event}
use Rattle.rcv_core.specs.Setup.{vars_behind}
use Rattle.rcv_core.specs.Choices.{IsRemembered}
use Rattle.rcv_core.proofs.Books.{last_vars_in, left_by, of_recv, run_now}
use Rattle.rcv_core.proofs.Sound.{few_so_far, room_for_event, sound_recv}
use Rattle.rcv_tree.specs.declared.entry.Entry.TheVariants.{Recv}
use Rattle.rcv_core.proofs.Pushing.{few_held, few_raw_now, waits}
use Rattle.rcv_core.proofs.book.Book.add_recv.Goals as goal

pub sender-sender-requires-clause-first : goal.sender-sender-requires-clause-first
sender-sender-requires-clause-first c =
    let may = subst (λ (b : BookView). MayRecv (rules_of b.setup) (state_of b) c.args.event.now) (sym c.self.view_is) c.requires.may in
    (of_recv c.self.inside.setup.now (left_by c.self.inside.setup.now c.self.inside.ledger.entries) c.args.event.now c.self.invariant.book.protocol may).first

pub sender-sender-requires-clause-last : goal.sender-sender-requires-clause-last
sender-sender-requires-clause-last c =
    let may = subst (λ (b : BookView). MayRecv (rules_of b.setup) (state_of b) c.args.event.now) (sym c.self.view_is) c.requires.may in
    (of_recv c.self.inside.setup.now (left_by c.self.inside.setup.now c.self.inside.ledger.entries) c.args.event.now c.self.invariant.book.protocol may).last

pub record_recv-requires-clause-sender : goal.record_recv-requires-clause-sender
record_recv-requires-clause-sender c =
    let may = subst (λ (b : BookView). MayRecv (rules_of b.setup) (state_of b) c.args.event.now) (sym c.self.view_is) c.requires.may in
    subst (λ q. q < 8) (sym c.sender-sender.ensures) (of_recv c.self.inside.setup.now (left_by c.self.inside.setup.now c.self.inside.ledger.entries) c.args.event.now c.self.invariant.book.protocol may).sender

pub record_recv-requires-clause-waits : goal.record_recv-requires-clause-waits
record_recv-requires-clause-waits c =
    let may = subst (λ (b : BookView). MayRecv (rules_of b.setup) (state_of b) c.args.event.now) (sym c.self.view_is) c.requires.may in
    waits c.self.inside.setup.now c.self.inside.ledger.entries c.self.inside.numbers.items c.self.inside.ledger c.self.invariant.book c.args.event.now c.sender-sender.result may c.sender-sender.ensures

pub record_recv-requires-clause-few_kept : goal.record_recv-requires-clause-few_kept
record_recv-requires-clause-few_kept c =
    let may = subst (λ (b : BookView). MayRecv (rules_of b.setup) (state_of b) c.args.event.now) (sym c.self.view_is) c.requires.may in
    few_held c.self.inside.setup.now c.self.inside.ledger.entries c.self.inside.numbers.items c.self.inside.ledger c.self.invariant.book c.args.event.now.role may.own.free.declared

pub record_recv-requires-clause-few_entries : goal.record_recv-requires-clause-few_entries
record_recv-requires-clause-few_entries c = few_so_far c.self.inside.setup.now c.self.inside.numbers.items c.self.inside.ledger c.self.inside.choices.items c.self.invariant

pub record_recv-requires-clause-few_raw : goal.record_recv-requires-clause-few_raw
record_recv-requires-clause-few_raw c =
    let may = subst (λ (b : BookView). MayRecv (rules_of b.setup) (state_of b) c.args.event.now) (sym c.self.view_is) c.requires.may in
    few_raw_now c.self.inside.setup.now c.self.inside.ledger.entries c.self.inside.numbers.items c.self.inside.ledger c.self.invariant.book c.args.event.now.role may.own.free.declared

pub record_recv-requires-clause-change : goal.record_recv-requires-clause-change
record_recv-requires-clause-change c =
    let may = subst (λ (b : BookView). MayRecv (rules_of b.setup) (state_of b) c.args.event.now) (sym c.self.view_is) c.requires.may in
    let change = subst (λ (b : BookView). IsChange c.args.behind.now.change (vars_in b c.args.event.now.role) c.args.behind.now.vars) (sym c.self.view_is) c.requires.behind.change in
    subst (λ vars. IsChange c.args.behind.now.change vars c.args.behind.now.vars) (sym (last_vars_in c.self.inside.setup.now c.self.inside.ledger.entries c.self.inside.numbers.items c.self.inside.ledger c.self.invariant.book c.args.event.now.role may.own.free.declared)) change

pub record_recv-requires-clause-chosen : goal.record_recv-requires-clause-chosen
record_recv-requires-clause-chosen c =
    let may = subst (λ (b : BookView). MayRecv (rules_of b.setup) (state_of b) c.args.event.now) (sym c.self.view_is) c.requires.may in
    omega (arith, may.own.free.declared, c.self.invariant.chosen.all)

pub invariant_of-self : goal.invariant_of-self
invariant_of-self c =
    let may = subst (λ (b : BookView). MayRecv (rules_of b.setup) (state_of b) c.args.event.now) (sym c.self.view_is) c.requires.may in
    let vars = subst (λ (b : BookView). c.args.behind.now.vars ≡ vars_behind b.setup c.args.event.now (vars_in b c.args.event.now.role)) (sym c.self.view_is) c.requires.behind.vars in
    let chosen = subst (λ (b : BookView). IsRemembered b.setup c.args.event.now.role (behind_event c.args.event.now c.args.behind.now.vars) (numbers_at (state_of b).roles c.args.event.now.role).attempt c.args.behind.now.choice) (sym c.self.view_is) c.requires.behind.choice in
    let done = c.record_recv.ensures in
    sound_recv c.self.inside.setup.now c.self.inside.numbers.items c.record_recv.new.numbers.items c.self.inside.ledger c.record_recv.new.ledger c.self.inside.choices.items c.record_recv.new.choices.items c.self.invariant c.args.event.now c.sender-sender.result (behind_event c.args.event.now c.args.behind.now.vars) c.args.behind.now.choice refl vars chosen c.record_recv.result may c.sender-sender.ensures done.ledger done.numbers done.choices done.same_ledger done.same_numbers done.same_choices

pub returns-clause-run : goal.returns-clause-run
returns-clause-run c =
    let may = subst (λ (b : BookView). MayRecv (rules_of b.setup) (state_of b) c.args.event.now) (sym c.self.view_is) c.requires.may in
    let vars = subst (λ (b : BookView). c.args.behind.now.vars ≡ vars_behind b.setup c.args.event.now (vars_in b c.args.event.now.role)) (sym c.self.view_is) c.requires.behind.vars in
    let chosen = subst (λ (b : BookView). IsRemembered b.setup c.args.event.now.role (behind_event c.args.event.now c.args.behind.now.vars) (numbers_at (state_of b).roles c.args.event.now.role).attempt c.args.behind.now.choice) (sym c.self.view_is) c.requires.behind.choice in
    let done = c.record_recv.ensures in
    run_now c.self.inside.setup.now c.record_recv.new.ledger.entries c.record_recv.new.numbers.items c.record_recv.new.ledger
    (sound_recv c.self.inside.setup.now c.self.inside.numbers.items c.record_recv.new.numbers.items c.self.inside.ledger c.record_recv.new.ledger c.self.inside.choices.items c.record_recv.new.choices.items c.self.invariant c.args.event.now c.sender-sender.result (behind_event c.args.event.now c.args.behind.now.vars) c.args.behind.now.choice refl vars chosen c.record_recv.result may c.sender-sender.ensures done.ledger done.numbers done.choices done.same_ledger done.same_numbers done.same_choices).book

pub returns-clause-reserved : goal.returns-clause-reserved
returns-clause-reserved c =
    let may = subst (λ (b : BookView). MayRecv (rules_of b.setup) (state_of b) c.args.event.now) (sym c.self.view_is) c.requires.may in
    c.record_recv.ensures.room (room_for_event c.self.inside.setup.now c.self.inside.numbers.items c.self.inside.ledger c.self.inside.choices.items c.self.invariant (Recv c.args.event.now) c.args.event.now.role may may.own.free)
