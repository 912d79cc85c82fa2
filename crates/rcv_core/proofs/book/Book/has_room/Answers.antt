-- The counts of the channel tell how much lies in it.
use Rattle.std.proofs.Common.{◌-◌, ◌<◌, refl, subst, sym, arith}
use Rattle.std.specs.Prelude.{nat_lt}
use Rattle.rcv_model.specs.Journal.{place}
use Rattle.rcv_core.specs.Book.{BookView, IsNextOf}
use Rattle.rcv_core.proofs.Books.{declared_in, in_order, left_by, low_role, of_next}
use Rattle.rcv_core.proofs.Stepping.{room_told}
use Rattle.rcv_core.proofs.book.Book.has_room.Goals as goal

pub receiver-requires-clause-first : goal.receiver-requires-clause-first
receiver-requires-clause-first c =
    let setup = c.self.inside.setup.now in
    let next = subst (λ (b : BookView). IsNextOf b c.args.role c.args.point) (sym c.self.view_is) c.requires.next in
    (of_next setup c.args.role (place (left_by setup c.self.inside.ledger.entries) c.args.role) c.args.point c.self.invariant.book.protocol next).first

pub receiver-requires-clause-last : goal.receiver-requires-clause-last
receiver-requires-clause-last c =
    let setup = c.self.inside.setup.now in
    let next = subst (λ (b : BookView). IsNextOf b c.args.role c.args.point) (sym c.self.view_is) c.requires.next in
    (of_next setup c.args.role (place (left_by setup c.self.inside.ledger.entries) c.args.role) c.args.point c.self.invariant.book.protocol next).last

pub counts-put-requires : goal.counts-put-requires
counts-put-requires c =
    let setup = c.self.inside.setup.now in
    let lt = declared_in c.args.self.now setup c.self.inside.ledger.entries c.args.role c.self.view_is c.requires.declared in
    let next = subst (λ (b : BookView). IsNextOf b c.args.role c.args.point) (sym c.self.view_is) c.requires.next in
    let of = of_next setup c.args.role (place (left_by setup c.self.inside.ledger.entries) c.args.role) c.args.point c.self.invariant.book.protocol next in
    (low_role setup c.args.role c.self.invariant.book.protocol lt, subst (λ q. q < 8) (sym c.receiver.ensures) of.receiver)

pub overflow_sub-result : goal.overflow_sub-result
overflow_sub-result c =
    let setup = c.self.inside.setup.now in
    let lt = declared_in c.args.self.now setup c.self.inside.ledger.entries c.args.role c.self.view_is c.requires.declared in
    let next = subst (λ (b : BookView). IsNextOf b c.args.role c.args.point) (sym c.self.view_is) c.requires.next in
    let of = of_next setup c.args.role (place (left_by setup c.self.inside.ledger.entries) c.args.role) c.args.point c.self.invariant.book.protocol next in
    let order = in_order setup c.self.inside.ledger.entries c.self.inside.numbers.items c.self.inside.ledger c.self.invariant.book c.args.role c.receiver.result (low_role setup c.args.role c.self.invariant.book.protocol lt) (subst (λ q. q < 8) (sym c.receiver.ensures) of.receiver) in
    omega (arith, order, c.counts-put.ensures.put, c.counts-put.ensures.taken)

pub returns : goal.returns
returns c =
    let setup = c.self.inside.setup.now in
    let lt = declared_in c.args.self.now setup c.self.inside.ledger.entries c.args.role c.self.view_is c.requires.declared in
    let next = subst (λ (b : BookView). IsNextOf b c.args.role c.args.point) (sym c.self.view_is) c.requires.next in
    let of = of_next setup c.args.role (place (left_by setup c.self.inside.ledger.entries) c.args.role) c.args.point c.self.invariant.book.protocol next in
    room_told setup c.self.inside.ledger.entries c.self.inside.numbers.items c.self.inside.ledger c.self.invariant.book c.args.role c.args.point c.receiver.result c.counts-put.result.0 c.counts-put.result.1 c.room.result (nat_lt (c.counts-put.result.0 - c.counts-put.result.1) c.room.result) lt of c.receiver.ensures c.counts-put.ensures.put c.counts-put.ensures.taken c.room.ensures.value refl c.args.self.now c.self.view_is
