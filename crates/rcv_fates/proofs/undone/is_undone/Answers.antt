-- An event of the journal is of a declared role; it is undone where it isn't kept.
use Rattle.std.proofs.Common.{Some, ap, ◌∙◌, inl, inr, subst}
use Rattle.rcv_tree.specs.declared.entry.Entry.{Entry}
use Rattle.rcv_core.specs.Book.{state_of}
use Rattle.rcv_session.specs.Session.{rules_of}
use Rattle.rcv_fates.specs.Fates.{IsUndone}
use Rattle.rcv_fates.proofs.Undoing.{declared, by_send, by_recv, by_other}
use Rattle.rcv_fates.proofs.undone.is_undone.Goals as goal

pub is_kept-requires : goal.is_kept-requires
is_kept-requires c = declared (rules_of c.args.book.now.setup) c.args.book.now.entries c.args.place c.in-Send.event c.in-Some.ensures.legal (inl (c.in-Some.ensures.some ∙ ap Some c.in-Send.is))

pub is_kept-requires-in-Recv : goal.is_kept-requires-in-Recv
is_kept-requires-in-Recv c = declared (rules_of c.args.book.now.setup) c.args.book.now.entries c.args.place c.in-Recv.event c.in-Some.ensures.legal (inr (c.in-Some.ensures.some ∙ ap Some c.in-Recv.is))

pub returns-in-Send : goal.returns-in-Send
returns-in-Send c = by_send (state_of c.args.book.now).kept c.args.book.now.entries c.args.place c.in-Some.entry.now c.in-Send.event c.is_kept.result c.in-Some.ensures.some c.in-Send.is c.is_kept.ensures

pub returns-in-Recv : goal.returns-in-Recv
returns-in-Recv c = by_recv (state_of c.args.book.now).kept c.args.book.now.entries c.args.place c.in-Some.entry.now c.in-Recv.event c.is_kept-in-Recv.result c.in-Some.ensures.some c.in-Recv.is c.is_kept-in-Recv.ensures

pub returns-in-Crash : goal.returns-in-Crash
returns-in-Crash c =
    by_other (state_of c.args.book.now).kept c.args.book.now.entries c.args.place c.in-Some.entry.now c.in-Some.ensures.some
    (λ u. let P : Entry → Type 0 = IsUndone (state_of c.args.book.now).kept in subst P c.in-Crash.is u)

pub returns-in-Recover : goal.returns-in-Recover
returns-in-Recover c =
    by_other (state_of c.args.book.now).kept c.args.book.now.entries c.args.place c.in-Some.entry.now c.in-Some.ensures.some
    (λ u. let P : Entry → Type 0 = IsUndone (state_of c.args.book.now).kept in subst P c.in-Recover.is u)
