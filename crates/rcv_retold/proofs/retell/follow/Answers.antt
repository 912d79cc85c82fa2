-- By the kind of the entry.
use Rattle.std.proofs.Common.{refl, sym, ◌∙◌, subst, arith}
use Rattle.rcv_tree.specs.declared.entry.Entry.{Entry}
use Rattle.rcv_tree.specs.declared.entry.Entry.TheVariants.{Send, Recv}
use Rattle.rcv_guide.specs.Guide.{roles_of}
use Rattle.rcv_guide.proofs.Memories.{on_success}
use Rattle.rcv_ledger.specs.Logs.{log_at}
use Rattle.rcv_tree.specs.Lists.{lists_in}
use Rattle.rcv_retold.specs.Stamps.{IsEventOf, IsBehind}
use Rattle.rcv_retold.proofs.Listing.{lists_length}
use Rattle.rcv_retold.proofs.Telling.{one_stamp, cut_stamps}
use Rattle.rcv_retold.proofs.retell.follow.Goals as goal

pub note-requires : goal.note-requires
note-requires c =
    let low = c.requires.declared c.in-Send.event (subst (λ (x : Entry). IsEventOf x c.in-Send.event) (sym c.in-Send.is) refl) in
    let count = c.requires.count in
    omega (arith, low, count)

pub note-requires-in-Recv : goal.note-requires-in-Recv
note-requires-in-Recv c =
    let low = c.requires.declared c.in-Recv.event (subst (λ (x : Entry). IsEventOf x c.in-Recv.event) (sym c.in-Recv.is) refl) in
    let count = c.requires.count in
    omega (arith, low, count)

pub returns-in-Send : goal.returns-in-Send
returns-in-Send c = on_success _ _ c.note.result
    (λ added old whole are behind.
    let kind : IsBehind old (log_at c.args.guide.now.logs) (Send c.in-Send.event) = subst (IsBehind old (log_at c.args.guide.now.logs)) c.in-Send.is behind in
    one_stamp (roles_of c.args.guide.now) old (log_at c.args.guide.now.logs) (lists_in c.args.stamps.now.items) (lists_in c.note.new.stamps.items) c.in-Send.event
    (c.requires.declared c.in-Send.event (subst (λ (x : Entry). IsEventOf x c.in-Send.event) (sym c.in-Send.is) refl)) are kind.0 kind.1 added)
    c.note.ensures

pub returns-in-Recv : goal.returns-in-Recv
returns-in-Recv c = on_success _ _ c.note-in-Recv.result
    (λ added old whole are behind.
    let kind : IsBehind old (log_at c.args.guide.now.logs) (Recv c.in-Recv.event) = subst (IsBehind old (log_at c.args.guide.now.logs)) c.in-Recv.is behind in
    one_stamp (roles_of c.args.guide.now) old (log_at c.args.guide.now.logs) (lists_in c.args.stamps.now.items) (lists_in c.note-in-Recv.new.stamps.items) c.in-Recv.event
    (c.requires.declared c.in-Recv.event (subst (λ (x : Entry). IsEventOf x c.in-Recv.event) (sym c.in-Recv.is) refl)) are kind.0 kind.1 added)
    c.note-in-Recv.ensures

pub returns-in-Recover : goal.returns-in-Recover
returns-in-Recover c = λ old whole are behind.
    cut_stamps c.args.guide.now whole old (lists_in c.args.stamps.now.items) (lists_in c.cut_all.new.stamps.items) are
    (subst (IsBehind old (log_at c.args.guide.now.logs)) c.in-Recover.is behind)
    (lists_length c.cut_all.new.stamps.items ∙ c.cut_all.ensures.count ∙ sym (lists_length c.args.stamps.now.items))
    c.cut_all.ensures.each
