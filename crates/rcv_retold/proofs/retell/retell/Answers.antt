-- The stamps say which events are held.
use Rattle.std.proofs.Common.{◌<◌, length, sym, ◌∙◌, ap, subst}
use Rattle.rcv_tree.specs.declared.protocol.Protocol.{Protocol}
use Rattle.rcv_guide.specs.Guide.{IsMemory}
use Rattle.rcv_told.specs.Told.{Terms, told}
use Rattle.rcv_fates.specs.Record.{RecordView, HasKept}
use Rattle.rcv_retold.specs.Retold.{terms_for, HasSameText}
use Rattle.rcv_tree.specs.Lists.{lists_in}
use Rattle.rcv_retold.proofs.Listing.{lists_length}
use Rattle.rcv_retold.proofs.Records.{event_declared, stamps_rise, all_lack, is_record}
use Rattle.rcv_retold.proofs.Same.{terms_same, retold_same, untold_same, stamps_same, if_err}
use Rattle.rcv_retold.proofs.retell.retell.Goals as goal

pub undone_of-requires-clause-declared : goal.undone_of-requires-clause-declared
undone_of-requires-clause-declared c = λ place e at.
    subst (λ n. e.role < n) (sym (c.in_ok-stamps.ensures.stamps.count ∙ ap length c.requires.same.names) ∙ lists_length c.in_ok-stamps.stamps.items)
    (event_declared c.args.setup.now c.args.entries.now c.protocol-protocol.ensures.accepted c.requires.few (retold_same c.args.setup.now c.args.guide.now.protocol c.requires.same c.args.entries.now c.in_ok-stamps.ensures.retold) place e at)

pub undone_of-requires-clause-sorted : goal.undone_of-requires-clause-sorted
undone_of-requires-clause-sorted c = λ r low.
    stamps_rise c.args.setup.now c.args.entries.now c.protocol-protocol.ensures.accepted c.requires.few (retold_same c.args.setup.now c.args.guide.now.protocol c.requires.same c.args.entries.now c.in_ok-stamps.ensures.retold) (lists_in c.in_ok-stamps.stamps.items) (stamps_same c.args.setup.now c.args.guide.now.protocol c.requires.same c.args.entries.now (lists_in c.in_ok-stamps.stamps.items) c.in_ok-stamps.ensures.stamps) r
    (subst (λ n. r < n) (sym (lists_length c.in_ok-stamps.stamps.items) ∙ (c.in_ok-stamps.ensures.stamps.count ∙ ap length c.requires.same.names)) low)

pub new-requires : goal.new-requires
new-requires c =
    is_record c.args.setup.now c.args.entries.now c.protocol-protocol.ensures.accepted c.requires.few (retold_same c.args.setup.now c.args.guide.now.protocol c.requires.same c.args.entries.now c.in_ok-stamps.ensures.retold) c.in_ok-undone.undone.items
    (c.in_ok-undone.ensures (told (terms_for c.args.setup.now) c.args.entries.now).held c.args.setup.now
    (all_lack c.args.setup.now c.args.entries.now c.protocol-protocol.ensures.accepted c.requires.few (retold_same c.args.setup.now c.args.guide.now.protocol c.requires.same c.args.entries.now c.in_ok-stamps.ensures.retold) (lists_in c.in_ok-stamps.stamps.items) (stamps_same c.args.setup.now c.args.guide.now.protocol c.requires.same c.args.entries.now (lists_in c.in_ok-stamps.stamps.items) c.in_ok-stamps.ensures.stamps)))

pub returns-clause-kept : goal.returns-clause-kept
returns-clause-kept c =
    subst (λ (r : RecordView). HasKept r (told (terms_for c.args.setup.now) c.args.entries.now).held) (sym c.new.ensures)
    (c.in_ok-undone.ensures (told (terms_for c.args.setup.now) c.args.entries.now).held c.args.setup.now
    (all_lack c.args.setup.now c.args.entries.now c.protocol-protocol.ensures.accepted c.requires.few (retold_same c.args.setup.now c.args.guide.now.protocol c.requires.same c.args.entries.now c.in_ok-stamps.ensures.retold) (lists_in c.in_ok-stamps.stamps.items) (stamps_same c.args.setup.now c.args.guide.now.protocol c.requires.same c.args.entries.now (lists_in c.in_ok-stamps.stamps.items) c.in_ok-stamps.ensures.stamps)))

pub returns-clause-retold : goal.returns-clause-retold
returns-clause-retold c = retold_same c.args.setup.now c.args.guide.now.protocol c.requires.same c.args.entries.now c.in_ok-stamps.ensures.retold

pub returns-clause-protocol : goal.returns-clause-protocol
returns-clause-protocol c = subst (λ (p : Protocol). HasSameText p c.args.setup.now.protocol) (sym c.in_ok-stamps.ensures.protocol) c.requires.same

pub returns-clause-memory : goal.returns-clause-memory
returns-clause-memory c =
    subst (λ (t : Terms). IsMemory c.tell_all.new.guide (told t c.args.entries.now)) (terms_same c.args.setup.now c.args.guide.now.protocol c.requires.same) c.in_ok-stamps.ensures.memory

pub returns-in_err-stamps-clause-wrong : goal.returns-in_err-stamps-clause-wrong
returns-in_err-stamps-clause-wrong c =
    if_err c.from_residual.result _ _ (λ e is k same. untold_same c.args.setup.now c.args.guide.now.protocol c.requires.same c.args.entries.now k (c.in_err-stamps.ensures.wrong k (sym is ∙ same))) c.from_residual.ensures.1
