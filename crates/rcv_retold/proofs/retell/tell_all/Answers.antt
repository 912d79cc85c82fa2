-- Entry by entry.
use Rattle.std.proofs.Common.{◌≡◌, ◌<◌, [], replicate, length, refl, sym, ◌∙◌, ap, subst, arith}
use Rattle.std.specs.Prelude.{Some, slice_get}
use Rattle.std.proofs.lemmas.Option.{slice_get_read}
use Rattle.rcv_tree.specs.declared.protocol.Protocol.{Protocol}
use Rattle.rcv_session.specs.Session.{roles_of}
use Rattle.rcv_ledger.specs.Logs.{log_at}
use Rattle.rcv_guide.specs.Guide.{GuideView, roles_of as guide_roles}
use Rattle.rcv_retold.specs.Retold.{terms_for, with_protocol, IsFirstUntold}
use Rattle.rcv_tree.specs.Lists.{lists_in}
use Rattle.rcv_retold.specs.Stamps.{AreStamps}
use Rattle.rcv_retold.proofs.Listing.{lists_length}
use Rattle.rcv_retold.proofs.Telling.{at_first, at_next, whole_at, has_room, declared_here, behind, untold_here, all_stamps, all_memory, all_retold, stamps_first}
use Rattle.rcv_retold.proofs.retell.tell_all.Goals as goal

pub loop-number-init : goal.loop-number-init
loop-number-init c = record {
  at = at_first (with_protocol c.args.setup.now c.args.guide.now.protocol) c.args.entries.now c.args.guide.now c.requires.fresh;
  stamps = stamps_first (with_protocol c.args.setup.now c.args.guide.now.protocol) c.args.guide.now (length c.args.entries.now) (lists_in c.in_ok-stamps.stamps.items) c.requires.fresh
      (c.in_ok-stamps.ensures ∙ ap (λ n. replicate n []) (c.roles.ensures.value ∙ ap (λ (g : GuideView). guide_roles g) c.requires.fresh));
}

pub follow-requires-clause-count : goal.follow-requires-clause-count
follow-requires-clause-count c =
    let at : slice_get c.args.entries.now c.loop-number.number ≡ Some c.index-entries-number.result = slice_get_read c.args.entries.now (length c.args.entries.now) c.loop-number.number c.index-entries-number.result refl c.loop-number-test.true c.index-entries-number.is in
    let goes = c.tell.ensures.goes c.if-not-tell.false in
    sym (lists_length c.loop-number.stamps.items) ∙ c.loop-number.invariant.stamps.count
    ∙ sym (ap (λ (p : Protocol). length p.roles) (goes.protocol ∙ c.loop-number.invariant.at.protocol))

pub follow-requires-clause-declared : goal.follow-requires-clause-declared
follow-requires-clause-declared c = λ d of.
    let at : slice_get c.args.entries.now c.loop-number.number ≡ Some c.index-entries-number.result = slice_get_read c.args.entries.now (length c.args.entries.now) c.loop-number.number c.index-entries-number.result refl c.loop-number-test.true c.index-entries-number.is in
    let goes = c.tell.ensures.goes c.if-not-tell.false in
    subst (λ (p : Protocol). d.role < length p.roles) (sym goes.protocol)
    (declared_here (with_protocol c.args.setup.now c.args.guide.now.protocol) c.args.entries.now c.loop-number.number c.loop-number.guide c.loop-number.invariant.at c.index-entries-number.result at (c.tell.ensures.may c.if-not-tell.false) d of)

pub returns-then-not-tell-clause-wrong : goal.returns-then-not-tell-clause-wrong
returns-then-not-tell-clause-wrong c k told =
    let at : slice_get c.args.entries.now c.loop-number.number ≡ Some c.index-entries-number.result = slice_get_read c.args.entries.now (length c.args.entries.now) c.loop-number.number c.index-entries-number.result refl c.loop-number-test.true c.index-entries-number.is in
    let same : c.loop-number.number ≡ k = cc in
    subst (IsFirstUntold (terms_for (with_protocol c.args.setup.now c.args.guide.now.protocol)) c.args.entries.now) same
    (untold_here (with_protocol c.args.setup.now c.args.guide.now.protocol) c.args.entries.now c.loop-number.number c.loop-number.guide c.loop-number.invariant.at c.index-entries-number.result at
    (c.tell.ensures.wrong c.if-not-tell.true (has_room (with_protocol c.args.setup.now c.args.guide.now.protocol) c.args.entries.now c.loop-number.number c.loop-number.guide c.loop-number.invariant.at c.loop-number-test.true c.requires.few)))

pub loop-number-preserved : goal.loop-number-preserved
loop-number-preserved c =
    let at : slice_get c.args.entries.now c.loop-number.number ≡ Some c.index-entries-number.result = slice_get_read c.args.entries.now (length c.args.entries.now) c.loop-number.number c.index-entries-number.result refl c.loop-number-test.true c.index-entries-number.is in
    let goes = c.tell.ensures.goes c.if-not-tell.false in
    let may = c.tell.ensures.may c.if-not-tell.false in
    let next = at_next (with_protocol c.args.setup.now c.args.guide.now.protocol) c.args.entries.now c.loop-number.number c.loop-number.guide c.loop-number.invariant.at c.index-entries-number.result at c.tell.new.guide may goes in
    let roles : roles_of (with_protocol c.args.setup.now c.args.guide.now.protocol) ≡ guide_roles c.tell.new.guide = sym (ap (λ (p : Protocol). length p.roles) next.protocol) in
    record {
      at = next;
      stamps = subst (λ n. AreStamps n (log_at c.tell.new.guide.logs) (lists_in c.follow.new.stamps.items)) (sym roles)
          (c.in_ok-follow.ensures (log_at c.loop-number.guide.logs)
          (whole_at (with_protocol c.args.setup.now c.args.guide.now.protocol) c.args.entries.now _ c.tell.new.guide next)
          (subst (λ n. AreStamps n (log_at c.loop-number.guide.logs) (lists_in c.loop-number.stamps.items)) roles c.loop-number.invariant.stamps)
          (behind (with_protocol c.args.setup.now c.args.guide.now.protocol) c.args.entries.now c.loop-number.number c.loop-number.guide c.loop-number.invariant.at c.index-entries-number.result at c.tell.new.guide may goes));
    }

pub returns-clause-retold : goal.returns-clause-retold
returns-clause-retold c =
    let over = c.loop-number-test.false in
    all_retold (with_protocol c.args.setup.now c.args.guide.now.protocol) c.args.entries.now c.loop-number.number c.loop-number.guide c.loop-number.invariant.at (omega (arith, over))

pub returns-clause-memory : goal.returns-clause-memory
returns-clause-memory c =
    let over = c.loop-number-test.false in
    all_memory (with_protocol c.args.setup.now c.args.guide.now.protocol) c.args.entries.now c.loop-number.number c.loop-number.guide c.loop-number.invariant.at (omega (arith, over))

pub returns-clause-stamps : goal.returns-clause-stamps
returns-clause-stamps c =
    let over = c.loop-number-test.false in
    all_stamps (with_protocol c.args.setup.now c.args.guide.now.protocol) c.args.entries.now c.loop-number.number c.loop-number.guide c.loop-number.invariant.at (lists_in c.loop-number.stamps.items) (omega (arith, over)) c.loop-number.invariant.stamps
