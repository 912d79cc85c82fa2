-- The count is there, or it is put where the counts above begin.
use Rattle.std.proofs.Common.{refl, ◌≡◌, ◌<◌, ◌-◌, sym, ◌∙◌, subst}
use Rattle.std.specs.Prelude.{slice_index}
use Rattle.rcv_saves.specs.Counts.{IsAscending, IsSplit}
use Rattle.rcv_saves.proofs.Splits.{there_already, all_less, up_put, put_in}
use Rattle.rcv_saves.proofs.counts.add.Goals as goal

pub returns-then-ends_with-clause-ok : goal.returns-then-ends_with-clause-ok
returns-then-ends_with-clause-ok c =
    let split = subst (λ l. IsSplit l c.args.count c.many_up_to-place.result) c.as_slice.ensures.value c.many_up_to-place.ensures in
    let has = subst (λ l. (0 < c.many_up_to-place.result) × (slice_index l (c.many_up_to-place.result - 1) ≡ c.args.count)) c.as_slice-2.ensures.value (c.if-ends_with.ensures.0 refl) in
    sym (there_already c.args.counts.now.items c.requires c.args.count c.many_up_to-place.result split has.0 has.1)

pub returns-clause-ok : goal.returns-clause-ok
returns-clause-ok c =
    let split = subst (λ l. IsSplit l c.args.count c.many_up_to-place.result) c.as_slice.ensures.value c.many_up_to-place.ensures in
    let hasnt = subst (λ l. (0 < c.many_up_to-place.result) × (slice_index l (c.many_up_to-place.result - 1) ≡ c.args.count) → ⊥) c.as_slice-2.ensures.value (λ has. absurd (let t = c.if-ends_with.ensures.1 has in cc)) in
    c.in_ok-insert.ensures.items ∙ sym (put_in c.args.counts.now.items c.args.count c.many_up_to-place.result split (all_less c.args.counts.now.items c.requires c.args.count c.many_up_to-place.result split hasnt))

pub returns-clause-ascending : goal.returns-clause-ascending
returns-clause-ascending c =
    let split = subst (λ l. IsSplit l c.args.count c.many_up_to-place.result) c.as_slice.ensures.value c.many_up_to-place.ensures in
    let hasnt = subst (λ l. (0 < c.many_up_to-place.result) × (slice_index l (c.many_up_to-place.result - 1) ≡ c.args.count) → ⊥) c.as_slice-2.ensures.value (λ has. absurd (let t = c.if-ends_with.ensures.1 has in cc)) in
    subst IsAscending (sym c.in_ok-insert.ensures.items) (up_put c.args.counts.now.items c.requires c.args.count c.many_up_to-place.result split (all_less c.args.counts.now.items c.requires c.args.count c.many_up_to-place.result split hasnt))
