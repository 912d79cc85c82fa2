-- The search gives the first Send whose stamp isn't below the one that is searched for.
use Rattle.std.proofs.Common.{ltb, arith, rules, sym, ◌∙◌, ap, subst}
use Rattle.std.specs.Prelude.{MatchOption}
use Rattle.std.proofs.lemmas.List.Sorted.{IsPartitionPoint-from_clause, IsPartitionedBy-ltb}
use Rattle.std.proofs.lemmas.Option.{slice_get_within}
use Rattle.rcv_model.proofs.Lists.{some_same}
use Rattle.rcv_fates.specs.declared.sends.Sent.{Sent}
use Rattle.rcv_fates.specs.Sends.{HasNoStamp, HasSent}
use Rattle.rcv_fates.proofs.Searching.{item_at, found_at, none_found}
use Rattle.rcv_fates.proofs.sends.place_of.Goals as goal

pub returns-in_err-sent : goal.returns-in_err-sent
returns-in_err-sent c =
    let parted = IsPartitionedBy-ltb (λ (x : Sent). x.stamp) _ c.args.stamp c.requires in
    let point = IsPartitionPoint-from_clause (λ (x : Sent). ltb x.stamp c.args.stamp) _ _ c.partition_point-number.ensures.partitioned parted (λ a r q k. search rules) in
    let past = c.in_err-sent.ensures.lookup.3 in
    subst (λ o. MatchOption o (HasNoStamp c.args.sends.now c.args.stamp) (λ place. HasSent c.args.sends.now c.args.stamp place)) (sym c.from_residual.ensures)
    (none_found c.args.sends.now c.args.stamp c.partition_point-number.result c.requires point
    (λ x at same. absurd (let inside = slice_get_within c.args.sends.now c.partition_point-number.result x at in omega (arith, inside, past))))

pub returns-then-sent-stamp : goal.returns-then-sent-stamp
returns-then-sent-stamp c =
    let found = c.in_ok-sent.ensures.lookup in
    found_at c.args.sends.now c.args.stamp c.partition_point-number.result c.in_ok-sent.sent.now (item_at c.args.sends.now c.partition_point-number.result c.in_ok-sent.sent.now found.3.0 found.1) c.if-sent-stamp.true

pub returns-else-sent-stamp : goal.returns-else-sent-stamp
returns-else-sent-stamp c =
    let parted = IsPartitionedBy-ltb (λ (x : Sent). x.stamp) _ c.args.stamp c.requires in
    let point = IsPartitionPoint-from_clause (λ (x : Sent). ltb x.stamp c.args.stamp) _ _ c.partition_point-number.ensures.partitioned parted (λ a r q k. search rules) in
    let found = c.in_ok-sent.ensures.lookup in
    let here = item_at c.args.sends.now c.partition_point-number.result c.in_ok-sent.sent.now found.3.0 found.1 in
    none_found c.args.sends.now c.args.stamp c.partition_point-number.result c.requires point
    (λ x at same. let f = some_same (sym here ∙ at) in c.if-sent-stamp.false (ap (λ (y : Sent). y.stamp) f ∙ same))
