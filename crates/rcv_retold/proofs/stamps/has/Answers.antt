-- The search gives the first stamp that isn't below the one that is searched for.
use Rattle.std.proofs.Common.{ℕ, length, refl, ltb, rules, eqb-true, eq-eqb}
use Rattle.std.proofs.lemmas.List.Sorted.{IsPartitionPoint-from_clause, IsPartitionedBy-ltb}
use Rattle.std.proofs.lemmas.Option.{slice_get_read}
use Rattle.rcv_retold.proofs.Searching.{past_all, at_place}
use Rattle.rcv_retold.proofs.stamps.has.Goals as goal

pub returns-in-Some : goal.returns-in-Some
returns-in-Some c =
    let parted = IsPartitionedBy-ltb (λ (x : ℕ). x) _ c.args.stamp c.requires in
    let point = IsPartitionPoint-from_clause (λ (x : ℕ). ltb x c.args.stamp) _ _ c.partition_point-number.ensures.partitioned parted (λ a r q k. search rules) in
    let found = c.in-Some.ensures.lookup in
    let here = slice_get_read c.args.stamps.now (length c.args.stamps.now) c.partition_point-number.result c.in-Some.one.now refl found.3.0 found.1 in
    let same = at_place c.args.stamps.now c.args.stamp c.partition_point-number.result c.requires point c.in-Some.one.now here in
    ((λ t. same.0 (eqb-true c.in-Some.one.now c.args.stamp t)), (λ s. eq-eqb c.in-Some.one.now c.args.stamp (same.1 s)))

pub returns-in-None : goal.returns-in-None
returns-in-None c =
    let parted = IsPartitionedBy-ltb (λ (x : ℕ). x) _ c.args.stamp c.requires in
    let point = IsPartitionPoint-from_clause (λ (x : ℕ). ltb x c.args.stamp) _ _ c.partition_point-number.ensures.partitioned parted (λ a r q k. search rules) in
    past_all c.args.stamps.now c.args.stamp c.partition_point-number.result c.requires point c.in-None.ensures.lookup.3
