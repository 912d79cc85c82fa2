-- The search gives where the counts above begin.
use Rattle.std.proofs.Common.{ℕ, leb, arith, rules}
use Rattle.std.proofs.lemmas.List.Sorted.{IsPartitionPoint-from_clause, IsPartitionedBy-leb}
use Rattle.rcv_saves.proofs.Splits.{rising, split_at}
use Rattle.rcv_saves.proofs.counts.many_up_to.Goals as goal

pub returns : goal.returns
returns c =
    let parted = IsPartitionedBy-leb (λ (x : ℕ). x) c.args.counts.now c.args.count (rising c.args.counts.now c.requires) in
    let point = IsPartitionPoint-from_clause (λ (x : ℕ). leb x c.args.count) _ _ c.partition_point.ensures.partitioned parted (λ a r q k. search rules) in
    split_at c.args.counts.now c.args.count c.partition_point.result (omega (arith, c.partition_point.ensures.bound)) point
