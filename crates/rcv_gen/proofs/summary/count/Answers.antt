-- One more entry.
use Rattle.std.proofs.Common.{◌∙◌, ap, sym, take}
use Rattle.std.proofs.lemmas.List.Sums.{fold_more}
use Rattle.rcv_gen.specs.Summary.{counted, counts_of, no_counts}
use Rattle.rcv_gen.proofs.summary.count.Goals as goal

pub loop-entry-preserved : goal.loop-entry-preserved
loop-entry-preserved c =
    let entries = c.args.entries.now in
    let place = c.loop-entry.entry-index in
    let entry = c.entry-item.result in (
      c.count_one-counts.ensures.value
          ∙ ap (λ counts. counted counts entry) c.loop-entry.invariant.0
          ∙ ap (counted (counts_of (take place entries))) c.entry-item.is
          ∙ sym (fold_more counted no_counts entries place entry c.loop-entry-test.true),
      c.count_one-counts.ensures.within place c.loop-entry.invariant.1,
    )
