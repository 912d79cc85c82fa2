-- Field by field.
use Rattle.std.proofs.Common.{◌∙◌, List, ℕ, ap, drop, arith}
use Rattle.rcv_tree.specs.declared.entry.Entry.TheVariants.{Recover}
use Rattle.rcv_journal.specs.Recorded.{bare}
use Rattle.rcv_lines.specs.Fields.{entry_fields}
use Rattle.rcv_lines.proofs.Fielded.{at}
use Rattle.rcv_lines.proofs.Parses.{none_from}
use Rattle.rcv_lines.proofs.Turns.{rest_texts}
use Rattle.rcv_lines.proofs.entries.recover.Goals as goal

pub returns-clause-none : goal.returns-clause-none
returns-clause-none c = none_from c.recovery_of.result (λ none p concerned kept undone formed is.
    let fields = entry_fields (bare c.args.accepted.now.protocol) (Recover p concerned kept undone) in
    none (Recover p concerned kept undone) formed (
      at c.args.fields.now fields 1 _ is (omega arith),
      at c.args.fields.now fields 3 _ is (omega arith),
      rest_texts c.args.fields.now 4 ∙ ap (λ (xs : List (List ℕ)). drop 4 xs) is,
    )) c.recovery_of.ensures.none
