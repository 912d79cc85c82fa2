-- Field by field.
use Rattle.std.proofs.Common.{[], arith}
use Rattle.rcv_journal.specs.Recorded.{bare}
use Rattle.rcv_lines.specs.Fields.{event_fields}
use Rattle.rcv_lines.proofs.Fielded.{at}
use Rattle.rcv_lines.proofs.Parses.{none_from}
use Rattle.rcv_lines.proofs.events.event.Goals as goal

pub returns-clause-none : goal.returns-clause-none
returns-clause-none c = none_from c.event_of.result (λ none e formed is.
    let fields = event_fields (bare c.args.accepted.now.protocol) c.args.kind.now e [] in
    none e formed (record {
      role = at c.args.fields.now fields 1 _ is (omega arith);
      point = at c.args.fields.now fields 2 _ is (omega arith);
      label = at c.args.fields.now fields 3 _ is (omega arith);
      number = at c.args.fields.now fields 4 _ is (omega arith);
    })) c.event_of.ensures.none
