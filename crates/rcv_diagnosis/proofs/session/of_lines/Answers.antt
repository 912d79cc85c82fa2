-- The journal that the text spells, or its first wrong line.
use Rattle.std.proofs.Common.{arith}
use Rattle.rcv_journal.specs.Recorded.{bare}
use Rattle.rcv_replay.proofs.Judging.{few_entries, few_wrong}
use Rattle.rcv_diagnosis.proofs.Parting.{formed_found}
use Rattle.rcv_diagnosis.proofs.session.of_lines.Goals as goal

pub of_journal-requires-clause-few : goal.of_journal-requires-clause-few
of_journal-requires-clause-few c = let few = few_entries (bare c.accepted.result.now.protocol) c.args.text.now c.in-Ok.journal c.in-Ok.ensures.ok in omega (arith, few, c.requires.text)

pub overflow_add-feeds : goal.overflow_add-feeds
overflow_add-feeds c =
    let few = few_wrong (bare c.accepted.result.now.protocol) c.args.text.now c.in-Err-Line.number (c.in-Err-Line.ensures.line c.in-Err-Line.number c.in-Err-Line.field-0-is) in
    omega (arith, few, c.requires.feeds, c.requires.text)

pub returns-in-Ok : goal.returns-in-Ok
returns-in-Ok c =
    formed_found c.of_journal.result c.args.setup.now c.accepted.result.now.protocol c.args.text.now c.args.feeds c.in-Ok.journal c.accepted.ensures c.in-Ok.ensures.ok c.of_journal.ensures
