-- The journal that the text spells, or its first wrong line.
use Rattle.std.proofs.Common.{◌+◌, refl, arith}
use Rattle.rcv_journal.specs.Recorded.{bare}
use Rattle.rcv_replay.proofs.Judging.{few_entries, few_wrong}
use Rattle.rcv_look.proofs.Journals.{formed_said, malformed_said}
use Rattle.rcv_look.proofs.journal.lines_answer.Goals as goal

pub verdict-requires : goal.verdict-requires
verdict-requires c = let few = few_entries (bare c.accepted.result.now.protocol) c.args.text.now c.in-Ok.journal c.in-Ok.ensures.ok in omega (arith, few, c.requires.text)

pub returns-in-Ok : goal.returns-in-Ok
returns-in-Ok c =
    formed_said c.verdict.result c.args.setup.now c.accepted.result.now.protocol c.args.text.now c.args.feeds c.in-Ok.journal c.accepted.ensures c.requires.lines c.in-Ok.ensures.ok c.verdict.ensures

pub overflow_add-feeds : goal.overflow_add-feeds
overflow_add-feeds c =
    let few = few_wrong (bare c.accepted.result.now.protocol) c.args.text.now c.in-Err-Line.number (c.in-Err-Line.ensures.line c.in-Err-Line.number c.in-Err-Line.field-0-is) in
    omega (arith, few, c.requires.feeds, c.requires.text)

pub returns-in-Err-Line : goal.returns-in-Err-Line
returns-in-Err-Line c =
    malformed_said c.malformed.result c.args.setup.now c.accepted.result.now.protocol c.args.text.now c.args.feeds c.in-Err-Line.number (c.args.feeds + c.in-Err-Line.number)
    c.accepted.ensures c.requires.lines (c.in-Err-Line.ensures.line c.in-Err-Line.number c.in-Err-Line.field-0-is)
    refl c.malformed.ensures.status c.malformed.ensures.bytes
