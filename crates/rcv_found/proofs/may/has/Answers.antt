-- The trial's stop tells whether the grammar has the thing.
use Rattle.std.proofs.Common.{◌∙◌}
use Rattle.rcv_found.specs.Seen.{grammar_in}
use Rattle.rcv_found.proofs.Trying.{judged_no, judged_yes}
use Rattle.rcv_found.proofs.may.has.Goals as goal

pub returns-clause-no : goal.returns-clause-no
returns-clause-no c = λ e. judged_no (grammar_in c.args.grammar.now) c.args.bundle.now c.args.front.now c.args.thing.now c.as_slice-bytes.result.now c.as_slice.result.now c.in_ok-stop.stop
    c.requires.inside (c.as_slice-bytes.ensures.value ∙ c.in_ok-text.ensures.text) (c.as_slice.ensures.value ∙ c.in_ok-list.ensures) c.in_ok-stop.ensures (c.is_had.ensures.no e)

pub returns-clause-yes : goal.returns-clause-yes
returns-clause-yes c = λ e. judged_yes (grammar_in c.args.grammar.now) c.args.bundle.now c.args.front.now c.args.thing.now c.as_slice-bytes.result.now c.as_slice.result.now c.in_ok-stop.stop
    c.requires.inside (c.as_slice-bytes.ensures.value ∙ c.in_ok-text.ensures.text) (c.as_slice.ensures.value ∙ c.in_ok-list.ensures) c.in_ok-stop.ensures (c.is_had.ensures.yes e)
