-- Each option as the crate found it.
use Rattle.std.proofs.Common.{◌∙◌, codes}
use Rattle.clap.specs.Words.{found_of}
use Rattle.clap.proofs.WalkLemmas.{first_value-rows}
use Rattle.rcv_look.proofs.Passing.{code_pass, session_pass, text_pass, json_pass}
use Rattle.rcv_look.proofs.Reading.{flag_is_read, same_given}
use Rattle.rcv_look.proofs.given.Given.of.Goals as goal

pub number_in-requires : goal.number_in-requires
number_in-requires c = code_pass c.args.matches.now c.requires

pub number_in-requires-2 : goal.number_in-requires-2
number_in-requires-2 c = session_pass c.args.matches.now c.requires

pub returns-clause-value : goal.returns-clause-value
returns-clause-value c =
    let found = found_of c.args.matches.now in
    let text = flag_is_read found (codes "text") c.get_flag.result c.get_flag.ensures.none c.get_flag.ensures.value c.get_flag.ensures.other (text_pass c.args.matches.now c.requires) in
    let json = flag_is_read found (codes "json") c.get_flag-2.result c.get_flag-2.ensures.none c.get_flag-2.ensures.value c.get_flag-2.ensures.other (json_pass c.args.matches.now c.requires) in
    same_given _ _ (c.get_str.ensures ∙ first_value-rows found (codes "command"))
    (c.get_str-2.ensures ∙ first_value-rows found (codes "role")) c.number_in.ensures.value c.number_in-2.ensures.value text json
