-- By what the two scans find.
use Rattle.std.proofs.Common.{true, ap, ◌∙◌, ◌-◌, length, drop, arith}
use Rattle.std.proofs.lemmas.List.{length-drop, take_all}
use Rattle.rcv_section.specs.Scanning.{heading_from}
use Rattle.rcv_section.proofs.Sought.{none_sought, section_sought}
use Rattle.rcv_section.proofs.section.section_of.Goals as goal

pub returns-in_default-clause-none : goal.returns-in_default-clause-none
returns-in_default-clause-none c = none_sought c.args.number c.args.text.now c.as_slice.result.now (c.as_slice.ensures.value ∙ c.in_ok-title.ensures) c.behind_title.result c.behind_title.ensures.is c.in_default.not-Some

pub returns-clause-some : goal.returns-clause-some
returns-clause-some c = section_sought c.args.number c.args.text.now c.as_slice.result.now (c.as_slice.ensures.value ∙ c.in_ok-title.ensures) c.in-Some.begin c.in-Some.ensures.is c.next_heading.result (c.next_heading.ensures.is ∙ ap (heading_from true 0) (take_all (length c.args.text.now - c.in-Some.begin) (drop c.in-Some.begin c.args.text.now) (omega (arith, length-drop c.in-Some.begin c.args.text.now))))
