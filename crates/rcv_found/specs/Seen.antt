-- What contracts see of a grammar.
use Rattle.rcv_found.specs.declared.grammar.Grammar.{Grammar}
use Rattle.rcv_found.specs.declared.grammar.Grammar.TheVariants.{Protocol, Scripts, Plan}
use Rattle.rcv_found.specs.Grammars.{GrammarView, OfProtocol, OfScripts, OfPlan}

abbrev pub grammar_in : Grammar → GrammarView
grammar_in Protocol = OfProtocol
grammar_in (Scripts accepted) = OfScripts accepted.now
grammar_in (Plan accepted) = OfPlan accepted.now
