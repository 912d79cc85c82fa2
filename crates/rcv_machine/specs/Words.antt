-- The words of the grammar, of the table of the codes and of the machine, passed on from one place. Declares nothing.
pub use Rattle.rcv_tree.specs.Names.{place_of}
pub use Rattle.rcv_syntax.specs.declared.sign.Sign.{Sign}
pub use Rattle.rcv_syntax.specs.declared.sign.Sign.TheVariants.{Global, To, Or, Choice, Rec, Continue, Par, Do, Open}
pub use Rattle.rcv_syntax.specs.declared.sign.Sign.TheVariants.{Close, Right, Comma, Semicolon, Dot, At, Protocol, Role}
pub use Rattle.rcv_syntax.specs.declared.sign.Sign.TheVariants.{From, Left, Less, Greater, Module, And}
pub use Rattle.rcv_syntax.specs.declared.fault.Fault.{Fault}
pub use Rattle.rcv_syntax.specs.declared.fault.Fault.TheVariants.{Token, Deep, NoName, Twice, SelfMessage}
pub use Rattle.rcv_syntax.specs.declared.fault.Fault.TheVariants.{AfterContinue, Unguarded, TooMany, NotYet, Shared}
pub use Rattle.rcv_syntax.specs.Symbols.{Symbol, Is, Word, Text, Number, symbols_of, line_before, IsNotNext, reserved}
pub use Rattle.rcv_syntax.specs.Symbols.{sign_or, symbol_by}
pub use Rattle.rcv_syntax.specs.Grammar.{Written, NoStmt, AMessage, AChoice, ARec, AContinue, APar, ADo, Blocks}
pub use Rattle.rcv_syntax.specs.Grammar.{NoBlock, ABlock, dotted, names_behind, sort_list, roles_behind, decls, stmts}
pub use Rattle.rcv_syntax.specs.Grammar.{blocks_behind, IsBegun, IsProper, AreProper, is_decl_word, AreDecls, Source}
pub use Rattle.rcv_syntax.specs.Grammar.{WrittenProtocol, declared, protocol, protocols, modules, AreProperBodies}
pub use Rattle.rcv_syntax.specs.Grammar.{IsDerived, IsBeginning, decl, Spells, spelling}
pub use Rattle.rcv_syntax.specs.Trees.{is_listed, Reads, or_first, role_at, points, points_of, singles}
pub use Rattle.rcv_syntax.specs.Trees.{IsTreeOf, AreTreesOf, lines_of_calls, is_call}
pub use Rattle.rcv_syntax.specs.Trees.{MayReceive, MayCall, roles_at, tree_of, trees_of, IsDeclared, IsFit, AreFit}
pub use Rattle.rcv_syntax.specs.Codes.{is_among, code_of, Holds, Standing, standing, AsReceiver, AsOther, roles_before}
pub use Rattle.rcv_syntax.specs.Codes.{points_before, listed, sender, open_braces, recs_of, Comes, is_at_name, is_at}
pub use Rattle.rcv_syntax.specs.Codes.{begins_a_statement, IsUnguarded, is_behind_continue, FromItsStart}
pub use Rattle.rcv_syntax.specs.Codes.{IntoRec, IntoChoice, IntoBranch, AsNewRole, AsAlias, AsActor, AsTarget, names_as}
pub use Rattle.rcv_syntax.specs.Codes.{aliases_before, protocols_before, names_here, is_role, named_since_par, is_beside}
pub use Rattle.rcv_syntax.specs.Codes.{AsNewProtocol, AsCalled, AsArgument}
pub use Rattle.rcv_syntax.specs.Refusing.{backward, HoldsAt, IsFree, IsFirst}
pub use Rattle.rcv_tree.specs.declared.protocol.Decl.{Decl}
pub use Rattle.rcv_machine.specs.Machine.{Named, nobody, with_role}
pub use Rattle.rcv_machine.specs.Machine.{Place, Item, This, AnyName, AnyQuoted, MoreModules, Decls, Alias, RoleName}
pub use Rattle.rcv_machine.specs.Machine.{MoreRoles, Sorts, MoreSorts, Subject, Sender, Receiver, MoreReceivers}
pub use Rattle.rcv_machine.specs.Machine.{RecName, AgainName, Opening, First, Rest, More, Lane, Later}
pub use Rattle.rcv_machine.specs.Machine.{Argument, MoreArguments, ProtocolName, MoreProtocols, argues, anew}
pub use Rattle.rcv_machine.specs.Machine.{State, Outcome, On, Wrong, beside, later}
pub use Rattle.rcv_machine.specs.Machine.{after_statement, unless, by_place, meets, is_open, begins, ends, branches, step}
pub use Rattle.rcv_machine.specs.Machine.{awaited, at_end, after, Answer, Taken, Refuses, answer, reading, known}
pub use Rattle.rcv_machine.specs.Machine.{inside, inside_rec, receives, outermost, in_head, begin}
