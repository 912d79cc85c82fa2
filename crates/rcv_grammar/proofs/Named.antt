-- Roles and messages of what was read have words for names, and roles differ.
use Rattle.std.proofs.Common.{ℕ, List, [], ◌∷◌, ◌++◌, All}
use Rattle.std.proofs.lemmas.List.Elements.{All-cons, All-nil}
use Rattle.std.specs.List.{AllByRecursion}
use Rattle.rcv_tree.specs.Words.{IsWord}
use Rattle.rcv_tree.specs.declared.protocol.Protocol.{Protocol}
use Rattle.rcv_model.specs.Names.{AreDifferent}
use Rattle.rcv_machine.specs.Words.{symbols_of, WrittenProtocol, AreTreesOf}
use Rattle.rcv_grammar.specs.Printable.{AreNames, SomeNames}
use Rattle.rcv_grammar.specs.Laws.{IsNamed, ReadTextsHaveNames}
use Rattle.rcv_grammar.proofs.Headings.{AreAdmitted}
use Rattle.rcv_grammar.proofs.Canonizing.{admitted}
use Rattle.rcv_grammar.proofs.Printables.{IsSaidSo, read_is_named}

names_are_words : (names : List (List ℕ)) → AreNames names → All IsWord names
names_are_words [] h = All-nil IsWord
names_are_words (n ∷ names) h = All-cons IsWord n names h.0.0 (names_are_words names h.1)

some_are_words : (names : List (List ℕ)) → SomeNames names → All IsWord names
some_are_words [] h = absurd h
some_are_words (n ∷ names) h = names_are_words (n ∷ names) h

others_named : (names : List (List ℕ)) (ws : List WrittenProtocol) (ps : List Protocol) → AreAdmitted names ws → AreTreesOf ws ps
    → AllByRecursion IsSaidSo ps → AllByRecursion IsNamed ps
others_named names [] [] are trees said = tt
others_named names [] (p ∷ ps) are trees said = absurd trees
others_named names (w ∷ ws) [] are trees said = absurd trees
others_named names (w ∷ ws) (p ∷ ps) are trees said =
    let differ : AreDifferent p.roles = rw trees.0.role_names are.0.different in (
      record { role_words = some_are_words p.roles said.0.1; differ = differ; label_words = said.0.3 },
      others_named (names ++ w.name ∷ []) ws ps are.1 trees.3 said.1,
    )

pub read_texts_have_names : ReadTextsHaveNames
read_texts_have_names bundle part tokens main others are read =
    let all = admitted (symbols_of bundle tokens) main others read in
    let named = read_is_named bundle part tokens main others are read in
    let r = read.1 in
    let differ : AreDifferent main.roles = rw r.first.role_names all.0.different in (
      record { role_words = some_are_words main.roles named.0.role_names; differ = differ; label_words = named.1 },
      others_named (r.source.first.name ∷ []) r.source.others others all.1 r.more named.2,
    )
