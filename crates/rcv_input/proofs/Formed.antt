-- A protocol of an input has the form and the names that acceptance asks for.
use Rattle.std.proofs.Common.{List, ℕ, length, refl, sym, subst}
use Rattle.std.specs.List.{All}
use Rattle.rcv_tree.specs.Words.{IsWord}
use Rattle.rcv_tree.specs.Lists.{protocols}
use Rattle.rcv_tree.specs.declared.protocol.Protocol.{Protocol}
use Rattle.rcv_model.specs.Text.{body_of}
use Rattle.rcv_model.specs.Names.{AreDifferent, HasNames}
use Rattle.rcv_model.specs.Places.{singles, IsFullText}
use Rattle.rcv_model.specs.Form.{HasForm}
use Rattle.rcv_module.specs.Form.{HasModuleForm}
use Rattle.rcv_module.specs.Parts as modules
use Rattle.rcv_module.specs.Parts.{part_of}
use Rattle.rcv_module.proofs.Formed.{expansions_have_form}
use Rattle.rcv_lexer.specs.Parts.{parts_of}
use Rattle.rcv_grammar.specs.Laws.{IsNamed}
use Rattle.rcv_grammar.proofs.Formed.{read_modules_have_form}
use Rattle.rcv_grammar.proofs.Named.{read_texts_have_names}
use Rattle.rcv_input.specs.Input.{IsProtocolOf}

module _ (input : List ℕ) (p : Protocol) (text : IsProtocolOf input p) where
  module_form : HasModuleForm text.whole
  module_form = read_modules_have_form input (parts_of input).protocol text.tokens text.whole text.cut text.read

  main_named : IsNamed text.whole.main
  main_named = (read_texts_have_names input (parts_of input).protocol text.tokens text.whole.main (protocols text.whole.others) text.cut text.read.0).0

  expansion_form : HasForm (body_of p.body) (length text.whole.main.roles) × IsFullText (body_of p.body)
      × All (λ m. IsWord m.1.label) (singles (body_of p.body))
  expansion_form =
      expansions_have_form (modules.parts_of text.whole) (part_of text.whole.main) (body_of p.body) module_form.formed text.expanded.free refl text.expanded.body

  pub has_form : HasForm (body_of p.body) (length p.roles)
  has_form = subst (λ (l : List (List ℕ)). HasForm (body_of p.body) (length l)) (sym text.expanded.role_names) expansion_form.0

  pub is_full : IsFullText (body_of p.body)
  is_full = expansion_form.1

  pub has_names : HasNames p.roles (body_of p.body)
  has_names = record {
    role_words = subst (All IsWord) (sym text.expanded.role_names) main_named.role_words;
    differ = subst AreDifferent (sym text.expanded.role_names) main_named.differ;
    label_words = expansion_form.2;
  }
