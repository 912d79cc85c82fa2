-- A module that was read has the form that its expansion asks for.
use Rattle.std.proofs.Common.{◌≡◌, ℕ, ◌+◌, ◌≤◌, List, [], ◌∷◌, ◌++◌, length, map, refl, sym, ap, ◌∙◌, arith, length-append}
use Rattle.std.proofs.lemmas.List.{length-map}
use Rattle.std.specs.List.{AllByRecursion}
use Rattle.rcv_tree.specs.Lists.{protocols}
use Rattle.rcv_tree.specs.declared.protocol.Protocol.{Protocol}
use Rattle.rcv_model.specs.Text.{body_of}
use Rattle.rcv_model.specs.Form.{HasForm}
use Rattle.rcv_module.specs.Parts.{part_of}
use Rattle.rcv_module.specs.Form.{IsFilled, IsFormed}
use Rattle.rcv_machine.specs.Words.{symbols_of, WrittenProtocol, IsTreeOf, AreTreesOf, outermost}
use Rattle.rcv_reader.proofs.Apart.{lanes_apart}
use Rattle.rcv_reader.proofs.Formed.{tree_has_form}
use Rattle.rcv_grammar.specs.Laws.{IsNamed, ReadModulesHaveForm}
use Rattle.rcv_grammar.proofs.Headings.{roles_of, is_later, IsAdmitted, AreAdmitted}
use Rattle.rcv_grammar.proofs.Canonizing.{admitted}
use Rattle.rcv_grammar.proofs.Filling.{read_texts_are_filled}
use Rattle.rcv_grammar.proofs.Named.{read_texts_have_names}
use Rattle.rcv_grammar.proofs.Counting.{lines_counted, spelling_counted, module_calls, points_few}

-- one protocol
has_form : (names : List (List ℕ)) (w : WrittenProtocol) (p : Protocol) → IsAdmitted names w → IsTreeOf w p → HasForm (body_of p.body) (length p.roles)
has_form names w p is tree =
    let apart = lanes_apart (is_later names w) (roles_of w) 0 outermost w.body (omega arith) is.passes in
    let short = points_few (is_later names w) (roles_of w) 0 outermost w.body is.passes (omega arith) in
    rw (tree.tree, tree.role_names) (tree_has_form (roles_of w) w.body (rw tree.role_names at tree.fit) apart is.few (omega (arith, short)))

others_formed : (names : List (List ℕ)) (ws : List WrittenProtocol) (ps : List Protocol) → AreAdmitted names ws → AreTreesOf ws ps
    → AllByRecursion (λ p. IsFilled (length p.roles) [] [] (body_of p.body)) ps → AllByRecursion IsNamed ps
    → AllByRecursion IsFormed (map part_of ps)
others_formed names [] [] are trees full named = tt
others_formed names [] (p ∷ ps) are trees full named = absurd trees
others_formed names (w ∷ ws) [] are trees full named = absurd trees
others_formed names (w ∷ ws) (p ∷ ps) are trees full named = (
  record { form = has_form names w p are.0 trees.0; filled = full.0; words = named.0.label_words },
  others_formed (names ++ w.name ∷ []) ws ps are.1 trees.3 full.1 named.1,
)

-- There is room for each protocol.
have_room : (names : List (List ℕ)) (ws : List WrittenProtocol) → AreAdmitted names ws → length names ≤ 64 → length names + length ws ≤ 64
have_room names [] are few = omega (arith, few)
have_room names (w ∷ ws) are few =
    let long = length-append names (w.name ∷ []) in
    let more = have_room (names ++ w.name ∷ []) ws are.1 (omega (arith, long, are.0.room)) in omega (arith, long, more)

as_many : (ws : List WrittenProtocol) (ps : List Protocol) → AreTreesOf ws ps → length ws ≡ length ps
as_many [] [] trees = refl
as_many [] (p ∷ ps) trees = absurd trees
as_many (w ∷ ws) [] trees = absurd trees
as_many (w ∷ ws) (p ∷ ps) trees = let more = as_many ws ps trees.3 in omega (arith, more)

pub read_modules_have_form : ReadModulesHaveForm
read_modules_have_form bundle part tokens m are (read, lines) =
    let r = read.1 in
    let s = r.source in
    let ps = protocols m.others in
    let all = admitted (symbols_of bundle tokens) m.main ps read in
    let full = read_texts_are_filled (symbols_of bundle tokens) m.main ps read in
    let named = read_texts_have_names bundle part tokens m.main ps are read in
    let many = have_room [] (s.first ∷ s.others) all (omega arith) in
    let same = as_many s.others ps r.more in
    let long = length-map ps part_of in
    record {
      few = omega (arith, many, same, long);
      formed = (
        record { form = has_form [] s.first m.main all.0 r.first; filled = full.0; words = named.0.label_words },
        others_formed (s.first.name ∷ []) s.others ps all.1 r.more full.1 named.1,
      );
      lines = ap length lines ∙ lines_counted bundle tokens ∙ rw r.spelled.2 (spelling_counted s)
          ∙ sym (module_calls s.first m.main s.others ps r.first r.more);
    }
