-- A text that was read has full blocks only.
use Rattle.std.proofs.Common.{◌≡◌, ℕ, ◌≤◌, true, false, List, [], ◌∷◌, ◌++◌, length, refl, arith, length-append}
use Rattle.std.proofs.lemmas.Bool.Decides.{nat_tests}
use Rattle.std.specs.List.{AllByRecursion}
use Rattle.rcv_tree.specs.declared.protocol.Protocol.{Protocol}
use Rattle.rcv_model.specs.Text.{body_of}
use Rattle.rcv_module.specs.Form.{IsFilled}
use Rattle.rcv_machine.specs.Words.{WrittenProtocol, AreProperBodies, AreTreesOf, outermost}
use Rattle.rcv_grammar.specs.Laws.{ReadTextsAreFilled}
use Rattle.rcv_grammar.proofs.Canonizing.{admitted, kept, knows_no, knows_no_recent, text_filled}
use Rattle.rcv_grammar.proofs.Headings.{roles_of, is_later, AreAdmitted}

pub later_than : (names : List (List ℕ)) (p : WrittenProtocol) → 1 ≤ length names → is_later names p ≡ true
later_than names p some = let long = length-append names (p.name ∷ []) in let two : 2 ≤ length (names ++ p.name ∷ []) = omega (arith, long, some) in grind (arith, nat_tests)

others_filled : (names : List (List ℕ)) (ws : List WrittenProtocol) (ps : List Protocol) → 1 ≤ length names → AreAdmitted names ws
    → AreProperBodies ws → AreTreesOf ws ps → AllByRecursion (λ p. IsFilled (length p.roles) [] [] (body_of p.body)) ps
others_filled names [] [] some are proper trees = tt
others_filled names [] (p ∷ ps) some are proper trees = absurd trees
others_filled names (w ∷ ws) [] some are proper trees = absurd trees
others_filled names (w ∷ ws) (p ∷ ps) some are proper trees =
    let later = later_than names w some in
    let k = kept (is_later names w) (roles_of w) 0 outermost w.body proper.0 are.0.passes in
    let full = k.1 later [] [] (knows_no (is_later names w) (roles_of w) [] refl) (knows_no_recent (is_later names w) (roles_of w) outermost refl) in
    (rw (trees.0.tree, trees.0.role_names) full, others_filled (names ++ w.name ∷ []) ws ps (omega (arith, length-append names (w.name ∷ []))) are.1 proper.1 trees.3)

pub read_texts_are_filled : ReadTextsAreFilled
read_texts_are_filled symbols main others read =
    let r = read.1 in
    let s = r.source in
    let are = admitted symbols main others read in
    let first = text_filled false (roles_of s.first) 0 outermost s.first.body r.spelled.1.0 are.0.passes refl (omega arith) in
    (rw (r.first.tree, r.first.role_names) first, others_filled (s.first.name ∷ []) s.others others (omega arith) are.1 r.spelled.1.1 r.more)
