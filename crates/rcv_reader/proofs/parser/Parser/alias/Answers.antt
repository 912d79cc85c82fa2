use Rattle.std.proofs.Common.{◌≡◌, ℕ, Bool, true, false, List, [], ◌∷◌, ◌++◌, Bor, refl, ◌∙◌, ap, sym, arith, cond, ◌||◌, bytes_eq}
use Rattle.std.proofs.lemmas.Grind.{common_steps}
use Rattle.std.proofs.lemmas.List.Folds.{list_any-append}
use Rattle.std.proofs.lemmas.Map.Text.{is_eq-slice_cmp}
use Rattle.std.specs.BTreeSet.{BTreeSet, contains_by, Updates}
use Rattle.std.specs.Cmp.Lexicographic.{slice_cmp}
use Rattle.std.specs.Ordering.{nat_cmp}
use Rattle.rcv_machine.specs.Words.{Semicolon, Is, is_among, This, Decls}
use Rattle.rcv_reader.proofs.Stops.{halts_behind}
use Rattle.rcv_machine.proofs.Naming.{bytes_sym}
use Rattle.rcv_reader.specs.Descent.{HasThese}
use Rattle.rcv_reader.proofs.parser.Parser.alias.Goals as goal

either : (is_new is_old : Bool) → cond is_new true is_old ≡ (is_old || (is_new || false))
either true true = refl
either false false = refl
either _ _ = refl

-- A name is found behind an insertion if it was found before, or is the one that was inserted.
found_more : (name : Bor (List ℕ)) (names : List (List ℕ)) (before now : BTreeSet (Bor (List ℕ))) → HasThese before names
    → Updates (λ x y. slice_cmp nat_cmp x.now y.now) before now name true → HasThese now (names ++ name.now ∷ [])
found_more name names before now has updates q = updates.0 (record { ref_ptr = (0, 0); now = q })
    ∙ ap (λ (b : Bool). cond b true (contains_by (λ n. slice_cmp nat_cmp q n.now) before)) (is_eq-slice_cmp name.now q ∙ bytes_sym name.now q)
    ∙ ap (λ (b : Bool). cond (bytes_eq q name.now) true b) (has q) ∙ either (bytes_eq q name.now) (is_among q names)
    ∙ sym (list_any-append (bytes_eq q) names (name.now ∷ []))

pub returns-in_err-expect-clause-goes : goal.returns-in_err-expect-clause-goes
returns-in_err-expect-clause-goes c = λ names has.
    (halts_behind _ _ _ _ _ _ (λ k. This (Is Semicolon) ∷ k) (λ k. Decls (names ++ c.in-Some-Word-default.bytes.now ∷ []) ∷ k) _
    c.from_residual-in_err-expect.ensures.1 c.in_err-expect.ensures.goes
    (λ k. c.in_ok-word_as.ensures.goes _ ∙ grind (arith, common_steps))).0

pub returns-clause-kept : goal.returns-clause-kept
returns-clause-kept c = λ names has. rw c.in_ok-of.ensures
    (found_more c.in-Some-Word-default.bytes names c.args.aliases.now c.insert.new.self has c.in-Ok.ensures.updates)
