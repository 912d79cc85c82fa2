-- Role by role.
use Rattle.std.proofs.Common.{List, ℕ, Bool, false, true≢false, eq-eqb, ◌==◌, Bor, [], ◌∷◌, length, sym, ◌-◌, ◌<◌, ◌++◌, ◌≡◌, ◌∙◌, ap, ap₂, subst, arith}
use Rattle.std.proofs.lemmas.Bool.Decides.{nat_tests}
use Rattle.rcv_tree.specs.Names.{name_at}
use Rattle.rcv_lines.specs.Cutting.{texts}
use Rattle.rcv_lines.specs.Named.{BeginOtherwise, cut_fields}
use Rattle.rcv_lines.specs.declared.recovery.Cuts.{Cuts}
use Rattle.rcv_lines.proofs.Turns.{any_default, as_many, at_end, no_turn, none_said, noted, rest_texts, turn, when_none}
use Rattle.rcv_lines.proofs.recovery.read_cuts.Goals as goal

some : (fields : List (Bor (List ℕ))) (b : Bool) → b ≡ (length fields == 0) → b ≡ false → length fields ≡ 0 → ⊥
some fields b is off none = true≢false (sym (eq-eqb (length fields) 0 none) ∙ sym is ∙ off)

nothing : (fields : List (List ℕ)) → length fields ≡ 0 → [] ≡ fields
nothing [] none = λ i. []
nothing (f ∷ fs) none = absurd (omega (arith, none))

pub returns-then-is_empty-clause-none : goal.returns-then-is_empty-clause-none
returns-then-is_empty-clause-none c = λ concerned kept are is.
    let none : length c.args.fields.now ≡ 0 = grind (arith, nat_tests, c.if-is_empty.true, c.is_empty.ensures) in
    none_said c.args.names.now concerned kept c.requires.few are (nothing (texts c.args.fields.now) (as_many c.args.fields.now ∙ none) ∙ is)

pub returns-in_err-count-clause-none : goal.returns-in_err-count-clause-none
returns-in_err-count-clause-none c =
    let names = c.args.names.now in
    let fields = texts c.args.fields.now in
    let l = c.loop-role in
    let named : c.as_slice.result.now ≡ name_at names l.role = c.as_slice.ensures ∙ c.index-names-role.is ∙ any_default names l.role _ [] c.loop-role-test.true in
    let none = no_turn names fields l.role l.place l.cuts.concerned.0 l.cuts.kept c.requires.few c.loop-role-test.true c.requires.differ l.invariant (λ k rest fits other is.
    c.in_err-count.ensures.none k rest fits (subst (λ name. BeginOtherwise name rest) (sym named) other) (rest_texts c.args.fields.now l.place ∙ is ∙ ap (λ name. cut_fields name k ++ rest) (sym named))) in
    when_none c.from_residual.result none

pub loop-role-preserved : goal.loop-role-preserved
loop-role-preserved c =
    let names = c.args.names.now in
    let fields = texts c.args.fields.now in
    let l = c.loop-role in
    let named : c.as_slice.result.now ≡ name_at names l.role = c.as_slice.ensures ∙ c.index-names-role.is ∙ any_default names l.role _ [] c.loop-role-test.true in
    let below : l.role < 8 = omega (arith, c.loop-role-test.true, c.requires.few) in
    turn names fields l.role l.place _ l.cuts.concerned.0 c.with-cuts.result.concerned.0 l.cuts.kept c.with-cuts.result.kept c.in_ok-count.count (texts c.in_ok-count.rest.now)
    c.requires.few c.loop-role-test.true c.requires.differ l.invariant
    (sym (rest_texts c.args.fields.now l.place) ∙ c.in_ok-count.ensures.some ∙ ap (λ name. cut_fields name c.in_ok-count.count ++ texts c.in_ok-count.rest.now) named)
    (λ k rest fits other is. c.in_ok-count.ensures.only k rest fits (subst (λ name. BeginOtherwise name rest) (sym named) other) (rest_texts c.args.fields.now l.place ∙ is ∙ ap (λ name. cut_fields name k ++ rest) (sym named)))
    (ap₂ (λ m n. m - n) (sym (as_many c.args.fields.now)) (sym (as_many c.in_ok-count.rest.now)))
    (noted l.role c.in_ok-count.count l.cuts.concerned.0 c.with-cuts.result.concerned.0 l.cuts.kept c.with-cuts.result.kept below l.invariant.eight (l.invariant.above l.role (omega arith) below)
    (λ none. (ap (λ (v : Cuts). v.concerned.0) (c.with-cuts.ensures.none none), ap (λ (v : Cuts). v.kept) (c.with-cuts.ensures.none none))) c.with-cuts.ensures.some c.with-cuts.ensures.kept)
    c.in_ok-count.ensures.fits

pub returns-clause-cuts : goal.returns-clause-cuts
returns-clause-cuts c =
    let l = c.loop-role in
    (at_end c.args.names.now (texts c.args.fields.now) l.role l.place l.cuts.concerned.0 l.cuts.kept (omega (arith, c.loop-role-test.false)) l.auto.role-end l.invariant
    (λ none. some c.args.fields.now c.is_empty.result c.is_empty.ensures c.if-is_empty.false (sym (as_many c.args.fields.now) ∙ none)) (c.if-place-fields.false ∙ sym (as_many c.args.fields.now)) c.requires.few c.known.ensures).0
