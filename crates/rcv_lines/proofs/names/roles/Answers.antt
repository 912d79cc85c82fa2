-- Field by field.
use Rattle.std.proofs.Common.{List, ℕ, Bor, [], sym, subst, ◌<◌}
use Rattle.std.proofs.lemmas.List.{get_or-map, length-map}
use Rattle.rcv_lines.specs.Cutting.{texts}
use Rattle.rcv_lines.proofs.Naming.{next_role, not_there}
use Rattle.rcv_lines.proofs.names.roles.Goals as goal

pub returns-in_default-clause-none : goal.returns-in_default-clause-none
returns-in_default-clause-none c = λ roles have are.
    let fields = c.args.fields.now in
    let i = c.loop-field.field-index in
    not_there c.args.names.now (texts fields) roles i _ (subst (λ n. i < n) (sym (length-map fields (λ (f : Bor (List ℕ)). f.now))) c.loop-field-test.true) have are (sym (get_or-map (λ (f : Bor (List ℕ)). f.now) fields i _ [] c.loop-field-test.true)) c.in_default.ensures.none

pub loop-field-preserved : goal.loop-field-preserved
loop-field-preserved c =
    let fields = c.args.fields.now in
    let i = c.loop-field.field-index in
    next_role c.args.names.now (texts fields) c.loop-field.roles.items c.push.new.self.items c.in-Some.role i _ c.in_ok-push.ensures.items (subst (λ n. i < n) (sym (length-map fields (λ (f : Bor (List ℕ)). f.now))) c.loop-field-test.true)
    (sym (get_or-map (λ (f : Bor (List ℕ)). f.now) fields i _ [] c.loop-field-test.true)) c.loop-field.invariant.0 c.loop-field.invariant.1 c.in-Some.ensures.declared c.in-Some.ensures.some
