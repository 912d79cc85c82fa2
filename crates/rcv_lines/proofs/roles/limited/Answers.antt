-- The first field, and the names behind it.
use Rattle.std.proofs.Common.{◌≡◌, ◌∙◌, ◌==◌, ℕ, Bool, false, true≢false, List, length, Bor, Vec, Global, ap, map, subst, sym, eq-eqb}
use Rattle.std.specs.Prelude.{IfOk, IfSome}
use Rattle.rcv_tree.specs.declared.protocol.Protocol.{Protocol}
use Rattle.rcv_tree.specs.Names.{name_at}
use Rattle.rcv_lines.specs.Cutting.{texts}
use Rattle.rcv_lines.specs.Named.{HaveNames}
use Rattle.rcv_journal.specs.Recorded.{bare}
use Rattle.rcv_lines.proofs.Ends.{front_said, tail_said}
use Rattle.rcv_lines.proofs.Parses.{ok_none_from, ok_some_from}
use Rattle.rcv_lines.proofs.roles.limited.Goals as goal

some : (fields : List (Bor (List ℕ))) (b : Bool) → b ≡ (length fields == 0) → b ≡ false → length fields ≡ 0 → ⊥
some fields b is off none = true≢false (sym (eq-eqb (length fields) 0 none) ∙ sym is ∙ off)

pub returns-clause-some : goal.returns-clause-some
returns-clause-some c =
    let setup = bare c.args.accepted.now.protocol in
    ok_some_from c.roles_in_order.result (λ (roles : Vec ℕ Global) named.
    front_said setup c.args.fields.now c.in-Some.rest.now c.in-Some.kind.now roles.items c.in-Some.ensures.cases.0 (c.is_same.ensures.yes c.if-not-is_same.false)
    (some c.in-Some.rest.now c.is_empty.result c.is_empty.ensures c.if-is_empty.false) named) (subst (λ (ns : List (List ℕ)). IfOk c.roles_in_order.result (λ o. IfSome o (λ (roles : Vec ℕ Global). map (name_at ns) roles.items ≡ texts c.in-Some.rest.now))) (ap (λ (p : Protocol). p.roles) c.protocol.ensures.value) c.roles_in_order.ensures.some)

pub returns-clause-none : goal.returns-clause-none
returns-clause-none c =
    let setup = bare c.args.accepted.now.protocol in
    let same : c.args.accepted.now.protocol.roles ≡ c.protocol.result.now.roles = sym (ap (λ (p : Protocol). p.roles) c.protocol.ensures.value) in
    ok_none_from c.roles_in_order.result (λ none roles formed says.
    none roles (subst (λ (ns : List (List ℕ)). HaveNames ns roles) same formed.declared) formed.ascending
    (subst (λ (ns : List (List ℕ)). map (name_at ns) roles ≡ texts c.in-Some.rest.now) same (tail_said setup c.args.fields.now c.in-Some.rest.now c.in-Some.kind.now roles c.in-Some.ensures.cases.0 says).1)) c.roles_in_order.ensures.none
