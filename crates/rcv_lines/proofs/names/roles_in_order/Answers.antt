-- The roles are those that were read.
use Rattle.std.proofs.Common.{sym, ◌≡◌, ◌∙◌, subst, map, ℕ, Option, Vec, Global}
use Rattle.std.specs.Prelude.{IfSome}
use Rattle.rcv_tree.specs.Names.{name_at}
use Rattle.rcv_journal.specs.Form.{IsAscending}
use Rattle.rcv_lines.specs.Cutting.{texts}
use Rattle.rcv_lines.specs.Named.{HaveNames}
use Rattle.rcv_lines.proofs.Naming.{same_roles}
use Rattle.rcv_lines.proofs.names.roles_in_order.Goals as goal

pub returns-else-is_ascending-clause-none : goal.returns-else-is_ascending-clause-none
returns-else-is_ascending-clause-none c = λ roles have ascend are.
    let declared = subst (λ (o : Option (Vec ℕ Global)). IfSome o (λ rs. HaveNames c.args.names.now rs.items)) c.in-Some.is c.in_ok-roles.ensures.declared in
    let named = subst (λ (o : Option (Vec ℕ Global)). IfSome o (λ rs. map (name_at c.args.names.now) rs.items ≡ texts c.args.fields.now)) c.in-Some.is c.in_ok-roles.ensures.some in
    let same = same_roles c.args.names.now roles c.in-Some.roles.items c.requires.differ have declared (are ∙ sym named) in
    c.is_ascending.ensures.no c.if-is_ascending.false (subst IsAscending (same ∙ sym c.as_slice.ensures.value) ascend)
