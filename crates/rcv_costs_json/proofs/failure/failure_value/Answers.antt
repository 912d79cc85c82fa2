-- The members, one after another.
use Rattle.std.proofs.Common.{List, ◌∙◌, ap, ap₂, codes}
use Rattle.serde_json.specs.Data.{Data, array, object, put}
use Rattle.serde_json.specs.View.{items_of, members_view}
use Rattle.serde_json.proofs.Views.{view-Array, view-Object}
use Rattle.rcv_costs_json.specs.CostsJson.{with_numbers}
use Rattle.rcv_costs_json.proofs.failure.failure_value.Goals as goal

pub returns : goal.returns
returns c =
    let list = view-Array c.in_ok-names.names ∙ ap (λ (l : List Data). array (items_of l)) c.in_ok-names.ensures in
    let after = c.in_ok-put.ensures.ok ∙ ap₂ (put (codes "after")) c.in_ok-after.ensures (ap members_view c.new-members.ensures.empty) in
    let before = c.in_ok-put-2.ensures.ok ∙ ap₂ (put (codes "before")) c.in_ok-before.ensures after in
    let names = c.in_ok-put-3.ensures.ok ∙ ap₂ (put (codes "concerned")) list before in
    let role = c.in_ok-put-4.ensures.ok ∙ ap₂ (put (codes "role")) c.in_ok-role.ensures names in
    view-Object c.put_numbers.new.members ∙ ap object (c.in_ok-put_numbers.ensures ∙ ap (with_numbers c.args.cost.now) role)
