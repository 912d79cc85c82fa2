-- A crash keeps a part's facts: the saved states are held.
use Rattle.std.proofs.Common.{rules, refl, arith}
use Rattle.rcv_role.proofs.Parts.{crashed_is, crash_holds, crashed_view, few_crashes_is}
use Rattle.rcv_role.proofs.part.Part.crash.Goals as goal

pub overflow_add-self : goal.overflow_add-self
overflow_add-self c =
    let few = few_crashes_is _ c.args.self.now c.self.inside.tail c.self.inside.tail c.self.view_is c.self.invariant.0 c.requires.due in
    omega (arith, few)

pub invariant_of-self : goal.invariant_of-self
invariant_of-self c = (
  crashed_is _ c.args.self.now c.self.inside.tail _ c.self.view_is c.self.invariant.0 c.durable-durable.result _ c.requires.due c.durable-durable.ensures c.lose_to.ensures refl refl refl,
  search rules,
  search rules,
  tt,
)

pub returns : goal.returns
returns c = crashed_view _ c.args.self.now c.self.inside.tail _ c.self.view_is c.self.invariant.0 c.durable-durable.result _ c.requires.due c.durable-durable.ensures c.lose_to.ensures c.push_reserved.ensures.items

pub lose_to-requires-clause-multiple : goal.lose_to-requires-clause-multiple
lose_to-requires-clause-multiple c = c.durable-durable.ensures.multiple

pub lose_to-requires-clause-held : goal.lose_to-requires-clause-held
lose_to-requires-clause-held c = crash_holds _ c.args.self.now c.self.inside.tail c.self.view_is c.self.invariant.0 c.durable-durable.result c.requires.due c.durable-durable.ensures
