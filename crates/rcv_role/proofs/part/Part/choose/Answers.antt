-- The Send of the chosen point may come.
use Rattle.std.proofs.Common.{rules, sym, subst}
use Rattle.rcv_tree.specs.declared.event.Event.{Event}
use Rattle.rcv_core.proofs.Setups.{joined}
use Rattle.rcv_role.specs.Part.{IsNextSend}
use Rattle.rcv_role.proofs.Parts.{offered_points, chosen_point, sent_next}
use Rattle.rcv_role.proofs.part.Part.choose.Goals as goal

pub choose-point-requires-clause-points : goal.choose-point-requires-clause-points
choose-point-requires-clause-points c = offered_points _ c.args.self.now c.self.inside.tail c.self.view_is c.self.invariant.0 c.args.offered.now c.requires.offers

pub value-value-requires-clause-first : goal.value-value-requires-clause-first
value-value-requires-clause-first c = (chosen_point _ c.args.self.now c.self.inside.tail c.self.view_is c.self.invariant.0 c.args.offered.now c.requires.offers c.top-state.result.now c.requires.running c.top-state.ensures c.choose-point.result c.requires.some c.requires.sends c.choose-point.ensures).first

pub value-value-requires-clause-last : goal.value-value-requires-clause-last
value-value-requires-clause-last c = (chosen_point _ c.args.self.now c.self.inside.tail c.self.view_is c.self.invariant.0 c.args.offered.now c.requires.offers c.top-state.result.now c.requires.running c.top-state.ensures c.choose-point.result c.requires.some c.requires.sends c.choose-point.ensures).last

pub returns : goal.returns
returns c = subst (λ (e : Event). IsNextSend c.args.self.now.setup c.args.self.now.role c.args.self.now.own e) (sym c.send.ensures)
    (sent_next _ c.args.self.now c.self.inside.tail c.self.view_is c.self.invariant.0 c.args.offered.now c.requires.offers c.top-state.result.now c.requires.running c.top-state.ensures c.choose-point.result c.requires.some c.requires.sends c.choose-point.ensures _ c.requires.calm c.requires.below (joined (search rules) c.value-value.ensures))
