-- The worst names what all name.
use Rattle.std.proofs.Common.{sym, ◌∙◌, ap, subst}
use Rattle.rcv_losses.specs.Totals.{worst_of, IsNamedWorst}
use Rattle.rcv_losses.proofs.Worst.{named_worst}
use Rattle.rcv_heat.proofs.words.foot_text.Goals as goal

pub write_worst-requires : goal.write_worst-requires
write_worst-requires c = subst (IsNamedWorst c.args.setup.now) (sym (c.worst_of.ensures ∙ ap worst_of c.as_slice.ensures.value)) (named_worst c.args.setup.now c.args.costs.now.list.items c.requires)
