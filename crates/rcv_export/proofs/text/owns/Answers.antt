-- The points say what the text says.
use Rattle.std.proofs.Common.{◌≤◌, sym, ◌∙◌, ap, subst}
use Rattle.rcv_model.specs.Net.{Net}
use Rattle.rcv_project.proofs.Machine.{says_text}
use Rattle.rcv_tables.specs.TableText.{is_own}
use Rattle.rcv_export.proofs.text.owns.Goals as goal

pub owns_one-requires-clause-last : goal.owns_one-requires-clause-last
owns_one-requires-clause-last c = subst (λ n. c.args.point ≤ n) (sym (ap (λ (net : Net). net.count) (says_text c.args.accepted.now c.points.result.now c.protocol-protocol.ensures.accepted c.points.ensures))) c.requires.last

pub returns : goal.returns
returns c = c.owns_one.ensures ∙ ap (λ (net : Net). is_own net c.args.role c.args.point) (says_text c.args.accepted.now c.points.result.now c.protocol-protocol.ensures.accepted c.points.ensures)
