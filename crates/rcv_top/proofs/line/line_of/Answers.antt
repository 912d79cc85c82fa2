-- The book's counts, in the text of a line.
use Rattle.std.proofs.Common.{refl, sym, ◌∙◌, ap, subst}
use Rattle.std.specs.Prelude.{◌≤◌, length, slice_index}
use Rattle.rcv_tree.specs.declared.protocol.Protocol.{Protocol}
use Rattle.rcv_session.specs.Session.{SessionView}
use Rattle.rcv_top.specs.Lining.{line_text}
use Rattle.rcv_top.proofs.line.line_of.Goals as goal

pub line_text-requires : goal.line_text-requires
line_text-requires c = subst (λ (p : Protocol). length p.roles ≤ 8) (sym c.protocol-protocol.ensures.value) c.protocol-protocol.ensures.accepted.form.few_roles

pub returns : goal.returns
returns c = (
  refl,
  record {
    counts = slice_index c.stable_line-counts.result;
    are_counts = c.stable_line-counts.ensures;
    is_text = c.in_ok-line_text.ensures ∙ ap (λ (p : Protocol). line_text p.roles (slice_index c.stable_line-counts.result)) (c.protocol-protocol.ensures.value ∙ ap (λ (v : SessionView). v.protocol) c.setup.ensures);
  },
)
