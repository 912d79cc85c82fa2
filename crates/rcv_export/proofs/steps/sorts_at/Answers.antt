-- The sorts of a point stand at its place.
use Rattle.std.proofs.Common.{◌-◌, ◌∙◌, ap, get_or}
use Rattle.rcv_accept.specs.Accepted.{text_of}
use Rattle.rcv_export.proofs.Sorts.{sorts_there}
use Rattle.rcv_export.proofs.steps.sorts_at.Goals as goal

pub returns : goal.returns
returns c =
    let there = sorts_there (text_of c.args.accepted.now) c.args.point c.index-sorts-point.result c.protocol-protocol.ensures.accepted.form.numbered c.requires.first c.requires.last in
    c.as_slice.ensures
    ∙ c.index-sorts-point.is
    ∙ ap (λ p. get_or c.args.sorts.now (p - 1) c.index-sorts-point.result) c.point.view_is
    ∙ ap (λ xs. get_or xs (c.args.point - 1) c.index-sorts-point.result) c.requires.sorts
    ∙ there
