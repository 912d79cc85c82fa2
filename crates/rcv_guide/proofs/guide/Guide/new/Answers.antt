-- Nothing has happened yet.
use Rattle.std.proofs.Common.{◌≡◌, [], length, replicate, refl, sym, ◌∙◌, ap, subst}
use Rattle.std.specs.Prelude.{pos}
use Rattle.std.proofs.lemmas.List.{length-replicate}
use Rattle.rcv_ledger.specs.Ledger.{IsStart}
use Rattle.rcv_guide.specs.Numbers.{at_start}
use Rattle.rcv_guide.specs.Guide.{GuideView, IsGuide}
use Rattle.rcv_guide.proofs.Starting.{opened_view, guide_first}
use Rattle.rcv_guide.proofs.guide.Guide.new.Goals as goal

pub invariant_of-result : goal.invariant_of-result
invariant_of-result c =
    let many : c.roles-roles.result ≡ length c.args.accepted.protocol.roles = c.roles-roles.ensures in
    let begun = subst (λ n. IsStart (replicate n (replicate 16 (pos 0))) (replicate n 1) c.args.room c.args.room c.in_ok-ledger.ledger) many c.in_ok-ledger.ensures in
    subst (λ (g : GuideView). IsGuide g c.in_ok-table.table c.in_ok-ledger.ledger) (sym (opened_view c.args.accepted.protocol c.args.plan c.args.room c.in_ok-ledger.ledger c.in_ok-numbers.numbers.items (begun.logs ∙ ap (λ n. replicate n []) (length-replicate _ _)) (c.in_ok-numbers.ensures ∙ ap (λ n. replicate n at_start) many) begun.entries))
    (guide_first c.args.accepted.protocol c.args.plan c.args.room c.in_ok-table.table c.in_ok-ledger.ledger (replicate (length c.args.accepted.protocol.roles) (replicate 16 (pos 0))) (replicate (length c.args.accepted.protocol.roles) 1) c.protocol-protocol.ensures.accepted c.requires.planned c.in_ok-table.ensures c.requires.few refl begun)

pub returns : goal.returns
returns c =
    let many : c.roles-roles.result ≡ length c.args.accepted.protocol.roles = c.roles-roles.ensures in
    let begun = subst (λ n. IsStart (replicate n (replicate 16 (pos 0))) (replicate n 1) c.args.room c.args.room c.in_ok-ledger.ledger) many c.in_ok-ledger.ensures in
    opened_view c.args.accepted.protocol c.args.plan c.args.room c.in_ok-ledger.ledger c.in_ok-numbers.numbers.items (begun.logs ∙ ap (λ n. replicate n []) (length-replicate _ _)) (c.in_ok-numbers.ensures ∙ ap (λ n. replicate n at_start) many) begun.entries
