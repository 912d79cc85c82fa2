-- Nothing is restored yet.
use Rattle.std.proofs.Common.{◌≡◌, [], length, replicate, sym, ◌∙◌, ap, subst}
use Rattle.std.specs.Prelude.{pos}
use Rattle.std.proofs.lemmas.List.{length-replicate}
use Rattle.rcv_ledger.specs.Ledger.{IsStart}
use Rattle.rcv_guide.specs.Numbers.{at_start}
use Rattle.rcv_guide.specs.Guide.{GuideView, roles_of, IsGuide}
use Rattle.rcv_guide.proofs.Again.{begun_view, guide_begun}
use Rattle.rcv_guide.proofs.guide.Guide.begin_again.Goals as goal

pub invariant_of-self : goal.invariant_of-self
invariant_of-self c =
    let roles : c.roles-roles.result ≡ length c.self.inside.accepted.protocol.roles = c.roles-roles.ensures.value ∙ ap (λ (g : GuideView). roles_of g) (sym c.self.view_is) in
    let begun = subst (λ n. IsStart (replicate n (replicate 16 (pos 0))) (replicate n 1) c.args.room c.args.room c.in_ok-ledger.ledger) roles c.in_ok-ledger.ensures in
    subst (λ (g : GuideView). IsGuide g c.self.inside.table c.in_ok-ledger.ledger)
    (sym (begun_view c.self.inside.accepted.protocol c.self.inside.plan c.args.room c.args.told c.in_ok-ledger.ledger c.in_ok-numbers.numbers.items (begun.logs ∙ ap (λ n. replicate n []) (length-replicate _ _)) (c.in_ok-numbers.ensures ∙ ap (λ n. replicate n at_start) roles) begun.entries))
    (guide_begun c.self.invariant c.args.room c.args.told c.requires.room c.requires.told c.in_ok-ledger.ledger begun)
