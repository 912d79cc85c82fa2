-- Stamps grow, so the last one tells.
use Rattle.std.proofs.Common.{◌≡◌, ◌-◌, ◌<◌, Some, sym, ◌∙◌, ap, ⊎_elim, arith}
use Rattle.std.specs.Prelude.{slice_get}
use Rattle.std.proofs.lemmas.Bool.{cases_eq}
use Rattle.std.proofs.lemmas.Bool.Decides.{nat_tests}
use Rattle.rcv_tree.specs.declared.event.Event.{Event}
use Rattle.rcv_model.proofs.Lists.{some_same}
use Rattle.rcv_model.proofs.Located.{get_below}
use Rattle.rcv_ledger.specs.Logs.{log_at}
use Rattle.rcv_guide.specs.Guide.{GuideView}
use Rattle.rcv_guide.proofs.guide.Guide.is_later.Goals as goal

pub returns : goal.returns
returns c =
    let size = c.made-made.ensures in
    let here : slice_get (log_at c.args.self.now.logs c.args.role) (c.made-made.result - 1) ≡ Some c.event.result.now = ap (λ (g : GuideView). slice_get (log_at g.logs c.args.role) (c.made-made.result - 1)) (sym c.self.view_is) ∙ c.event.ensures in (
      (λ t n e at.
          let inner : slice_get (log_at c.self.inside.ledger.logs c.args.role) n ≡ Some e = ap (λ (g : GuideView). slice_get (log_at g.logs c.args.role) n) c.self.view_is ∙ at in
          let low = get_below (log_at c.self.inside.ledger.logs c.args.role) n e inner in
          let below : c.event.result.now.stamp < c.args.stamp = (let f = t in grind (arith, nat_tests)) in
          ⊎_elim
          (λ same.
          let is = ap (λ (x : Event). x.stamp) (some_same (sym inner ∙ ap (λ k. slice_get (log_at c.self.inside.ledger.logs c.args.role) k) same ∙ c.event.ensures)) in
          omega (arith, is, below))
          (λ other.
          let less : n < c.made-made.result - 1 = omega (arith, low, size, other) in
          let grows = c.self.invariant.stamped.grow c.args.role n (c.made-made.result - 1) e c.event.result.now less inner c.event.ensures in
          omega (arith, grows, below))
          (cases_eq n (c.made-made.result - 1))),
      λ all. let below = all (c.made-made.result - 1) c.event.result.now here in grind (arith, nat_tests),
    )
