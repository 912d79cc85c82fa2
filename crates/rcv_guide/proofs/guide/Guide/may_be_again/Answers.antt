-- The role made more events than are restored.
use Rattle.std.proofs.Common.{◌≡◌, true, subst, arith}
use Rattle.rcv_guide.specs.Guide.{GuideView, IsMemory}
use Rattle.rcv_guide.proofs.Again.{made_is}
use Rattle.rcv_guide.proofs.guide.Guide.may_be_again.Goals as goal

pub returns-then-made-raw : goal.returns-then-made-raw
returns-then-made-raw c =
    let fits : c.fits_log.result ≡ true = (let f = c.if-not-fits_log.false in cc) in
    let log = c.fits_log.ensures.0 fits in
    let much = made_is c.args.self.now c.made.result c.args.event.now.role (record { memory = c.self.invariant.holds.memory; is = subst (λ (g : GuideView). IsMemory g c.self.invariant.holds.memory) c.self.view_is c.self.invariant.holds.is }) log.declared c.made.ensures in
    let raw = c.raw.ensures in (
      (λ t. absurd (cc)),
      λ may. absurd (let more = may.made in omega (arith, much, raw, more, c.if-made-raw.true)),
    )

pub returns : goal.returns
returns c =
    let fits : c.fits_log.result ≡ true = (let f = c.if-not-fits_log.false in cc) in
    let log = c.fits_log.ensures.0 fits in
    let much = made_is c.args.self.now c.made.result c.args.event.now.role (record { memory = c.self.invariant.holds.memory; is = subst (λ (g : GuideView). IsMemory g c.self.invariant.holds.memory) c.self.view_is c.self.invariant.holds.is }) log.declared c.made.ensures in
    let raw = c.raw.ensures in (
      (λ t. record { log = log; made = omega (arith, much, raw, c.if-made-raw.false); turn = c.is_turn.ensures.0 t }),
      λ may. c.is_turn.ensures.1 may.turn,
    )
