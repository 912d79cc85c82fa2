-- The entries at the front are fewer than the text's bytes.
use Rattle.std.proofs.Common.{◌≡◌, ℕ, length, drop, ◌∙◌, ap, subst, arith}
use Rattle.rcv_tree.specs.declared.protocol.Protocol.{Protocol}
use Rattle.rcv_guide.specs.Guide.{opened}
use Rattle.rcv_retold.specs.Text.{AreFirst}
use Rattle.rcv_look.proofs.told.text_answer.Goals as goal

pub guide_of-requires-clause-few : goal.guide_of-requires-clause-few
guide_of-requires-clause-few c =
    let all = c.in_ok-front.ensures.first.few in
    let is = c.len.ensures in
    omega (arith, all, is, c.requires.text)

pub judged-requires-clause-few : goal.judged-requires-clause-few
judged-requires-clause-few c = omega (arith, c.requires.text)

pub judged-requires-clause-within : goal.judged-requires-clause-within
judged-requires-clause-within c = c.in_ok-front.ensures.within

pub judged-requires-clause-first : goal.judged-requires-clause-first
judged-requires-clause-first c =
    let front = c.in_ok-front.front in
    subst (λ (p : Protocol). AreFirst p c.args.text.now front.entries.items (drop front.bytes c.args.text.now)) c.accepted.ensures c.in_ok-front.ensures.first

pub judged-requires-clause-fresh : goal.judged-requires-clause-fresh
judged-requires-clause-fresh c =
    let guide = c.in_ok-guide.guide in
    let count : c.len.result ≡ length c.in_ok-front.front.entries.items = omega (arith, c.len.ensures, c.in_ok-front.front.entries.ok.0) in
    c.in_ok-guide.ensures.fresh ∙ ap (λ (n : ℕ). opened guide.protocol c.args.setup.now.plan n) count

pub judged-requires-clause-same : goal.judged-requires-clause-same
judged-requires-clause-same c = c.in_ok-guide.ensures.same
