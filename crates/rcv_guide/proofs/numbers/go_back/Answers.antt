-- One role after another goes back.
use Rattle.std.proofs.Common.{◌+◌, ◌<◌, ℕ, cond, length, refl, ap, ◌∙◌, arith}
use Rattle.std.specs.Prelude.{◌==◌, false, slice_index}
use Rattle.rcv_tree.specs.Bits.{has_bit}
use Rattle.rcv_ledger.specs.Logs.{log_at}
use Rattle.rcv_guide.specs.declared.numbers.Numbers.{Numbers}
use Rattle.rcv_guide.specs.Numbers.{latest_from, back_from}
use Rattle.rcv_guide.proofs.Same.{same_numbers}
use Rattle.rcv_guide.proofs.Filling.{goes_on, not_yet, latest_few}
use Rattle.rcv_guide.proofs.numbers.go_back.Goals as goal

pub overflow_add-clock : goal.overflow_add-clock
overflow_add-clock c =
    let is = c.latest-clock.ensures ∙ ap (latest_from c.args.concerned.0 0) c.as_slice.ensures.value in
    let few = latest_few c.args.concerned.0 0 c.args.numbers.now.items c.requires.clocks in
    omega (arith, is, few)

pub loop-role-init : goal.loop-role-init
loop-role-init c = record { all = refl; done = λ r lt. absurd (omega (arith, lt)); rest = λ r le. refl }

pub attempt_behind-requires : goal.attempt_behind-requires
attempt_behind-requires c =
    let low : c.loop-role.role < length c.args.numbers.now.items = omega (arith, c.loop-role-test.true, c.loop-role.invariant.all, c.len-role-end.ensures) in
    let at = not_yet c.args.numbers.now.items c.loop-role.numbers.items (λ (r : ℕ). back_from c.args.numbers.now.items c.args.group.0 c.args.concerned.0 (length (log_at c.args.ledger.now.logs r)) (slice_index c.args.counts.now r) r) c.loop-role.role c.index.result.now (omega (arith, low, c.loop-role.invariant.all)) c.loop-role.invariant c.index.ensures in
    let own = ap (λ (x : Numbers). x.attempt) at in
    let few = c.requires.attempts c.loop-role.role low in
    omega (arith, own, few)

pub loop-role-preserved : goal.loop-role-preserved
loop-role-preserved c =
    let low : c.loop-role.role < length c.args.numbers.now.items = omega (arith, c.loop-role-test.true, c.loop-role.invariant.all, c.len-role-end.ensures) in
    let f = λ (r : ℕ). back_from c.args.numbers.now.items c.args.group.0 c.args.concerned.0 (length (log_at c.args.ledger.now.logs r)) (slice_index c.args.counts.now r) r in
    let here : c.loop-role.role < length c.loop-role.numbers.items = omega (arith, low, c.loop-role.invariant.all) in
    let at = not_yet c.args.numbers.now.items c.loop-role.numbers.items f c.loop-role.role c.index.result.now here c.loop-role.invariant c.index.ensures in
    let x = c.index.result.now in
    let clock = c.latest-clock.ensures ∙ ap (latest_from c.args.concerned.0 0) c.as_slice.ensures.value in
    goes_on c.args.numbers.now.items c.loop-role.numbers.items f c.loop-role.role _ here c.loop-role.invariant
    (same_numbers _ (f c.loop-role.role x) refl refl refl refl
    (c.attempt_behind.ensures ∙ ap (λ n. cond (slice_index c.args.counts.now c.loop-role.role == n) x.attempt (x.attempt + 1)) c.made.ensures)
    (c.clock_behind.ensures ∙ ap (λ b. cond b (c.latest-clock.result + 1) x.clock) c.has.ensures ∙ ap (λ n. cond (has_bit c.args.concerned.0 c.loop-role.role) (n + 1) x.clock) clock)
    (c.down_behind.ensures ∙ ap (λ b. cond b false x.down) c.has-in-loop-role.ensures)
    ∙ ap (f c.loop-role.role) at)

pub returns : goal.returns
returns c = record { all = c.loop-role.invariant.all; each = λ r lt. c.loop-role.invariant.done r (let all = c.loop-role.invariant.all in omega (arith, lt, all, c.loop-role-test.false, c.len-role-end.ensures)) }
