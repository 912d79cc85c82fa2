-- The wires of one state more.
use Rattle.std.proofs.Common.{◌≡◌, ℕ, ◌+◌, ◌++◌, map, take, sym, ◌∙◌, ap, arith}
use Rattle.rcv_charts.specs.States.{next_in}
use Rattle.rcv_charts.specs.Wires.{state_at, steps_from}
use Rattle.rcv_charts.proofs.Showing.{steps_more}
use Rattle.rcv_charts.proofs.wires.wires_of.Goals as goal

pub loop-from-preserved : goal.loop-from-preserved
loop-from-preserved c =
    let states = c.args.states.now in
    let n = c.loop-from.from in
    let gets = c.in_ok-add_steps.ensures in
    let moved : n ≡ 0 + n = omega arith in
    record {
      each_step =
          gets.each_step ∙ ap (λ l. l ++ map (λ (z : ℕ). (n, z)) (next_in (state_at states n).act)) c.loop-from.invariant.each_step
          ∙ ap (λ (j : ℕ). steps_from 0 (take n states) ++ map (λ (z : ℕ). (j, z)) (next_in (state_at states n).act)) moved
          ∙ sym (steps_more 0 states n c.loop-from-test.true);
      lead = gets.lead c.loop-from.invariant.lead;
    }
