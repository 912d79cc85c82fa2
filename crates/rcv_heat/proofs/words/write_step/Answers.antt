-- The step isn't 1.
use Rattle.std.proofs.Common.{◌≡◌, ◌++◌, ℕ, List, false, sym, subst, OnOk, arith}
use Rattle.std.specs.Prelude.{◌==◌}
use Rattle.std.proofs.lemmas.Bool.Decides.{nat_tests}
use Rattle.rcv_heat.proofs.Saying.{sampled}
use Rattle.rcv_heat.proofs.words.write_step.Goals as goal

pub returns : goal.returns
returns c =
    let other : (c.args.step == 1) ≡ false = (let f = c.if-step-eq1.false in grind (arith, nat_tests)) in
    subst (λ (l : List ℕ). OnOk c.write_sampled.result (c.write_sampled.new.text ≡ c.args.text.now ++ l)) (sym (sampled c.args.step other)) c.write_sampled.ensures
