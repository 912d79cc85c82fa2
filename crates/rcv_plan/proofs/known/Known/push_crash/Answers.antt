use Rattle.std.proofs.Common.{◌≡◌, [], ◌∷◌, ◌++◌, sym, subst, ap, ◌∙◌}
use Rattle.std.specs.Prelude.{map}
use Rattle.std.proofs.lemmas.List.{map-append}
use Rattle.rcv_model.specs.Plan.{CrashLine}
use Rattle.rcv_plan.specs.Lines.{line_in}
use Rattle.rcv_plan.specs.Items.{AreFound}
use Rattle.rcv_plan.proofs.Found.{found_more}
use Rattle.rcv_plan.proofs.known.Known.push_crash.Goals as goal

pub invariant_of-self-in-Ok : goal.invariant_of-self-in-Ok
invariant_of-self-in-Ok c =
    let all : map line_in c.push.new.self.items ≡ map line_in c.self.inside.lines.items ++ CrashLine c.args.role c.args.number ∷ [] = ap (map line_in) c.in_ok-push.ensures.items ∙ map-append line_in c.self.inside.lines.items _ in
    subst (AreFound c.add.new.self) (sym all)
    (found_more c.args.role c.args.number (map line_in c.self.inside.lines.items) c.self.inside.crashes c.add.new.self c.self.invariant c.in-Ok.ensures.ok)
