-- The lane's statements are walked through with nothing behind them.
use Rattle.std.proofs.Common.{ℕ, ◌-◌, List, [], ◌∷◌, ◌++◌, length, replicate, ◌∙◌, ap, subst}
use Rattle.rcv_tree.specs.Bits.{members}
use Rattle.rcv_model.specs.Text.{body_from}
use Rattle.rcv_points.specs.Filling.{found}
use Rattle.rcv_points.specs.Walk.{AddsFull}
use Rattle.rcv_points.proofs.Members.{none_members}
use Rattle.rcv_points.proofs.filling.Whole.lane.Goals as goal

pub returns : goal.returns
returns c = record {
  points = subst (λ next. AddsFull (found c.args.self.now.filling) next (body_from c.args.lane.now.stmts.now) (found c.stmts.new.self) (members c.in_ok-start.start.0)) (none_members c.none.result.0 c.none.ensures) c.in_ok-start.ensures;
  lanes = c.in_ok-push.ensures.items ∙ ap (λ (ps : List ℕ). c.args.self.now.lanes.items ++ record { stage = c.args.lane.now.stage; begins = ps } ∷ []) c.in_ok-of.ensures;
  numbers = c.in_ok-fill_up.ensures ∙ ap (λ n. c.args.self.now.lane_numbers.items ++ replicate (n - length c.args.self.now.lane_numbers.items) c.args.number) (c.len-end.ensures ∙ c.stmts.new.self.messages.ok.0);
}
