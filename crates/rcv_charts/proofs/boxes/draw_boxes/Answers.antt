-- A box more.
use Rattle.std.proofs.Common.{sym, ◌∙◌, ap, subst}
use Rattle.rcv_points.specs.Follow.{net_in}
use Rattle.rcv_charts.specs.States.{StateView}
use Rattle.rcv_charts.specs.StateTitles.{IsBox}
use Rattle.rcv_charts.specs.Drawn.{DrawingView}
use Rattle.rcv_charts.specs.Machine.{ShowsBox}
use Rattle.rcv_charts.proofs.Showing.{one_added, item_at}
use Rattle.rcv_charts.proofs.boxes.draw_boxes.Goals as goal

pub loop-index-preserved : goal.loop-index-preserved
loop-index-preserved c =
    let names = c.args.source.now.roles.now in
    let net = net_in c.args.source.now.points.now in
    let states = c.args.states.now in
    one_added (ShowsBox names net states) c.loop-index.index c.args.drawing.now c.loop-index.drawing c.skip.new.self c.in_ok-group.group c.loop-index.invariant
    (c.skip.ensures.moves.same ∙ ap (λ (d : DrawingView). d.groups) c.in_ok-put_group.ensures)
    (subst (λ (state : StateView). IsBox names net state c.in_ok-group.group) (sym (item_at states c.loop-index.index c.index-states-index.result _ c.loop-index-test.true c.index-states-index.is)) c.in_ok-group.ensures.shown)
