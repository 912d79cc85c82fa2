-- The wires, and then the boxes.
use Rattle.std.proofs.Common.{◌++◌, ◌∙◌, ap}
use Rattle.rcv_charts.specs.Drawn.{DrawingView}
use Rattle.rcv_charts.proofs.role.drawn.Goals as goal

pub returns : goal.returns
returns c = record {
  wires = c.args.wires.now;
  are_wires = c.requires.wires;
  wire_groups = c.in_ok-draw.ensures.added;
  wires_shown = c.in_ok-draw.ensures.shown;
  boxes = c.in_ok-draw_boxes.ensures.added;
  boxes_shown = c.in_ok-draw_boxes.ensures.shown;
  together = c.in_ok-draw_boxes.ensures.grown ∙ ap (λ gs. gs ++ c.in_ok-draw_boxes.ensures.added) (c.in_ok-draw.ensures.grown ∙ ap (λ (d : DrawingView). d.groups ++ c.in_ok-draw.ensures.added) c.new-drawing.ensures);
}
