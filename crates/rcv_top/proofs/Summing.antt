-- What the summary is made of.
use Rattle.std.proofs.Common.{◌≡◌, length, ◌∙◌, ap}
use Rattle.std.proofs.lemmas.List.{length-map}
use Rattle.rcv_model.specs.Text.{Body}
use Rattle.rcv_model.specs.Places.{net_of, singles}
use Rattle.rcv_points.specs.Follow.{ArePointsOf, PointsView, message_of}

-- as many points as the text has
pub count_is : (body : Body) (points : PointsView) → ArePointsOf body points → length points.messages ≡ (net_of body).count
count_is body points are = ap length are.messages ∙ length-map (singles body) message_of
