-- In a lane of the role it meets what is offered, and at its end and elsewhere what its next lane begins with.
use Rattle.std.proofs.Common.{◌≤◌, sym, ◌∙◌, arith}
use Rattle.rcv_points.specs.Follow.{net_in}
use Rattle.rcv_points.proofs.Gathering.{of_none, of_some}
use Rattle.rcv_points.proofs.Meeting.{meets_here, meets_next}
use Rattle.rcv_points.proofs.met.met_at.Goals.{then-place-gt0+then-owned+else-not-is_empty, else-place-gt0, else-place-gt0-via-then-place-gt0+else-owned, else-place-gt0-via-else-place-gt0}
use Rattle.rcv_points.proofs.met.met_at.Goals as goal

pub returns-then-not-is_empty : goal.returns-then-not-is_empty
returns-then-not-is_empty c =
    let low : 1 ≤ c.args.place = omega (arith, c.if-place-gt0.true) in
    c.offered-here.ensures ∙ meets_here (net_in c.args.points.now) c.args.role c.args.place low ((c.requires.told low).0 c.if-owned.true) (λ e. of_some c.offered-here.result.now c.if-not-is_empty.ensures (c.offered-here.ensures ∙ e))

pub returns : goal.returns
returns c = c.next_start.ensures ∙ meets_next (net_in c.args.points.now) c.args.role c.args.place (λ low own.
    elim c.if-place-gt0.branch [
      | then-place-gt0+then-owned+else-not-is_empty w ↦ sym w.offered-here.ensures ∙ of_none w.offered-here.result.now w.if-not-is_empty.ensures
      | else-place-gt0 w ↦ elim w.else-place-gt0.branch [
        | else-place-gt0-via-then-place-gt0+else-owned v ↦ (let t = (c.requires.told low).1 own in let f = v.if-owned.false in absurd (cc))
        | else-place-gt0-via-else-place-gt0 v ↦ absurd (omega (arith, low, v.if-place-gt0.false))
      ]
    ])
