-- The next place is a seam, or none.
use Rattle.std.proofs.Common.{sym, ◌∙◌}
use Rattle.rcv_picture.proofs.Naming.{seam_found, none_found}
use Rattle.rcv_picture.proofs.name_lines.line_end.Goals.{then-is_seam_at, else-is_seam_at}
use Rattle.rcv_picture.proofs.name_lines.line_end.Goals as goal

pub loop-letters-preserved : goal.loop-letters-preserved
loop-letters-preserved c =
    elim c.if-is_seam_at.branch [
      | then-is_seam_at w ↦
          seam_found c.args.name.now c.loop-letters.letters c.if-is_seam_at.end c.loop-letters.auto.letters w.end-is
          (sym c.is_seam_at.ensures ∙ w.if-is_seam_at.true)
      | else-is_seam_at w ↦
          none_found c.args.name.now c.loop-letters.letters c.loop-letters.end c.if-is_seam_at.end c.loop-letters.invariant w.end-is
          (sym c.is_seam_at.ensures ∙ w.if-is_seam_at.false)
    ]
