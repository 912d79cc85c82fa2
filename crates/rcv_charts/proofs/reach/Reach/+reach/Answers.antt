-- Points behind points.
use Rattle.std.proofs.Common.{sym, ◌∙◌, ap, arith}
use Rattle.std.proofs.lemmas.Grind.{common_steps}
use Rattle.rcv_model.specs.Text.{Body, body_of, bodies_of, stmt_body}
use Rattle.rcv_model.specs.Places.{singles, singles_of}
use Rattle.rcv_model.proofs.Text.{stmt_body-Choice, stmt_body-Rec, stmt_body-Par}
use Rattle.rcv_charts.specs.Statements.{points_of, reached}
use Rattle.rcv_charts.proofs.Reached.{reached_two}
use Rattle.rcv_charts.proofs.reach.Reach.+reach.Goals as goal

pub with_blocks-loop-block-preserved : goal.with_blocks-loop-block-preserved
with_blocks-loop-block-preserved t c = grind (arith, common_steps, reached_two)

pub with_stmt-returns-in-Choice : goal.with_stmt-returns-in-Choice
with_stmt-returns-in-Choice t c rest =
    ap (λ r. reached r (points_of rest)) c.with_blocks.ensures ∙ sym (reached_two c.args.self (singles_of (bodies_of c.in-Choice.branches)) (singles rest))
    ∙ sym (ap (λ (b : Body). reached c.args.self (points_of b)) (ap (λ s. stmt_body s rest) c.in-Choice.is ∙ stmt_body-Choice _ c.in-Choice.branches rest))

pub with_stmt-returns-in-Rec : goal.with_stmt-returns-in-Rec
with_stmt-returns-in-Rec t c rest =
    ap (λ r. reached r (points_of rest)) c.with_block.ensures ∙ sym (reached_two c.args.self (singles (body_of c.in-Rec.body)) (singles rest))
    ∙ sym (ap (λ (b : Body). reached c.args.self (points_of b)) (ap (λ s. stmt_body s rest) c.in-Rec.is ∙ stmt_body-Rec _ c.in-Rec.body rest))

pub with_stmt-returns-in-Par : goal.with_stmt-returns-in-Par
with_stmt-returns-in-Par t c rest =
    ap (λ r. reached r (points_of rest)) c.with_blocks-in-Par.ensures ∙ sym (reached_two c.args.self (singles_of (bodies_of c.in-Par.blocks)) (singles rest))
    ∙ sym (ap (λ (b : Body). reached c.args.self (points_of b)) (ap (λ s. stmt_body s rest) c.in-Par.is ∙ stmt_body-Par c.in-Par.blocks rest))
