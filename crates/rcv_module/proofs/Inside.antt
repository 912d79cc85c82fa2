-- A block inside a block has fewer than 2^63 statements.
use Rattle.std.proofs.Common.{◌≡◌, ℕ, ◌+◌, ◌^◌, ◌<◌, List, [], ◌∷◌, length, map, refl, sym, ap, subst, ◌∙◌, arith}
use Rattle.rcv_tree.specs.Lists.{statements}
use Rattle.rcv_tree.specs.declared.statement.Stmt.{Stmt}
use Rattle.rcv_tree.specs.declared.statement.Stmt.TheOpen.{Stmt-F, Message, Choice, Rec, Continue, Par, Do}
use Rattle.rcv_tree.specs.declared.statement.Stmt.TheFolds.{fold_out-Stmt, map-Stmt}
use Rattle.rcv_tree.specs.declared.statement.Stmt.TheViews.{out-Stmt}
use Rattle.rcv_tree.specs.declared.statement.Block.{Block, out-Block}
use Rattle.rcv_tree.specs.declared.statement.Blocks.{Blocks}
use Rattle.rcv_model.specs.Text.{Body, Loop, Bodies, stmt_step, block_step, blocks_step, stmt_body, body_of, bodies_of, joined}
use Rattle.rcv_model.proofs.Text.{body_of_lem}
use Rattle.rcv_module.proofs.Building.{own}

step_own : (x : Stmt-F (Body → Body) Body Bodies) (rest : Body) → own (stmt_step x rest) ≡ 1 + own rest
step_own (Message label sorts s r p) rest = refl
step_own (Choice subject bs) rest = refl
step_own (Rec name b) rest = refl
step_own (Continue name) rest = refl
step_own (Par bs) rest = refl
step_own (Do name roles) rest = refl

opened_stmt : (s : Stmt) (rest : Body) → stmt_body s rest ≡ stmt_step (map-Stmt Stmt Block Blocks (Body → Body) Body Bodies stmt_body body_of bodies_of (out-Stmt s)) rest
opened_stmt s rest = ap (λ (f : Body → Body). f rest) (fold_out-Stmt (Body → Body) Body Bodies stmt_step block_step blocks_step s)

own_from : (ss : List Stmt) → own (joined (map stmt_body ss)) ≡ length ss
own_from [] = refl
own_from (s ∷ ss) =
    let more = own_from ss in
    let one = ap own (opened_stmt s (joined (map stmt_body ss))) ∙ step_own _ (joined (map stmt_body ss)) in omega (arith, more, one)

own_short : (b : Block) → own (body_of b) < 2 ^ 63
own_short b =
    let long = ap own (body_of_lem b) ∙ own_from (statements b) in
    let small = (out-Block b).items.small in omega (arith, long, small)

pub inner_short : (b : Block) (name : List ℕ) (inner more : Body) → body_of b ≡ Loop name inner more → own inner < 2 ^ 63
inner_short b name inner more e = go (statements b) (sym (body_of_lem b) ∙ e)
  where
    one : (x : Stmt-F Stmt Block Blocks) (rest : Body) → stmt_step (map-Stmt Stmt Block Blocks (Body → Body) Body Bodies stmt_body body_of bodies_of x) rest ≡ Loop name inner more
        → own inner < 2 ^ 63
    one (Message label sorts s r p) rest h = absurd (cc)
    one (Choice subject bs) rest h = absurd (cc)
    one (Rec n c) rest h = let same : body_of c ≡ inner = cc in subst (λ z. own z < 2 ^ 63) same (own_short c)
    one (Continue n) rest h = absurd (cc)
    one (Par bs) rest h = absurd (cc)
    one (Do n roles) rest h = absurd (cc)

    go : (ss : List Stmt) → joined (map stmt_body ss) ≡ Loop name inner more → own inner < 2 ^ 63
    go [] h = absurd (cc)
    go (s ∷ ss) h = one (out-Stmt s) (joined (map stmt_body ss)) (sym (opened_stmt s (joined (map stmt_body ss))) ∙ h)
