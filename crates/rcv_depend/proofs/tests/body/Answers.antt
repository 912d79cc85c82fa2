-- Statement by statement the block says what the text says.
use Rattle.std.proofs.Common.{List, [], ◌∷◌, ◌++◌, map, ◌∙◌, ap}
use Rattle.rcv_tree.specs.declared.statement.Stmt.{Stmt}
use Rattle.rcv_tree.specs.declared.statement.Stmt.TheVariants.{Rec, Continue}
use Rattle.rcv_model.specs.Text.{End, Single, Loop, Again, joined, stmt_body, body_of}
use Rattle.rcv_model.proofs.Text.{body_of_lem, stmt_body-Rec, stmt_body-Continue}
use Rattle.rcv_depend.proofs.tests.body.Goals as goal

pub returns : goal.returns
returns c =
    let first = c.in_ok-push.ensures.ok ∙ ap (λ (l : List Stmt). l ++ c.message.result ∷ []) c.new-round.ensures in
    let second = c.in_ok-push-2.ensures.ok ∙ ap (λ (l : List Stmt). l ++ c.message-2.result ∷ []) first in
    let third = c.in_ok-push-3.ensures.ok ∙ ap (λ (l : List Stmt). l ++ Continue c.new.result ∷ []) second in
    let again = stmt_body-Continue c.new.result End ∙ ap (λ n. Again n End) c.new.ensures in
    let round =
    body_of_lem c.push-3.new.self ∙ ap (λ (l : List Stmt). joined (map stmt_body l)) third
    ∙ c.message.ensures (stmt_body c.message-2.result (stmt_body (Continue c.new.result) End))
    ∙ ap (Single [] [] 0 1 1) (c.message-2.ensures (stmt_body (Continue c.new.result) End) ∙ ap (Single [] [] 1 0 2) again) in
    let whole = c.in_ok-push-4.ensures.ok ∙ ap (λ (l : List Stmt). l ++ Rec c.new-2.result c.push-3.new.self ∷ []) c.new-body.ensures in
    body_of_lem c.push-4.new.self ∙ ap (λ (l : List Stmt). joined (map stmt_body l)) whole
    ∙ stmt_body-Rec c.new-2.result c.push-3.new.self End
    ∙ ap (λ n. Loop n (body_of c.push-3.new.self) End) c.new-2.ensures
    ∙ ap (λ b. Loop [] b End) round
