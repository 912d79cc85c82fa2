-- The statements and the blocks that are left.
use Rattle.std.proofs.Common.{◌≡◌, ℕ, zero, suc, ◌+◌, ◌<◌, ◌≤◌, List, [], ◌∷◌, length, get_or, drop, refl, sym, ◌∙◌, ap, arith}
use Rattle.std.proofs.lemmas.List.{drop_more}
use Rattle.rcv_tree.specs.declared.statement.Stmt.{Stmt}
use Rattle.rcv_tree.specs.declared.statement.Block.{Block}
use Rattle.rcv_model.specs.Text.{Or, stmt_body, body_of, body_from, bodies_from}

pub stmt_next : (stmts : List Stmt) (i : ℕ) (s : Stmt) → i < length stmts → s ≡ get_or stmts i s → body_from (drop i stmts) ≡ stmt_body s (body_from (drop (i + 1) stmts))
stmt_next stmts i s lt e = ap (λ l. body_from l) (drop_more stmts i s lt ∙ ap (λ y. y ∷ drop (i + 1) stmts) (sym e))

pub block_next : (bs : List Block) (i : ℕ) (b : Block) → i < length bs → b ≡ get_or bs i b → bodies_from (drop i bs) ≡ Or (body_of b) (bodies_from (drop (i + 1) bs))
block_next bs i b lt e = ap (λ l. bodies_from l) (drop_more bs i b lt ∙ ap (λ y. y ∷ drop (i + 1) bs) (sym e))

pub none_left : {A : Type 0} (xs : List A) (i : ℕ) → length xs ≤ i → drop i xs ≡ []
none_left [] zero le = refl
none_left [] (suc i) le = refl
none_left (x ∷ xs) zero le = absurd (omega (arith, le))
none_left (x ∷ xs) (suc i) le = none_left xs i (omega (arith, le))
