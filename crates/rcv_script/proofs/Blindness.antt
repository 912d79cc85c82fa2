-- Where the attempt isn't read, the lines are blind.
use Rattle.std.proofs.Common.{◌≡◌, ℕ, zero, suc, Bool, true, false, List, [], ◌∷◌, refl, ◌||◌, ◌↔◌, Some}
use Rattle.rcv_model.specs.Script.{Expr, TheAttempt, Negated, Plus, Minus, Times, Line, SendLine, PickLine}
use Rattle.rcv_model.specs.Transparent.{IsBlind, AreBlind}
use Rattle.rcv_script.specs.Attempts.{lines_read, scripts_read}
use Rattle.rcv_formula.specs.Attempts.{reads}
use Rattle.rcv_script.specs.Lines.{lines_at}

-- neither holds
nor : {A B : Type 0} (a b : Bool) → (a ≡ false) ↔ A → (b ≡ false) ↔ B → ((a || b) ≡ false) ↔ (A × B)
nor true b f g = (λ e. absurd (cc), λ p. f.1 p.0)
nor false b f g = (λ e. (f.0 refl, g.0 e), λ p. g.1 p.1)

is_blind : (e : Expr) → (reads e ≡ false) ↔ IsBlind e
is_blind TheAttempt = (λ e. absurd (cc), λ b. absurd b)
is_blind (Negated a) = is_blind a
is_blind (Plus a b) = nor (reads a) (reads b) (is_blind a) (is_blind b)
is_blind (Minus a b) = nor (reads a) (reads b) (is_blind a) (is_blind b)
is_blind (Times a b) = nor (reads a) (reads b) (is_blind a) (is_blind b)
is_blind _ = (λ e. tt, λ b. refl)

are_blind : (ls : List Line) → (lines_read ls ≡ false) ↔ AreBlind ls
are_blind [] = (λ e. tt, λ b. refl)
are_blind (SendLine label expr ∷ ls) = nor (reads expr) (lines_read ls) (is_blind expr) (are_blind ls)
are_blind (PickLine label (Some c) ∷ ls) =
    let lines = nor (reads c.left || reads c.right) (lines_read ls)
    (nor (reads c.left) (reads c.right) (is_blind c.left) (is_blind c.right)) (are_blind ls) in
    (λ e. let p = lines.0 e in (p.0.0, p.0.1, p.1), λ b. lines.1 ((b.0, b.1), b.2))
are_blind (_ ∷ ls) = are_blind ls

pub all_blind : (ss : List (List Line)) → (scripts_read ss ≡ false) ↔ ((r : ℕ) → AreBlind (lines_at ss r))
all_blind [] = (λ e r. elim r as (λ r. AreBlind (lines_at [] r)) [ zero ↦ tt | suc q ↦ tt ], λ b. refl)
all_blind (ls ∷ ss) =
    let both = nor (lines_read ls) (scripts_read ss) (are_blind ls) (all_blind ss) in (
      λ e r. elim r as (λ r. AreBlind (lines_at (ls ∷ ss) r)) [ zero ↦ (both.0 e).0 | suc q ↦ (both.0 e).1 q ],
      λ b. both.1 (b 0, λ r. b (suc r)),
    )
