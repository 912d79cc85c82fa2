-- The tree of what is written has the form that acceptance asks for.
use Rattle.std.proofs.Common.{◌≡◌, ℕ, ◌+◌, ◌<◌, ◌≤◌, true, List, [], ◌∷◌, ◌++◌, length, refl, sym, ap, subst, arith, append_assoc, append-nil, ◌==◌}
use Rattle.std.proofs.lemmas.Bool.Decides.{nat_tests}
use Rattle.rcv_tree.proofs.Naming.{is_named}
use Rattle.rcv_model.specs.Text as trees
use Rattle.rcv_model.specs.Places as places
use Rattle.rcv_model.specs.Places.{HasLanesApart}
use Rattle.rcv_model.specs.Form.{IsNumberedFrom, HaveEnds, HaveSubjects, HaveSubjectsIn, HasForm}
use Rattle.rcv_machine.specs.Words.{Written, NoStmt, AMessage, AChoice, ARec, AContinue, APar, ADo, Blocks, NoBlock, ABlock, or_first, role_at, roles_at, points, points_of, singles, tree_of, trees_of, IsDeclared, MayReceive, IsFit, AreFit}

abbrev Messages : Type 0
Messages = List (ℕ × places.SingleMessage)

-- These are the points behind n, up to m, and their ends are roles.
record AreBehind (roles n m : ℕ) (xs : Messages) : Type 0 where
  pub long : m ≡ n + length xs
  pub numbered : IsNumberedFrom (n + 1) xs
  pub ends : HaveEnds roles xs

one_more : (roles n m : ℕ) (x : places.SingleMessage) (xs : Messages) → (x.sender < roles) × (x.receiver < roles) × (x.sender ≡ x.receiver → ⊥)
    → AreBehind roles (n + 1) m xs → AreBehind roles n m ((n + 1, x) ∷ xs)
one_more roles n m x xs h a =
    let l = a.long in record { long = omega (arith, l); numbered = (refl, a.numbered); ends = (h.0, h.1, h.2, a.ends) }

role_below : (roles : List (List ℕ)) (name : List ℕ) → IsDeclared roles name → role_at roles name < length roles
role_below roles name d =
    subst (λ (k : ℕ). k < length roles) (sym (ap or_first d.1)) (is_named roles name d.0 d.1).0

-- The points of a body with those behind it are the ones behind n, up to m, and its subjects are roles.
abbrev IsPart : ℕ → ℕ → ℕ → trees.Body → Messages → Type 0
IsPart roles n m body behind = AreBehind roles n m (places.singles body ++ behind) × HaveSubjects roles body

abbrev ArePart : ℕ → ℕ → ℕ → trees.Bodies → Messages → Type 0
ArePart roles n m bodies behind = AreBehind roles n m (places.singles_of bodies ++ behind) × HaveSubjectsIn roles bodies

-- one message for each receiver
singles_part : (roles : List (List ℕ)) (label : List ℕ) (sorts : List (List ℕ)) (sender : ℕ) (before : List ℕ) (names : List (List ℕ))
    (n k m : ℕ) (rest : trees.Body) (behind : Messages) → sender < length roles → MayReceive roles sender before names → k ≡ n + length names
    → IsPart (length roles) k m rest behind → IsPart (length roles) n m (singles label sorts sender (roles_at roles names) n rest) behind
singles_part roles label sorts sender before [] n k m rest behind below may e h =
    let same : k ≡ n = omega (arith, e) in subst (λ (j : ℕ). IsPart (length roles) j m rest behind) same h
singles_part roles label sorts sender before (r ∷ rs) n k m rest behind below may e h =
    let apart = may.2 in
    let seen = before ++ role_at roles r ∷ [] in
    let more = singles_part roles label sorts sender seen rs (n + 1) k m rest behind below may.3 (omega (arith, e)) h in
    let differ : sender ≡ role_at roles r → ⊥ = λ e. let yes : (role_at roles r == sender) ≡ true = grind (arith, nat_tests) in cc in
    (one_more (length roles) n m _ _ (below, role_below roles r may.0, differ) more.0, more.1)

-- all that is written, in front of these points
mutual
  part_of : (roles : List (List ℕ)) (n k m : ℕ) (w : Written) (behind : Messages) → IsFit roles w → k ≡ n + points w
      → AreBehind (length roles) k m behind → IsPart (length roles) n m (tree_of roles n w) behind
  part_of roles n k m NoStmt behind h e a =
      let same : k ≡ n = omega (arith, e) in (subst (λ (j : ℕ). AreBehind (length roles) j m behind) same a, tt)
  part_of roles n k m (AMessage label ss s r rs rest) behind h e a =
      singles_part roles label ss (role_at roles s) [] (r ∷ rs) n (n + (1 + length rs)) m _ behind (role_below roles s h.0) h.1
      (omega arith) (part_of roles (n + (1 + length rs)) k m rest behind h.2 (omega (arith, e)) a)
  part_of roles n k m (AChoice s f os rest) behind h e a =
      let last = part_of roles (n + (points f + points_of os)) k m rest behind h.3 (omega (arith, e)) a in
      let more = parts_of roles (n + points f) (n + (points f + points_of os)) m os _ h.2 (omega arith) last.0 in
      let first = part_of roles n (n + points f) m f _ h.1 refl more.0 in
      (simp append_assoc first.0, (role_below roles s h.0, (first.1, more.1), last.1))
  part_of roles n k m (ARec x body rest) behind h e a =
      let last = part_of roles (n + points body) k m rest behind h.1 (omega (arith, e)) a in
      let inside = part_of roles n (n + points body) m body _ h.0 refl last.0 in
      (simp append_assoc inside.0, (inside.1, last.1))
  part_of roles n k m (AContinue x rest) behind h e a = part_of roles n k m rest behind h e a
  part_of roles n k m (APar f g os rest) behind h e a =
      let last = part_of roles (n + (points f + (points g + points_of os))) k m rest behind h.3 (omega (arith, e)) a in
      let more = parts_of roles (n + points f + points g) (n + (points f + (points g + points_of os))) m os _ h.2 (omega arith) last.0 in
      let second = part_of roles (n + points f) (n + points f + points g) m g _ h.1 refl more.0 in
      let first = part_of roles n (n + points f) m f _ h.0 refl second.0 in
      (simp append_assoc first.0, ((first.1, (second.1, more.1)), last.1))
  part_of roles n k m (ADo x r rs rest) behind h e a = part_of roles n k m rest behind h.1 e a

  parts_of : (roles : List (List ℕ)) (n k m : ℕ) (os : Blocks) (behind : Messages) → AreFit roles os → k ≡ n + points_of os
      → AreBehind (length roles) k m behind → ArePart (length roles) n m (trees_of roles n os) behind
  parts_of roles n k m NoBlock behind h e a =
      let same : k ≡ n = omega (arith, e) in (subst (λ (j : ℕ). AreBehind (length roles) j m behind) same a, tt)
  parts_of roles n k m (ABlock f os) behind h e a =
      let more = parts_of roles (n + points f) k m os behind h.1 (omega (arith, e)) a in
      let first = part_of roles n (n + points f) m f _ h.0 refl more.0 in
      (simp append_assoc first.0, (first.1, more.1))

pub tree_has_form : (roles : List (List ℕ)) (w : Written) → IsFit roles w → HasLanesApart (tree_of roles 0 w) → length roles ≤ 8
    → points w ≤ 256 → HasForm (tree_of roles 0 w) (length roles)
tree_has_form roles w fit apart few short =
    let all = part_of roles 0 (points w) (points w) w [] fit (omega arith) (record { long = omega arith; numbered = tt; ends = tt }) in
    let part = rw append-nil at all.0 in
    let long = part.long in
    record { numbered = part.numbered; ends = part.ends; subjects = all.1; apart = apart; few_roles = few; few_points = omega (arith, long, short) }
