-- In the tree of what the machine takes no role is mentioned in two blocks of a par.
use Rattle.std.proofs.Common.{◌≡◌, ℕ, ◌+◌, Bool, true, false, nat_le, List, [], ◌∷◌, ◌++◌, length, refl, sym, subst, ◌≤◌, ◌∙◌, inl, inr, ◌⊎◌, ⊎_elim}
use Rattle.rcv_model.specs.Text as trees
use Rattle.rcv_model.specs.Net.{IsIn}
use Rattle.rcv_module.specs.Form.{ShareNoRole}
use Rattle.rcv_machine.specs.Words.{Written, NoStmt, AMessage, AChoice, ARec, AContinue, APar, ADo, Blocks, NoBlock, ABlock, role_at, roles_at, points, points_of, singles, tree_of, trees_of, Named, nobody, with_role, Place, after_statement, beside, inside, inside_rec}
use Rattle.rcv_machine.proofs.Naming.{or_left}
use Rattle.rcv_machine.proofs.Passing.{with_roles, named_by, named_by_all, AreGiven, Passes, PassAll, PassBeside}
use Rattle.rcv_reader.proofs.Apart.{deeper, within, name, its_name, named_last, stays_receivers, stays, all_stay, Among, receivers_named, receivers_free}
use Rattle.rcv_grammar.proofs.Mentioned.{Mentions, SomeMentions, AreDisjoint, HasDisjointLanes, share_no_role}

module _ (later : Bool) (roles : List (List ℕ)) where
  ends_of : (label : List ℕ) (sorts : List (List ℕ)) (from : ℕ) (rs : List (List ℕ)) (n : ℕ) (rest : trees.Body) (q : ℕ)
      → Mentions q (singles label sorts from (roles_at roles rs) n rest) → ((from ≡ q) ⊎ Among later roles q rs) ⊎ Mentions q rest
  ends_of label sorts from [] n rest q h = inr h
  ends_of label sorts from (r ∷ rs) n rest q (inl (inl h)) = inl (inl h)
  ends_of label sorts from (r ∷ rs) n rest q (inl (inr h)) = inl (inr (inl h))
  ends_of label sorts from (r ∷ rs) n rest q (inr h) =
      ⊎_elim (λ a. inl (⊎_elim (λ b. inl b) (λ b. inr (inr b)) a)) (λ a. inr a) (ends_of label sorts from rs (n + 1) rest q h)

  given_named : (since earlier : Named) (before : List ℕ) (rs : List (List ℕ)) (q : ℕ) → AreGiven roles earlier before rs
      → IsIn q (roles_at roles rs) → with_roles since rs (name later roles q) ≡ true
  given_named since earlier before [] q h a = absurd a
  given_named since earlier before (r ∷ rs) q h (inl a) =
      stays_receivers later roles (with_role since r) rs (name later roles q)
      (subst (λ (m : List ℕ). with_role since r m ≡ true) (its_name later roles r q h.0 (sym a)) (named_last later roles since r))
  given_named since earlier before (r ∷ rs) q h (inr a) = given_named (with_role since r) earlier (before ++ role_at roles r ∷ []) rs q h.3 a

  given_free : (earlier : Named) (before : List ℕ) (rs : List (List ℕ)) (q : ℕ) → AreGiven roles earlier before rs
      → IsIn q (roles_at roles rs) → earlier (name later roles q) ≡ false
  given_free earlier before [] q h a = absurd a
  given_free earlier before (r ∷ rs) q h (inl a) =
      subst (λ (m : List ℕ). earlier m ≡ false) (its_name later roles r q h.0 (sym a)) h.2
  given_free earlier before (r ∷ rs) q h (inr a) = given_free earlier (before ++ role_at roles r ∷ []) rs q h.3 a

  -- ---- the roles of what is written are named

  mutual
    roles_named : (n : ℕ) (p : Place) (w : Written) (since : Named) (q : ℕ) → Passes later roles n p w → nat_le 2 p.depth ≡ true
        → Mentions q (tree_of roles n w) → named_by since w (name later roles q) ≡ true
    roles_named n p NoStmt since q h deep e = absurd e
    roles_named n p (AMessage label ss s r rs rest) since q h deep e =
        let from = with_role since s in
        let last = n + (1 + length rs) in
        let sends = λ (a : role_at roles s ≡ q). stays_receivers later roles from (r ∷ rs) (name later roles q)
        (subst (λ (m : List ℕ). with_role since s m ≡ true) (its_name later roles s q h.1 a) (named_last later roles since s)) in
        let takes = λ (a : Among later roles q (r ∷ rs)). receivers_named later roles from p.earlier (role_at roles s) n [] (r ∷ rs) q h.3 a in
        ⊎_elim (λ a. stays later roles last (after_statement p false) rest _ (name later roles q) h.4 deep (⊎_elim sends takes a))
        (λ a. roles_named last (after_statement p false) rest _ q h.4 deep a) (ends_of label ss (role_at roles s) (r ∷ rs) n _ q e)
    roles_named n p (AChoice s f os rest) since q h deep (inl (inl e)) =
        stays later roles (n + (points f + points_of os)) (after_statement p false) rest _ (name later roles q) h.6 deep
        (all_stay later roles (n + points f) p os _ (name later roles q) h.5 deep
        (stays later roles n (inside p) f _ (name later roles q) h.4 (deeper p.depth deep)
        (subst (λ (m : List ℕ). with_role since s m ≡ true) (its_name later roles s q h.1 e) (named_last later roles since s))))
    roles_named n p (AChoice s f os rest) since q h deep (inl (inr (inl e))) =
        stays later roles (n + (points f + points_of os)) (after_statement p false) rest _ (name later roles q) h.6 deep
        (all_stay later roles (n + points f) p os _ (name later roles q) h.5 deep
        (roles_named n (inside p) f _ q h.4 (deeper p.depth deep) e))
    roles_named n p (AChoice s f os rest) since q h deep (inl (inr (inr e))) =
        stays later roles (n + (points f + points_of os)) (after_statement p false) rest _ (name later roles q) h.6 deep
        (all_roles_named (n + points f) p os _ q h.5 deep e)
    roles_named n p (AChoice s f os rest) since q h deep (inr e) =
        roles_named (n + (points f + points_of os)) (after_statement p false) rest _ q h.6 deep e
    roles_named n p (ARec x body rest) since q h deep (inl e) =
        stays later roles (n + points body) (after_statement p false) rest _ (name later roles q) h.3 deep
        (roles_named n (inside (inside_rec p x)) body since q h.2 (deeper p.depth deep) e)
    roles_named n p (ARec x body rest) since q h deep (inr e) = roles_named (n + points body) (after_statement p false) rest _ q h.3 deep e
    roles_named n p (AContinue x rest) since q h deep e = roles_named n (after_statement p true) rest since q h.3 deep e
    roles_named n p (APar f g os rest) since q h deep e = let outer = sym deep ∙ or_left (nat_le 2 p.depth) later h.1 in absurd cc
    roles_named n p (ADo x r rs rest) since q h deep (inl e) =
        stays later roles n (after_statement p false) rest _ (name later roles q) h.2 deep (given_named since p.earlier [] (r ∷ rs) q h.1 e)
    roles_named n p (ADo x r rs rest) since q h deep (inr e) = roles_named n (after_statement p false) rest _ q h.2 deep e

    all_roles_named : (n : ℕ) (p : Place) (os : Blocks) (since : Named) (q : ℕ) → PassAll later roles n p os → nat_le 2 p.depth ≡ true
        → SomeMentions q (trees_of roles n os) → named_by_all since os (name later roles q) ≡ true
    all_roles_named n p NoBlock since q h deep e = absurd e
    all_roles_named n p (ABlock f os) since q h deep (inl e) =
        all_stay later roles (n + points f) p os _ (name later roles q) h.2 deep
        (roles_named n (inside p) f since q h.1 (deeper p.depth deep) e)
    all_roles_named n p (ABlock f os) since q h deep (inr e) = all_roles_named (n + points f) p os _ q h.2 deep e

  -- ---- and stand in no earlier block

  mutual
    roles_free : (n : ℕ) (p : Place) (w : Written) (q : ℕ) → Passes later roles n p w → nat_le 2 p.depth ≡ true
        → Mentions q (tree_of roles n w) → p.earlier (name later roles q) ≡ false
    roles_free n p NoStmt q h deep e = absurd e
    roles_free n p (AMessage label ss s r rs rest) q h deep e =
        let sends = λ (a : role_at roles s ≡ q). subst (λ (m : List ℕ). p.earlier m ≡ false) (its_name later roles s q h.1 a) h.2 in
        let takes = λ (a : Among later roles q (r ∷ rs)). receivers_free later roles p.earlier (role_at roles s) n [] (r ∷ rs) q h.3 a in
        ⊎_elim (λ a. ⊎_elim sends takes a) (λ a. roles_free (n + (1 + length rs)) (after_statement p false) rest q h.4 deep a)
        (ends_of label ss (role_at roles s) (r ∷ rs) n _ q e)
    roles_free n p (AChoice s f os rest) q h deep (inl (inl e)) =
        subst (λ (m : List ℕ). p.earlier m ≡ false) (its_name later roles s q h.1 e) h.2
    roles_free n p (AChoice s f os rest) q h deep (inl (inr (inl e))) = roles_free n (inside p) f q h.4 (deeper p.depth deep) e
    roles_free n p (AChoice s f os rest) q h deep (inl (inr (inr e))) = all_roles_free (n + points f) p os q h.5 deep e
    roles_free n p (AChoice s f os rest) q h deep (inr e) = roles_free (n + (points f + points_of os)) (after_statement p false) rest q h.6 deep e
    roles_free n p (ARec x body rest) q h deep (inl e) =
        roles_free n (inside (inside_rec p x)) body q h.2 (deeper p.depth deep) e
    roles_free n p (ARec x body rest) q h deep (inr e) = roles_free (n + points body) (after_statement p false) rest q h.3 deep e
    roles_free n p (AContinue x rest) q h deep e = roles_free n (after_statement p true) rest q h.3 deep e
    roles_free n p (APar f g os rest) q h deep e = let outer = sym deep ∙ or_left (nat_le 2 p.depth) later h.1 in absurd cc
    roles_free n p (ADo x r rs rest) q h deep (inl e) = given_free p.earlier [] (r ∷ rs) q h.1 e
    roles_free n p (ADo x r rs rest) q h deep (inr e) = roles_free n (after_statement p false) rest q h.2 deep e

    all_roles_free : (n : ℕ) (p : Place) (os : Blocks) (q : ℕ) → PassAll later roles n p os → nat_le 2 p.depth ≡ true
        → SomeMentions q (trees_of roles n os) → p.earlier (name later roles q) ≡ false
    all_roles_free n p NoBlock q h deep e = absurd e
    all_roles_free n p (ABlock f os) q h deep (inl e) = roles_free n (inside p) f q h.1 (deeper p.depth deep) e
    all_roles_free n p (ABlock f os) q h deep (inr e) = all_roles_free (n + points f) p os q h.2 deep e

  beside_free : (n : ℕ) (p : Place) (since : Named) (os : Blocks) (q : ℕ) → PassBeside later roles n p since os → 1 ≤ p.depth
      → SomeMentions q (trees_of roles n os) → since (name later roles q) ≡ false
  beside_free n p since NoBlock q h some e = absurd e
  beside_free n p since (ABlock f os) q h some (inl e) =
      roles_free n (inside (beside p since)) f q h.1 (within p.depth some) e
  beside_free n p since (ABlock f os) q h some (inr e) =
      go (since (name later roles q)) refl (within p.depth some) (beside_free (n + points f) p (named_by since f) os q h.2 some e)
    where
      go : (b : Bool) → since (name later roles q) ≡ b → nat_le 2 (p.depth + 1) ≡ true → named_by since f (name later roles q) ≡ false
          → since (name later roles q) ≡ false
      go true is deep free =
          let yes = stays later roles n (inside (beside p since)) f since (name later roles q) h.1 deep is in absurd cc
      go false is deep free = is

  are_disjoint : (n : ℕ) (p : Place) (since : Named) (os : Blocks) → PassBeside later roles n p since os → 1 ≤ p.depth
      → AreDisjoint (trees_of roles n os)
  are_disjoint n p since NoBlock h some = tt
  are_disjoint n p since (ABlock f os) h some = (
    λ q a b.
        let yes = roles_named n (inside (beside p since)) f since q h.1 (within p.depth some) a in
        let free = beside_free (n + points f) p (named_by since f) os q h.2 some b in absurd cc,
    are_disjoint (n + points f) p (named_by since f) os h.2 some,
  )

  pub share_none : (n : ℕ) (p : Place) (since : Named) (os : Blocks) → PassBeside later roles n p since os → 1 ≤ p.depth
      → ShareNoRole (trees_of roles n os)
  share_none n p since os h some = share_no_role (trees_of roles n os) (are_disjoint n p since os h some)

  disjoint_behind : (label : List ℕ) (sorts : List (List ℕ)) (from : ℕ) (rs : List (List ℕ)) (n : ℕ) (rest : trees.Body)
      → HasDisjointLanes rest → HasDisjointLanes (singles label sorts from (roles_at roles rs) n rest)
  disjoint_behind label sorts from [] n rest h = h
  disjoint_behind label sorts from (r ∷ rs) n rest h = disjoint_behind label sorts from rs (n + 1) rest h

  pub lanes_disjoint : (n : ℕ) (p : Place) (w : Written) → 1 ≤ p.depth → Passes later roles n p w → HasDisjointLanes (tree_of roles n w)
  lanes_disjoint n p NoStmt some h = tt
  lanes_disjoint n p (AMessage label ss s r rs rest) some h =
      disjoint_behind label ss (role_at roles s) (r ∷ rs) n _ (lanes_disjoint (n + (1 + length rs)) (after_statement p false) rest some h.4)
  lanes_disjoint n p (AChoice s f os rest) some h = lanes_disjoint (n + (points f + points_of os)) (after_statement p false) rest some h.6
  lanes_disjoint n p (ARec x body rest) some h = lanes_disjoint (n + points body) (after_statement p false) rest some h.3
  lanes_disjoint n p (AContinue x rest) some h = lanes_disjoint n (after_statement p true) rest some h.3
  lanes_disjoint n p (APar f g os rest) some h =
      let more = lanes_disjoint (n + (points f + (points g + points_of os))) (after_statement p false) rest some h.3 in
      (are_disjoint n p nobody (ABlock f (ABlock g os)) (h.2.0, h.2.1, (h.2.2, h.2.3, h.2.4)) some, more)
  lanes_disjoint n p (ADo x r rs rest) some h = lanes_disjoint n (after_statement p false) rest some h.2
