-- In the tree of what the machine takes no role stands in two blocks of a par.
use Rattle.std.proofs.Common.{◌≡◌, ℕ, ◌+◌, Bool, true, false, nat_le, List, [], ◌∷◌, ◌++◌, length, refl, sym, ap, subst, ◌≤◌, ◌∙◌, arith, inl, inr, ◌⊎◌, ⊎_elim, ◌||◌, bytes_eq}
use Rattle.std.proofs.lemmas.Bool.Decides.{nat_tests}
use Rattle.std.proofs.lemmas.Slice.Eq.{bytes_eq-Decides}
use Rattle.rcv_tree.proofs.Naming.{is_named}
use Rattle.rcv_tree.specs.Names.{name_at}
use Rattle.rcv_model.specs.Text as trees
use Rattle.rcv_model.specs.Places.{SingleMessage, HasEndOf, AreApart, HasLanesApart}
use Rattle.rcv_model.specs.Places as places
use Rattle.rcv_machine.specs.Words.{Written, NoStmt, AMessage, AChoice, ARec, AContinue, APar, ADo, Blocks, NoBlock, ABlock, or_first, role_at, roles_at, points, points_of, singles, tree_of, trees_of, IsDeclared, Named, nobody, with_role, Place, after_statement, beside, inside, inside_rec}
use Rattle.rcv_machine.proofs.Naming.{or_left}
use Rattle.rcv_machine.proofs.Passing.{with_roles, named_by, named_by_all, AreTaken, Passes, PassAll, PassBeside}

end_in : (q : ℕ) (xs ys : List (ℕ × SingleMessage)) → HasEndOf q (xs ++ ys) → HasEndOf q xs ⊎ HasEndOf q ys
end_in q [] ys h = inr h
end_in q (x ∷ xs) ys (inl h) = inl (inl h)
end_in q (x ∷ xs) ys (inr h) = ⊎_elim (λ a. inl (inr a)) (λ b. inr b) (end_in q xs ys h)

pub deeper : (d : ℕ) → nat_le 2 d ≡ true → nat_le 2 (d + 1) ≡ true
deeper d deep = grind (arith, nat_tests)

pub within : (d : ℕ) → 1 ≤ d → nat_le 2 (d + 1) ≡ true
within d some = grind (arith, nat_tests)

module _ (later : Bool) (roles : List (List ℕ)) where
  -- the name of a role
  abbrev pub name : ℕ → List ℕ
  name q = name_at roles q

  pub its_name : (n : List ℕ) (q : ℕ) → IsDeclared roles n → role_at roles n ≡ q → n ≡ name q
  its_name n q is e =
      let place = ap or_first is.1 in
      let same = (is_named roles n is.0 is.1).1 in
      sym same ∙ ap name (sym place ∙ e)

  -- ---- what is named stays so, in the blocks of a par

  named_too : (since : Named) (n m : List ℕ) → since m ≡ true → with_role since n m ≡ true
  named_too since n m h = go (bytes_eq m n)
    where
      go : (b : Bool) → (b || since m) ≡ true
      go true = refl
      go false = h

  pub named_last : (since : Named) (n : List ℕ) → with_role since n n ≡ true
  named_last since n = let same = (bytes_eq-Decides n n).1 refl in rw same refl

  pub stays_receivers : (since : Named) (rs : List (List ℕ)) (m : List ℕ) → since m ≡ true → with_roles since rs m ≡ true
  stays_receivers since [] m h = h
  stays_receivers since (r ∷ rs) m h = stays_receivers (with_role since r) rs m (named_too since r m h)

  mutual
    pub stays : (n : ℕ) (p : Place) (w : Written) (since : Named) (m : List ℕ) → Passes later roles n p w → nat_le 2 p.depth ≡ true
        → since m ≡ true → named_by since w m ≡ true
    stays n p NoStmt since m h deep is = is
    stays n p (AMessage label ss s r rs rest) since m h deep is =
        stays (n + (1 + length rs)) (after_statement p false) rest _ m h.4 deep
        (stays_receivers (with_role since s) (r ∷ rs) m (named_too since s m is))
    stays n p (AChoice s f os rest) since m h deep is =
        stays (n + (points f + points_of os)) (after_statement p false) rest _ m h.6 deep
        (all_stay (n + points f) p os _ m h.5 deep (stays n (inside p) f _ m h.4 (deeper p.depth deep) (named_too since s m is)))
    stays n p (ARec x body rest) since m h deep is =
        stays (n + points body) (after_statement p false) rest _ m h.3 deep
        (stays n (inside (inside_rec p x)) body since m h.2 (deeper p.depth deep) is)
    stays n p (AContinue x rest) since m h deep is = stays n (after_statement p true) rest since m h.3 deep is
    stays n p (APar f g os rest) since m h deep is = let outer = sym deep ∙ or_left (nat_le 2 p.depth) later h.1 in absurd cc
    stays n p (ADo x r rs rest) since m h deep is = stays n (after_statement p false) rest _ m h.2 deep (stays_receivers since (r ∷ rs) m is)

    pub all_stay : (n : ℕ) (p : Place) (os : Blocks) (since : Named) (m : List ℕ) → PassAll later roles n p os → nat_le 2 p.depth ≡ true
        → since m ≡ true → named_by_all since os m ≡ true
    all_stay n p NoBlock since m h deep is = is
    all_stay n p (ABlock f os) since m h deep is =
        all_stay (n + points f) p os _ m h.2 deep (stays n (inside p) f since m h.1 (deeper p.depth deep) is)

  -- ---- the ends of messages are named

  -- the role is one of these
  abbrev pub Among : ℕ → List (List ℕ) → Type 0
  Among q [] = ⊥
  Among q (r ∷ rs) = (role_at roles r ≡ q) ⊎ Among q rs

  ends_of : (label : List ℕ) (sorts : List (List ℕ)) (from : ℕ) (rs : List (List ℕ)) (n : ℕ) (rest : trees.Body) (q : ℕ)
      → HasEndOf q (places.singles (singles label sorts from (roles_at roles rs) n rest))
      → ((from ≡ q) ⊎ Among q rs) ⊎ HasEndOf q (places.singles rest)
  ends_of label sorts from [] n rest q h = inr h
  ends_of label sorts from (r ∷ rs) n rest q (inl (inl h)) = inl (inl h)
  ends_of label sorts from (r ∷ rs) n rest q (inl (inr h)) = inl (inr (inl h))
  ends_of label sorts from (r ∷ rs) n rest q (inr h) =
      ⊎_elim (λ a. inl (⊎_elim (λ b. inl b) (λ b. inr (inr b)) a)) (λ a. inr a) (ends_of label sorts from rs (n + 1) rest q h)

  pub receivers_named : (since earlier : Named) (sender n : ℕ) (before : List ℕ) (rs : List (List ℕ)) (q : ℕ)
      → AreTaken roles earlier sender n before rs → Among q rs → with_roles since rs (name q) ≡ true
  receivers_named since earlier sender n before [] q h a = absurd a
  receivers_named since earlier sender n before (r ∷ rs) q h (inl a) =
      stays_receivers (with_role since r) rs (name q)
      (subst (λ (m : List ℕ). with_role since r m ≡ true) (its_name r q h.0 a) (named_last since r))
  receivers_named since earlier sender n before (r ∷ rs) q h (inr a) =
      receivers_named (with_role since r) earlier sender (n + 1) _ rs q h.5 a

  pub receivers_free : (earlier : Named) (sender n : ℕ) (before : List ℕ) (rs : List (List ℕ)) (q : ℕ)
      → AreTaken roles earlier sender n before rs → Among q rs → earlier (name q) ≡ false
  receivers_free earlier sender n before [] q h a = absurd a
  receivers_free earlier sender n before (r ∷ rs) q h (inl a) = subst (λ (m : List ℕ). earlier m ≡ false) (its_name r q h.0 a) h.4
  receivers_free earlier sender n before (r ∷ rs) q h (inr a) = receivers_free earlier sender (n + 1) _ rs q h.5 a

  mutual
    ends_named : (n : ℕ) (p : Place) (w : Written) (since : Named) (q : ℕ) → Passes later roles n p w → nat_le 2 p.depth ≡ true
        → HasEndOf q (places.singles (tree_of roles n w)) → named_by since w (name q) ≡ true
    ends_named n p NoStmt since q h deep e = absurd e
    ends_named n p (AMessage label ss s r rs rest) since q h deep e =
        let from = with_role since s in
        let last = n + (1 + length rs) in
        let sends = λ (a : role_at roles s ≡ q). stays_receivers from (r ∷ rs) (name q)
        (subst (λ (m : List ℕ). with_role since s m ≡ true) (its_name s q h.1 a) (named_last since s)) in
        let takes = λ (a : Among q (r ∷ rs)). receivers_named from p.earlier (role_at roles s) n [] (r ∷ rs) q h.3 a in
        ⊎_elim (λ a. stays last (after_statement p false) rest _ (name q) h.4 deep (⊎_elim sends takes a))
        (λ a. ends_named last (after_statement p false) rest _ q h.4 deep a) (ends_of label ss (role_at roles s) (r ∷ rs) n _ q e)
    ends_named n p (AChoice s f os rest) since q h deep e =
        let last = n + (points f + points_of os) in
        ⊎_elim (λ a. stays last (after_statement p false) rest _ (name q) h.6 deep
        (⊎_elim (λ b. all_stay (n + points f) p os _ (name q) h.5 deep (ends_named n (inside p) f _ q h.4 (deeper p.depth deep) b))
        (λ b. all_named (n + points f) p os _ q h.5 deep b) (end_in q _ _ a)))
        (λ a. ends_named last (after_statement p false) rest _ q h.6 deep a) (end_in q _ _ e)
    ends_named n p (ARec x body rest) since q h deep e =
        ⊎_elim (λ a. stays (n + points body) (after_statement p false) rest _ (name q) h.3 deep
        (ends_named n (inside (inside_rec p x)) body since q h.2 (deeper p.depth deep) a))
        (λ a. ends_named (n + points body) (after_statement p false) rest _ q h.3 deep a) (end_in q _ _ e)
    ends_named n p (AContinue x rest) since q h deep e = ends_named n (after_statement p true) rest since q h.3 deep e
    ends_named n p (APar f g os rest) since q h deep e = let outer = sym deep ∙ or_left (nat_le 2 p.depth) later h.1 in absurd cc
    ends_named n p (ADo x r rs rest) since q h deep e = ends_named n (after_statement p false) rest _ q h.2 deep e

    all_named : (n : ℕ) (p : Place) (os : Blocks) (since : Named) (q : ℕ) → PassAll later roles n p os → nat_le 2 p.depth ≡ true
        → HasEndOf q (places.singles_of (trees_of roles n os)) → named_by_all since os (name q) ≡ true
    all_named n p NoBlock since q h deep e = absurd e
    all_named n p (ABlock f os) since q h deep e =
        ⊎_elim (λ a. all_stay (n + points f) p os _ (name q) h.2 deep (ends_named n (inside p) f since q h.1 (deeper p.depth deep) a))
        (λ a. all_named (n + points f) p os _ q h.2 deep a) (end_in q _ _ e)

  -- ---- and stand in no earlier block

  mutual
    ends_free : (n : ℕ) (p : Place) (w : Written) (q : ℕ) → Passes later roles n p w → nat_le 2 p.depth ≡ true
        → HasEndOf q (places.singles (tree_of roles n w)) → p.earlier (name q) ≡ false
    ends_free n p NoStmt q h deep e = absurd e
    ends_free n p (AMessage label ss s r rs rest) q h deep e =
        let sends = λ (a : role_at roles s ≡ q). subst (λ (m : List ℕ). p.earlier m ≡ false) (its_name s q h.1 a) h.2 in
        let takes = λ (a : Among q (r ∷ rs)). receivers_free p.earlier (role_at roles s) n [] (r ∷ rs) q h.3 a in
        ⊎_elim (λ a. ⊎_elim sends takes a) (λ a. ends_free (n + (1 + length rs)) (after_statement p false) rest q h.4 deep a)
        (ends_of label ss (role_at roles s) (r ∷ rs) n _ q e)
    ends_free n p (AChoice s f os rest) q h deep e =
        ⊎_elim (λ a. ⊎_elim (λ b. ends_free n (inside p) f q h.4 (deeper p.depth deep) b)
        (λ b. all_free (n + points f) p os q h.5 deep b) (end_in q _ _ a))
        (λ a. ends_free (n + (points f + points_of os)) (after_statement p false) rest q h.6 deep a) (end_in q _ _ e)
    ends_free n p (ARec x body rest) q h deep e =
        ⊎_elim (λ a. ends_free n (inside (inside_rec p x)) body q h.2 (deeper p.depth deep) a)
        (λ a. ends_free (n + points body) (after_statement p false) rest q h.3 deep a) (end_in q _ _ e)
    ends_free n p (AContinue x rest) q h deep e = ends_free n (after_statement p true) rest q h.3 deep e
    ends_free n p (APar f g os rest) q h deep e = let outer = sym deep ∙ or_left (nat_le 2 p.depth) later h.1 in absurd cc
    ends_free n p (ADo x r rs rest) q h deep e = ends_free n (after_statement p false) rest q h.2 deep e

    all_free : (n : ℕ) (p : Place) (os : Blocks) (q : ℕ) → PassAll later roles n p os → nat_le 2 p.depth ≡ true
        → HasEndOf q (places.singles_of (trees_of roles n os)) → p.earlier (name q) ≡ false
    all_free n p NoBlock q h deep e = absurd e
    all_free n p (ABlock f os) q h deep e =
        ⊎_elim (λ a. ends_free n (inside p) f q h.1 (deeper p.depth deep) a) (λ a. all_free (n + points f) p os q h.2 deep a) (end_in q _ _ e)

  -- ---- the blocks of a par

  beside_free : (n : ℕ) (p : Place) (since : Named) (os : Blocks) (q : ℕ) → PassBeside later roles n p since os → 1 ≤ p.depth
      → HasEndOf q (places.singles_of (trees_of roles n os)) → since (name q) ≡ false
  beside_free n p since NoBlock q h some e = absurd e
  beside_free n p since (ABlock f os) q h some e =
      let deep = within p.depth some in
      ⊎_elim (λ a. ends_free n (inside (beside p since)) f q h.1 deep a)
      (λ a. go (since (name q)) refl deep (beside_free (n + points f) p (named_by since f) os q h.2 some a)) (end_in q _ _ e)
    where
      go : (b : Bool) → since (name q) ≡ b → nat_le 2 (p.depth + 1) ≡ true → named_by since f (name q) ≡ false → since (name q) ≡ false
      go true is deep free = let yes = stays n (inside (beside p since)) f since (name q) h.1 deep is in absurd cc
      go false is deep free = is

  are_apart : (n : ℕ) (p : Place) (since : Named) (os : Blocks) → PassBeside later roles n p since os → 1 ≤ p.depth
      → AreApart (trees_of roles n os)
  are_apart n p since NoBlock h some = tt
  are_apart n p since (ABlock f os) h some = (
    λ q a b.
        let yes = ends_named n (inside (beside p since)) f since q h.1 (within p.depth some) a in
        let free = beside_free (n + points f) p (named_by since f) os q h.2 some b in absurd cc,
    are_apart (n + points f) p (named_by since f) os h.2 some,
  )

  apart_behind : (label : List ℕ) (sorts : List (List ℕ)) (from : ℕ) (rs : List (List ℕ)) (n : ℕ) (rest : trees.Body) → HasLanesApart rest
      → HasLanesApart (singles label sorts from (roles_at roles rs) n rest)
  apart_behind label sorts from [] n rest h = h
  apart_behind label sorts from (r ∷ rs) n rest h = apart_behind label sorts from rs (n + 1) rest h

  pub lanes_apart : (n : ℕ) (p : Place) (w : Written) → 1 ≤ p.depth → Passes later roles n p w → HasLanesApart (tree_of roles n w)
  lanes_apart n p NoStmt some h = tt
  lanes_apart n p (AMessage label ss s r rs rest) some h =
      apart_behind label ss (role_at roles s) (r ∷ rs) n _ (lanes_apart (n + (1 + length rs)) (after_statement p false) rest some h.4)
  lanes_apart n p (AChoice s f os rest) some h = lanes_apart (n + (points f + points_of os)) (after_statement p false) rest some h.6
  lanes_apart n p (ARec x body rest) some h = lanes_apart (n + points body) (after_statement p false) rest some h.3
  lanes_apart n p (AContinue x rest) some h = lanes_apart n (after_statement p true) rest some h.3
  lanes_apart n p (APar f g os rest) some h =
      let more = lanes_apart (n + (points f + (points g + points_of os))) (after_statement p false) rest some h.3 in
      (are_apart n p nobody (ABlock f (ABlock g os)) (h.2.0, h.2.1, (h.2.2, h.2.3, h.2.4)) some, more)
  lanes_apart n p (ADo x r rs rest) some h = lanes_apart n (after_statement p false) rest some h.2
