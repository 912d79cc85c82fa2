-- The line of some texts, computed; and that it goes through all lanes of a stage.
use Rattle.std.proofs.Common.{◌≡◌, ℕ, zero, suc, List, [], ◌∷◌, ◌++◌, refl, sym, ap, subst, ◌⊎◌, inl, inr, ⊎_elim, arith}
use Rattle.rcv_model.specs.Text.{Body, End, Single, Choose, Loop, Again, Parallel, NoMore, Or}
use Rattle.rcv_model.specs.Net.{Net, IsIn, IsLaneWalk}
use Rattle.rcv_model.specs.Next.{LanesEnd}
use Rattle.rcv_model.specs.Places.{net_of}
use Rattle.rcv_model.specs.Form.{HasForm}
use Rattle.rcv_model.specs.Table.{marks, IsMarkedAt}
use Rattle.rcv_model.proofs.Forms.{proper}
use Rattle.rcv_tables.specs.Line.{line, IsLaneMarkedAt}
use Rattle.rcv_tables.proofs.MarksInLine.{marks_in_line}
use Rattle.rcv_tables.proofs.TextLanes.{lanes_rise}

-- a message from one role to another
m : ℕ → ℕ → ℕ → Body → Body
m p from to rest = Single [] [] from to p rest

-- what the line offers, from the start on
-- par { 0 to 1; } and { 2 to 3; } 1 to 2; the first stage is empty
two_lanes : Body
unfolding m
two_lanes = Parallel (Or (m 1 0 1 End) (Or (m 2 2 3 End) NoMore)) (m 3 1 2 End)

two : Net
unfolding two_lanes m
two = line (net_of two_lanes)

two_is : two.offers 0 ∷ two.offers 1 ∷ two.offers 2 ∷ two.offers 3 ∷ [] ≡ (1 ∷ []) ∷ (2 ∷ []) ∷ (3 ∷ []) ∷ [] ∷ []
unfolding two two_lanes m
two_is = refl

-- the message behind doesn't come while a lane of the stage before is left
not_too_early : IsIn 3 (two.offers 1) → ⊥
unfolding two two_lanes m
not_too_early i = ⊎_elim (λ e. omega (arith, e)) (λ none. none) i

-- where 0 fails at 1, 2 is first marked at 3
marked_at_3 : IsLaneMarkedAt two 0 1 2 3
unfolding two two_lanes m
marked_at_3 = record {
  before = 1 ∷ 2 ∷ [];
  after = [];
  walk = (2 ∷ 3 ∷ [], (inl refl, (inl refl, tt)), refl);
  not_yet = λ i. ⊎_elim (λ e. omega (arith, e)) (λ j. ⊎_elim (λ e. omega (arith, e)) (λ none. none) j) i;
  now = inl refl;
}

-- and so on some walk
two_form : HasForm (Parallel (Or (Single [] [] 0 1 1 End) (Or (Single [] [] 2 3 2 End) NoMore)) (Single [] [] 1 2 3 End)) 4
two_form = record {
  numbered = (refl, (refl, (refl, tt)));
  ends = (omega arith, omega arith, (λ e. omega arith), (omega arith, omega arith, (λ e. omega arith), (omega arith, omega arith, (λ e. omega arith), tt)));
  subjects = ((tt, (tt, tt)), tt);
  apart = ((apart, ((λ r h k. k), tt)), tt);
  few_roles = omega arith;
  few_points = omega arith;
}
  where
    apart : (r : ℕ) → ((0 ≡ r) ⊎ (1 ≡ r)) ⊎ ⊥ → (((2 ≡ r) ⊎ (3 ≡ r)) ⊎ ⊥) → ⊥
    apart r (inl (inl e)) (inl (inl f)) = omega (arith, e, f)
    apart r (inl (inl e)) (inl (inr f)) = omega (arith, e, f)
    apart r (inl (inr e)) (inl (inl f)) = omega (arith, e, f)
    apart r (inl (inr e)) (inl (inr f)) = omega (arith, e, f)
    apart r (inl (inl e)) (inr none) = none
    apart r (inl (inr e)) (inr none) = none
    apart r (inr none) d = none

two_ends : LanesEnd (net_of two_lanes)
unfolding two_lanes m
two_ends zero low high later = absurd (omega arith)
two_ends (suc zero) low high later = ([], tt, refl)
two_ends (suc (suc zero)) low high later = ([], tt, refl)
two_ends (suc (suc (suc zero))) low high later = ([], tt, refl)
two_ends (suc (suc (suc (suc p)))) low high later = absurd (omega (arith, high))

walked_to_3 : IsMarkedAt (net_of two_lanes) 0 1 2 3
unfolding two two_lanes m
walked_to_3 = (marks_in_line (net_of two_lanes) 4 0 1 2 3 (proper two_lanes 4 two_form) (record { rises = lanes_rise two_lanes two_form.numbered; ends = two_ends }) (omega arith) (omega arith) (inl refl) (λ e. omega (arith, e))).1 marked_at_3

-- par { 0 to 1; } and { 2 to 3; } 1 to 2; par { 0 to 1; } and { 2 to 3; }: the last stage has two lanes, and neither leads to
-- the other; 0 stands in the second stage and in the fourth, and not in the one between
four_stages : Body
unfolding m
four_stages = Parallel (Or (m 1 0 1 End) (Or (m 2 2 3 End) NoMore)) (m 3 1 2 (Parallel (Or (m 4 0 1 End) (Or (m 5 2 3 End) NoMore)) End))

four : Net
unfolding four_stages m
four = line (net_of four_stages)

four_is : four.offers 0 ∷ four.offers 1 ∷ four.offers 2 ∷ four.offers 3 ∷ four.offers 4 ∷ four.offers 5 ∷ [] ≡ (1 ∷ []) ∷ (2 ∷ []) ∷ (3 ∷ []) ∷ (4 ∷ 5 ∷ []) ∷ [] ∷ [] ∷ []
unfolding four four_stages m
four_is = refl

-- 0 to 1; par { rec X { choice at 0 { 0 to 1; continue X; } or { 0 to 1; } } } and { 2 to 3; }: a lane that is a loop is left
-- where it ends, behind 3 and not behind 2, if another stage follows; here it is in the last one
looped : Body
unfolding m
looped = m 1 0 1 (Parallel (Or (Loop (88 ∷ []) (Choose 0 (Or (m 2 0 1 (Again (88 ∷ []) End)) (Or (m 3 0 1 End) NoMore)) End) End) (Or (m 4 2 3 End) NoMore)) End)

looped_is : (line (net_of looped)).offers 1 ∷ (line (net_of looped)).offers 2 ∷ (line (net_of looped)).offers 3 ∷ (line (net_of looped)).offers 4 ∷ [] ≡ (2 ∷ 3 ∷ 4 ∷ []) ∷ (2 ∷ 3 ∷ []) ∷ [] ∷ [] ∷ []
unfolding looped m
looped_is = refl

-- the same with a message behind
left : Body
unfolding m
left = m 1 0 1 (Parallel (Or (Loop (88 ∷ []) (Choose 0 (Or (m 2 0 1 (Again (88 ∷ []) End)) (Or (m 3 0 1 End) NoMore)) End) End) (Or (m 4 2 3 End) NoMore)) (m 5 1 2 End))

left_is : (line (net_of left)).offers 1 ∷ (line (net_of left)).offers 2 ∷ (line (net_of left)).offers 3 ∷ (line (net_of left)).offers 4 ∷ (line (net_of left)).offers 5 ∷ [] ≡ (2 ∷ 3 ∷ []) ∷ (2 ∷ 3 ∷ []) ∷ (4 ∷ []) ∷ (5 ∷ []) ∷ [] ∷ []
unfolding left m
left_is = refl

-- par { 0 to 1; } and { 2 to 3; } alone: the stage behind it is empty
alone : Body
unfolding m
alone = Parallel (Or (m 1 0 1 End) (Or (m 2 2 3 End) NoMore)) End

alone_is : (line (net_of alone)).offers 0 ∷ (line (net_of alone)).offers 1 ∷ (line (net_of alone)).offers 2 ∷ [] ≡ (1 ∷ 2 ∷ []) ∷ [] ∷ [] ∷ []
unfolding alone m
alone_is = refl

-- 0 to 2; par { 0 to 1; } and { 2 to 3; } 1 to 4; 3 to 4; where 0 fails at 1, both lanes mark, so 4 is first marked at 4, and
-- never at 5, as it would be if the line went through the second lane alone
both_lanes : Body
unfolding m
both_lanes = m 1 0 2 (Parallel (Or (m 2 0 1 End) (Or (m 3 2 3 End) NoMore)) (m 4 1 4 (m 5 3 4 End)))

both : Net
unfolding both_lanes m
both = line (net_of both_lanes)

both_is : both.offers 1 ∷ both.offers 2 ∷ both.offers 3 ∷ both.offers 4 ∷ both.offers 5 ∷ [] ≡ (2 ∷ []) ∷ (3 ∷ []) ∷ (4 ∷ []) ∷ (5 ∷ []) ∷ [] ∷ []
unfolding both both_lanes m
both_is = refl

marked_at_4 : IsLaneMarkedAt both 0 1 4 4
unfolding both both_lanes m
marked_at_4 = record {
  before = 1 ∷ 2 ∷ 3 ∷ [];
  after = [];
  walk = (2 ∷ 3 ∷ 4 ∷ [], (inl refl, (inl refl, (inl refl, tt))), refl);
  not_yet = λ i. ⊎_elim (λ e. omega (arith, e)) (λ j. ⊎_elim (λ e. omega (arith, e)) (λ k. ⊎_elim (λ e. omega (arith, e)) (λ l. ⊎_elim (λ e. omega (arith, e)) (λ none. none) l) k) j) i;
  now = inl refl;
}

heads : (x y : ℕ) (xs ys : List ℕ) → x ∷ xs ≡ y ∷ ys → x ≡ y
heads x y xs ys e = cc

only : (x p : ℕ) → IsIn x (p ∷ []) → x ≡ p
only x p i = ⊎_elim (λ e. e) (λ none. absurd none) i

-- the points on the way to the last one
to_last : (b after : List ℕ) → IsLaneWalk both 1 (b ++ 5 ∷ after) → b ≡ 2 ∷ 3 ∷ 4 ∷ []
unfolding both both_lanes m
to_last [] after w = absurd (let e = only 5 2 w.0 in omega (arith, e))
to_last (x ∷ b) after w = at_2 b x (only x 2 w.0) w.1
  where
    at_4 : (b : List ℕ) (x : ℕ) → x ≡ 4 → IsLaneWalk (line (net_of both_lanes)) x (b ++ 5 ∷ after) → x ∷ b ≡ 4 ∷ []
    at_4 [] x e w = ap (λ y. y ∷ []) e
    at_4 (y ∷ b) x e w =
        let v : IsLaneWalk (line (net_of both_lanes)) 4 (y ∷ (b ++ 5 ∷ after)) = subst (λ k. IsLaneWalk (line (net_of both_lanes)) k (y ∷ (b ++ 5 ∷ after))) e w in
        absurd (ends b (subst (λ k. IsLaneWalk (line (net_of both_lanes)) k (b ++ 5 ∷ after)) (only y 5 v.0) v.1))
      where
        ends : (b : List ℕ) → IsLaneWalk (line (net_of both_lanes)) 5 (b ++ 5 ∷ after) → ⊥
        ends [] w = w.0
        ends (z ∷ b) w = w.0

    at_3 : (b : List ℕ) (x : ℕ) → x ≡ 3 → IsLaneWalk (line (net_of both_lanes)) x (b ++ 5 ∷ after) → x ∷ b ≡ 3 ∷ 4 ∷ []
    at_3 [] x e w = absurd (let f = only 5 4 (subst (λ k. IsLaneWalk (line (net_of both_lanes)) k (5 ∷ after)) e w).0 in omega (arith, f))
    at_3 (y ∷ b) x e w =
        let v : IsLaneWalk (line (net_of both_lanes)) 3 (y ∷ (b ++ 5 ∷ after)) = subst (λ k. IsLaneWalk (line (net_of both_lanes)) k (y ∷ (b ++ 5 ∷ after))) e w in
        let r : y ∷ b ≡ 4 ∷ [] = at_4 b y (only y 4 v.0) v.1 in
        cc

    at_2 : (b : List ℕ) (x : ℕ) → x ≡ 2 → IsLaneWalk (line (net_of both_lanes)) x (b ++ 5 ∷ after) → x ∷ b ≡ 2 ∷ 3 ∷ 4 ∷ []
    at_2 [] x e w = absurd (let f = only 5 3 (subst (λ k. IsLaneWalk (line (net_of both_lanes)) k (5 ∷ after)) e w).0 in omega (arith, f))
    at_2 (y ∷ b) x e w =
        let v : IsLaneWalk (line (net_of both_lanes)) 2 (y ∷ (b ++ 5 ∷ after)) = subst (λ k. IsLaneWalk (line (net_of both_lanes)) k (y ∷ (b ++ 5 ∷ after))) e w in
        let r : y ∷ b ≡ 3 ∷ 4 ∷ [] = at_3 b y (only y 3 v.0) v.1 in
        cc

never_at_5 : IsLaneMarkedAt both 0 1 4 5 → ⊥
unfolding both both_lanes m
never_at_5 a = go a.before a.walk.2 a.not_yet
  where
    go : (before : List ℕ) → before ++ 5 ∷ a.after ≡ 1 ∷ a.walk.0 → (IsIn 4 (marks (line (net_of both_lanes)) (0 ∷ []) before) → ⊥) → ⊥
    go [] e free = let f = heads 5 1 a.after a.walk.0 e in omega (arith, f)
    go (y ∷ b) e free =
        let f : y ≡ 1 = cc in
        let g : b ++ 5 ∷ a.after ≡ a.walk.0 = cc in
        let h : b ≡ 2 ∷ 3 ∷ 4 ∷ [] = to_last b a.after (subst (IsLaneWalk (line (net_of both_lanes)) 1) (sym g) a.walk.1) in
        let l : y ∷ b ≡ 1 ∷ 2 ∷ 3 ∷ 4 ∷ [] = cc in
        subst (λ w. IsIn 4 (marks (line (net_of both_lanes)) (0 ∷ []) w) → ⊥) l free (inl refl)
