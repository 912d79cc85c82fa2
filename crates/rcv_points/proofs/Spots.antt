-- What a walk along a block finds is what the spots of its messages offer.
use Rattle.std.proofs.Common.{◌≡◌, ℕ, suc, ◌+◌, ◌-◌, ◌≤◌, Bool, true, false, cond, Some, List, [], ◌∷◌, ◌++◌, length, map, get_or, refl, sym, ◌∙◌, ap, subst, arith}
use Rattle.std.specs.Prelude.{◌==◌}
use Rattle.std.proofs.lemmas.Bool.Decides.{nat_tests}
use Rattle.std.proofs.lemmas.List.{map-append, length-map}
use Rattle.rcv_model.specs.Text.{Body, End, Single, Choose, Loop, Again, Parallel, Call, Bodies, NoMore, Or}
use Rattle.rcv_model.specs.Form.{IsNumberedFrom}
use Rattle.rcv_model.specs.Places.{Frame, Behind, Inside, Spot, SingleMessage, spots, spots_of, singles, singles_of, find_spot, offers_at, offers_of, next_of, env_of, firsts}
use Rattle.rcv_model.specs.Accept.{choices, choices_of}
use Rattle.rcv_points.specs.Follow.{choice_of}
use Rattle.rcv_points.specs.Walk.{follows, follows_of, chosen, chosen_of}

-- what is offered behind a message
pub offers_behind : ℕ × Spot → List ℕ
offers_behind e = offers_at e.1

-- what the walk finds is what the spots offer
mutual
  unfolding offers_behind

  pub follows_spots : (fs : List Frame) (b : Body) → follows (env_of fs) (next_of fs) b ≡ map offers_behind (spots fs b)
  follows_spots fs End = refl
  follows_spots fs (Single label sorts s r p rest) = ap (λ l. firsts (env_of fs) (next_of fs) rest ∷ l) (follows_spots fs rest)
  follows_spots fs (Choose s bs rest) = ap (λ l. l ++ follows (env_of fs) (next_of fs) rest) (follows_of_spots (Behind rest ∷ fs) bs) ∙ ap (λ l. map offers_behind (spots_of (Behind rest ∷ fs) bs) ++ l) (follows_spots fs rest) ∙ sym (map-append offers_behind (spots_of (Behind rest ∷ fs) bs) (spots fs rest))
  follows_spots fs (Loop name body rest) = ap (λ l. l ++ follows (env_of fs) (next_of fs) rest) (follows_spots (Inside name body rest ∷ fs) body) ∙ ap (λ l. map offers_behind (spots (Inside name body rest ∷ fs) body) ++ l) (follows_spots fs rest) ∙ sym (map-append offers_behind (spots (Inside name body rest ∷ fs) body) (spots fs rest))
  follows_spots fs (Again name rest) = follows_spots fs rest
  follows_spots fs (Parallel bs rest) = ap (λ l. l ++ follows (env_of fs) (next_of fs) rest) (follows_of_spots (Behind rest ∷ fs) bs) ∙ ap (λ l. map offers_behind (spots_of (Behind rest ∷ fs) bs) ++ l) (follows_spots fs rest) ∙ sym (map-append offers_behind (spots_of (Behind rest ∷ fs) bs) (spots fs rest))
  follows_spots fs (Call name roles rest) = follows_spots fs rest

  pub follows_of_spots : (fs : List Frame) (bs : Bodies) → follows_of (env_of fs) (next_of fs) bs ≡ map offers_behind (spots_of fs bs)
  follows_of_spots fs NoMore = refl
  follows_of_spots fs (Or b bs) = ap (λ l. l ++ follows_of (env_of fs) (next_of fs) bs) (follows_spots fs b) ∙ ap (λ l. map offers_behind (spots fs b) ++ l) (follows_of_spots fs bs) ∙ sym (map-append offers_behind (spots fs b) (spots_of fs bs))

mutual
  pub chosen_choices : (fs : List Frame) (b : Body) → chosen (env_of fs) (next_of fs) b ≡ map choice_of (choices fs b)
  chosen_choices fs End = refl
  chosen_choices fs (Single label sorts s r p rest) = chosen_choices fs rest
  chosen_choices fs (Choose s bs rest) = ap (λ l. choice_of (s, record { left = Choose s bs rest; frames = fs }) ∷ l) (ap (λ l. l ++ chosen (env_of fs) (next_of fs) rest) (chosen_of_choices (Behind rest ∷ fs) bs) ∙ ap (λ l. map choice_of (choices_of (Behind rest ∷ fs) bs) ++ l) (chosen_choices fs rest) ∙ sym (map-append choice_of (choices_of (Behind rest ∷ fs) bs) (choices fs rest)))
  chosen_choices fs (Loop name body rest) = ap (λ l. l ++ chosen (env_of fs) (next_of fs) rest) (chosen_choices (Inside name body rest ∷ fs) body) ∙ ap (λ l. map choice_of (choices (Inside name body rest ∷ fs) body) ++ l) (chosen_choices fs rest) ∙ sym (map-append choice_of (choices (Inside name body rest ∷ fs) body) (choices fs rest))
  chosen_choices fs (Again name rest) = chosen_choices fs rest
  chosen_choices fs (Parallel bs rest) = ap (λ l. l ++ chosen (env_of fs) (next_of fs) rest) (chosen_of_choices (Behind rest ∷ fs) bs) ∙ ap (λ l. map choice_of (choices_of (Behind rest ∷ fs) bs) ++ l) (chosen_choices fs rest) ∙ sym (map-append choice_of (choices_of (Behind rest ∷ fs) bs) (choices fs rest))
  chosen_choices fs (Call name roles rest) = chosen_choices fs rest

  pub chosen_of_choices : (fs : List Frame) (bs : Bodies) → chosen_of (env_of fs) (next_of fs) bs ≡ map choice_of (choices_of fs bs)
  chosen_of_choices fs NoMore = refl
  chosen_of_choices fs (Or b bs) = ap (λ l. l ++ chosen_of (env_of fs) (next_of fs) bs) (chosen_choices fs b) ∙ ap (λ l. map choice_of (choices fs b) ++ l) (chosen_of_choices fs bs) ∙ sym (map-append choice_of (choices fs b) (choices_of fs bs))

-- the points of a list, one by one
pub single_point : ℕ × SingleMessage → ℕ
single_point e = e.0

pub spot_point : ℕ × Spot → ℕ
spot_point e = e.0

-- spots and messages have the same points
mutual
  unfolding single_point spot_point

  pub same_points : (fs : List Frame) (b : Body) → map spot_point (spots fs b) ≡ map single_point (singles b)
  same_points fs End = refl
  same_points fs (Single label sorts s r p rest) = ap (λ l. p ∷ l) (same_points fs rest)
  same_points fs (Choose s bs rest) = map-append spot_point (spots_of (Behind rest ∷ fs) bs) (spots fs rest) ∙ ap (λ l. l ++ map spot_point (spots fs rest)) (same_points_of (Behind rest ∷ fs) bs) ∙ ap (λ l. map single_point (singles_of bs) ++ l) (same_points fs rest) ∙ sym (map-append single_point (singles_of bs) (singles rest))
  same_points fs (Loop name body rest) = map-append spot_point (spots (Inside name body rest ∷ fs) body) (spots fs rest) ∙ ap (λ l. l ++ map spot_point (spots fs rest)) (same_points (Inside name body rest ∷ fs) body) ∙ ap (λ l. map single_point (singles body) ++ l) (same_points fs rest) ∙ sym (map-append single_point (singles body) (singles rest))
  same_points fs (Again name rest) = same_points fs rest
  same_points fs (Parallel bs rest) = map-append spot_point (spots_of (Behind rest ∷ fs) bs) (spots fs rest) ∙ ap (λ l. l ++ map spot_point (spots fs rest)) (same_points_of (Behind rest ∷ fs) bs) ∙ ap (λ l. map single_point (singles_of bs) ++ l) (same_points fs rest) ∙ sym (map-append single_point (singles_of bs) (singles rest))
  same_points fs (Call name roles rest) = same_points fs rest

  pub same_points_of : (fs : List Frame) (bs : Bodies) → map spot_point (spots_of fs bs) ≡ map single_point (singles_of bs)
  same_points_of fs NoMore = refl
  same_points_of fs (Or b bs) = map-append spot_point (spots fs b) (spots_of fs bs) ∙ ap (λ l. l ++ map spot_point (spots_of fs bs)) (same_points fs b) ∙ ap (λ l. map single_point (singles b) ++ l) (same_points_of fs bs) ∙ sym (map-append single_point (singles b) (singles_of bs))

-- numbers that count up
abbrev pub Counts : ℕ → List ℕ → Type 0
Counts n [] = Unit {0}
Counts n (p ∷ ps) = (p ≡ n) × Counts (n + 1) ps

numbers_count : (n : ℕ) (es : List (ℕ × SingleMessage)) → IsNumberedFrom n es → Counts n (map single_point es)
unfolding single_point
numbers_count n [] num = tt
numbers_count n (e ∷ es) num = (num.0, numbers_count (n + 1) es num.1)

pub spots_count : (n : ℕ) (body : Body) → IsNumberedFrom n (singles body) → Counts n (map spot_point (spots [] body))
spots_count n body num = subst (Counts n) (sym (same_points [] body)) (numbers_count n (singles body) num)

-- the spot of a point stands at its place in the list
pub found_spot : (n k : ℕ) (es : List (ℕ × Spot)) → Counts n (map spot_point es) → n ≤ k → offers_of (find_spot k es) ≡ get_or (map offers_behind es) (k - n) []
unfolding spot_point offers_behind
found_spot n k [] count le = refl
found_spot n k (e ∷ es) count le = go (e.0 == k) refl (found_spot (n + 1) k es count.1)
  where
    go : (b : Bool) → (e.0 == k) ≡ b → (n + 1 ≤ k → offers_of (find_spot k es) ≡ get_or (map offers_behind es) (k - (n + 1)) []) → offers_of (cond b (Some e.1) (find_spot k es)) ≡ get_or (offers_at e.1 ∷ map offers_behind es) (k - n) []
    go true t ih =
        let a : k - n ≡ 0 = let f = count.0 in let g : e.0 ≡ k = grind (arith, nat_tests) in omega arith in
        ap (λ i. get_or (offers_at e.1 ∷ map offers_behind es) i []) (sym a)
    go false t ih =
        let g : e.0 ≡ k → ⊥ = λ h. grind (arith, nat_tests) in
        let lt : n + 1 ≤ k = let f = count.0 in omega arith in
        let a : k - n ≡ suc (k - (n + 1)) = omega arith in
        ih lt ∙ ap (λ i. get_or (offers_at e.1 ∷ map offers_behind es) i []) (sym a)

-- as many spots as messages
pub as_many : (body : Body) → length (map offers_behind (spots [] body)) ≡ length (singles body)
as_many body = length-map (spots [] body) offers_behind ∙ sym (length-map (spots [] body) spot_point) ∙ ap length (same_points [] body) ∙ length-map (singles body) single_point
