-- What a walk finds lane by lane is what the text says of each place, choice and lane.
use Rattle.std.proofs.Common.{◌≡◌, ℕ, zero, suc, ◌+◌, ◌-◌, ◌<◌, ◌≤◌, false, cond, Some, ◌⊎◌, List, [], ◌∷◌, ◌++◌, length, length-append, get_or, map, replicate, refl, sym, ◌∙◌, ap, subst, inl, inr, append_assoc, arith}
use Rattle.std.specs.Prelude.{◌==◌, slice_get}
use Rattle.std.proofs.lemmas.Bool.{cases_lt}
use Rattle.std.proofs.lemmas.Bool.Decides.{nat_tests}
use Rattle.std.proofs.lemmas.List.{get_or_append_left, get_or-append_right, get_or-replicate, length-replicate}
use Rattle.rcv_model.specs.Text.{Body, End, Single, Choose, Loop, Again, Parallel, Call, Bodies, NoMore, Or}
use Rattle.rcv_model.specs.Form.{IsNumberedFrom}
use Rattle.rcv_model.specs.Places.{SingleMessage, singles, spots, find_spot, firsts, firsts_of, offers_of, spot_of, Lane, run_of, beside, lanes_behind, lanes_of, lane_in, lane_or_none, lane_at, IsNothing, IsFull, OthersFull, IsFullText, net_of}
use Rattle.rcv_model.specs.Accept.{choices}
use Rattle.rcv_model.proofs.LanesOfText.{Has, has_number, singles_all, flat, lane_is}
use Rattle.rcv_points.specs.Follow.{ChoiceView, no_lane, lane_view, choice_of}
use Rattle.rcv_points.specs.Walk.{Env, follows, chosen, chosen_of, rec_offer}
use Rattle.rcv_points.proofs.Firsts.{branches_full, any_next, any_next_of}
use Rattle.rcv_points.proofs.Spots.{follows_spots, chosen_choices, spots_count, found_spot, as_many}
use Rattle.rcv_points.proofs.LaneFacts.{start_lane}

-- what each place of some lanes offers, what their choices offer, and the number of the lane of each place
abbrev pub lane_follows : List Lane → List (List ℕ)
lane_follows [] = []
lane_follows (l ∷ ls) = follows [] [] l.body ++ lane_follows ls

abbrev pub lane_chosen : List Lane → List ChoiceView
lane_chosen [] = []
lane_chosen (l ∷ ls) = chosen [] [] l.body ++ lane_chosen ls

abbrev pub numbers_from : ℕ → List Lane → List ℕ
numbers_from i [] = []
numbers_from i (l ∷ ls) = replicate (length (singles l.body)) i ++ numbers_from (i + 1) ls

pub num_front : (n : ℕ) (xs ys : List (ℕ × SingleMessage)) → IsNumberedFrom n (xs ++ ys) → IsNumberedFrom n xs
num_front n [] ys num = tt
num_front n (x ∷ xs) ys num = (num.0, num_front (n + 1) xs ys num.1)

pub num_back : (n : ℕ) (xs ys : List (ℕ × SingleMessage)) → IsNumberedFrom n (xs ++ ys) → IsNumberedFrom (n + length xs) ys
num_back n [] ys num = subst (λ m. IsNumberedFrom m ys) (omega arith) num
num_back n (x ∷ xs) ys num = subst (λ m. IsNumberedFrom m ys) (omega arith) (num_back (n + 1) xs ys num.1)

-- as many places as messages
long_follows : (b : Body) → length (follows [] [] b) ≡ length (singles b)
long_follows b = ap (λ l. length l) (follows_spots [] b) ∙ as_many b

pub all_follows : (ls : List Lane) → length (lane_follows ls) ≡ length (singles_all ls)
all_follows [] = refl
all_follows (l ∷ ls) = let ih = all_follows ls in let e = long_follows l.body in omega (arith, length-append (follows [] [] l.body) (lane_follows ls), length-append (singles l.body) (singles_all ls), ih, e)

pub all_numbers : (i : ℕ) (ls : List Lane) → length (numbers_from i ls) ≡ length (singles_all ls)
all_numbers i [] = refl
all_numbers i (l ∷ ls) = let ih = all_numbers (i + 1) ls in let e = length-replicate (length (singles l.body)) i in omega (arith, length-append (replicate (length (singles l.body)) i) (numbers_from (i + 1) ls), length-append (singles l.body) (singles_all ls), ih, e)

-- the lane of a point, with what is found of it
record Stands (i n k : ℕ) (ls : List Lane) : Type 0 where
  lane : ℕ
  has : Has k (singles (lane_or_none (slice_get ls lane)).body)
  place : get_or (lane_follows ls) (k - n) [] ≡ offers_of (find_spot k (spots [] (lane_or_none (slice_get ls lane)).body))
  number : get_or (numbers_from i ls) (k - n) 0 ≡ i + lane

stands : (i n k : ℕ) (ls : List Lane) → IsNumberedFrom n (singles_all ls) → n ≤ k → k < n + length (singles_all ls) → Stands i n k ls
stands i n k [] num low high = absurd (omega (arith, low, high))
stands i n k (l ∷ ls) num low high = go (cases_lt k (n + length (singles l.body))) (λ le. stands (i + 1) (n + length (singles l.body)) k ls (num_back n (singles l.body) (singles_all ls) num) le (let e = length-append (singles l.body) (singles_all ls) in omega (arith, high, e)))
  where
    go : (k < n + length (singles l.body)) ⊎ (n + length (singles l.body) ≤ k) → (n + length (singles l.body) ≤ k → Stands (i + 1) (n + length (singles l.body)) k ls) → Stands i n k (l ∷ ls)
    go (inl lt) ih =
        let own = num_front n (singles l.body) (singles_all ls) num in
        let long = long_follows l.body in
        let copies = length-replicate (length (singles l.body)) i in
        record {
          lane = 0;
          has = has_number n k (singles l.body) own low lt;
          place = get_or_append_left (follows [] [] l.body) (lane_follows ls) [] (k - n) (omega (arith, low, lt, long)) ∙ ap (λ xs. get_or xs (k - n) []) (follows_spots [] l.body) ∙ sym (found_spot n k (spots [] l.body) (spots_count n l.body own) low);
          number = get_or_append_left (replicate (length (singles l.body)) i) (numbers_from (i + 1) ls) 0 (k - n) (omega (arith, low, lt, copies)) ∙ get_or-replicate (length (singles l.body)) (k - n) i 0 (omega (arith, low, lt)) ∙ omega arith;
        }
    go (inr le) ih =
        let r = ih le in
        let step : k - n - length (singles l.body) ≡ k - (n + length (singles l.body)) = omega (arith, le) in
        record {
          lane = suc r.lane;
          has = r.has;
          place = get_or-append_right (follows [] [] l.body) (lane_follows ls) (length (singles l.body)) (k - n) [] (long_follows l.body) (omega (arith, le)) ∙ ap (λ j. get_or (lane_follows ls) j []) step ∙ r.place;
          number = get_or-append_right (replicate (length (singles l.body)) i) (numbers_from (i + 1) ls) (length (singles l.body)) (k - n) 0 (length-replicate (length (singles l.body)) i) (omega (arith, le)) ∙ ap (λ j. get_or (numbers_from (i + 1) ls) j 0) step ∙ r.number ∙ omega arith;
        }

pub not_zero : (k : ℕ) → (suc k == 0) ≡ false
not_zero k = grind (arith, nat_tests)

module _ (body : Body) (num : IsNumberedFrom 1 (singles body)) where
  num_lanes : IsNumberedFrom 1 (singles_all (lanes_of body))
  num_lanes = subst (IsNumberedFrom 1) (flat body) num

  stands_at : (k : ℕ) → 1 ≤ k → k ≤ (net_of body).count → Stands 0 1 k (lanes_of body)
  stands_at k low high = stands 0 1 k (lanes_of body) num_lanes low (let e = ap (λ es. length es) (flat body) in omega (arith, high, e))

  behind : (k : ℕ) → 1 ≤ k → (b : Body) → offers_of (find_spot k (spots [] b)) ≡ offers_of (spot_of b k)
  behind zero low b = absurd (omega (arith, low))
  behind (suc k) low b = sym (ap (λ t. offers_of (cond t (Some (record { left = b; frames = [] })) (find_spot (suc k) (spots [] b)))) (not_zero k))

  -- what a place offers, from the start on
  pub places_told : (k : ℕ) → k ≤ (net_of body).count → get_or (firsts [] [] (run_of body) ∷ lane_follows (lanes_of body)) k [] ≡ (net_of body).offers k
  places_told zero high = sym (ap (λ l. offers_of (spot_of (lane_at body l).body 0)) (start_lane body num))
  places_told (suc k) high =
      let s = stands_at (suc k) (omega arith) high in
      let same : lane_in body (suc k) ≡ s.lane = lane_is body (suc k) s.lane num_lanes s.has in
      let back : k ≡ suc k - 1 = omega arith in
      ap (λ j. get_or (lane_follows (lanes_of body)) j []) back ∙ s.place ∙ behind (suc k) (omega arith) (lane_at body s.lane).body
      ∙ ap (λ l. offers_of (spot_of (lane_at body l).body (suc k))) (sym same)

  -- the number of a place's lane
  pub numbers_told : (k : ℕ) → k ≤ (net_of body).count → get_or (0 ∷ numbers_from 0 (lanes_of body)) k 0 ≡ lane_in body k
  numbers_told zero high = sym (start_lane body num)
  numbers_told (suc k) high =
      let s = stands_at (suc k) (omega arith) high in
      let same : lane_in body (suc k) ≡ s.lane = lane_is body (suc k) s.lane num_lanes s.has in
      let back : k ≡ suc k - 1 = omega arith in
      ap (λ j. get_or (numbers_from 0 (lanes_of body)) j 0) back ∙ s.number ∙ omega arith ∙ sym same

-- a lane by its number
pub lane_told : (ls : List Lane) (l : ℕ) → get_or (map lane_view ls) l no_lane ≡ lane_view (lane_or_none (slice_get ls l))
lane_told [] l = refl
lane_told (x ∷ ls) zero = refl
lane_told (x ∷ ls) (suc l) = lane_told ls l

-- Choices of a full block offer the same, whatever is offered behind it.
nothing_full : (recs bare : List (List ℕ)) (b : Body) → IsNothing b → IsFull recs bare b
nothing_full recs bare End n = tt
nothing_full recs bare (Single label sorts s r p rest) n = absurd n
nothing_full recs bare (Choose s bs rest) n = absurd n
nothing_full recs bare (Loop name body rest) n = absurd n
nothing_full recs bare (Again name rest) n = absurd n
nothing_full recs bare (Parallel bs rest) n = absurd n
nothing_full recs bare (Call name roles rest) n = absurd n

mutual
  chosen_any : (env : Env) (next after : List ℕ) (recs bare : List (List ℕ)) (b : Body) → IsFull recs bare b → chosen env next b ≡ chosen env after b
  chosen_any env next after recs bare End full = refl
  chosen_any env next after recs bare (Single label sorts s r p rest) full = chosen_any env next after recs [] rest full
  chosen_any env next after recs bare (Choose s bs rest) full =
      let others = branches_full recs bare bs full.0 in
      ap (λ ps. record { subject = s; offered = ps } ∷ chosen_of env (firsts env next rest) bs ++ chosen env next rest) (any_next_of env (firsts env next rest) (firsts env after rest) recs bare bs others)
      ∙ ap (λ l. record { subject = s; offered = firsts_of env (firsts env after rest) bs } ∷ l ++ chosen env next rest) (chosen_any_of env (firsts env next rest) (firsts env after rest) recs bare bs others)
      ∙ ap (λ l. record { subject = s; offered = firsts_of env (firsts env after rest) bs } ∷ chosen_of env (firsts env after rest) bs ++ l) (chosen_any env next after recs [] rest full.1)
  chosen_any env next after recs bare (Loop name body rest) full =
      let entered' : rec_offer env (firsts env next rest) name body ≡ rec_offer env (firsts env after rest) name body = ap (λ ps. (name, ps)) (any_next ((name, []) ∷ env) (firsts env next rest) (firsts env after rest) (name ∷ recs) (name ∷ bare) body full.1 full.0) in
      ap (λ e. chosen (e ∷ env) (firsts env next rest) body ++ chosen env next rest) entered'
      ∙ ap (λ l. l ++ chosen env next rest) (chosen_any (rec_offer env (firsts env after rest) name body ∷ env) (firsts env next rest) (firsts env after rest) (name ∷ recs) (name ∷ bare) body full.1)
      ∙ ap (λ l. chosen (rec_offer env (firsts env after rest) name body ∷ env) (firsts env after rest) body ++ l) (chosen_any env next after recs [] rest full.2)
  chosen_any env next after recs bare (Again name rest) full = chosen_any env next after recs [] rest (nothing_full recs [] rest full.2)
  chosen_any env next after recs bare (Parallel bs rest) full = absurd full
  chosen_any env next after recs bare (Call name roles rest) full = absurd full

  chosen_any_of : (env : Env) (next after : List ℕ) (recs bare : List (List ℕ)) (bs : Bodies) → OthersFull recs bare bs → chosen_of env next bs ≡ chosen_of env after bs
  chosen_any_of env next after recs bare NoMore full = refl
  chosen_any_of env next after recs bare (Or b bs) full =
      ap (λ l. l ++ chosen_of env next bs) (chosen_any env next after recs bare b full.1)
      ∙ ap (λ l. chosen env after b ++ l) (chosen_any_of env next after recs bare bs full.2)

-- a par offers nothing in its block, nor does the end of the run before it
run_firsts : (b : Body) → firsts [] [] (run_of b) ≡ firsts [] [] b
run_firsts End = refl
run_firsts (Single label sorts s r p rest) = refl
run_firsts (Choose s bs rest) = ap (λ n. firsts_of [] n bs) (run_firsts rest)
run_firsts (Loop name body rest) = ap (λ n. firsts ((name, []) ∷ []) n body) (run_firsts rest)
run_firsts (Again name rest) = refl
run_firsts (Parallel bs rest) = refl
run_firsts (Call name roles rest) = refl

chosen_beside : (s : ℕ) (bs : Bodies) (ls : List Lane) (next : List ℕ) → OthersFull [] [] bs → chosen_of [] next bs ++ lane_chosen ls ≡ lane_chosen (beside s bs ++ ls)
chosen_beside s NoMore ls next full = refl
chosen_beside s (Or b bs) ls next full =
    append_assoc (chosen [] next b) (chosen_of [] next bs) (lane_chosen ls)
    ∙ ap (λ l. l ++ (chosen_of [] next bs ++ lane_chosen ls)) (chosen_any [] next [] [] [] b full.1)
    ∙ ap (λ l. chosen [] [] b ++ l) (chosen_beside s bs ls next full.2)

chosen_lanes : (s : ℕ) (b : Body) → IsFullText b → chosen [] [] b ≡ chosen [] [] (run_of b) ++ lane_chosen (lanes_behind s b)
chosen_lanes s End full = refl
chosen_lanes s (Single label sorts a r p rest) full = chosen_lanes s rest full
chosen_lanes s (Choose a bs rest) full =
    ap (λ n. record { subject = a; offered = firsts_of [] n bs } ∷ chosen_of [] n bs ++ chosen [] [] rest) (sym (run_firsts rest))
    ∙ ap (λ l. record { subject = a; offered = firsts_of [] (firsts [] [] (run_of rest)) bs } ∷ chosen_of [] (firsts [] [] (run_of rest)) bs ++ l) (chosen_lanes s rest full.1)
    ∙ ap (λ l. record { subject = a; offered = firsts_of [] (firsts [] [] (run_of rest)) bs } ∷ l) (sym (append_assoc (chosen_of [] (firsts [] [] (run_of rest)) bs) (chosen [] [] (run_of rest)) (lane_chosen (lanes_behind s rest))))
chosen_lanes s (Loop name body rest) full =
    ap (λ n. chosen (rec_offer [] n name body ∷ []) n body ++ chosen [] [] rest) (sym (run_firsts rest))
    ∙ ap (λ l. chosen (rec_offer [] (firsts [] [] (run_of rest)) name body ∷ []) (firsts [] [] (run_of rest)) body ++ l) (chosen_lanes s rest full.2)
    ∙ sym (append_assoc (chosen (rec_offer [] (firsts [] [] (run_of rest)) name body ∷ []) (firsts [] [] (run_of rest)) body) (chosen [] [] (run_of rest)) (lane_chosen (lanes_behind s rest)))
chosen_lanes s (Again name rest) full = absurd full
chosen_lanes s (Parallel bs rest) full =
    ap (λ l. chosen_of [] (firsts [] [] rest) bs ++ l) (chosen_lanes (s + 2) rest full.1)
    ∙ chosen_beside (s + 1) bs (record { stage = s + 2; body = run_of rest } ∷ lanes_behind (s + 2) rest) (firsts [] [] rest) (branches_full [] [] bs full.0)
chosen_lanes s (Call name roles rest) full = absurd full

-- so choices of lanes are those of the text
pub choices_told : (body : Body) → IsFullText body → lane_chosen (lanes_of body) ≡ map choice_of (choices [] body)
choices_told body full = sym (chosen_lanes 0 body full) ∙ chosen_choices [] body
