-- The points that were found for a text in the form which the reader gives are the points of the text, and say its protocol.
use Rattle.std.proofs.Common.{◌≡◌, ℕ, zero, suc, ◌+◌, ◌-◌, ◌<◌, ◌≤◌, Bool, true, false, cond, Some, List, [], ◌∷◌, ◌++◌, length, length-append, map, get_or, reverse, replicate, refl, sym, ◌∙◌, ap, subst, ◌⊎◌, inl, inr, append_assoc, append-nil, arith}
use Rattle.std.specs.Prelude.{◌==◌}
use Rattle.std.proofs.lemmas.Bool.{cases_lt}
use Rattle.std.proofs.lemmas.Bool.Decides.{nat_tests}
use Rattle.std.proofs.lemmas.List.{length-map, length-reverse, reverse-append, reverse-reverse, replicate_more}
use Rattle.std.specs.List.Sorted.{IsStrictlyIncreasing}
use Rattle.rcv_model.specs.Text.{Body, End, Single, Choose, Loop, Again, Parallel, Call, Bodies, NoMore, Or}
use Rattle.rcv_model.specs.Net.{Net}
use Rattle.rcv_model.specs.Next.{IsProper}
use Rattle.rcv_model.specs.Form.{HasForm, IsNumberedFrom}
use Rattle.rcv_model.specs.Places.{SingleMessage, spots, singles, singles_of, single_at, find_spot, offers_of, firsts, spot_of, Lane, run_of, lanes_behind, lanes_of, lane_in, lane_at, IsFullText, net_of}
use Rattle.rcv_model.proofs.LanesOfText.{flat, singles_all}
use Rattle.rcv_model.proofs.Same.{net_rises, starts_rise}
use Rattle.rcv_model.proofs.Forms.{proper}
use Rattle.rcv_points.specs.Follow.{LaneView, PointsView, AreWithin, ArePointsOf, offered_at, message_at, no_message, message_of, no_lane, lane_of, lane_view, net_in}
use Rattle.rcv_points.specs.Walk.{Found, AddsAll, Adds, AddsFull, HavePoints, HavePointsIn, follows, chosen, by_subject}
use Rattle.rcv_points.proofs.Choosing.{gathered}
use Rattle.rcv_points.proofs.Walks.{lane_joined}
use Rattle.rcv_points.proofs.Spots.{offers_behind, spots_count, found_spot, as_many}
use Rattle.rcv_points.proofs.LaneFacts.{AllFull, lanes_full, lanes_few, stages_in_order, lane_there, no_point_lane}
use Rattle.rcv_points.proofs.ByLanes.{lane_follows, lane_chosen, numbers_from, num_front, all_follows, all_numbers, not_zero, places_told, numbers_told, lane_told, choices_told}
use Rattle.rcv_tree.specs.Bits.{IsPoint}

-- the message of a point
message_told : (n p : ℕ) (es : List (ℕ × SingleMessage)) → IsNumberedFrom n es → n ≤ p → get_or (map message_of es) (p - n) no_message ≡ message_of (p, single_at p es)
message_told n p [] num le = refl
message_told n p (e ∷ es) num le = go (e.0 == p) refl (message_told (n + 1) p es num.1)
  where
    go : (b : Bool) → (e.0 == p) ≡ b → (n + 1 ≤ p → get_or (map message_of es) (p - (n + 1)) no_message ≡ message_of (p, single_at p es)) → get_or (message_of e ∷ map message_of es) (p - n) no_message ≡ message_of (p, cond b e.1 (single_at p es))
    go true t ih =
        let a : p - n ≡ 0 = let f = num.0 in let g : e.0 ≡ p = grind (arith, nat_tests) in omega arith in
        ap (λ i. get_or (message_of e ∷ map message_of es) i no_message) a
    go false t ih =
        let g : e.0 ≡ p → ⊥ = λ h. grind (arith, nat_tests) in
        let lt : n + 1 ≤ p = let f = num.0 in omega arith in
        let a : p - n ≡ suc (p - (n + 1)) = omega arith in
        ap (λ i. get_or (message_of e ∷ map message_of es) i no_message) a ∙ ih lt

no_single : (n p : ℕ) (es : List (ℕ × SingleMessage)) → IsNumberedFrom n es → p < n → single_at p es ≡ single_at p []
no_single n p [] num lt = refl
no_single n p (e ∷ es) num lt =
    let f = num.0 in
    let no : (e.0 == p) ≡ false = grind (arith, nat_tests) in
    ap (λ b. cond b e.1 (single_at p es)) no ∙ no_single (n + 1) p es num.1 (omega arith)

pub messages_told : (body : Body) (points : PointsView) (p : ℕ) → IsNumberedFrom 1 (singles body) → points.messages ≡ map message_of (singles body) → message_at points p ≡ message_of (p, single_at p (singles body))
messages_told body points zero num e = sym (ap (λ m. message_of (zero, m)) (no_single 1 zero (singles body) num (omega arith)))
messages_told body points (suc p) num e =
    ap (λ b. cond b no_message (get_or points.messages (suc p - 1) no_message)) (not_zero p) ∙ ap (λ l. get_or l (suc p - 1) no_message) e ∙ message_told 1 (suc p) (singles body) num (omega arith)

function_same : {A B : Type 0} (f g : A → B) → ((x : A) → f x ≡ g x) → f ≡ g
function_same f g e = λ i x. e x i

past_end : {A : Type 0} (xs : List A) (k : ℕ) (d : A) → length xs ≤ k → get_or xs k d ≡ d
past_end [] k d le = refl
past_end (x ∷ xs) zero d le = absurd (omega arith)
past_end (x ∷ xs) (suc k) d le = past_end xs k d (omega arith)

-- behind the last place nothing is offered
none_beyond : (body : Body) (k : ℕ) → IsNumberedFrom 1 (singles body) → (net_of body).count < k → (net_of body).offers k ≡ []
none_beyond body zero num lt = absurd (omega arith)
none_beyond body (suc k) num lt =
    ap (λ l. offers_of (spot_of (lane_at body l).body (suc k))) (no_point_lane body (suc k) num lt)
    ∙ ap (λ b. offers_of (cond b (Some (record { left = run_of body; frames = [] })) (find_spot (suc k) (spots [] (run_of body))))) (not_zero k)
    ∙ found_spot 1 (suc k) (spots [] (run_of body)) (spots_count 1 (run_of body) own) (omega arith)
    ∙ past_end (map offers_behind (spots [] (run_of body))) (suc k - 1) [] (let e = as_many (run_of body) in let f = ap (λ es. length es) (flat body) ∙ length-append (singles (run_of body)) (singles_all (lanes_behind 0 body)) in omega (arith, e, f, lt))
  where
    own : IsNumberedFrom 1 (singles (run_of body))
    own = num_front 1 (singles (run_of body)) (singles_all (lanes_behind 0 body)) (subst (IsNumberedFrom 1) (flat body) num)

pub offers_told : (body : Body) (roles : ℕ) (points : PointsView) (k : ℕ) → HasForm body roles → ArePointsOf body points → offered_at points k ≡ (net_of body).offers k
offers_told body roles points k form told = go (cases_lt (net_of body).count k)
  where
    go : ((net_of body).count < k) ⊎ (k ≤ (net_of body).count) → offered_at points k ≡ (net_of body).offers k
    go (inl lt) = let e = told.all in past_end points.places k [] (omega (arith, e, lt)) ∙ sym (none_beyond body k form.numbered lt)
    go (inr le) = told.offered k le

lanes_told : (body : Body) (roles : ℕ) (points : PointsView) (k : ℕ) → HasForm body roles → ArePointsOf body points → (net_in points).lane k ≡ lane_in body k
lanes_told body roles points k form told = go (cases_lt (net_of body).count k)
  where
    go : ((net_of body).count < k) ⊎ (k ≤ (net_of body).count) → (net_in points).lane k ≡ lane_in body k
    go (inl lt) = let e = told.numbered in past_end points.lane_numbers k 0 (omega (arith, e, lt)) ∙ sym (no_point_lane body k form.numbered lt)
    go (inr le) = told.lane_numbers k le

lane_is_told : (body : Body) (points : PointsView) (l : ℕ) → ArePointsOf body points → lane_of points l ≡ lane_view (lane_at body l)
lane_is_told body points l told = ap (λ ls. get_or ls l no_lane) told.lanes ∙ lane_told (lanes_of body) l

-- the points of a text say the protocol that the text says
pub same_net : (body : Body) (roles : ℕ) (points : PointsView) → HasForm body roles → ArePointsOf body points → net_in points ≡ net_of body
same_net body roles points form told = λ i. record {
  count = count i;
  offers = offers i;
  sender = senders i;
  receiver = receivers i;
  label = labels i;
  lane = lane_same i;
  stage = stage_same i;
  begins = begins_same i;
}
  where
    count : length points.messages ≡ length (singles body)
    count = ap length told.messages ∙ length-map (singles body) message_of

    offers : offered_at points ≡ (net_of body).offers
    offers = function_same _ _ (λ k. offers_told body roles points k form told)

    message : (p : ℕ) → message_at points p ≡ message_of (p, single_at p (singles body))
    message p = messages_told body points p form.numbered told.messages

    senders : (net_in points).sender ≡ (net_of body).sender
    senders = function_same _ _ (λ p. ap (λ m. m.sender) (message p))

    receivers : (net_in points).receiver ≡ (net_of body).receiver
    receivers = function_same _ _ (λ p. ap (λ m. m.receiver) (message p))

    lane_same : (net_in points).lane ≡ (net_of body).lane
    lane_same = function_same _ _ (λ p. lanes_told body roles points p form told)

    stage_same : (net_in points).stage ≡ (net_of body).stage
    stage_same = function_same _ _ (λ l. ap (λ v. v.stage) (lane_is_told body points l told))

    begins_same : (net_in points).begins ≡ (net_of body).begins
    begins_same = function_same _ _ (λ l. ap (λ v. v.begins) (lane_is_told body points l told))

    labels : (net_in points).label ≡ (net_of body).label
    labels = function_same _ _ (λ p. ap (λ m. m.label) (message p))

-- what holds of all points
more_roles : (net : Net) (roles : ℕ) → roles ≤ 8 → IsProper net roles → IsProper net 8
more_roles net roles few p = record {
  in_text = p.in_text;
  begun_in_text = p.begun_in_text;
  senders = λ q low high. let a = p.senders q low high in omega arith;
  receivers = λ q low high. let a = p.receivers q low high in omega arith;
  two_ends = p.two_ends;
  lanes = p.lanes;
}

pub within : (body : Body) (roles : ℕ) (points : PointsView) → HasForm body roles → IsFullText body → ArePointsOf body points → AreWithin points
within body roles points form full told = record {
  few = let a = form.few_points in omega (arith, count);
  all = told.all ∙ ap (λ n. n + 1) (sym count);
  ascending = λ k. subst IsStrictlyIncreasing (sym (offers_told body roles points k form told)) (net_rises body k);
  begun_ascending = λ l. subst IsStrictlyIncreasing (sym (ap (λ v. v.begins) (lane_is_told body points l told))) (starts_rise body l);
  few_lanes = let few = lanes_few body roles form full in omega (arith, few, long);
  numbered = let e = told.numbered in omega (arith, e, count);
  has_lane = λ k. let lt = lane_there body k in let e = lanes_told body roles points k form told in omega (arith, lt, e, long);
  rising = λ l m le lt. let a = stages_in_order body l m le (omega (arith, lt, long)) in let e = ap (λ v. v.stage) (lane_is_told body points l told) in let f = ap (λ v. v.stage) (lane_is_told body points m told) in omega (arith, a, e, f);
  proper = subst (λ net. IsProper net 8) (sym (same_net body roles points form told)) (more_roles (net_of body) roles form.few_roles (proper body roles form));
}
  where
    count : length points.messages ≡ length (singles body)
    count = ap length told.messages ∙ length-map (singles body) message_of

    long : length points.lanes ≡ length (lanes_of body)
    long = ap length told.lanes ∙ length-map (lanes_of body) lane_view

forward : {A : Type 0} (found xs : List A) → found ≡ [] ++ reverse xs → reverse found ≡ xs
forward found xs e = ap reverse e ∙ reverse-reverse xs

-- nothing was found yet
abbrev pub nothing : List (List ℕ) → Found
nothing none = record { recs = []; places = []; messages = []; chosen = none }

-- the points of a text in the reader's form are points
abbrev AllPoints : List (ℕ × SingleMessage) → Type 0
AllPoints [] = Unit {0}
AllPoints (e ∷ es) = IsPoint e.0 × AllPoints es

all_points : (n : ℕ) (es : List (ℕ × SingleMessage)) → 1 ≤ n → n + length es ≤ 257 → IsNumberedFrom n es → AllPoints es
all_points n [] low high num = tt
all_points n (e ∷ es) low high num = let f = num.0 in (record { first = omega (arith, low, f); last = omega (arith, high, f) }, all_points (n + 1) es (omega arith) (omega (arith, high)) num.1)

points_left : (xs ys : List (ℕ × SingleMessage)) → AllPoints (xs ++ ys) → AllPoints xs
points_left [] ys a = tt
points_left (x ∷ xs) ys a = (a.0, points_left xs ys a.1)

points_right : (xs ys : List (ℕ × SingleMessage)) → AllPoints (xs ++ ys) → AllPoints ys
points_right [] ys a = a
points_right (x ∷ xs) ys a = points_right xs ys a.1

mutual
  have_points : (b : Body) → AllPoints (singles b) → HavePoints b
  have_points End a = tt
  have_points (Single label sorts s r p rest) a = (a.0, have_points rest a.1)
  have_points (Choose s bs rest) a = (have_points_in bs (points_left (singles_of bs) (singles rest) a), have_points rest (points_right (singles_of bs) (singles rest) a))
  have_points (Loop name body rest) a = (have_points body (points_left (singles body) (singles rest) a), have_points rest (points_right (singles body) (singles rest) a))
  have_points (Again name rest) a = have_points rest a
  have_points (Parallel bs rest) a = (have_points_in bs (points_left (singles_of bs) (singles rest) a), have_points rest (points_right (singles_of bs) (singles rest) a))
  have_points (Call name roles rest) a = have_points rest a

  have_points_in : (bs : Bodies) → AllPoints (singles_of bs) → HavePointsIn bs
  have_points_in NoMore a = tt
  have_points_in (Or b bs) a = (have_points b (points_left (singles b) (singles_of bs) a), have_points_in bs (points_right (singles b) (singles_of bs) a))

-- each lane has its points
abbrev pub AllHavePoints : List Lane → Type 0
AllHavePoints [] = Unit {0}
AllHavePoints (l ∷ ls) = HavePoints l.body × AllHavePoints ls

lanes_have : (ls : List Lane) → AllPoints (singles_all ls) → AllHavePoints ls
lanes_have [] a = tt
lanes_have (l ∷ ls) a = (have_points l.body (points_left (singles l.body) (singles_all ls) a), lanes_have ls (points_right (singles l.body) (singles_all ls) a))

-- what the first of some lanes begins with
abbrev pub start_of : List Lane → List ℕ
start_of [] = []
start_of (l ∷ ls) = firsts [] [] l.body

-- What the walk along the last lanes found, the first of them with this number.
pub record LanesFound (ls : List Lane) (number : ℕ) (none : List (List ℕ)) (found : Found) (start : List ℕ) (lanes : List LaneView) (numbers : List ℕ) : Type 0 where
  pub all : AddsAll (nothing none) (lane_follows ls) (map message_of (singles_all ls)) (lane_chosen ls) found
  pub begins : start ≡ start_of ls
  pub lanes_all : lanes ≡ reverse (map lane_view ls)
  pub numbers_all : numbers ≡ reverse (numbers_from number ls)

-- the same as far as the lanes are full
abbrev pub FoundIfFull : List Lane → ℕ → List (List ℕ) → Found → List ℕ → List LaneView → List ℕ → Type 0
FoundIfFull ls number none found start lanes numbers = AllFull ls → AllHavePoints ls → LanesFound ls number none found start lanes numbers

pub no_lanes : (number : ℕ) (found : Found) (start : List ℕ) (lanes : List LaneView) (numbers : List ℕ) → found.recs ≡ [] → found.places ≡ [] → found.messages ≡ [] → start ≡ [] → lanes ≡ [] → numbers ≡ [] → FoundIfFull [] number found.chosen found start lanes numbers
no_lanes number found start lanes numbers re pl me st la nu full have = record {
  all = record { recs = re; places_more = pl; messages_more = me; choices_more = refl };
  begins = st;
  lanes_all = la;
  numbers_all = nu;
}

turned : {A : Type 0} (x : A) (xs : List A) → reverse (x ∷ xs) ≡ reverse xs ++ x ∷ []
turned x xs = reverse-append (x ∷ []) xs

copies_turned : (n x : ℕ) → reverse (replicate n x) ≡ replicate n x
copies_turned zero x = refl
copies_turned (suc n) x = let e : n + 1 ≡ suc n = omega arith in turned x (replicate n x) ∙ ap (λ l. l ++ x ∷ []) (copies_turned n x) ∙ replicate_more n x ∙ ap (λ m. replicate m x) e

-- a lane before them
pub lane_found : (l : Lane) (ls : List Lane) (number next : ℕ) (none : List (List ℕ)) (old mid : Found) (start own : List ℕ) (lanes new_lanes : List LaneView) (numbers new_numbers : List ℕ) → next ≡ number + 1 → FoundIfFull ls next none old start lanes numbers → AddsFull old [] l.body mid own → new_lanes ≡ lanes ++ record { stage = l.stage; begins = own } ∷ [] → new_numbers ≡ numbers ++ replicate (length mid.messages - length numbers) number → FoundIfFull (l ∷ ls) number none mid own new_lanes new_numbers
lane_found l ls number next none old mid start own lanes new_lanes numbers new_numbers step so adds la nu full have = record { all = all; begins = begins; lanes_all = lanes_all; numbers_all = numbers_all }
  where
    had : LanesFound ls next none old start lanes numbers
    had = so full.1 have.1

    more : Adds old [] l.body mid own
    more = adds [] [] full.0 have.0

    all : AddsAll (nothing none) (follows [] [] l.body ++ lane_follows ls) (map message_of (singles l.body ++ singles_all ls)) (chosen [] [] l.body ++ lane_chosen ls) mid
    all = lane_joined (nothing none) old mid l.body (lane_follows ls) (lane_chosen ls) (singles_all ls) had.all had.all.recs more.all

    begins : own ≡ firsts [] [] l.body
    begins = more.offered ∙ ap (λ env. firsts env [] l.body) had.all.recs

    lanes_all : new_lanes ≡ reverse (lane_view l ∷ map lane_view ls)
    lanes_all = la ∙ ap (λ ps. lanes ++ record { stage = l.stage; begins = ps } ∷ []) begins ∙ ap (λ vs. vs ++ lane_view l ∷ []) had.lanes_all ∙ sym (turned (lane_view l) (map lane_view ls))

    long : (f : Found) (es : List (ℕ × SingleMessage)) → f.messages ≡ [] ++ reverse (map message_of es) → length f.messages ≡ length es
    long f es e = ap (λ l. length l) e ∙ length-reverse (map message_of es) ∙ length-map es message_of

    own_count : length mid.messages - length numbers ≡ length (singles l.body)
    own_count =
        let a = long mid (singles l.body ++ singles_all ls) all.messages_more in
        let b = ap (λ ns. length ns) had.numbers_all ∙ length-reverse (numbers_from next ls) ∙ all_numbers next ls in
        omega (arith, a, b, length-append (singles l.body) (singles_all ls))

    numbers_all : new_numbers ≡ reverse (replicate (length (singles l.body)) number ++ numbers_from (number + 1) ls)
    numbers_all =
        nu ∙ ap (λ n. numbers ++ replicate n number) own_count ∙ ap (λ ns. ns ++ replicate (length (singles l.body)) number) (had.numbers_all ∙ ap (λ n. reverse (numbers_from n ls)) step)
        ∙ sym (reverse-append (replicate (length (singles l.body)) number) (numbers_from (number + 1) ls) ∙ ap (λ l. reverse (numbers_from (number + 1) ls) ++ l) (copies_turned (length (singles l.body)) number))

-- what the walk along the whole text found, in text order
pub walked : (body : Body) (roles n : ℕ) (none : List (List ℕ)) (after : Found) (start : List ℕ) (lanes : List LaneView) (numbers : List ℕ) (points : PointsView) → HasForm body roles → IsFullText body → none ≡ replicate n [] → 8 ≤ n → FoundIfFull (lanes_of body) 0 none after start lanes numbers → points.places ≡ reverse (after.places ++ start ∷ []) → points.messages ≡ reverse after.messages → points.choices ≡ by_subject 0 after.chosen → points.lanes ≡ reverse lanes → points.lane_numbers ≡ reverse (numbers ++ 0 ∷ []) → ArePointsOf body points
walked body roles n none after start lanes numbers points form full empty enough found pl me ch la nu = record {
  all = ap length places ∙ ap suc (all_follows (lanes_of body) ∙ sym (ap length (flat body))) ∙ omega arith;
  offered = λ k le. ap (λ l. get_or l k []) places ∙ places_told body form.numbered k le;
  messages = me ∙ forward after.messages (map message_of (singles_all (lanes_of body))) had.all.messages_more ∙ ap (map message_of) (sym (flat body));
  choices = gathered body roles n after.chosen none (lane_chosen (lanes_of body)) points.choices form.subjects (let few = form.few_roles in omega (arith, few, enough)) empty had.all.choices_more (choices_told body full) ch;
  lanes = la ∙ ap reverse had.lanes_all ∙ reverse-reverse (map lane_view (lanes_of body));
  numbered = ap length lane_numbers ∙ ap suc (all_numbers 0 (lanes_of body) ∙ sym (ap length (flat body))) ∙ omega arith;
  lane_numbers = λ k le. ap (λ l. get_or l k 0) lane_numbers ∙ numbers_told body form.numbered k le;
}
  where
    had : LanesFound (lanes_of body) 0 none after start lanes numbers
    had = found (lanes_full body full) (lanes_have (lanes_of body) (subst AllPoints (flat body) (all_points 1 (singles body) (omega arith) (let few = form.few_points in omega (arith, few)) form.numbered)))

    places : points.places ≡ firsts [] [] (run_of body) ∷ lane_follows (lanes_of body)
    places = pl ∙ reverse-append after.places (start ∷ []) ∙ ap (λ l. start ∷ l) (forward after.places (lane_follows (lanes_of body)) had.all.places_more) ∙ ap (λ x. x ∷ lane_follows (lanes_of body)) had.begins

    lane_numbers : points.lane_numbers ≡ 0 ∷ numbers_from 0 (lanes_of body)
    lane_numbers = nu ∙ reverse-append numbers (0 ∷ []) ∙ ap (λ l. 0 ∷ l) (ap reverse had.numbers_all ∙ reverse-reverse (numbers_from 0 (lanes_of body)))

-- a number again and again
pub copies_none : (old : List ℕ) (x : ℕ) → old ≡ old ++ replicate (length old - length old) x
copies_none old x = let e : 0 ≡ length old - length old = omega arith in subst (λ n. old ≡ old ++ replicate n x) e (sym (append-nil old))

pub copies_more : (old now new : List ℕ) (x i : ℕ) → length old ≤ i → new ≡ now ++ x ∷ [] → now ≡ old ++ replicate (i - length old) x → new ≡ old ++ replicate (i + 1 - length old) x
copies_more old now new x i low pushed so =
    let e : i - length old + 1 ≡ i + 1 - length old = omega (arith, low) in
    pushed ∙ ap (λ l. l ++ x ∷ []) so ∙ append_assoc old (replicate (i - length old) x) (x ∷ []) ∙ ap (λ l. old ++ l) (replicate_more (i - length old) x ∙ ap (λ n. replicate n x) e)

pub copies_all : (old now : List ℕ) (x i end : ℕ) → end ≤ i → (i ≤ end) ⊎ (i ≡ length old) → now ≡ old ++ replicate (i - length old) x → now ≡ old ++ replicate (end - length old) x
copies_all old now x i end past last so = so ∙ ap (λ n. old ++ replicate n x) (go last)
  where
    go : (i ≤ end) ⊎ (i ≡ length old) → i - length old ≡ end - length old
    go (inl le) = omega (arith, past, le)
    go (inr e) = omega (arith, past, e)
