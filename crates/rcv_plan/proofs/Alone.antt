-- The plan in which one role alone crashes is one for the same roles, and says of all else what the plan says.
use Rattle.std.proofs.Common.{◌≡◌, ℕ, ◌≤◌, ◌<◌, false, List, [], ◌∷◌, ◌++◌, refl, sym, ◌∙◌, ap, arith}
use Rattle.std.specs.Prelude.{◌==◌, ◌||◌, if◌then◌else◌}
use Rattle.std.proofs.lemmas.List.Elements.{All-head, All-tail, All-cons, All-nil}
use Rattle.rcv_model.specs.Plan.{PlanLine, EveryLine, CrashLine, LimitLine, RoomLine, HostLine, crashes_in, every_in, limit_in, room_in, host_in}
use Rattle.rcv_tree.specs.Bits.{is_listed}
use Rattle.rcv_plan.specs.Lines.{IsLineFor, IsPlanFor, IsPlanned, has_crash, is_crash}
use Rattle.rcv_plan.specs.OneCrash.{with_one_crash, OneCrashIsAlone}

one_fits : (m r n : ℕ) (plan : List PlanLine) → r < m → n ≤ 100000 → IsPlanFor m plan → IsPlanFor m (with_one_crash r n plan)
one_fits m r n [] declared few f = All-cons (IsLineFor m) (CrashLine r n) [] (declared, omega (arith, few)) (All-nil (IsLineFor m))
one_fits m r n (CrashLine q c ∷ plan) declared few f = one_fits m r n plan declared few (All-tail (IsLineFor m) (CrashLine q c) plan f)
one_fits m r n (EveryLine q c ∷ plan) declared few f =
    All-cons (IsLineFor m) (EveryLine q c) (with_one_crash r n plan) (All-head (IsLineFor m) (EveryLine q c) plan f)
    (one_fits m r n plan declared few (All-tail (IsLineFor m) (EveryLine q c) plan f))
one_fits m r n (LimitLine c ∷ plan) declared few f =
    All-cons (IsLineFor m) (LimitLine c) (with_one_crash r n plan) (All-head (IsLineFor m) (LimitLine c) plan f)
    (one_fits m r n plan declared few (All-tail (IsLineFor m) (LimitLine c) plan f))
one_fits m r n (RoomLine c ∷ plan) declared few f =
    All-cons (IsLineFor m) (RoomLine c) (with_one_crash r n plan) (All-head (IsLineFor m) (RoomLine c) plan f)
    (one_fits m r n plan declared few (All-tail (IsLineFor m) (RoomLine c) plan f))
one_fits m r n (HostLine qs ∷ plan) declared few f =
    All-cons (IsLineFor m) (HostLine qs) (with_one_crash r n plan) (All-head (IsLineFor m) (HostLine qs) plan f)
    (one_fits m r n plan declared few (All-tail (IsLineFor m) (HostLine qs) plan f))

-- the one crash line stands last
behind_all : (r n q c : ℕ) (plan front back : List PlanLine) → with_one_crash r n plan ≡ front ++ CrashLine q c ∷ back → has_crash q c front ≡ false
behind_all r n q c plan [] back e = refl
behind_all r n q c [] (y ∷ []) back e = absurd cc
behind_all r n q c [] (y ∷ z ∷ front) back e = absurd cc
behind_all r n q c (CrashLine p k ∷ plan) (y ∷ front) back e = behind_all r n q c plan (y ∷ front) back e
behind_all r n q c (EveryLine p k ∷ plan) (y ∷ front) back e =
    let same : EveryLine p k ≡ y = cc in
    ap (λ (l : PlanLine). is_crash q c l || has_crash q c front) (sym same) ∙ behind_all r n q c plan front back cc
behind_all r n q c (LimitLine k ∷ plan) (y ∷ front) back e =
    let same : LimitLine k ≡ y = cc in
    ap (λ (l : PlanLine). is_crash q c l || has_crash q c front) (sym same) ∙ behind_all r n q c plan front back cc
behind_all r n q c (RoomLine k ∷ plan) (y ∷ front) back e =
    let same : RoomLine k ≡ y = cc in
    ap (λ (l : PlanLine). is_crash q c l || has_crash q c front) (sym same) ∙ behind_all r n q c plan front back cc
behind_all r n q c (HostLine qs ∷ plan) (y ∷ front) back e =
    let same : HostLine qs ≡ y = cc in
    ap (λ (l : PlanLine). is_crash q c l || has_crash q c front) (sym same) ∙ behind_all r n q c plan front back cc

pub one_planned : (m r n : ℕ) (plan : List PlanLine) → r < m → n ≤ 100000 → IsPlanned m plan → IsPlanned m (with_one_crash r n plan)
one_planned m r n plan declared few p =
    record {
      fits = one_fits m r n plan declared few p.fits;
      once = λ front back q c e. behind_all r n q c plan front back e;
    }

crashes : (r n : ℕ) (plan : List PlanLine) (q : ℕ) → crashes_in (with_one_crash r n plan) q ≡ (if r == q then n ∷ [] else [])
crashes r n [] q = refl
crashes r n (EveryLine p k ∷ plan) q = crashes r n plan q
crashes r n (CrashLine p k ∷ plan) q = crashes r n plan q
crashes r n (LimitLine k ∷ plan) q = crashes r n plan q
crashes r n (RoomLine k ∷ plan) q = crashes r n plan q
crashes r n (HostLine qs ∷ plan) q = crashes r n plan q

every : (r n : ℕ) (plan : List PlanLine) (q : ℕ) → every_in (with_one_crash r n plan) q ≡ every_in plan q
every r n [] q = refl
every r n (EveryLine p k ∷ plan) q = ap (λ (z : ℕ). if p == q then k else z) (every r n plan q)
every r n (CrashLine p k ∷ plan) q = every r n plan q
every r n (LimitLine k ∷ plan) q = every r n plan q
every r n (RoomLine k ∷ plan) q = every r n plan q
every r n (HostLine qs ∷ plan) q = every r n plan q

host : (r n : ℕ) (plan : List PlanLine) (q : ℕ) → host_in (with_one_crash r n plan) q ≡ host_in plan q
host r n [] q = refl
host r n (EveryLine p k ∷ plan) q = host r n plan q
host r n (CrashLine p k ∷ plan) q = host r n plan q
host r n (LimitLine k ∷ plan) q = host r n plan q
host r n (RoomLine k ∷ plan) q = host r n plan q
host r n (HostLine qs ∷ plan) q = ap (λ (z : List ℕ). if is_listed qs q then qs else z) (host r n plan q)

limit : (r n : ℕ) (plan : List PlanLine) → limit_in (with_one_crash r n plan) ≡ limit_in plan
limit r n [] = refl
limit r n (EveryLine p k ∷ plan) = limit r n plan
limit r n (CrashLine p k ∷ plan) = limit r n plan
limit r n (LimitLine k ∷ plan) = refl
limit r n (RoomLine k ∷ plan) = limit r n plan
limit r n (HostLine qs ∷ plan) = limit r n plan

room : (r n : ℕ) (plan : List PlanLine) → room_in (with_one_crash r n plan) ≡ room_in plan
room r n [] = refl
room r n (EveryLine p k ∷ plan) = room r n plan
room r n (CrashLine p k ∷ plan) = room r n plan
room r n (LimitLine k ∷ plan) = room r n plan
room r n (RoomLine k ∷ plan) = refl
room r n (HostLine qs ∷ plan) = room r n plan

pub alone : OneCrashIsAlone
alone = record { crashes = crashes; every = every; host = host; limit = limit; room = room }
