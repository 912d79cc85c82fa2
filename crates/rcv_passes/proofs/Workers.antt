-- What several workers make, each with a tool and a part of the places.
use Rattle.std.proofs.Common.{◌≡◌, ◌+◌, ◌<◌, ◌≤◌, List, ◌++◌, length, refl, sym, subst, arith, length-append, slice_index_or}
use Rattle.rcv_passes.specs.Round.{AreOfOneKind, AreLikeBefore, HaveRun, HaveRunWithEach, HaveWorked}
use Rattle.rcv_passes.proofs.Lists.{in_front, behind, each_append}

-- tools of one kind stay so
pub stay_alike :
    {T : Type 0} (like : T → T → Type 0) (symmetric : (t u : T) → like t u → like u t)
    (transitive : (t u v : T) → like t u → like u v → like t v) (old new : List T)
    → AreOfOneKind like old → AreLikeBefore like old new → AreOfOneKind like new
stay_alike like symmetric transitive old new alike before i j d e li lj =
    let ki : i < length old = omega (arith, before.0, li) in
    let kj : j < length old = omega (arith, before.0, lj) in
    transitive _ _ _ (symmetric _ _ (before.1 i d ki)) (transitive _ _ _ (alike i j d e ki kj) (before.1 j e kj))

module _ {T P : Type 0} (like : T → T → Type 0) (ready : P → Type 0) (ran : T → P → P → Type 0)
    (carries : (t u : T) (x y : P) → like t u → ran u x y → ran t x y) where
  -- what has run with a tool has run with any other of its kind
  with_other : (t u : T) (old new : List P) → like t u → HaveRun ready ran u old new → HaveRun ready ran t old new
  with_other t u old new alike run = (run.0, run.1, λ i d li. carries t u _ _ alike (run.2 i d li))

  both_parts :
      (t : T) (some others some' others' : List P) → HaveRun ready ran t some some' → HaveRun ready ran t others others'
      → HaveRun ready ran t (some ++ others) (some' ++ others')
  both_parts t some others some' others' front back = (
    omega (arith, length-append some others, length-append some' others', front.0, back.0),
    each_append (λ x y. ready y) some' others' some' others' refl front.1 back.1,
    each_append (λ x y. ran t x y) some others some' others' front.0 front.2 back.2,
  )

  -- two parts of the workers with two parts of the places
  pub workers_join :
      (tools front back front' back' : List T) (old some others some' others' : List P)
      → tools ≡ front ++ back → old ≡ some ++ others → 1 ≤ length front → 1 ≤ length back → AreOfOneKind like tools
      → HaveWorked like ready ran front front' some some' → HaveWorked like ready ran back back' others others'
      → HaveWorked like ready ran tools (front' ++ back') old (some' ++ others')
  workers_join tools front back front' back' old some others some' others' cut part fore aft alike one two =
      subst (λ z. HaveWorked like ready ran z (front' ++ back') old (some' ++ others')) (sym cut)
      (subst (λ z. HaveWorked like ready ran (front ++ back) (front' ++ back') z (some' ++ others')) (sym part) (tools_join, run_join))
    where
      whole : AreOfOneKind like (front ++ back)
      whole = subst (λ z. AreOfOneKind like z) cut alike

      tools_join : AreLikeBefore like (front ++ back) (front' ++ back')
      tools_join = (
        omega (arith, length-append front back, length-append front' back', one.0.0, two.0.0),
        each_append like front back front' back' one.0.0 one.0.1 two.0.1,
      )

      run_join : HaveRunWithEach ready ran (front ++ back) (some ++ others) (some' ++ others')
      run_join k t lk =
          let first : like (slice_index_or (front ++ back) k t) (slice_index_or front 0 t) = subst (λ z. like (slice_index_or (front ++ back) k t) z) (in_front front back 0 t (omega (arith, fore))) (whole k 0 t t lk (omega (arith, length-append front back, fore))) in
          let second : like (slice_index_or (front ++ back) k t) (slice_index_or back 0 t) = subst (λ z. like (slice_index_or (front ++ back) k t) z) (behind front back 0 t) (whole k (length front + 0) t t lk (omega (arith, length-append front back, aft))) in
          both_parts (slice_index_or (front ++ back) k t) some others some' others'
          (with_other _ (slice_index_or front 0 t) some some' first (one.1 0 t (omega (arith, fore))))
          (with_other _ (slice_index_or back 0 t) others others' second (two.1 0 t (omega (arith, aft))))

  -- workers with the first part of the tools and all places
  pub crew_works :
      (reflexive : (t : T) → like t t) (tools crew rest crew' : List T) (old new : List P)
      → tools ≡ crew ++ rest → 1 ≤ length crew → AreOfOneKind like tools → HaveWorked like ready ran crew crew' old new
      → HaveWorked like ready ran tools (crew' ++ rest) old new
  crew_works reflexive tools crew rest crew' old new cut least alike work =
      subst (λ z. HaveWorked like ready ran z (crew' ++ rest) old new) (sym cut) (tools_stay, all)
    where
      whole : AreOfOneKind like (crew ++ rest)
      whole = subst (λ z. AreOfOneKind like z) cut alike

      tools_stay : AreLikeBefore like (crew ++ rest) (crew' ++ rest)
      tools_stay = (
        omega (arith, length-append crew rest, length-append crew' rest, work.0.0),
        each_append like crew rest crew' rest work.0.0 work.0.1 (λ i d li. reflexive _),
      )

      all : HaveRunWithEach ready ran (crew ++ rest) old new
      all k t lk =
          let first : like (slice_index_or (crew ++ rest) k t) (slice_index_or crew 0 t) = subst (λ z. like (slice_index_or (crew ++ rest) k t) z) (in_front crew rest 0 t (omega (arith, least))) (whole k 0 t t lk (omega (arith, length-append crew rest, least))) in
          with_other _ (slice_index_or crew 0 t) old new first (work.1 0 t (omega (arith, least)))
