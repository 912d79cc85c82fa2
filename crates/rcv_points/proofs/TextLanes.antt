-- The lanes of a text, listed statement by statement.
use Rattle.std.proofs.Common.{◌≡◌, ℕ, zero, suc, ◌+◌, ◌-◌, ◌<◌, ◌≤◌, List, [], ◌∷◌, ◌++◌, length, length-append, get_or, take, drop, refl, sym, ◌∙◌, ap, subst, append_assoc, append-nil, arith}
use Rattle.std.proofs.lemmas.List.{drop_more, take_more}
use Rattle.rcv_tree.specs.declared.statement.Stmt.{Stmt}
use Rattle.rcv_tree.specs.declared.statement.Block.{Block}
use Rattle.rcv_model.specs.Text.{Body, End, Parallel, Bodies, stmt_body, body_of, body_from, bodies_from}
use Rattle.rcv_model.specs.Places.{Lane, run_of, beside, lanes_behind, lanes_of}
use Rattle.rcv_points.specs.Lanes.{StaysInRun}

-- statements in front of a body
abbrev pub in_front : List Stmt → Body → Body
in_front [] rest = rest
in_front (s ∷ xs) rest = stmt_body s (in_front xs rest)

front_join : (xs ys : List Stmt) → body_from (xs ++ ys) ≡ in_front xs (body_from ys)
front_join [] ys = refl
front_join (s ∷ xs) ys = ap (stmt_body s) (front_join xs ys)

front_end : (xs : List Stmt) → in_front xs End ≡ body_from xs
front_end [] = refl
front_end (s ∷ xs) = ap (stmt_body s) (front_end xs)

-- no par stands among them
pub record AreInRun (xs : List Stmt) : Type 0 where
  pub run : (rest : Body) → run_of (in_front xs rest) ≡ in_front xs (run_of rest)
  pub behind : (s : ℕ) (rest : Body) → lanes_behind s (in_front xs rest) ≡ lanes_behind s rest

no_run : AreInRun []
no_run = record { run = λ rest. refl; behind = λ s rest. refl }

run_more : (xs : List Stmt) (x : Stmt) → AreInRun xs → StaysInRun x → AreInRun (xs ++ x ∷ [])
run_more xs x a stays = record {
  run = λ rest. ap run_of (last xs x rest) ∙ a.run (stmt_body x rest) ∙ ap (in_front xs) (stays.run rest) ∙ sym (last xs x (run_of rest));
  behind = λ s rest. ap (lanes_behind s) (last xs x rest) ∙ a.behind s (stmt_body x rest) ∙ stays.behind s rest;
}
  where
    last : (xs : List Stmt) (x : Stmt) (rest : Body) → in_front (xs ++ x ∷ []) rest ≡ in_front xs (stmt_body x rest)
    last [] x rest = refl
    last (y ∷ xs) x rest = ap (stmt_body y) (last xs x rest)

-- the lanes from a body on, the first of them in stage s
abbrev pub lanes_from : ℕ → Body → List Lane
lanes_from s b = record { stage = s; body = run_of b } ∷ lanes_behind s b

-- a list from one place on, cut at another
cut_front : (xs : List Stmt) (index : ℕ) → xs ≡ take index xs ++ drop index xs
cut_front xs zero = refl
cut_front [] (suc i) = refl
cut_front (x ∷ xs) (suc i) = ap (λ l. x ∷ l) (cut_front xs i)

cut_at : (xs : List Stmt) (from index : ℕ) → from ≤ index → drop from xs ≡ take (index - from) (drop from xs) ++ drop index xs
cut_at xs zero index le = let z : index ≡ index - 0 = omega arith in subst (λ n. xs ≡ take n xs ++ drop index xs) z (cut_front xs index)
cut_at [] (suc f) zero le = absurd (omega (arith, le))
cut_at [] (suc f) (suc i) le = none (suc i - suc f)
  where
    none : (n : ℕ) → [] ≡ take {A = Stmt} n [] ++ []
    none zero = refl
    none (suc n) = refl
cut_at (x ∷ xs) (suc f) zero le = absurd (omega (arith, le))
cut_at (x ∷ xs) (suc f) (suc i) le =
    let same : i - f ≡ suc i - suc f = omega arith in
    subst (λ n. drop f xs ≡ take n (drop f xs) ++ drop i xs) same (cut_at xs f i (omega (arith, le)))

one_on : (xs : List Stmt) (from index : ℕ) (x : Stmt) → from ≤ index → index < length xs → x ≡ get_or xs index x → take (index + 1 - from) (drop from xs) ≡ take (index - from) (drop from xs) ++ x ∷ []
one_on xs zero index x le lt e =
    let a : index + 1 ≡ index + 1 - 0 = omega arith in
    let b : index ≡ index - 0 = omega arith in
    subst (λ n. take n xs ≡ take (index - 0) xs ++ x ∷ []) a
    (subst (λ n. take (index + 1) xs ≡ take n xs ++ x ∷ []) b (take_more xs index x lt ∙ ap (λ y. take index xs ++ y ∷ []) (sym e)))
one_on [] (suc f) index x le lt e = absurd (omega (arith, lt))
one_on (y ∷ xs) (suc f) zero x le lt e = absurd (omega (arith, le))
one_on (y ∷ xs) (suc f) (suc i) x le lt e =
    let a : i + 1 - f ≡ suc i + 1 - suc f = omega arith in
    let b : i - f ≡ suc i - suc f = omega arith in
    subst (λ n. take n (drop f xs) ≡ take (suc i - suc f) (drop f xs) ++ x ∷ []) a
    (subst (λ n. take (i + 1 - f) (drop f xs) ≡ take n (drop f xs) ++ x ∷ []) b (one_on xs f i x (omega (arith, le)) (omega (arith, lt)) e))

-- The lanes that were listed before this statement: the run that begins at `from` isn't yet.
pub record ListedSoFar (stmts : List Stmt) (index from stage : ℕ) (lanes : List Lane) : Type 0 where
  pub low : from ≤ index
  pub few : stage ≤ length lanes + length lanes
  pub run : AreInRun (take (index - from) (drop from stmts))
  pub listed : lanes ++ lanes_from stage (body_from (drop from stmts)) ≡ lanes_of (body_from stmts)

pub nothing_listed : (stmts : List Stmt) → ListedSoFar stmts 0 0 0 []
nothing_listed stmts = record { low = omega arith; few = omega arith; run = no_run; listed = refl }

-- few lanes were listed, so that stages are small
pub small_stage : (stmts : List Stmt) (index from stage : ℕ) (lanes : List Lane) → length (lanes_of (body_from stmts)) ≤ 513 → ListedSoFar stmts index from stage lanes → stage ≤ 1026
small_stage stmts index from stage lanes few s =
    let e = sym (length-append lanes (lanes_from stage (body_from (drop from stmts)))) ∙ ap (λ l. length l) s.listed in
    let a = s.few in
    omega (arith, e, few, a)

pub run_goes_on : (stmts : List Stmt) (index from stage : ℕ) (lanes : List Lane) (x : Stmt) → index < length stmts → x ≡ get_or stmts index x → StaysInRun x → ListedSoFar stmts index from stage lanes → ListedSoFar stmts (index + 1) from stage lanes
run_goes_on stmts index from stage lanes x lt e stays s = record {
  low = let low = s.low in omega (arith, low);
  few = s.few;
  run = subst AreInRun (sym (one_on stmts from index x s.low lt e)) (run_more (take (index - from) (drop from stmts)) x s.run stays);
  listed = s.listed;
}

pub par_listed : (stmts : List Stmt) (index from stage : ℕ) (lanes more new : List Lane) (x : Stmt) (bs : Bodies) → index < length stmts → x ≡ get_or stmts index x → ((rest : Body) → stmt_body x rest ≡ Parallel bs rest) → more ≡ lanes ++ record { stage = stage; body = body_from (take (index - from) (drop from stmts)) } ∷ [] → new ≡ more ++ beside (stage + 1) bs → ListedSoFar stmts index from stage lanes → ListedSoFar stmts (index + 1) (index + 1) (stage + 2) new
par_listed stmts index from stage lanes more new x bs lt e par pushed added s = record {
  low = omega arith;
  few =
      let few = s.few in
      let a = ap (λ l. length l) added ∙ length-append more (beside (stage + 1) bs) in
      let b = ap (λ l. length l) pushed ∙ length-append lanes (own ∷ []) in
      omega (arith, few, a, b);
  run = subst (λ n. AreInRun (take n (drop (index + 1) stmts))) none no_run;
  listed = ap (λ l. l ++ lanes_from (stage + 2) rest) (added ∙ ap (λ l. l ++ beside (stage + 1) bs) pushed) ∙ append_assoc (lanes ++ own ∷ []) (beside (stage + 1) bs) (lanes_from (stage + 2) rest) ∙ append_assoc lanes (own ∷ []) (beside (stage + 1) bs ++ lanes_from (stage + 2) rest) ∙ ap (λ l. lanes ++ l) (sym now) ∙ s.listed;
}
  where
    front : List Stmt
    front = take (index - from) (drop from stmts)

    rest : Body
    rest = body_from (drop (index + 1) stmts)

    own : Lane
    own = record { stage = stage; body = body_from front }

    none : 0 ≡ index + 1 - (index + 1)
    none = omega arith

    whole : body_from (drop from stmts) ≡ in_front front (Parallel bs rest)
    whole =
        ap (λ l. body_from l) (cut_at stmts from index s.low ∙ ap (λ l. front ++ l) (drop_more stmts index x lt ∙ ap (λ y. y ∷ drop (index + 1) stmts) (sym e)))
        ∙ front_join front (x ∷ drop (index + 1) stmts)
        ∙ ap (in_front front) (par rest)

    now : lanes_from stage (body_from (drop from stmts)) ≡ own ∷ (beside (stage + 1) bs ++ lanes_from (stage + 2) rest)
    now =
        ap (lanes_from stage) whole
        ∙ ap (λ b. record { stage = stage; body = b } ∷ lanes_behind stage (in_front front (Parallel bs rest))) (s.run.run (Parallel bs rest) ∙ front_end front)
        ∙ ap (λ l. own ∷ l) (s.run.behind stage (Parallel bs rest))

pub all_listed : (stmts : List Stmt) (index from stage : ℕ) (lanes new : List Lane) → length stmts ≤ index → index ≤ length stmts → new ≡ lanes ++ record { stage = stage; body = body_from (take (length stmts - from) (drop from stmts)) } ∷ [] → ListedSoFar stmts index from stage lanes → new ≡ lanes_of (body_from stmts)
all_listed stmts index from stage lanes new past last pushed s = pushed ∙ ap (λ l. lanes ++ l) (sym now) ∙ s.listed
  where
    front : List Stmt
    front = take (length stmts - from) (drop from stmts)

    at_end : index ≡ length stmts
    at_end = omega (arith, past, last)

    run : AreInRun front
    run = subst (λ n. AreInRun (take (n - from) (drop from stmts))) at_end s.run

    nothing : (xs : List Stmt) (i : ℕ) → length xs ≤ i → drop i xs ≡ []
    nothing [] zero le = refl
    nothing [] (suc i) le = refl
    nothing (x ∷ xs) zero le = absurd (omega (arith, le))
    nothing (x ∷ xs) (suc i) le = nothing xs i (omega (arith, le))

    same : drop from stmts ≡ front
    same = subst (λ n. drop from stmts ≡ take (n - from) (drop from stmts)) at_end (cut_at stmts from index s.low ∙ ap (λ l. take (index - from) (drop from stmts) ++ l) (nothing stmts index past) ∙ append-nil (take (index - from) (drop from stmts)))

    whole : body_from (drop from stmts) ≡ in_front front End
    whole = ap (λ l. body_from l) same ∙ sym (front_end front)

    now : lanes_from stage (body_from (drop from stmts)) ≡ record { stage = stage; body = body_from front } ∷ []
    now =
        ap (lanes_from stage) whole
        ∙ ap (λ b. record { stage = stage; body = b } ∷ lanes_behind stage (in_front front End)) (run.run End ∙ front_end front)
        ∙ ap (λ l. record { stage = stage; body = body_from front } ∷ l) (run.behind stage End)

-- blocks as lanes of one stage, one by one
pub beside_more : (s : ℕ) (done : List Lane) (all : List Lane) (bs : List Block) (i : ℕ) (b : Block) (more : List Lane) → i < length bs → b ≡ get_or bs i b → more ≡ done ++ record { stage = s; body = body_of b } ∷ [] → done ++ beside s (bodies_from (drop i bs)) ≡ all → more ++ beside s (bodies_from (drop (i + 1) bs)) ≡ all
beside_more s done all bs i b more lt e pushed told =
    ap (λ l. l ++ beside s (bodies_from (drop (i + 1) bs))) pushed
    ∙ append_assoc done (record { stage = s; body = body_of b } ∷ []) (beside s (bodies_from (drop (i + 1) bs)))
    ∙ ap (λ l. done ++ beside s (bodies_from l)) (sym (drop_more bs i b lt ∙ ap (λ y. y ∷ drop (i + 1) bs) (sym e)))
    ∙ told

pub beside_all : (s : ℕ) (done : List Lane) (all : List Lane) (bs : List Block) (i : ℕ) → length bs ≤ i → done ++ beside s (bodies_from (drop i bs)) ≡ all → done ≡ all
beside_all s done all bs i past told = sym (ap (λ l. done ++ beside s (bodies_from l)) (nothing bs i past) ∙ append-nil done) ∙ told
  where
    nothing : (xs : List Block) (i : ℕ) → length xs ≤ i → drop i xs ≡ []
    nothing [] zero le = refl
    nothing [] (suc i) le = refl
    nothing (x ∷ xs) zero le = absurd (omega (arith, le))
    nothing (x ∷ xs) (suc i) le = nothing xs i (omega (arith, le))
