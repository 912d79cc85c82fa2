-- The calls of a module, protocol by protocol.
use Rattle.std.proofs.Common.{◌≡◌, ℕ, zero, suc, ◌+◌, ◌<◌, Some, List, [], ◌∷◌, ◌++◌, drop, map, get_or, length, length-append, refl, sym, ap, ◌∙◌, ⊎_elim, append_assoc, append-nil, arith}
use Rattle.std.specs.Prelude.{slice_get, slice_index_or}
use Rattle.std.proofs.lemmas.Bool.{cases_lt}
use Rattle.std.proofs.lemmas.List.{map-append, length-map}
use Rattle.rcv_tree.specs.declared.protocol.Protocol.{Protocol}
use Rattle.rcv_model.specs.Text.{body_of}
use Rattle.rcv_module.specs.Origins.{calls_before}
use Rattle.rcv_module.specs.Parts.{Part, Site, part_of, calls, sites_from}
use Rattle.rcv_module.proofs.Sites.{calls_long}
use Rattle.rcv_do.specs.declared.calls.Call.{Call}

drop_suc : {A : Type 0} (xs : List A) (i : ℕ) (x : A) → slice_get xs i ≡ Some x → drop i xs ≡ x ∷ drop (suc i) xs
drop_suc [] i x e = absurd (cc)
drop_suc (y ∷ ys) zero x e = let h : y ≡ x = cc in ap (λ a. a ∷ ys) h
drop_suc (y ∷ ys) (suc i) x e = drop_suc ys i x e

pub drop_at : {A : Type 0} (xs : List A) (i : ℕ) (x : A) → slice_get xs i ≡ Some x → drop i xs ≡ x ∷ drop (i + 1) xs
drop_at xs i x e = let one : suc i ≡ i + 1 = omega arith in drop_suc xs i x e ∙ ap (λ n. x ∷ drop n xs) one

pub next_calls : (f : Site → Call) (ps : List Protocol) (i : ℕ) (p : Protocol) (now new all : List Call)
    → slice_get ps i ≡ Some p → now ++ map f (sites_from i (map part_of (drop i ps))) ≡ all
    → new ≡ now ++ map f (calls i (body_of p.body)) → new ++ map f (sites_from (i + 1) (map part_of (drop (i + 1) ps))) ≡ all
next_calls f ps i p now new all at so added =
    ap (λ l. l ++ map f (sites_from (i + 1) (map part_of (drop (i + 1) ps)))) added
    ∙ append_assoc now (map f (calls i (body_of p.body))) (map f (sites_from (i + 1) (map part_of (drop (i + 1) ps))))
    ∙ ap (λ l. now ++ l) (sym (map-append f (calls i (body_of p.body)) (sites_from (i + 1) (map part_of (drop (i + 1) ps)))))
    ∙ sym (ap (λ l. now ++ map f (sites_from i (map part_of l))) (drop_at ps i p at))
    ∙ so

-- ---- the number of the first call of each protocol

before_none : (ps : List Part) → calls_before ps 0 ≡ 0
before_none [] = refl
before_none (p ∷ ps) = refl

calls_next : (ps : List Part) (i : ℕ) (p : Part) → slice_get ps i ≡ Some p → calls_before ps (i + 1) ≡ calls_before ps i + length (calls 0 p.body)
calls_next [] i p e = absurd (cc)
calls_next (q ∷ ps) zero p e =
    let same : q ≡ p = cc in
    let own : length (calls 0 q.body) ≡ length (calls 0 p.body) = ap (λ (x : Part). length (calls 0 x.body)) same in
    let none = before_none ps in
    omega (arith, own, none)
calls_next (q ∷ ps) (suc i) p e =
    let more = calls_next ps i p e in
    let step : suc i + 1 ≡ suc (i + 1) = omega arith in
    let moved : calls_before (q ∷ ps) (suc i + 1) ≡ length (calls 0 q.body) + calls_before ps (i + 1) = ap (calls_before (q ∷ ps)) step in
    omega (arith, more, moved)

-- so many calls are added
pub counted_next : (f : Site → Call) (parts : List Part) (i : ℕ) (p : Part) (now new : List Call) → slice_get parts i ≡ Some p → new ≡ now ++ map f (calls i p.body)
    → length now ≡ calls_before parts i → length new ≡ calls_before parts (i + 1)
counted_next f parts i p now new at added so =
    let long = ap length added in
    let both = length-append now (map f (calls i p.body)) in
    let mapped = length-map (calls i p.body) f in
    let own = calls_long i p.body in
    let more = calls_next parts i p at in
    omega (arith, so, long, both, mapped, own, more)

at_push : (xs : List ℕ) (x i : ℕ) → i < length xs → get_or (xs ++ x ∷ []) i 0 ≡ get_or xs i 0
at_push [] x i lt = absurd (omega (arith, lt))
at_push (y ∷ xs) x zero lt = refl
at_push (y ∷ xs) x (suc i) lt = at_push xs x i (omega (arith, lt))

last_push : (xs : List ℕ) (x : ℕ) → get_or (xs ++ x ∷ []) (length xs) 0 ≡ x
last_push [] x = refl
last_push (y ∷ xs) x = last_push xs x

abbrev pub FirstsUpTo : List Part → ℕ → List ℕ → Type 0
FirstsUpTo parts n firsts = (i : ℕ) → i < n → slice_index_or firsts i 0 ≡ calls_before parts i

pub firsts_next : (parts : List Part) (n x : ℕ) (now new : List ℕ) → length now ≡ n → new ≡ now ++ x ∷ [] → x ≡ calls_before parts n → FirstsUpTo parts n now → FirstsUpTo parts (n + 1) new
firsts_next parts n x now new long pushed is so i lt = ⊎_elim
    (λ before. ap (λ l. slice_index_or l i 0) pushed ∙ at_push now x i (omega (arith, before, long)) ∙ so i before)
    (λ last.
    let here : i ≡ length now = omega (arith, last, lt, long) in
    let at : i ≡ n = here ∙ long in
    ap (λ l. slice_index_or l i 0) pushed ∙ ap (λ j. get_or (now ++ x ∷ []) j 0) here ∙ last_push now x ∙ is ∙ ap (calls_before parts) (sym at))
    (cases_lt i n)

-- ---- the names of the protocols

abbrev pub names_from : List Protocol → List (List ℕ)
names_from ps = map (λ (p : Part). p.name) (map part_of ps)

pub names_next : (ps : List Protocol) (i : ℕ) (p : Protocol) (name : List ℕ) (now new all : List (List ℕ)) → slice_get ps i ≡ Some p → new ≡ now ++ name ∷ [] → name ≡ p.name
    → now ++ names_from (drop i ps) ≡ all → new ++ names_from (drop (i + 1) ps) ≡ all
names_next ps i p name now new all at pushed is so =
    ap (λ l. l ++ names_from (drop (i + 1) ps)) pushed
    ∙ append_assoc now (name ∷ []) (names_from (drop (i + 1) ps))
    ∙ ap (λ (a : List ℕ). now ++ a ∷ names_from (drop (i + 1) ps)) is
    ∙ sym (ap (λ l. now ++ names_from l) (drop_at ps i p at))
    ∙ so

pub names_all : (ps left : List Protocol) (now : List (List ℕ)) → left ≡ [] → now ++ names_from left ≡ names_from ps → now ≡ names_from ps
names_all ps left now none so = sym (append-nil now) ∙ ap (λ l. now ++ names_from l) (sym none) ∙ so
