-- Where steps of a lane lead: to its own spots.
use Rattle.std.proofs.Common.{◌≡◌, ℕ, ◌+◌, ◌≤◌, Bool, true, false, cond, Some, List, [], ◌∷◌, ◌++◌, map, refl, sym, ap, subst, ◌∙◌, inl, inr, arith, ◌==◌, ne_eqb, eq-eqb}
use Rattle.std.proofs.lemmas.List.{map-append}
use Rattle.rcv_model.specs.Text.{Body, End, Single, Choose, Loop, Again, Parallel, Call, Bodies, NoMore, Or}
use Rattle.rcv_model.specs.Form.{IsNumberedFrom}
use Rattle.rcv_model.specs.Places.{Frame, Behind, Inside, IsBranch, enclosing, Spot, spots, spots_of, find_spot, spot_of, SingleMessage, singles, singles_of, single_at}
use Rattle.std.specs.Str.{bytes_eq}
use Rattle.rcv_module.proofs.Sites.{IsAmong, among_left, among_right}
use Rattle.rcv_module.proofs.Going.{spot, Goes, to_message, to_branch, to_loop, to_again, past_choice, past_loop}

-- The spots and the messages of a body are some of the whole.
pub record IsOf (whole b : Body) (fs : List Frame) : Type 0 where
  pub places : (e : ℕ × Spot) → IsAmong e (spots fs b) → IsAmong e (spots [] whole)
  pub messages : (e : ℕ × SingleMessage) → IsAmong e (singles b) → IsAmong e (singles whole)

abbrev pub AreOf : Body → List Frame → Type 0
AreOf whole [] = Unit {0}
AreOf whole (Behind rest ∷ fs) = IsOf whole rest fs × AreOf whole fs
AreOf whole (Inside n body rest ∷ fs) = IsOf whole body (Inside n body rest ∷ fs) × IsOf whole rest fs × AreOf whole fs

pub record IsSpotOf (whole : Body) (p : ℕ) (m : SingleMessage) (new : Spot) : Type 0 where
  pub place : IsAmong (p, new) (spots [] whole)
  pub message : IsAmong (p, m) (singles whole)
  pub left : IsOf whole new.left new.frames
  pub frames : AreOf whole new.frames

branch_spots : (fs : List Frame) (b : Body) (bs : Bodies) (e : ℕ × Spot) → IsBranch b bs → IsAmong e (spots fs b) → IsAmong e (spots_of fs bs)
branch_spots fs b NoMore e i j = absurd i
branch_spots fs b (Or c cs) e (inl q) j = among_left e (spots fs c) (spots_of fs cs) (subst (λ x. IsAmong e (spots fs x)) q j)
branch_spots fs b (Or c cs) e (inr i) j = among_right e (spots fs c) (spots_of fs cs) (branch_spots fs b cs e i j)

branch_singles : (b : Body) (bs : Bodies) (e : ℕ × SingleMessage) → IsBranch b bs → IsAmong e (singles b) → IsAmong e (singles_of bs)
branch_singles b NoMore e i j = absurd i
branch_singles b (Or c cs) e (inl q) j = among_left e (singles c) (singles_of cs) (subst (λ x. IsAmong e (singles x)) q j)
branch_singles b (Or c cs) e (inr i) j = among_right e (singles c) (singles_of cs) (branch_singles b cs e i j)

around_of : (whole : Body) (name : List ℕ) (fs : List Frame) → AreOf whole fs → AreOf whole (enclosing name fs)
around_of whole name [] a = tt
around_of whole name (Behind rest ∷ fs) a = around_of whole name fs a.1
around_of whole name (Inside n body rest ∷ fs) a = go (bytes_eq n name) (around_of whole name fs a.2)
  where
    go : (t : Bool) → AreOf whole (enclosing name fs) → AreOf whole (cond t (Inside n body rest ∷ fs) (enclosing name fs))
    go true more = a
    go false more = more

pub leads_inside : {whole b : Body} {fs : List Frame} {p : ℕ} {m : SingleMessage} {new : Spot} → Goes b fs p m new → IsOf whole b fs → AreOf whole fs → IsSpotOf whole p m new
leads_inside to_message o a = record {
  place = o.places _ (inl refl);
  message = o.messages _ (inl refl);
  left = record { places = λ e i. o.places e (inr i); messages = λ e i. o.messages e (inr i) };
  frames = a;
}
leads_inside (to_branch {bs = bs} {rest = rest} {fs = fs} b i g) o a =
    leads_inside g
    (record { places = λ e j. o.places e (among_left e (spots_of (Behind rest ∷ fs) bs) (spots fs rest) (branch_spots (Behind rest ∷ fs) b bs e i j)); messages = λ e j. o.messages e (among_left e (singles_of bs) (singles rest) (branch_singles b bs e i j)) })
    (record { places = λ e j. o.places e (among_right e (spots_of (Behind rest ∷ fs) bs) (spots fs rest) j); messages = λ e j. o.messages e (among_right e (singles_of bs) (singles rest) j) }, a)
leads_inside {whole} (to_loop {name = name} {body = body} {rest = rest} {fs = fs} g) o a =
    let inner : IsOf whole body (Inside name body rest ∷ fs) = record { places = λ e j. o.places e (among_left e (spots (Inside name body rest ∷ fs) body) (spots fs rest) j); messages = λ e j. o.messages e (among_left e (singles body) (singles rest) j) } in
    leads_inside g inner
    (inner, record { places = λ e j. o.places e (among_right e (spots (Inside name body rest ∷ fs) body) (spots fs rest) j); messages = λ e j. o.messages e (among_right e (singles body) (singles rest) j) }, a)
leads_inside {whole} {fs} (to_again {name = name} n body after around e g) o a =
    let x : AreOf whole (Inside n body after ∷ around) = subst (AreOf whole) e (around_of whole name fs a) in leads_inside g x.0 x
leads_inside (past_choice g) o a = leads_inside g a.0 a.1
leads_inside (past_loop g) o a = leads_inside g a.1 a.2

-- The whole is at its start.
pub at_start : (whole : Body) → IsOf whole whole []
at_start whole = record { places = λ e i. i; messages = λ e i. i }

-- ---- numbers tell places apart

abbrev key : {A : Type 0} → ℕ × A → ℕ
key e = e.0

abbrev AreKeys : {A : Type 0} → ℕ → List (ℕ × A) → Type 0
AreKeys n [] = Unit {0}
AreKeys n (e ∷ es) = (e.0 ≡ n) × AreKeys (n + 1) es

keys_of : {A B : Type 0} (n : ℕ) (xs : List (ℕ × A)) (ys : List (ℕ × B)) → map key xs ≡ map key ys → AreKeys n xs → AreKeys n ys
keys_of n [] [] e k = tt
keys_of n (x ∷ xs) (y ∷ ys) e k = let h : x.0 ≡ y.0 = cc in let t : map key xs ≡ map key ys = cc in (sym h ∙ k.0, keys_of (n + 1) xs ys t k.1)
keys_of n [] (y ∷ ys) e k = absurd (cc)
keys_of n (x ∷ xs) [] e k = absurd (cc)

joined : {A B : Type 0} (ws xs : List (ℕ × A)) (ys zs : List (ℕ × B)) → map key ws ≡ map key ys → map key xs ≡ map key zs → map key (ws ++ xs) ≡ map key (ys ++ zs)
joined ws xs ys zs e f = map-append key ws xs ∙ ap (λ l. l ++ map key xs) e ∙ ap (λ l. map key ys ++ l) f ∙ sym (map-append key ys zs)

mutual
  same_keys : (fs : List Frame) (b : Body) → map key (singles b) ≡ map key (spots fs b)
  same_keys fs End = refl
  same_keys fs (Single label sorts s r p rest) = ap (λ l. p ∷ l) (same_keys fs rest)
  same_keys fs (Choose s bs rest) = joined (singles_of bs) (singles rest) (spots_of (Behind rest ∷ fs) bs) (spots fs rest) (same_keys_of (Behind rest ∷ fs) bs) (same_keys fs rest)
  same_keys fs (Loop name body rest) = joined (singles body) (singles rest) (spots (Inside name body rest ∷ fs) body) (spots fs rest) (same_keys (Inside name body rest ∷ fs) body) (same_keys fs rest)
  same_keys fs (Again name rest) = same_keys fs rest
  same_keys fs (Parallel bs rest) = joined (singles_of bs) (singles rest) (spots_of (Behind rest ∷ fs) bs) (spots fs rest) (same_keys_of (Behind rest ∷ fs) bs) (same_keys fs rest)
  same_keys fs (Call name roles rest) = same_keys fs rest

  same_keys_of : (fs : List Frame) (bs : Bodies) → map key (singles_of bs) ≡ map key (spots_of fs bs)
  same_keys_of fs NoMore = refl
  same_keys_of fs (Or b bs) = joined (singles b) (singles_of bs) (spots fs b) (spots_of fs bs) (same_keys fs b) (same_keys_of fs bs)

numbered_keys : (n : ℕ) (es : List (ℕ × SingleMessage)) → IsNumberedFrom n es → AreKeys n es
numbered_keys n [] k = tt
numbered_keys n (e ∷ es) k = (k.0, numbered_keys (n + 1) es k.1)

from_there : {A : Type 0} (n p : ℕ) (x : A) (es : List (ℕ × A)) → AreKeys n es → IsAmong (p, x) es → n ≤ p
from_there n p x [] k i = absurd i
from_there n p x (e ∷ es) k (inl h) = let q : p ≡ e.0 = ap key h in omega (arith, q ∙ k.0)
from_there n p x (e ∷ es) k (inr i) = let q = from_there (n + 1) p x es k.1 i in omega (arith, q)

later : (n p : ℕ) (e : ℕ) → e ≡ n → n + 1 ≤ p → (e == p) ≡ false
later n p e h l = ne_eqb e p (λ q. omega (arith, h, q, l))

found_spot : (n p : ℕ) (s : Spot) (es : List (ℕ × Spot)) → AreKeys n es → IsAmong (p, s) es → find_spot p es ≡ Some s
found_spot n p s [] k i = absurd i
found_spot n p s (e ∷ es) k (inl h) = ap (λ b. cond b (Some e.1) (find_spot p es)) (eq-eqb e.0 p (sym (ap key h))) ∙ ap (λ x. Some x.1) (sym h)
found_spot n p s (e ∷ es) k (inr i) = ap (λ b. cond b (Some e.1) (find_spot p es)) (later n p e.0 k.0 (from_there (n + 1) p s es k.1 i)) ∙ found_spot (n + 1) p s es k.1 i

found_message : (n p : ℕ) (m : SingleMessage) (es : List (ℕ × SingleMessage)) → AreKeys n es → IsAmong (p, m) es → single_at p es ≡ m
found_message n p m [] k i = absurd i
found_message n p m (e ∷ es) k (inl h) = ap (λ b. cond b e.1 (single_at p es)) (eq-eqb e.0 p (sym (ap key h))) ∙ ap (λ x. x.1) (sym h)
found_message n p m (e ∷ es) k (inr i) = ap (λ b. cond b e.1 (single_at p es)) (later n p e.0 k.0 (from_there (n + 1) p m es k.1 i)) ∙ found_message (n + 1) p m es k.1 i

-- A spot of the whole is that of its place, and its message is that of the point.
pub is_place : (whole : Body) (n p : ℕ) (m : SingleMessage) (new : Spot) → 1 ≤ n → IsNumberedFrom n (singles whole) → IsSpotOf whole p m new → spot_of whole p ≡ Some new
is_place whole n p m new first k s =
    let keys = numbered_keys n (singles whole) k in
    let after = keys_of n (singles whole) (spots [] whole) (same_keys [] whole) keys in
    let one = from_there n p new (spots [] whole) after s.place in
    ap (λ b. cond b (Some (spot whole [])) (find_spot p (spots [] whole))) (ne_eqb p 0 (λ e. omega (arith, e, one, first)))
    ∙ found_spot n p new (spots [] whole) after s.place

pub is_message : (n p : ℕ) (m : SingleMessage) (es : List (ℕ × SingleMessage)) → IsNumberedFrom n es → IsAmong (p, m) es → single_at p es ≡ m
is_message n p m es k i = found_message n p m es (numbered_keys n es k) i
