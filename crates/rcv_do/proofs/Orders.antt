-- From rows to the order of a module's calls.
use Rattle.std.proofs.Common.{◌≡◌, ℕ, zero, suc, ◌+◌, ◌<◌, ◌≤◌, Bool, true, false, cond, Some, List, [], ◌∷◌, ◌++◌, length, map, get_or, refl, sym, ap, subst, ◌∙◌, inl, inr, ⊎_elim, arith}
use Rattle.std.specs.Prelude.{slice_get, All}
use Rattle.std.specs.Str.{bytes_eq}
use Rattle.rcv_model.specs.Net.{IsIn}
use Rattle.rcv_module.specs.Parts.{Part, Site, first_from, place, calls, sites_from, sites}
use Rattle.rcv_module.specs.Refusing.{CallsOne, Reaches, itself, by_call, AreCallable}
use Rattle.rcv_module.proofs.Sites.{IsAmong, at_among, among_split, holder_is, never_back}
use Rattle.rcv_do.specs.declared.calls.Call.{Call}
use Rattle.rcv_do.specs.declared.set.Set.{Set}
use Rattle.rcv_do.specs.Code.{call_of, CallsBehind, IsCallOrder}
use Rattle.rcv_do.specs.Rows as rows
use Rattle.rcv_do.specs.Rows.{has, IsInside, Leads, Comes, AreRows, AreRowsOf, AreAcyclic, StandBehind, IsOrder}
use Rattle.rcv_do.proofs.Faulting.{site_of}

-- ---- places are among the protocols

pub first_inside : {A : Type 0} (holds : A → Bool) (i : ℕ) (xs : List A) (n : ℕ) → first_from holds i xs ≡ Some n → n < i + length xs
first_inside holds i [] n e = absurd (cc)
first_inside holds i (x ∷ xs) n e = go (holds x) e (λ f. first_inside holds (i + 1) xs n f)
  where
    go : (t : Bool) → cond t (Some i) (first_from holds (i + 1) xs) ≡ Some n → (first_from holds (i + 1) xs ≡ Some n → n < i + 1 + length xs) → n < i + suc (length xs)
    go true f k = let h : i ≡ n = cc in omega (arith, h)
    go false f k = let h = k f in omega (arith, h)

pub place_inside : (parts : List Part) (name : List ℕ) (j : ℕ) → place parts name ≡ Some j → j < length parts
place_inside parts name j e = let h = first_inside (λ p. bytes_eq p.name name) 0 parts j e in omega (arith, h)

holder_later : (i : ℕ) (ps : List Part) (s : Site) → IsAmong s (sites_from i ps) → s.holder < i + length ps
holder_later i [] s a = absurd a
holder_later i (p ∷ ps) s a = ⊎_elim (λ x. let h = holder_is i p.body s x in omega (arith, h)) (λ y. let h = holder_later (i + 1) ps s y in omega (arith, h)) (among_split s (calls i p.body) (sites_from (i + 1) ps) a)

site_inside : (parts : List Part) (s : Site) → IsAmong s (sites parts) → IsInside (length parts) (call_of parts s)
site_inside parts s a = record { holder = let h = holder_later 0 parts s a in omega (arith, h); target = λ j e. place_inside parts s.name j e }

-- So are those of all calls.
pub all_inside : (parts : List Part) (calls : List Call) (count : ℕ) → length parts ≡ count → calls ≡ map (call_of parts) (sites parts) → All (IsInside count) calls
all_inside parts calls count long e = subst (All (IsInside count)) (sym e) (subst (λ n. All (IsInside n) (map (call_of parts) (sites parts))) long (go (sites parts) (λ s a. site_inside parts s a)))
  where
    go : (ss : List Site) → ((s : Site) → IsAmong s ss → IsInside (length parts) (call_of parts s)) → (k : ℕ) (d : Call) → k < length (map (call_of parts) ss) → IsInside (length parts) (get_or (map (call_of parts) ss) k d)
    go [] f k d lt = absurd (omega (arith, lt))
    go (s ∷ ss) f zero d lt = f s (inl refl)
    go (s ∷ ss) f (suc k) d lt = go ss (λ t a. f t (inr a)) k d (omega (arith, lt))

-- ---- what comes is what reaches

calls_of_leads : (parts : List Part) (calls : List Call) (i j : ℕ) → calls ≡ map (call_of parts) (sites parts) → Leads calls i j → CallsOne parts i j
calls_of_leads parts calls i j e l =
    let s = site_of parts calls l.number l.call e l.is in
    record { number = l.number; call = s.0; is = s.1; holds = sym (ap (λ (c : Call). c.holder) s.2) ∙ l.holds; calls = sym (ap (λ (c : Call). c.target) s.2) ∙ l.calls_it }

map_at : {A B : Type 0} (f : A → B) (xs : List A) (n : ℕ) (x : A) → slice_get xs n ≡ Some x → slice_get (map f xs) n ≡ Some (f x)
map_at f [] n x e = absurd (cc)
map_at f (y ∷ xs) zero x e = let h : y ≡ x = cc in ap (λ z. Some (f z)) h
map_at f (y ∷ xs) (suc n) x e = map_at f xs n x e

leads_of_calls : (parts : List Part) (calls : List Call) (i j : ℕ) → calls ≡ map (call_of parts) (sites parts) → CallsOne parts i j → Leads calls i j
leads_of_calls parts calls i j e c = record {
  number = c.number;
  call = call_of parts c.call;
  is = ap (λ l. slice_get l c.number) e ∙ map_at (call_of parts) (sites parts) c.number c.call c.is;
  holds = c.holds;
  calls_it = c.calls;
}

comes_reaches : (parts : List Part) (calls : List Call) (i j : ℕ) → calls ≡ map (call_of parts) (sites parts) → Comes calls i j → Reaches parts i j
comes_reaches parts calls i j e (rows.itself n) = itself n
comes_reaches parts calls i j e (rows.by_call n m k l x) = by_call n m k (calls_of_leads parts calls n m e l) (comes_reaches parts calls m k e x)

reaches_comes : (parts : List Part) (calls : List Call) (i j : ℕ) → calls ≡ map (call_of parts) (sites parts) → Reaches parts i j → Comes calls i j
reaches_comes parts calls i j e (itself n) = rows.itself n
reaches_comes parts calls i j e (by_call n m k c x) = rows.by_call n m k (leads_of_calls parts calls n m e c) (reaches_comes parts calls m k e x)

pub rows_of : (parts : List Part) (calls : List Call) (count : ℕ) (rs : List Set) → count ≡ length parts → calls ≡ map (call_of parts) (sites parts) → AreRows calls count rs → AreRowsOf parts rs
rows_of parts calls count rs long e a = record {
  long = a.long ∙ long;
  inside = λ i j lt lj h. let x = a.inside i j (omega (arith, lt, long)) lj h in omega (arith, x, long);
  reached = λ i j lt lj. ((λ h. comes_reaches parts calls i j e (a.sound i j (omega (arith, lt, long)) (omega (arith, lj, long)) h)), (λ r. a.complete i j (omega (arith, lt, long)) (reaches_comes parts calls i j e r)));
}

-- ---- no two come to each other

reaches_on : (parts : List Part) (i j k : ℕ) → Reaches parts i j → Reaches parts j k → Reaches parts i k
reaches_on parts i j k (itself n) y = y
reaches_on parts i j k (by_call n m o c x) y = by_call n m k c (reaches_on parts m o k x y)

once_reached : (parts : List Part) (i j : ℕ) → AreCallable parts → Reaches parts i j → Reaches parts j i → i ≡ j
once_reached parts i j callable (itself n) y = refl
once_reached parts i j callable (by_call n m k c x) y = absurd (never_back parts n m callable c (reaches_on parts m k n x y))

pub acyclic_of : (parts : List Part) (rs : List Set) → length parts ≤ 64 → AreCallable parts → AreRowsOf parts rs → AreAcyclic rs
acyclic_of parts rs few callable a = record {
  inside = λ i j lt lj h. let x = a.inside i j (of lt) lj h in back x;
  own = λ i lt. (a.reached i i (of lt) (of lt)).1 (itself i);
  joined = λ i j k li lj lk h g. (a.reached i k (of li) (of lk)).1 (reaches_on parts i j k ((a.reached i j (of li) (of lj)).0 h) ((a.reached j k (of lj) (of lk)).0 g));
  once = λ i j li lj h g. once_reached parts i j callable ((a.reached i j (of li) (of lj)).0 h) ((a.reached j i (of lj) (of li)).0 g);
}
  where
    of : {i : ℕ} → i < length rs → i < length parts
    of {i} lt = subst (λ n. i < n) a.long lt

    back : {i : ℕ} → i < length parts → i < length rs
    back {i} lt = subst (λ n. i < n) (sym a.long) lt

-- ---- the order

called_inside : (parts : List Part) (i j : ℕ) → CallsOne parts i j → (i < length parts) × (j < length parts)
called_inside parts i j c =
    let x = site_inside parts c.call (at_among c.call (sites parts) c.number c.is) in
    (subst (λ n. n < length parts) c.holds x.holder, x.target j c.calls)

never_itself : (parts : List Part) (i j : ℕ) → AreCallable parts → CallsOne parts i j → j ≡ i → ⊥
never_itself parts i j callable c e = never_back parts i j callable c (subst (λ k. Reaches parts j k) e (itself j))

calls_behind : (parts : List Part) (rs : List Set) (done order : List ℕ) → AreCallable parts → AreRowsOf parts rs → StandBehind rs done order → CallsBehind parts done order
calls_behind parts rs done [] callable a b = tt
calls_behind parts rs done (i ∷ is) callable a b = (
  (λ j c.
      let x = called_inside parts i j c in
      b.0 j (subst (λ n. j < n) (sym a.long) x.1) ((a.reached i j x.0 x.1).1 (by_call i j j c (itself j))) (never_itself parts i j callable c)),
  calls_behind parts rs (done ++ i ∷ []) is callable a b.1,
)

is_in : (xs : List ℕ) (k d : ℕ) → k < length xs → IsIn (get_or xs k d) xs
is_in [] k d lt = absurd (omega (arith, lt))
is_in (x ∷ xs) zero d lt = inl refl
is_in (x ∷ xs) (suc k) d lt = inr (is_in xs k d (omega (arith, lt)))

pub call_order : (parts : List Part) (rs : List Set) (order : List ℕ) → AreCallable parts → AreRowsOf parts rs → IsOrder rs order → IsCallOrder parts order
call_order parts rs order callable a o = record {
  callable = callable;
  inside = λ k d lt. subst (λ n. get_or order k d < n) a.long (o.inside (get_or order k d) (is_in order k d lt));
  behind = calls_behind parts rs [] order callable a o.behind;
  main = λ j c.
      let x = called_inside parts 0 j c in
      o.all j (subst (λ n. j < n) (sym a.long) x.1) ((a.reached 0 j x.0 x.1).1 (by_call 0 j j c (itself j))) (never_itself parts 0 j callable c);
}
