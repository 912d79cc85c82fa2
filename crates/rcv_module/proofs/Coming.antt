-- The origins of an expansion, point by point.
use Rattle.std.proofs.Common.{◌≡◌, ℕ, zero, suc, ◌+◌, Some, List, [], ◌∷◌, ◌++◌, length, refl, sym, ap, subst, ◌∙◌, inl, inr, append-nil, append_assoc, length-append, arith}
use Rattle.std.specs.Prelude.{slice_get}
use Rattle.rcv_model.specs.Text.{Body, Bodies}
use Rattle.rcv_model.specs.Places.{SingleMessage, singles, singles_of}
use Rattle.rcv_module.specs.declared.origin.Called.{Called}
use Rattle.rcv_module.specs.declared.origin.Origin.{Origin}
use Rattle.rcv_module.specs.Expansion as expansion
use Rattle.rcv_module.specs.Expansion.{Stands, called_with, Expands, AllExpand}
use Rattle.rcv_module.specs.Laws.{IsChain, IsOriginOf, OriginsAreOfPoints}
use Rattle.rcv_module.specs.Origins as origins
use Rattle.rcv_module.specs.Origins.{Come, AllCome, IsFrom, called, calls_before}
use Rattle.rcv_module.specs.Parts.{Part, Site, place, site, calls, calls_of, sites_from, sites}
use Rattle.rcv_module.proofs.Sites.{IsAmong, among_left, among_right, among_at, calls_long}
use Rattle.rcv_module.proofs.Walking.{named_once}

abbrev Made : Type 0
Made = List (ℕ × SingleMessage)

-- ---- places in lists

get_left : {A : Type 0} (xs ys : List A) (k : ℕ) (x : A) → slice_get xs k ≡ Some x → slice_get (xs ++ ys) k ≡ Some x
get_left [] ys k x e = absurd (cc)
get_left (y ∷ xs) ys zero x e = e
get_left (y ∷ xs) ys (suc k) x e = get_left xs ys k x e

get_right : {A : Type 0} (xs ys : List A) (k : ℕ) (x : A) → slice_get ys k ≡ Some x → slice_get (xs ++ ys) (length xs + k) ≡ Some x
get_right [] ys k x e = subst (λ i. slice_get ys i ≡ Some x) (let h : k ≡ 0 + k = omega arith in h) e
get_right (y ∷ xs) ys k x e =
    let at : suc (length xs + k) ≡ suc (length xs) + k = omega arith in
    subst (λ i. slice_get (y ∷ xs ++ ys) i ≡ Some x) at (get_right xs ys k x e)

sites_later : (i : ℕ) (ps : List Part) (h : ℕ) (p : Part) (k : ℕ) (s : Site) → slice_get ps h ≡ Some p → slice_get (calls (i + h) p.body) k ≡ Some s
    → slice_get (sites_from i ps) (calls_before ps h + k) ≡ Some s
sites_later i [] h p k s e f = absurd (cc)
sites_later i (q ∷ ps) zero p k s e f =
    let same : q ≡ p = cc in
    let at : i + 0 ≡ i = omega arith in
    let here : slice_get (calls i q.body) k ≡ Some s = subst (λ n. slice_get (calls n q.body) k ≡ Some s) at (subst (λ (x : Part). slice_get (calls (i + 0) x.body) k ≡ Some s) (sym same) f) in
    let none : k ≡ 0 + k = omega arith in
    subst (λ n. slice_get (calls i q.body ++ sites_from (i + 1) ps) n ≡ Some s) none (get_left (calls i q.body) (sites_from (i + 1) ps) k s here)
sites_later i (q ∷ ps) (suc h) p k s e f =
    let at : i + suc h ≡ i + 1 + h = omega arith in
    let more = sites_later (i + 1) ps h p k s e (subst (λ n. slice_get (calls n p.body) k ≡ Some s) at f) in
    let long = calls_long i q.body in
    let sum : length (calls i q.body) + (calls_before ps h + k) ≡ length (calls 0 q.body) + calls_before ps h + k = omega (arith, long) in
    subst (λ n. slice_get (calls i q.body ++ sites_from (i + 1) ps) n ≡ Some s) sum (get_right (calls i q.body) (sites_from (i + 1) ps) (calls_before ps h + k) s more)

-- ---- chains

chain_more : (parts : List Part) (h i n j : ℕ) (cs : List Called) (s : Site) → IsChain parts h cs i → slice_get (sites parts) n ≡ Some s → s.holder ≡ i → place parts s.name ≡ Some j
    → IsChain parts h (cs ++ called n j ∷ []) j
chain_more parts h i n j [] s c is holds named = ((s, is, holds ∙ c, named), refl)
chain_more parts h i n j (d ∷ cs) s c is holds named = (c.0, chain_more parts d.protocol i n j cs s c.1 is holds named)

-- ---- where a text stands

-- These messages and calls are of the protocol at a place, to which these calls lead; the calls have numbers from one on.
record InText (parts : List Part) (i : ℕ) (through : List Called) (n : ℕ) (ms : Made) (cs : List Site) : Type 0 where
  part : Part
  at : slice_get parts i ≡ Some part
  chain : IsChain parts 0 through i
  own : (x : ℕ × SingleMessage) → IsAmong x ms → IsAmong x (singles part.body)
  numbered : (k : ℕ) (s : Site) → slice_get cs k ≡ Some s → slice_get (sites parts) (n + k) ≡ Some s

in_left : {parts : List Part} {i n : ℕ} {through : List Called} (xs ys : Made) (cs ds : List Site) → InText parts i through n (xs ++ ys) (cs ++ ds) → InText parts i through n xs cs
in_left xs ys cs ds t = record { part = t.part; at = t.at; chain = t.chain; own = λ x a. t.own x (among_left x xs ys a); numbered = λ k s e. t.numbered k s (get_left cs ds k s e) }

in_right : {parts : List Part} {i n : ℕ} {through : List Called} (m : ℕ) (xs ys : Made) (cs ds : List Site) → m ≡ n + length cs → InText parts i through n (xs ++ ys) (cs ++ ds) → InText parts i through m ys ds
in_right {parts} {n = n} m xs ys cs ds passed t = record {
  part = t.part;
  at = t.at;
  chain = t.chain;
  own = λ x a. t.own x (among_right x xs ys a);
  numbered = λ k s e.
      let at : n + (length cs + k) ≡ m + k = omega (arith, passed) in
      subst (λ j. slice_get (sites parts) j ≡ Some s) at (t.numbered (length cs + k) s (get_right cs ds k s e));
}

-- ---- origins beside messages

abbrev Paired : List Part → List Origin → Made → Type 0
Paired parts [] [] = Unit {0}
Paired parts (o ∷ os) (m ∷ ms) = IsOriginOf parts o m.1 × Paired parts os ms
Paired parts _ _ = ⊥

paired_more : (parts : List Part) (os ps : List Origin) (xs ys : Made) → Paired parts os xs → Paired parts ps ys → Paired parts (os ++ ps) (xs ++ ys)
paired_more parts [] ps [] ys a b = b
paired_more parts (o ∷ os) ps (x ∷ xs) ys a b = (a.0, paired_more parts os ps xs ys a.1 b)
paired_more parts _ ps _ ys a b = absurd a

-- These origins are of the messages in front of others; and so many calls are passed.
record Pairs (parts : List Part) (n m : ℕ) (cs : List Site) (os : List Origin) (whole next : Made) : Type 0 where
  made : Made
  is : whole ≡ made ++ next
  pairs : Paired parts os made
  passed : m ≡ n + length cs

combined : {parts : List Part} {n k m : ℕ} {cs ds : List Site} {os ps : List Origin} {xs ys next : Made} → Pairs parts n k cs os xs [] → Pairs parts k m ds ps ys next → Pairs parts n m (cs ++ ds) (os ++ ps) (xs ++ ys) next
combined {parts} {n} {k} {m} {cs} {ds} {os} {ps} {xs} {ys} {next} a b = record {
  made = a.made ++ b.made;
  is = ap (λ l. l ++ ys) (a.is ∙ append-nil a.made) ∙ ap (λ l. a.made ++ l) b.is ∙ sym (append_assoc a.made b.made next);
  pairs = paired_more parts os ps a.made b.made a.pairs b.pairs;
  passed = let x = a.passed in let y = b.passed in let long = length-append cs ds in omega (arith, x, y, long);
}

entered : {parts : List Part} {f g n m : ℕ} {cs ds : List Site} {os ps : List Origin} {whole behind next : Made} (s : Site) → Pairs parts f g cs os whole behind → Pairs parts (n + 1) m ds ps behind next
    → Pairs parts n m (s ∷ ds) (os ++ ps) whole next
entered {parts} {f} {g} {n} {m} {cs} {ds} {os} {ps} {whole} {behind} {next} s a b = record {
  made = a.made ++ b.made;
  is = a.is ∙ ap (λ l. a.made ++ l) b.is ∙ sym (append_assoc a.made b.made next);
  pairs = paired_more parts os ps a.made b.made a.pairs b.pairs;
  passed = let y = b.passed in omega (arith, y);
}

-- the origin of one message
origin_of : (parts : List Part) (i n p : ℕ) (through : List Called) (o : Origin) (own m : SingleMessage) (ms : Made) (cs : List Site) → InText parts i through n ((p, own) ∷ ms) cs → IsFrom i p through o
    → own.label ≡ m.label → own.sorts ≡ m.sorts → IsOriginOf parts o m
origin_of parts i n p through o own m ms cs t from label sorts =
    let a = among_at (p, own) (singles t.part.body) (t.own (p, own) (inl refl)) in
    record {
      part = t.part;
      is = subst (λ h. slice_get parts h ≡ Some t.part) (sym from.holds) t.at;
      number = a.0;
      own = own;
      has = subst (λ q. slice_get (singles t.part.body) a.0 ≡ Some (q, own)) (sym from.points) a.1;
      label = label;
      sorts = sorts;
      chain = subst (λ l. IsChain parts 0 l o.protocol) (sym from.came) (subst (IsChain parts 0 through) (sym from.holds) t.chain);
    }

mutual
  paired : {parts : List Part} {st : Stands} {b next w : Body} {i n m : ℕ} {through : List Called} {os : List Origin} → Expands parts st b next w → Come parts i through n b os m
      → InText parts i through n (singles b) (calls i b) → Pairs parts n m (calls i b) os (singles w) (singles next)
  paired {n = n} expansion.at_end origins.at_end t = record { made = []; is = refl; pairs = tt; passed = omega arith }
  paired {parts} {st} {i = i} {n = n} {through = through} (expansion.message {label = label} {sorts = sorts} {s = s} {r = r} {p = p} q e) (origins.message {rest = rest} o from c) t =
      let x = paired e c (record { part = t.part; at = t.at; chain = t.chain; own = λ y a. t.own y (inr a); numbered = t.numbered }) in
      let own : SingleMessage = record { label = label; sorts = sorts; sender = s; receiver = r } in
      let new : SingleMessage = record { label = label; sorts = sorts; sender = st s; receiver = st r } in
      record {
        made = (q, new) ∷ x.made;
        is = ap (λ l. (q, new) ∷ l) x.is;
        pairs = (origin_of parts i n p through o own new (singles rest) (calls i rest) t from refl refl, x.pairs);
        passed = x.passed;
      }
  paired {i = i} (expansion.choice es e) (origins.choice {m = m} {bs = bs} {rest = rest} a c) t =
      let x = all_paired es a (in_left (singles_of bs) (singles rest) (calls_of i bs) (calls i rest) t) in
      combined x (paired e c (in_right m (singles_of bs) (singles rest) (calls_of i bs) (calls i rest) x.passed t))
  paired {i = i} (expansion.loop f e) (origins.loop {m = m} {body = body} {rest = rest} a c) t =
      let x = paired f a (in_left (singles body) (singles rest) (calls i body) (calls i rest) t) in
      combined x (paired e c (in_right m (singles body) (singles rest) (calls i body) (calls i rest) x.passed t))
  paired (expansion.again e) (origins.again c) t = paired e c t
  paired {i = i} (expansion.beside es e) (origins.beside {m = m} {bs = bs} {rest = rest} a c) t =
      let x = all_paired es a (in_left (singles_of bs) (singles rest) (calls_of i bs) (calls i rest) t) in
      combined x (paired e c (in_right m (singles_of bs) (singles rest) (calls_of i bs) (calls i rest) x.passed t))
  paired {parts} {st} {i = i} {n = n} {through = through} (expansion.call {behind = behind} {whole = whole} {name = name} {roles = roles} q is e f) (origins.call {rest = rest} j p named at a c) t =
      let e' : Expands parts (called_with st roles) p.body behind whole = subst (λ (x : Part). Expands parts (called_with st roles) x.body behind whole) (named_once parts name q p is (j, named, at)) e in
      let none : n + 0 ≡ n = omega arith in
      let here : slice_get (sites parts) n ≡ Some (site i name roles) = subst (λ k. slice_get (sites parts) k ≡ Some (site i name roles)) none (t.numbered 0 (site i name roles) refl) in
      let first : 0 + j ≡ j = omega arith in
      let x = paired e' a (record {
        part = p;
        at = at;
        chain = chain_more parts 0 i n j through (site i name roles) t.chain here refl named;
        own = λ y k. k;
        numbered = λ k s g. sites_later 0 parts j p k s at (subst (λ h. slice_get (calls h p.body) k ≡ Some s) (sym first) g);
      }) in
      let y = paired f c (record {
        part = t.part;
        at = t.at;
        chain = t.chain;
        own = t.own;
        numbered = λ k s g. let next : n + suc k ≡ n + 1 + k = omega arith in subst (λ h. slice_get (sites parts) h ≡ Some s) next (t.numbered (suc k) s g);
      }) in
      entered (site i name roles) x y

  all_paired : {parts : List Part} {st : Stands} {bs ws : Bodies} {i n m : ℕ} {through : List Called} {os : List Origin} → AllExpand parts st bs ws → AllCome parts i through n bs os m
      → InText parts i through n (singles_of bs) (calls_of i bs) → Pairs parts n m (calls_of i bs) os (singles_of ws) []
  all_paired {n = n} expansion.no_more origins.no_more t = record { made = []; is = refl; pairs = tt; passed = omega arith }
  all_paired {i = i} (expansion.one_more e es) (origins.one_more {m = m} {b = b} {bs = bs} c a) t =
      let x = paired e c (in_left (singles b) (singles_of bs) (calls i b) (calls_of i bs) t) in
      combined x (all_paired es a (in_right m (singles b) (singles_of bs) (calls i b) (calls_of i bs) x.passed t))

-- ---- the law

as_many : (parts : List Part) (os : List Origin) (ms : Made) → Paired parts os ms → length os ≡ length ms
as_many parts [] [] p = refl
as_many parts (o ∷ os) (m ∷ ms) p = ap suc (as_many parts os ms p.1)
as_many parts _ _ p = absurd p

pair_at : (parts : List Part) (os : List Origin) (ms : Made) (k : ℕ) (o : Origin) (m : ℕ × SingleMessage) → Paired parts os ms → slice_get os k ≡ Some o → slice_get ms k ≡ Some m → IsOriginOf parts o m.1
pair_at parts [] [] k o m p e f = absurd (cc)
pair_at parts (x ∷ os) (y ∷ ms) zero o m p e f =
    let first : x ≡ o = cc in
    let second : y ≡ m = cc in
    subst (λ z. IsOriginOf parts z m.1) first (subst (λ (z : ℕ × SingleMessage). IsOriginOf parts x z.1) second p.0)
pair_at parts (x ∷ os) (y ∷ ms) (suc k) o m p e f = pair_at parts os ms k o m p.1 e f
pair_at parts _ _ k o m p e f = absurd p

pub origins_are_of_points : OriginsAreOfPoints
origins_are_of_points parts body os x y =
    let some : Some y.main ≡ Some x.main = sym y.first ∙ x.first in
    let one : y.main ≡ x.main = cc in
    let come : Come parts 0 [] 0 x.main.body os y.calls = subst (λ (p : Part). Come parts 0 [] 0 p.body os y.calls) one y.come in
    let a = paired x.expands come (record {
      part = x.main;
      at = x.first;
      chain = refl;
      own = λ z k. k;
      numbered = λ k s g. at_first parts x.main k s x.first g;
    }) in
    let all : singles body ≡ a.made = a.is ∙ append-nil a.made in
    let pairs : Paired parts os (singles body) = subst (Paired parts os) (sym all) a.pairs in
    (as_many parts os (singles body) pairs, λ k o m. pair_at parts os (singles body) k o m pairs)
  where
    at_first : (ps : List Part) (p : Part) (k : ℕ) (s : Site) → slice_get ps 0 ≡ Some p → slice_get (calls 0 p.body) k ≡ Some s → slice_get (sites ps) (0 + k) ≡ Some s
    at_first [] p k s e g = absurd (cc)
    at_first (q ∷ ps) p k s e g = sites_later 0 (q ∷ ps) 0 p k s e g
