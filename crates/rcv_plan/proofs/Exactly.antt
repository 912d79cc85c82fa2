-- What the loop over items keeps, and what follows from it at the end and where it stops.
use Rattle.std.proofs.Common.{◌≡◌, ℕ, true, false, List, [], ◌∷◌, ◌++◌, ◌<◌, length, arith, refl, sym, ap, subst, ◌∙◌, append_assoc, append-nil}
use Rattle.std.specs.Prelude.{codes, map, Err}
use Rattle.std.proofs.lemmas.List.{map-append}
use Rattle.rcv_model.specs.Plan.{PlanLine}
use Rattle.rcv_lexer.proofs.Refusing.{backward_append}
use Rattle.rcv_plan.specs.declared.sign.Sign.{Sign}
use Rattle.rcv_plan.specs.declared.sign.Sign.TheVariants.{Equals, Comma}
use Rattle.rcv_plan.specs.Symbols.{Symbol, Word, Is}
use Rattle.rcv_plan.specs.declared.fault.Fault.{Fault}
use Rattle.rcv_plan.specs.declared.fault.Fault.TheVariants.{Token, Role, Twice, Range}
use Rattle.rcv_plan.specs.declared.fault.PlanError.{PlanError}
use Rattle.rcv_plan.specs.declared.fault.PlanError.TheVariants as causes
use Rattle.rcv_plan.proofs.Shifting.{read_fits, read_counts}
use Rattle.std.specs.List.{All}
use Rattle.rcv_plan.specs.Lines.{IsReadPlan, HasReadCount, AreOnce, IsPlanned}
use Rattle.rcv_plan.specs.Grammar.{Written, WrittenEvery, WrittenCrash, WrittenLimit, WrittenRoom, WrittenHost, more_roles, item_text, plan_text, IsDerived, IsBeginning, said}
use Rattle.rcv_plan.specs.Codes.{is_between}
use Rattle.rcv_plan.specs.Refusing.{code_of, backward, HoldsAt, IsFree, IsFirst, IsRead, Ends}
use Rattle.rcv_plan.specs.Items.{KnownView, Step, Takes, Stops, Goes, next_item}
use Rattle.rcv_plan.proofs.Fresh.{Fresh, fresh}
use Rattle.rcv_plan.proofs.Telling.{has, NoneAt, AllFree, Speaks, Knows, Tells, TakesItem, StopsAt, Completes, Allowed, free_append}
use Rattle.rcv_plan.proofs.Items.{item_tells}
use Rattle.rcv_plan.proofs.Crashes.{none_once, once_more}

-- ---- what the grammar derives it has, symbol by symbol

abbrev pub AllHad : List Symbol → List Symbol → Type 0
AllHad back [] = Unit {0}
AllHad back (t ∷ ts) = (has back t ≡ true) × AllHad (t ∷ back) ts

had_append : (back xs ys : List Symbol) → AllHad back xs → AllHad (backward xs back) ys → AllHad back (xs ++ ys)
had_append back [] ys a b = b
had_append back (x ∷ xs) ys a b = (a.0, had_append (x ∷ back) xs ys a.1 b)

had_there : (back front ts : List Symbol) (t : Symbol) → AllHad back (front ++ t ∷ ts) → has (backward front back) t ≡ true
had_there back [] ts t a = a.0
had_there back (x ∷ front) ts t a = had_there (x ∷ back) front ts t a.1

more_had : (qs : List (List ℕ)) (q : List ℕ) (b : List Symbol)
    → AllHad (Word q ∷ Is Comma ∷ b) (more_roles qs) × (is_between (backward (more_roles qs) (Word q ∷ Is Comma ∷ b)) ≡ true)
more_had [] q b = (tt, refl)
more_had (r ∷ qs) q b = let others = more_had qs r (Word q ∷ Is Comma ∷ b) in ((refl, (refl, others.0)), others.1)

item_had : (w : Written) (back : List Symbol) → Fresh back → AllHad back (item_text w) × (is_between (backward (item_text w) back) ≡ true)
item_had (WrittenEvery r n) back f = ((rw (f.behind (codes "every"), f.behind (codes "crash"), f.behind (codes "host"), f.in_list, f.between) refl, (rw f.between refl, (rw f.between refl, tt))), refl)
item_had (WrittenCrash r n) back f = ((rw (f.behind (codes "every"), f.behind (codes "crash"), f.behind (codes "host"), f.in_list, f.between) refl, (rw f.between refl, (rw f.between refl, tt))), refl)
item_had (WrittenLimit n) back f = ((rw (f.behind (codes "every"), f.behind (codes "crash"), f.behind (codes "host"), f.in_list, f.between) refl, (rw (f.behind (codes "every"), f.behind (codes "crash"), f.between) refl, tt)), refl)
item_had (WrittenRoom n) back f = ((rw (f.behind (codes "every"), f.behind (codes "crash"), f.behind (codes "host"), f.in_list, f.between) refl, (rw (f.behind (codes "every"), f.behind (codes "crash"), f.between) refl, tt)), refl)
item_had (WrittenHost h a b qs) back f =
    let others = more_had qs b (Word a ∷ Is Equals ∷ Word h ∷ Word (codes "host") ∷ back) in
    ((rw (f.behind (codes "every"), f.behind (codes "crash"), f.behind (codes "host"), f.in_list, f.between) refl, (rw f.between refl, (rw f.between refl, (refl, (refl, (refl, others.0)))))), others.1)

plan_had : (ws : List Written) (back : List Symbol) → is_between back ≡ true → AllHad back (plan_text ws) × (is_between (backward (plan_text ws) back) ≡ true)
plan_had [] back e = (tt, e)
plan_had (w ∷ ws) back e =
    let first = item_had w back (fresh back e) in
    let others = plan_had ws (backward (item_text w) back) first.1 in
    (had_append back (item_text w) (plan_text ws) first.0 others.0, subst (λ (z : List Symbol). is_between z ≡ true) (sym (backward_append (item_text w) (plan_text ws) back)) others.1)

pub begun_has : (front : List Symbol) (t : Symbol) → IsBeginning (front ++ t ∷ []) → has (backward front []) t ≡ true
begun_has front t b =
    let cut : front ++ t ∷ b.0 ≡ plan_text b.1.0 = sym (append_assoc front (t ∷ []) b.0) ∙ b.1.1 in
    had_there [] front b.0 t (subst (λ (z : List Symbol). AllHad [] z) (sym cut) (plan_had b.1.0 [] refl).0)

pub derived_is_over : (front : List Symbol) → IsDerived front → is_between (backward front []) ≡ true
derived_is_over front d = subst (λ (z : List Symbol). is_between (backward z []) ≡ true) (sym d.1) (plan_had d.0 [] refl).1

-- ---- beginnings

begins_shorter : (xs ys : List Symbol) → IsBeginning (xs ++ ys) → IsBeginning xs
begins_shorter xs ys b = (ys ++ b.0, subst (λ (z : List Symbol). IsDerived z) (append_assoc xs ys b.0) b.1)

derived_begins : (xs : List Symbol) → IsDerived xs → IsBeginning xs
derived_begins xs d = ([], subst (λ (z : List Symbol). IsDerived z) (sym (append-nil xs)) d)

begins_one : (xs : List Symbol) (t : Symbol) (ys : List Symbol) → IsBeginning (xs ++ t ∷ ys) → IsBeginning (xs ++ t ∷ [])
begins_one xs t ys b = begins_shorter (xs ++ t ∷ []) ys (subst (λ (z : List Symbol). IsBeginning z) (sym (append_assoc xs (t ∷ []) ys)) b)

plan_one_more : (ws : List Written) (w : Written) → plan_text (ws ++ w ∷ []) ≡ plan_text ws ++ item_text w
plan_one_more [] w = append-nil (item_text w)
plan_one_more (x ∷ ws) w = ap (λ (z : List Symbol). item_text x ++ z) (plan_one_more ws w) ∙ sym (append_assoc (item_text x) (plan_text ws) (item_text w))

begins_with : (ws : List Written) (front : List Symbol) → Completes front → IsBeginning (plan_text ws ++ front)
begins_with ws front c = (c.1, (ws ++ c.0 ∷ [], append_assoc (plan_text ws) front c.1 ∙ ap (λ (z : List Symbol). plan_text ws ++ z) c.2 ∙ sym (plan_one_more ws c.0)))

-- ---- no code

free_there : (roles : List (List ℕ)) (back xs left front others : List Symbol) (t : Symbol) → xs ≡ front ++ t ∷ others → AllFree roles back xs left → NoneAt roles (backward front back) t (others ++ left)
free_there roles back [] left [] others t e a = absurd cc
free_there roles back [] left (y ∷ front) others t e a = absurd cc
free_there roles back (x ∷ xs) left [] others t e a =
    let same : x ≡ t = cc in
    let rest : xs ≡ others = cc in
    subst (λ (y : Symbol). NoneAt roles back y (others ++ left)) same (subst (λ (z : List Symbol). NoneAt roles back x (z ++ left)) rest a.0)
free_there roles back (x ∷ xs) left (y ∷ front) others t e a =
    let same : x ≡ y = cc in
    let rest : xs ≡ front ++ t ∷ others = cc in
    free_there roles (y ∷ back) xs left front others t rest (subst (λ (z : Symbol). AllFree roles (z ∷ back) xs left) same a.1)

none_holds : (roles : List (List ℕ)) (front : List Symbol) (t : Symbol) (ts : List Symbol) → IsBeginning (front ++ t ∷ []) → NoneAt roles (backward front []) t ts → (f : Fault) → HoldsAt roles f front (t ∷ ts) → ⊥
none_holds roles front t ts b none Token h = h.1 b
none_holds roles front t ts b none Role h = let n = none.known in cc
none_holds roles front t ts b none Twice h = let n = none.single in cc
none_holds roles front t ts b none Range h = let n = none.ranged in cc

pub free_of : (roles : List (List ℕ)) (symbols : List Symbol) → IsDerived symbols → AllFree roles [] symbols [] → IsFree roles symbols
free_of roles symbols d a Token front [] e h = h.1 (subst (λ (z : List Symbol). IsDerived z) (e ∙ append-nil front) d)
free_of roles symbols d a Role front [] e h = h
free_of roles symbols d a Twice front [] e h = h
free_of roles symbols d a Range front [] e h = h
free_of roles symbols d a f front (t ∷ ts) e h =
    none_holds roles front t ts (begins_one front t ts (subst (λ (z : List Symbol). IsBeginning z) e (derived_begins symbols d)))
    (subst (λ (z : List Symbol). NoneAt roles (backward front []) t z) (append-nil ts) (free_there roles [] symbols [] front ts t e a)) f h

-- ---- the loop

-- These items were read, no code holds in them, and this is known.
pub record SoFar (roles : List (List ℕ)) (symbols left : List Symbol) (k : KnownView) : Type 0 where
  pub items : List Written
  pub cut : symbols ≡ plan_text items ++ left
  pub free : AllFree roles [] (plan_text items) left
  pub over : is_between (backward (plan_text items) []) ≡ true
  pub settled : (m : Sign) (us : List Symbol) → left ≡ Is m ∷ us → has (backward (plan_text items) []) (Is m) ≡ false
  pub knows : Knows roles (backward (plan_text items) []) k
  pub said_by : k.lines ≡ map (said roles) items
  pub once : AreOnce k.lines

pub begin : (roles : List (List ℕ)) (symbols : List Symbol) (k : KnownView) → k.lines ≡ [] → k.names ≡ [] → SoFar roles symbols symbols k
begin roles symbols k e n = record {
  items = [];
  cut = refl;
  free = tt;
  over = refl;
  settled = λ m us x. refl;
  knows = record { lines = e; names = n; fits = subst (λ (l : List PlanLine). IsReadPlan (length roles) l) (sym e) (λ i d l. absurd (omega (arith, l))) };
  said_by = e;
  once = subst (λ (l : List PlanLine). AreOnce l) (sym e) none_once;
}

tells : (roles : List (List ℕ)) (symbols left : List Symbol) (k : KnownView) (h : SoFar roles symbols left k) → (left ≡ [] → ⊥) → Tells roles (backward (plan_text h.items) []) k left (next_item roles k left)
tells roles symbols left k h some = item_tells roles (backward (plan_text h.items) []) k left (fresh (backward (plan_text h.items) []) h.over) h.knows some h.settled

pub item_taken : (roles : List (List ℕ)) (symbols left new : List Symbol) (k k' : KnownView) → SoFar roles symbols left k → (left ≡ [] → ⊥) → next_item roles k left ≡ Takes k' new → (item : Written) × (left ≡ item_text item ++ new)
item_taken roles symbols left new k k' h some e =
    let t : TakesItem roles (backward (plan_text h.items) []) k k' left new = subst (λ (s : Step KnownView). Tells roles (backward (plan_text h.items) []) k left s) e (tells roles symbols left k h some) in
    (t.item, t.cut)

pub one_more : (roles : List (List ℕ)) (symbols left new : List Symbol) (k k' : KnownView) → SoFar roles symbols left k → (left ≡ [] → ⊥) → next_item roles k left ≡ Takes k' new → SoFar roles symbols new k'
one_more roles symbols left new k k' h some e = go (subst (λ (s : Step KnownView). Tells roles (backward (plan_text h.items) []) k left s) e (tells roles symbols left k h some))
  where
    go : TakesItem roles (backward (plan_text h.items) []) k k' left new → SoFar roles symbols new k'
    go t =
        let text : plan_text (h.items ++ t.item ∷ []) ≡ plan_text h.items ++ item_text t.item = plan_one_more h.items t.item in
        let behind : backward (plan_text (h.items ++ t.item ∷ [])) [] ≡ backward (item_text t.item) (backward (plan_text h.items) []) = ap (λ (z : List Symbol). backward z []) text ∙ backward_append (plan_text h.items) (item_text t.item) [] in
        record {
          items = h.items ++ t.item ∷ [];
          cut = h.cut ∙ ap (λ (z : List Symbol). plan_text h.items ++ z) t.cut ∙ sym (append_assoc (plan_text h.items) (item_text t.item) new) ∙ sym (ap (λ (z : List Symbol). z ++ new) text);
          free = subst (λ (z : List Symbol). AllFree roles [] z new) (sym text) (free_append roles [] (plan_text h.items) (item_text t.item) new (subst (λ (z : List Symbol). AllFree roles [] (plan_text h.items) z) t.cut h.free) t.free);
          over = subst (λ (z : List Symbol). is_between z ≡ true) (sym behind) t.over;
          settled = λ m us x. subst (λ (z : List Symbol). has z (Is m) ≡ false) (sym behind) (t.settled m us x);
          knows = subst (λ (z : List Symbol). Knows roles z k') (sym behind) t.knows;
          once = subst (λ (l : List PlanLine). AreOnce l) (sym t.more) (once_more k.lines (said roles t.item) h.once t.alone);
          said_by = t.more ∙ ap (λ (l : List PlanLine). l ++ said roles t.item ∷ []) h.said_by ∙ sym (map-append (said roles) h.items (t.item ∷ []));
        }

pub done : (roles : List (List ℕ)) (symbols left : List Symbol) (k : KnownView) → SoFar roles symbols left k → left ≡ [] → IsRead roles symbols k.lines
done roles symbols left k h e =
    let all : symbols ≡ plan_text h.items = h.cut ∙ ap (λ (z : List Symbol). plan_text h.items ++ z) e ∙ append-nil (plan_text h.items) in
    record {
      items = h.items;
      derived = all;
      free = free_of roles symbols (h.items, all) (subst (λ (z : List Symbol). AllFree roles [] z []) (sym all) (subst (λ (z : List Symbol). AllFree roles [] (plan_text h.items) z) e h.free));
      said_by = h.said_by;
    }

pub planned : (roles : List (List ℕ)) (symbols left : List Symbol) (k : KnownView) → SoFar roles symbols left k → IsPlanned (length roles) k.lines
planned roles symbols left k h = record { fits = read_fits (length roles) k.lines h.knows.fits; once = h.once }

pub counted : (roles : List (List ℕ)) (symbols left : List Symbol) (k : KnownView) → SoFar roles symbols left k → All HasReadCount k.lines
counted roles symbols left k h = read_counts (length roles) k.lines h.knows.fits

-- ---- where it stops

holds_there : (roles : List (List ℕ)) (f : Fault) (front left : List Symbol) → IsBeginning front → Speaks roles f (backward front []) left → HoldsAt roles f front left
holds_there roles Token front [] b s = (b, λ d. let over = derived_is_over front d in cc)
holds_there roles Token front (t ∷ ts) b s = (b, λ c. let had = begun_has front t c in cc)
holds_there roles Role front [] b s = absurd s
holds_there roles Twice front [] b s = absurd s
holds_there roles Range front [] b s = absurd s
holds_there roles Role front (t ∷ ts) b s = s.1
holds_there roles Twice front (t ∷ ts) b s = s.2
holds_there roles Range front (t ∷ ts) b s = s.3

none_lesser : (roles : List (List ℕ)) (f g : Fault) (front left : List Symbol) → Speaks roles f (backward front []) left → ((t : Symbol) (ts : List Symbol) → left ≡ t ∷ ts → code_of Token < code_of f → IsBeginning (front ++ t ∷ [])) → code_of g < code_of f → HoldsAt roles g front left → ⊥
none_lesser roles Token g front left s next l h = low g l
  where
    low : (g : Fault) → code_of g < 40 → ⊥
    low Token l = omega (arith, l)
    low Role l = omega (arith, l)
    low Twice l = omega (arith, l)
    low Range l = omega (arith, l)
none_lesser roles Role g front [] s next l h = absurd s
none_lesser roles Twice g front [] s next l h = absurd s
none_lesser roles Range g front [] s next l h = absurd s
none_lesser roles Role Token front (t ∷ ts) s next l h = h.1 (next t ts refl (omega arith))
none_lesser roles Twice Token front (t ∷ ts) s next l h = h.1 (next t ts refl (omega arith))
none_lesser roles Range Token front (t ∷ ts) s next l h = h.1 (next t ts refl (omega arith))
none_lesser roles Role Role front (t ∷ ts) s next l h = omega (arith, l)
none_lesser roles Role Twice front (t ∷ ts) s next l h = omega (arith, l)
none_lesser roles Role Range front (t ∷ ts) s next l h = omega (arith, l)
none_lesser roles Twice Role front (t ∷ ts) s next l h = let n = s.1 in cc
none_lesser roles Twice Twice front (t ∷ ts) s next l h = omega (arith, l)
none_lesser roles Twice Range front (t ∷ ts) s next l h = omega (arith, l)
none_lesser roles Range Role front (t ∷ ts) s next l h = let n = s.1 in cc
none_lesser roles Range Twice front (t ∷ ts) s next l h = let n = s.2 in cc
none_lesser roles Range Range front (t ∷ ts) s next l h = omega (arith, l)

allowed_next : (ws : List Written) (f : Fault) (front left : List Symbol) → Allowed f front left → (t : Symbol) (ts : List Symbol) → left ≡ t ∷ ts → code_of Token < code_of f → IsBeginning ((plan_text ws ++ front) ++ t ∷ [])
allowed_next ws Token front left a t ts e l = absurd (omega (arith, l))
allowed_next ws Role front left a t ts e l = subst (λ (z : List Symbol). IsBeginning z) (sym (append_assoc (plan_text ws) front (t ∷ []))) (begins_with ws (front ++ t ∷ []) (subst (λ (z : List Symbol). Allowed Role front z) e a))
allowed_next ws Twice front left a t ts e l = subst (λ (z : List Symbol). IsBeginning z) (sym (append_assoc (plan_text ws) front (t ∷ []))) (begins_with ws (front ++ t ∷ []) (subst (λ (z : List Symbol). Allowed Twice front z) e a))
allowed_next ws Range front left a t ts e l = subst (λ (z : List Symbol). IsBeginning z) (sym (append_assoc (plan_text ws) front (t ∷ []))) (begins_with ws (front ++ t ∷ []) (subst (λ (z : List Symbol). Allowed Range front z) e a))

pub stop : (roles : List (List ℕ)) (symbols left new : List Symbol) (k : KnownView) (f : Fault) → SoFar roles symbols left k → (left ≡ [] → ⊥) → next_item roles k left ≡ Stops f new → IsFirst roles symbols f new
stop roles symbols left new k f h some e = go (subst (λ (s : Step KnownView). Tells roles (backward (plan_text h.items) []) k left s) e (tells roles symbols left k h some))
  where
    go : StopsAt roles (backward (plan_text h.items) []) left f new → IsFirst roles symbols f new
    go t =
        let begins : IsBeginning (plan_text h.items ++ t.front) = begins_with h.items t.front (t.item, t.rest, t.begins) in
        let free : AllFree roles [] (plan_text h.items ++ t.front) new = free_append roles [] (plan_text h.items) t.front new (subst (λ (z : List Symbol). AllFree roles [] (plan_text h.items) z) t.cut h.free) t.free in
        let speaks : Speaks roles f (backward (plan_text h.items ++ t.front) []) new = subst (λ (z : List Symbol). Speaks roles f z new) (sym (backward_append (plan_text h.items) t.front [])) t.speaks in
        record {
          front = plan_text h.items ++ t.front;
          cut = h.cut ∙ ap (λ (z : List Symbol). plan_text h.items ++ z) t.cut ∙ sym (append_assoc (plan_text h.items) t.front new);
          holds = holds_there roles f (plan_text h.items ++ t.front) new begins speaks;
          least = λ g l x. none_lesser roles f g (plan_text h.items ++ t.front) new speaks (allowed_next h.items f t.front new t.allowed) l x;
          first = λ g before x others cut y.
              none_holds roles before x (others ++ new) (begins_one before x others (subst (λ (z : List Symbol). IsBeginning z) cut begins))
              (free_there roles [] (plan_text h.items ++ t.front) new before others x cut free) g y;
        }

pub fails : (e : PlanError) (roles : List (List ℕ)) (symbols left new : List Symbol) (k k' : KnownView) → SoFar roles symbols left k → (left ≡ [] → ⊥) → Goes {X = Unit {0}} {Y = KnownView} (Err e) (λ x. k') new (next_item roles k left)
    → Ends roles e symbols new
fails causes.Memory roles symbols left new k k' h some g = tt
fails (causes.Refused f) roles symbols left new k k' h some g = stop roles symbols left new k f h some g
