-- Which code of the table holds at a call, from what is kept of it.
use Rattle.std.proofs.Common.{◌≡◌, ℕ, zero, suc, ◌+◌, ◌<◌, ◌≤◌, Bool, true, false, Option, Some, None, List, [], ◌∷◌, length, map, refl, sym, ap, subst, ◌∙◌, ⊎_elim, eq-eqb, ◌==◌, arith}
use Rattle.std.specs.Prelude.{slice_get}
use Rattle.std.proofs.lemmas.Bool.{cases_lt}
use Rattle.std.proofs.lemmas.Bool.Decides.{nat_tests}
use Rattle.rcv_tree.specs.Lists.{statements}
use Rattle.rcv_tree.specs.declared.protocol.Protocol.{Protocol}
use Rattle.rcv_tree.specs.declared.statement.Stmt.{Stmt}
use Rattle.rcv_tree.specs.declared.statement.Block.{Block}
use Rattle.rcv_tree.specs.declared.statement.Stmt.TheOpen.{Stmt-F, Message, Choice, Rec, Continue, Par, Do}
use Rattle.rcv_tree.specs.declared.statement.Stmt.TheFolds.{fold_out-Stmt}
use Rattle.rcv_model.specs.Text.{Body, Bodies, End, stmt_step, block_step, blocks_step, stmt_body, body_of, body_from}
use Rattle.rcv_model.proofs.Text.{body_of_lem}
use Rattle.rcv_module.specs.declared.fault.Fault.{Fault}
use Rattle.rcv_module.specs.declared.fault.Fault.TheVariants.{Deep, NoName, TooMany, Arity, Recursive, Empty}
use Rattle.rcv_module.specs.Parts.{Part, Site, IsNamed, place, part_of, sites}
use Rattle.rcv_module.specs.Refusing.{code_of, HoldsAt, Reaches}
use Rattle.rcv_do.specs.declared.calls.Call.{Call}
use Rattle.rcv_do.specs.declared.set.Set.{Set}
use Rattle.rcv_do.specs.Code.{call_of}
use Rattle.rcv_do.specs.Rows.{has, AreRowsOf}
use Rattle.rcv_do.specs.Faults.{IsLeastFault, IsFirstFault}

-- ---- an empty block

step_never : (x : Stmt-F (Body → Body) Body Bodies) (rest : Body) → stmt_step x rest ≡ End → ⊥
step_never (Message label sorts s r p) rest e = cc
step_never (Choice subject bs) rest e = cc
step_never (Rec name b) rest e = cc
step_never (Continue name) rest e = cc
step_never (Par bs) rest e = cc
step_never (Do name roles) rest e = cc

pub some_never_end : (s : Stmt) (rest : Body) → stmt_body s rest ≡ End → ⊥
some_never_end s rest e = step_never _ rest (sym (ap (λ (f : Body → Body). f rest) (fold_out-Stmt (Body → Body) Body Bodies stmt_step block_step blocks_step s)) ∙ e)

pub none_end : (b : Block) → statements b ≡ [] → body_of b ≡ End
none_end b e = body_of_lem b ∙ ap body_from e

pub end_none : (b : Block) → body_of b ≡ End → statements b ≡ []
end_none b e = go (statements b) (sym (body_of_lem b) ∙ e)
  where
    go : (ss : List Stmt) → body_from ss ≡ End → ss ≡ []
    go [] h = refl
    go (s ∷ ss) h = absurd (some_never_end s (body_from ss) h)

-- the test for it
none_long : (ss : List Stmt) → length ss ≡ 0 → ss ≡ []
none_long [] e = refl
none_long (s ∷ ss) e = absurd (omega (arith, e))

pub empty_ends : (b : Block) (items : List Stmt) (r : Bool) → items ≡ statements b → r ≡ (length items == 0) → r ≡ true → body_of b ≡ End
empty_ends b items r e f t = none_end b (sym e ∙ none_long items (let h : (length items == 0) ≡ true = sym f ∙ t in grind (arith, nat_tests)))

pub some_goes_on : (b : Block) (items : List Stmt) (r : Bool) → items ≡ statements b → r ≡ (length items == 0) → r ≡ false → body_of b ≡ End → ⊥
some_goes_on b items r e f t end =
    let none : length items ≡ 0 = ap length (e ∙ end_none b end) in
    let yes : (length items == 0) ≡ true = eq-eqb (length items) 0 none in
    two (f ∙ yes) t
  where
    two : {t : Bool} → t ≡ true → t ≡ false → ⊥
    two e f = cc

-- ---- rows

pub parts_long : (ps : List Protocol) → length (map part_of ps) ≡ length ps
parts_long [] = refl
parts_long (p ∷ ps) = ap suc (parts_long ps)

-- the protocol at j comes to the one that holds the call where the row says so
pub reaches_back : (ps : List Protocol) (rs : List Set) (j h i : ℕ) (r : Bool) → AreRowsOf (map part_of ps) rs → j < length ps → h < length ps → h ≡ i → r ≡ has rs j h → r ≡ true → Reaches (map part_of ps) j i
reaches_back ps rs j h i r a lj lh e f t = subst (Reaches (map part_of ps) j) e ((a.reached j h (inside lj) (inside lh)).0 (sym f ∙ t))
  where
    inside : {n : ℕ} → n < length ps → n < length (map part_of ps)
    inside {n} lt = subst (λ m. n < m) (sym (parts_long ps)) lt

pub never_reaches_back : (ps : List Protocol) (rs : List Set) (j h i : ℕ) (r : Bool) → AreRowsOf (map part_of ps) rs → j < length ps → h < length ps → h ≡ i → r ≡ has rs j h → r ≡ false → Reaches (map part_of ps) j i → ⊥
never_reaches_back ps rs j h i r a lj lh e f t x = two (f ∙ (a.reached j h (inside lj) (inside lh)).1 (subst (Reaches (map part_of ps) j) (sym e) x)) t
  where
    inside : {n : ℕ} → n < length ps → n < length (map part_of ps)
    inside {n} lt = subst (λ m. n < m) (sym (parts_long ps)) lt

    two : {t : Bool} → t ≡ true → t ≡ false → ⊥
    two e f = cc

-- ---- the protocol that is named

pub part_at : (ps : List Protocol) (i : ℕ) (p : Protocol) → slice_get ps i ≡ Some p → slice_get (map part_of ps) i ≡ Some (part_of p)
part_at [] i p e = absurd (cc)
part_at (q ∷ ps) zero p e = let h : q ≡ p = cc in ap (λ x. Some (part_of x)) h
part_at (q ∷ ps) (suc i) p e = part_at ps i p e

-- What is known where a call's target was found: the call is that of a site, and this is the protocol.
pub record IsTarget (parts : List Part) (rows : List Set) (call : Call) (s : Site) (j : ℕ) (p : Part) : Type 0 where
  pub named : place parts s.name ≡ Some j
  pub at : slice_get parts j ≡ Some p
  pub holder : call.holder ≡ s.holder
  pub arguments : call.arguments ≡ length s.roles

pub target_of : (parts : List Part) (rows : List Set) (call : Call) (s : Site) (j : ℕ) (p : Part) → call.target ≡ Some j → slice_get parts j ≡ Some p → call ≡ call_of parts s → IsTarget parts rows call s j p
target_of parts rows call s j p to at e = record {
  named = sym (ap (λ (c : Call). c.target) e) ∙ to;
  at = at;
  holder = ap (λ (c : Call). c.holder) e;
  arguments = ap (λ (c : Call). c.arguments) e;
}

some_not_none : {A : Type 0} {o : Option A} {x : A} → o ≡ Some x → o ≡ None → ⊥
some_not_none e f = cc

same_place : (parts : List Part) (s : Site) (i j : ℕ) → place parts s.name ≡ Some i → place parts s.name ≡ Some j → i ≡ j
same_place parts s i j e f = let h : Some i ≡ Some j = sym e ∙ f in cc

same_part : (parts : List Part) (s : Site) (j : ℕ) (p q : Part) → place parts s.name ≡ Some j → slice_get parts j ≡ Some p → IsNamed parts s.name q → q ≡ p
same_part parts s j p q named at i =
    let h : Some q ≡ Some p = sym i.2 ∙ ap (slice_get parts) (same_place parts s i.0 j i.1 named) ∙ at in cc

pub no_name : (parts : List Part) (s : Site) → place parts s.name ≡ None → IsLeastFault parts s (Some NoName)
no_name parts s e = (e, below)
  where
    below : (g : Fault) → code_of g < 13 → HoldsAt parts g s → ⊥
    below Deep lt h = h
    below NoName lt h = omega (arith, lt)
    below TooMany lt h = h
    below Arity lt h = omega (arith, lt)
    below Recursive lt h = omega (arith, lt)
    below Empty lt h = omega (arith, lt)

pub arity : (parts : List Part) (rows : List Set) (call : Call) (s : Site) (j : ℕ) (p : Part) → IsTarget parts rows call s j p → (p.roles ≡ call.arguments → ⊥) → IsLeastFault parts s (Some Arity)
arity parts rows call s j p t n = ((p, (j, t.named, t.at), λ e. n (sym e ∙ sym t.arguments)), below)
  where
    below : (g : Fault) → code_of g < 52 → HoldsAt parts g s → ⊥
    below Deep lt h = h
    below NoName lt h = some_not_none t.named h
    below TooMany lt h = h
    below Arity lt h = omega (arith, lt)
    below Recursive lt h = omega (arith, lt)
    below Empty lt h = omega (arith, lt)

-- as many arguments as roles
right_arity : (parts : List Part) (rows : List Set) (call : Call) (s : Site) (j : ℕ) (p : Part) → IsTarget parts rows call s j p → p.roles ≡ call.arguments → HoldsAt parts Arity s → ⊥
right_arity parts rows call s j p t e h = h.2 (t_arguments ∙ sym (ap (λ (x : Part). x.roles) (same_part parts s j p h.0 t.named t.at h.1)))
  where
    t_arguments : length s.roles ≡ p.roles
    t_arguments = sym t.arguments ∙ sym e

pub recursive : (parts : List Part) (rows : List Set) (call : Call) (s : Site) (j : ℕ) (p : Part) → IsTarget parts rows call s j p → p.roles ≡ call.arguments
    → Reaches parts j s.holder → IsLeastFault parts s (Some Recursive)
recursive parts rows call s j p t e r = ((j, t.named, r), below)
  where
    below : (g : Fault) → code_of g < 53 → HoldsAt parts g s → ⊥
    below Deep lt h = h
    below NoName lt h = some_not_none t.named h
    below TooMany lt h = h
    below Arity lt h = right_arity parts rows call s j p t e h
    below Recursive lt h = omega (arith, lt)
    below Empty lt h = omega (arith, lt)

not_recursive : (parts : List Part) (rows : List Set) (call : Call) (s : Site) (j : ℕ) (p : Part) → IsTarget parts rows call s j p → (Reaches parts j s.holder → ⊥) → HoldsAt parts Recursive s → ⊥
not_recursive parts rows call s j p t n h = n (subst (λ i. Reaches parts i s.holder) (same_place parts s h.0 j h.1 t.named) h.2)

pub empty : (parts : List Part) (rows : List Set) (call : Call) (s : Site) (j : ℕ) (p : Part) → IsTarget parts rows call s j p → p.roles ≡ call.arguments
    → (Reaches parts j s.holder → ⊥) → p.body ≡ End → IsLeastFault parts s (Some Empty)
empty parts rows call s j p t e n nothing = ((p, (j, t.named, t.at), nothing), below)
  where
    below : (g : Fault) → code_of g < 54 → HoldsAt parts g s → ⊥
    below Deep lt h = h
    below NoName lt h = some_not_none t.named h
    below TooMany lt h = h
    below Arity lt h = right_arity parts rows call s j p t e h
    below Recursive lt h = not_recursive parts rows call s j p t n h
    below Empty lt h = omega (arith, lt)

pub no_fault : (parts : List Part) (rows : List Set) (call : Call) (s : Site) (j : ℕ) (p : Part) → IsTarget parts rows call s j p → p.roles ≡ call.arguments
    → (Reaches parts j s.holder → ⊥) → (p.body ≡ End → ⊥) → IsLeastFault parts s None
no_fault parts rows call s j p t e n some = none
  where
    none : (g : Fault) → HoldsAt parts g s → ⊥
    none Deep h = h
    none NoName h = some_not_none t.named h
    none TooMany h = h
    none Arity h = right_arity parts rows call s j p t e h
    none Recursive h = not_recursive parts rows call s j p t n h
    none Empty h = some (ap (λ (x : Part). x.body) (sym (same_part parts s j p h.0 t.named t.at h.1)) ∙ h.2)

-- ---- all calls

-- the first ones have no fault
abbrev pub NoneBefore : List Part → ℕ → Type 0
NoneBefore parts n = (m : ℕ) (s : Site) (g : Fault) → m < n → slice_get (sites parts) m ≡ Some s → HoldsAt parts g s → ⊥

pub site_of : (parts : List Part) (calls : List Call) (n : ℕ) (c : Call) → calls ≡ map (call_of parts) (sites parts) → slice_get calls n ≡ Some c → (s : Site) × (slice_get (sites parts) n ≡ Some s) × (c ≡ call_of parts s)
site_of parts calls n c e at = go (sites parts) n (sym (ap (λ l. slice_get l n) e) ∙ at)
  where
    go : (ss : List Site) (n : ℕ) → slice_get (map (call_of parts) ss) n ≡ Some c → (s : Site) × (slice_get ss n ≡ Some s) × (c ≡ call_of parts s)
    go [] n h = absurd (cc)
    go (s ∷ ss) zero h = let same : call_of parts s ≡ c = cc in (s, refl, sym same)
    go (s ∷ ss) (suc n) h = go ss n h

pub none_more : (parts : List Part) (n : ℕ) (s : Site) → slice_get (sites parts) n ≡ Some s → IsLeastFault parts s None → NoneBefore parts n → NoneBefore parts (n + 1)
none_more parts n s at none before m t g lt is h = ⊎_elim (λ x. before m t g x is h)
    (λ last.
    let e : m ≡ n = omega (arith, last, lt) in
    let some : Some t ≡ Some s = sym is ∙ ap (slice_get (sites parts)) e ∙ at in
    let same : t ≡ s = cc in none g (subst (HoldsAt parts g) same h))
    (cases_lt m n)

pub first_found : (parts : List Part) (n : ℕ) (s : Site) (f : Fault) → slice_get (sites parts) n ≡ Some s → IsLeastFault parts s (Some f) → NoneBefore parts n → IsFirstFault parts (Some (n, f))
first_found parts n s f at least before = record { here = s; is = at; holds = least.0; least = least.1; first = before }

get_inside : {A : Type 0} (xs : List A) (m : ℕ) (x : A) → slice_get xs m ≡ Some x → m < length xs
get_inside [] m x e = absurd (cc)
get_inside (y ∷ xs) zero x e = omega arith
get_inside (y ∷ xs) (suc m) x e = let h = get_inside xs m x e in omega (arith, h)

pub none_found : (parts : List Part) (n : ℕ) → length (sites parts) ≤ n → NoneBefore parts n → IsFirstFault parts None
none_found parts n end before = λ m s g is h. before m s g (let lt = get_inside (sites parts) m s is in omega (arith, lt, end)) is h

pub as_many_calls : (parts : List Part) (calls : List Call) → calls ≡ map (call_of parts) (sites parts) → length calls ≡ length (sites parts)
as_many_calls parts calls e = ap length e ∙ go (sites parts)
  where
    go : (ss : List Site) → length (map (call_of parts) ss) ≡ length ss
    go [] = refl
    go (s ∷ ss) = ap suc (go ss)
