-- The protocols that an expansion enters are full, aren't empty, and have no par in their own block.
use Rattle.std.proofs.Common.{◌≡◌, ℕ, zero, suc, Some, List, [], ◌∷◌, refl, subst, inl, inr}
use Rattle.std.specs.Prelude.{slice_get}
use Rattle.std.specs.List.{AllByRecursion}
use Rattle.rcv_model.specs.Text.{Body, End, Single, Choose, Loop, Again, Parallel, Call, Bodies}
use Rattle.rcv_model.specs.Places.{IsNothing, HasNoPar}
use Rattle.rcv_module.specs.declared.fault.Fault.TheVariants.{Empty}
use Rattle.rcv_module.specs.Parts.{Part, Site, IsNamed, place, site, calls, calls_of, sites}
use Rattle.rcv_module.specs.Form.{IsFilled, IsFormed, AreFormed}
use Rattle.rcv_module.specs.Refusing.{Reaches, AreCallable}
use Rattle.rcv_module.specs.Expansion as expansion
use Rattle.rcv_module.specs.Expansion.{Stands, Expands, AllExpand}
use Rattle.rcv_module.proofs.Sites.{IsAmong, among_at, among_left, among_right, of_module, calls_one, reaches_more, never_back}

-- So of each protocol that is entered.
abbrev mutual
  pub EntersFull : {parts : List Part} {st : Stands} {b next w : Body} → Expands parts st b next w → Type 0
  EntersFull expansion.at_end = Unit {0}
  EntersFull (expansion.message q e) = EntersFull e
  EntersFull (expansion.choice es e) = AllEnterFull es × EntersFull e
  EntersFull (expansion.loop e f) = EntersFull e × EntersFull f
  EntersFull (expansion.again e) = EntersFull e
  EntersFull (expansion.beside es e) = AllEnterFull es × EntersFull e
  EntersFull (expansion.call p i e f) = (IsFilled p.roles [] [] p.body × (IsNothing p.body → ⊥)) × EntersFull e × EntersFull f

  pub AllEnterFull : {parts : List Part} {st : Stands} {bs cs : Bodies} → AllExpand parts st bs cs → Type 0
  AllEnterFull expansion.no_more = Unit {0}
  AllEnterFull (expansion.one_more e es) = EntersFull e × AllEnterFull es

pub no_par : (roles : ℕ) (recs bare : List (List ℕ)) (b : Body) → IsFilled roles recs bare b → HasNoPar b
no_par roles recs bare End f = tt
no_par roles recs bare (Single label sorts s r p rest) f = no_par roles recs [] rest f
no_par roles recs bare (Choose s bs rest) f = no_par roles recs [] rest f.1
no_par roles recs bare (Loop name body rest) f = no_par roles recs [] rest f.2
no_par roles recs bare (Again name End) f = tt
no_par roles recs bare (Again name rest) f = absurd f.2
no_par roles recs bare (Parallel bs rest) f = f
no_par roles recs bare (Call name rs rest) f = no_par roles recs [] rest f.1

-- the protocols but the first
pub formed_other : (parts : List Part) (j : ℕ) (p : Part) → AreFormed parts → slice_get parts (suc j) ≡ Some p → IsFormed p
formed_other [] j p f e = absurd f
formed_other (q ∷ ps) j p f e = go ps f.1 j e
  where
    go : (ps : List Part) → AllByRecursion IsFormed ps → (j : ℕ) → slice_get ps j ≡ Some p → IsFormed p
    go [] f j e = absurd (cc)
    go (x ∷ xs) f zero e = let same : x ≡ p = cc in subst IsFormed same f.0
    go (x ∷ xs) f (suc j) e = go xs f.1 j e

-- The calls of what is left of a text are some of the module's.
abbrev pub Within : List Part → ℕ → Body → Type 0
Within parts h b = (s : Site) → IsAmong s (calls h b) → IsAmong s (sites parts)

nothing_is : (b : Body) → IsNothing b → b ≡ End
nothing_is End n = refl
nothing_is (Single label sorts s r p rest) n = absurd n
nothing_is (Choose s bs rest) n = absurd n
nothing_is (Loop name body rest) n = absurd n
nothing_is (Again name rest) n = absurd n
nothing_is (Parallel bs rest) n = absurd n
nothing_is (Call name rs rest) n = absurd n

-- the protocol that is called there
record IsEntered (parts : List Part) (p : Part) : Type 0 where
  at : ℕ
  is : slice_get parts at ≡ Some p
  reached : Reaches parts 0 at
  full : IsFilled p.roles [] [] p.body × (IsNothing p.body → ⊥)

entered_by : (parts : List Part) (h : ℕ) (name roles : List ℕ) (p : Part) → AreFormed parts → AreCallable parts → Reaches parts 0 h
    → IsAmong (site h name roles) (sites parts) → IsNamed parts name p → IsEntered parts p
entered_by parts h name roles p formed callable r among i = go i.0 i.1 i.2
  where
    filled : IsNothing p.body → ⊥
    filled n = let a = among_at (site h name roles) (sites parts) among in callable a.0 (site h name roles) Empty a.1 (p, i, nothing_is p.body n)

    go : (j : ℕ) → place parts name ≡ Some j → slice_get parts j ≡ Some p → IsEntered parts p
    go zero named e = absurd (never_back parts h 0 callable (calls_one parts h 0 (site h name roles) among refl named) r)
    go (suc j) named e = record {
      at = suc j;
      is = e;
      reached = reaches_more parts 0 h (suc j) r (calls_one parts h (suc j) (site h name roles) among refl named);
      full = ((formed_other parts j p formed e).filled, filled);
    }

mutual
  pub enters_full : {parts : List Part} {st : Stands} {b next w : Body} (h : ℕ) → AreFormed parts → AreCallable parts → Reaches parts 0 h → Within parts h b → (e : Expands parts st b next w) → EntersFull e
  enters_full h formed callable r within expansion.at_end = tt
  enters_full h formed callable r within (expansion.message q e) = enters_full h formed callable r within e
  enters_full h formed callable r within (expansion.choice {rest = rest} {bs = bs} es e) =
      (all_enter_full h formed callable r (λ s a. within s (among_left s (calls_of h bs) (calls h rest) a)) es, enters_full h formed callable r (λ s a. within s (among_right s (calls_of h bs) (calls h rest) a)) e)
  enters_full h formed callable r within (expansion.loop {rest = rest} {body = body} e f) =
      (enters_full h formed callable r (λ s a. within s (among_left s (calls h body) (calls h rest) a)) e, enters_full h formed callable r (λ s a. within s (among_right s (calls h body) (calls h rest) a)) f)
  enters_full h formed callable r within (expansion.again e) = enters_full h formed callable r within e
  enters_full h formed callable r within (expansion.beside {rest = rest} {bs = bs} es e) =
      (all_enter_full h formed callable r (λ s a. within s (among_left s (calls_of h bs) (calls h rest) a)) es, enters_full h formed callable r (λ s a. within s (among_right s (calls_of h bs) (calls h rest) a)) e)
  enters_full {parts} h formed callable r within (expansion.call {name = name} {roles = roles} p i e f) =
      let q = entered_by parts h name roles p formed callable r (within (site h name roles) (inl refl)) i in
      (q.full, enters_full q.at formed callable q.reached (λ s a. of_module parts q.at p s q.is a) e, enters_full h formed callable r (λ s a. within s (inr a)) f)

  pub all_enter_full : {parts : List Part} {st : Stands} {bs cs : Bodies} (h : ℕ) → AreFormed parts → AreCallable parts → Reaches parts 0 h → ((s : Site) → IsAmong s (calls_of h bs) → IsAmong s (sites parts))
      → (es : AllExpand parts st bs cs) → AllEnterFull es
  all_enter_full h formed callable r within expansion.no_more = tt
  all_enter_full h formed callable r within (expansion.one_more {b = b} {bs = bs} e es) =
      (enters_full h formed callable r (λ s a. within s (among_left s (calls h b) (calls_of h bs) a)) e, all_enter_full h formed callable r (λ s a. within s (among_right s (calls h b) (calls_of h bs) a)) es)
