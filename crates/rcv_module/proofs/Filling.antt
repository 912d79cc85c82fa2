-- An expansion is full: no block is empty, each continue is bound and stands behind a message.
use Rattle.std.proofs.Common.{◌≡◌, ℕ, List, [], ◌∷◌, ◌++◌, refl, sym, ap, subst, ◌∙◌, ◌⊎◌, inl, inr}
use Rattle.rcv_model.specs.Text.{Body, End, Single, Choose, Loop, Again, Parallel, Call, Bodies}
use Rattle.rcv_model.specs.Places.{IsNothing, IsFull, AreFull, OthersFull, IsFullText, HasEndOf, AreApart, HasLanesApart, singles, singles_of}
use Rattle.rcv_model.specs.Places as places
use Rattle.rcv_module.specs.Parts.{Part}
use Rattle.rcv_module.specs.Form.{IsFilled, AreFilled, OthersFilled, IsFilledText, HasRole, SomeHasRole, ShareNoRole}
use Rattle.rcv_module.specs.Expansion as expansion
use Rattle.rcv_module.specs.Expansion.{Stands, Expands, AllExpand}
use Rattle.rcv_module.proofs.Entered.{EntersFull, AllEnterFull}
use Rattle.rcv_module.proofs.Fitting.{Fits, AllFit, PartsFit, StandWell, called_well, role_inside, role_inside_of, end_from, end_from_some}

abbrev Names : Type 0
Names = List (List ℕ)

named_left : (name : List ℕ) (xs ys : Names) → places.IsNamed name xs → places.IsNamed name (xs ++ ys)
named_left name [] ys i = absurd i
named_left name (x ∷ xs) ys (inl e) = inl e
named_left name (x ∷ xs) ys (inr i) = inr (named_left name xs ys i)

-- Which recs have had no message yet: behind the text's first message the caller's don't count; before it these are all of
-- the text's own, and what the caller has.
abbrev AreBare : Names → Names → Names → Names → Type 0
AreBare recs bare outer all = (all ≡ bare) ⊎ ((bare ≡ recs) × (all ≡ bare ++ outer))

one_rec_more : (name : List ℕ) (recs bare outer all : Names) → AreBare recs bare outer all → AreBare (name ∷ recs) (name ∷ bare) outer (name ∷ all)
one_rec_more name recs bare outer all (inl e) = inl (ap (λ l. name ∷ l) e)
one_rec_more name recs bare outer all (inr e) = inr (ap (λ l. name ∷ l) e.0, ap (λ l. name ∷ l) e.1)

not_bare : (name : List ℕ) (recs bare outer all : Names) → AreBare recs bare outer all → places.IsNamed name recs → (places.IsNamed name bare → ⊥) → places.IsNamed name all → ⊥
not_bare name recs bare outer all (inl e) i n j = n (subst (places.IsNamed name) e j)
not_bare name recs bare outer all (inr e) i n j = n (subst (places.IsNamed name) (sym e.0) i)

-- what isn't empty is expanded to what isn't
pub not_empty : {parts : List Part} {st : Stands} {b next w : Body} (e : Expands parts st b next w) → EntersFull e → (IsNothing b → ⊥) → IsNothing w → ⊥
not_empty expansion.at_end x n z = n tt
not_empty (expansion.message q e) x n z = z
not_empty (expansion.choice es e) x n z = z
not_empty (expansion.loop e f) x n z = z
not_empty (expansion.again e) x n z = z
not_empty (expansion.beside es e) x n z = z
not_empty (expansion.call p i e f) x n z = not_empty e x.1 x.0.1 z

nothing_more : {parts : List Part} {st : Stands} {b next w : Body} → Expands parts st b next w → IsNothing b → IsNothing next → IsNothing w
nothing_more expansion.at_end n m = m
nothing_more (expansion.message q e) n m = absurd n
nothing_more (expansion.choice es e) n m = absurd n
nothing_more (expansion.loop e f) n m = absurd n
nothing_more (expansion.again e) n m = absurd n
nothing_more (expansion.beside es e) n m = absurd n
nothing_more (expansion.call p i e f) n m = absurd n

mutual
  full : {parts : List Part} {st : Stands} {b next w : Body} (roles : ℕ) (recs bare outer caller all : Names) → AreBare recs bare caller all → (e : Expands parts st b next w) → EntersFull e
      → IsFilled roles recs bare b → ((name : List ℕ) → places.IsNamed name recs → IsNothing next) → IsFull (recs ++ outer) [] next → (IsNothing b → IsFull (recs ++ outer) all next)
      → IsFull (recs ++ outer) all w
  full roles recs bare outer caller all rel expansion.at_end x f closed behind first = first tt
  full roles recs bare outer caller all rel (expansion.message q e) x f closed behind first = full roles recs [] outer caller [] (inl refl) e x f closed behind (λ z. behind)
  full roles recs bare outer caller all rel (expansion.choice es e) x f closed behind first =
      (all_full roles recs bare outer caller all rel es x.0 f.0, full roles recs [] outer caller [] (inl refl) e x.1 f.1 closed behind (λ z. behind))
  full roles recs bare outer caller all rel (expansion.loop {name = name} e g) x f closed behind first = (
    not_empty e x.0 f.0,
    full roles (name ∷ recs) (name ∷ bare) outer caller (name ∷ all) (one_rec_more name recs bare caller all rel) e x.0 f.1 (λ n i. tt) tt (λ z. tt),
    full roles recs [] outer caller [] (inl refl) g x.1 f.2 closed behind (λ z. behind),
  )
  full roles recs bare outer caller all rel (expansion.again {name = name} e) x f closed behind first =
      (named_left name recs outer f.0, not_bare name recs bare caller all rel f.0 f.1, nothing_more e f.2 (closed name f.0))
  full roles recs bare outer caller all rel (expansion.beside es e) x f closed behind first = absurd f
  full roles recs bare outer caller all rel (expansion.call p i e g) x f closed behind first =
      full p.roles [] [] (recs ++ outer) all all (inr (refl, refl)) e x.1 x.0.0 (λ n j. absurd j)
      (full roles recs [] outer caller [] (inl refl) g x.2 f.1 closed behind (λ z. behind)) (λ z. absurd (x.0.1 z))

  all_full : {parts : List Part} {st : Stands} {bs cs : Bodies} (roles : ℕ) (recs bare outer caller all : Names) → AreBare recs bare caller all → (es : AllExpand parts st bs cs) → AllEnterFull es
      → AreFilled roles recs bare bs → AreFull (recs ++ outer) all cs
  all_full roles recs bare outer caller all rel expansion.no_more x f = absurd f
  all_full roles recs bare outer caller all rel (expansion.one_more e es) x f =
      (not_empty e x.0 f.0, full roles recs bare outer caller all rel e x.0 f.1 (λ n i. tt) tt (λ z. tt), others_full roles recs bare outer caller all rel es x.1 f.2)

  others_full : {parts : List Part} {st : Stands} {bs cs : Bodies} (roles : ℕ) (recs bare outer caller all : Names) → AreBare recs bare caller all → (es : AllExpand parts st bs cs) → AllEnterFull es
      → OthersFilled roles recs bare bs → OthersFull (recs ++ outer) all cs
  others_full roles recs bare outer caller all rel expansion.no_more x f = tt
  others_full roles recs bare outer caller all rel (expansion.one_more e es) x f =
      (not_empty e x.0 f.0, full roles recs bare outer caller all rel e x.0 f.1 (λ n i. tt) tt (λ z. tt), others_full roles recs bare outer caller all rel es x.1 f.2)

-- ---- a text's own block

pub filled_text : (roles : ℕ) (b : Body) → IsFilled roles [] [] b → IsFilledText roles b
filled_text roles End f = tt
filled_text roles (Single label sorts s r p rest) f = filled_text roles rest f
filled_text roles (Choose s bs rest) f = (f.0, filled_text roles rest f.1)
filled_text roles (Loop name body rest) f = (f.0, f.1, filled_text roles rest f.2)
filled_text roles (Again name rest) f = absurd f.0
filled_text roles (Parallel bs rest) f = absurd f
filled_text roles (Call name rs rest) f = (f.0, filled_text roles rest f.1)

pub text_full : {parts : List Part} {st : Stands} {b next w : Body} (roles : ℕ) (e : Expands parts st b next w) → EntersFull e → IsFilledText roles b → IsFullText next → IsFullText w
text_full roles expansion.at_end x f g = g
text_full roles (expansion.message q e) x f g = text_full roles e x f g
text_full roles (expansion.choice es e) x f g = (all_full roles [] [] [] [] [] (inl refl) es x.0 f.0, text_full roles e x.1 f.1 g)
text_full roles (expansion.loop {name = name} e h) x f g =
    (not_empty e x.0 f.0, full roles (name ∷ []) (name ∷ []) [] [] (name ∷ []) (inl refl) e x.0 f.1 (λ n i. tt) tt (λ z. tt), text_full roles h x.1 f.2 g)
text_full roles (expansion.again e) x f g = absurd f
text_full roles (expansion.beside es e) x f g = (all_full roles [] [] [] [] [] (inl refl) es x.0 f.0, text_full roles e x.1 f.2 g)
text_full roles (expansion.call p i e h) x f g = text_full p.roles e x.1 (filled_text p.roles p.body x.0.0) (text_full roles h x.2 f.1 g)

-- ---- no role stands in two blocks of a par

blocks_apart : {parts : List Part} {st : Stands} {bs cs : Bodies} (n roles : ℕ) → PartsFit parts → StandWell st n roles → AllExpand parts st bs cs → AllFit parts n bs → ShareNoRole bs → AreApart cs
blocks_apart n roles all well expansion.no_more f share = tt
blocks_apart {parts} {st} n roles all well (expansion.one_more {b = b} {c = c} {bs = bs} {cs = cs} e es) f share = (apart, blocks_apart n roles all well es f.1 share.1)
  where
    apart : (r : ℕ) → HasEndOf r (singles c) → HasEndOf r (singles_of cs) → ⊥
    apart r h k =
        let y = end_from_some n r all es f.1 k in
        let x : ((q : ℕ) × HasRole q b × (st q ≡ r)) ⊎ ⊥ = end_from n r all e f.0 h in
        go y.0 y.1 y.2 x
      where
        go : (q : ℕ) → SomeHasRole q bs → st q ≡ r → ((q : ℕ) × HasRole q b × (st q ≡ r)) ⊎ ⊥ → ⊥
        go q i same (inl x) =
            let one : x.0 ≡ q = well.differ x.0 q (role_inside parts n x.0 b f.0 x.1) (role_inside_of parts n q bs f.1 i) (x.2 ∙ sym same) in
            share.0 q (subst (λ z. HasRole z b) one x.1) i
        go q i same (inr x) = x

pub text_apart : {parts : List Part} {st : Stands} {b next w : Body} (n roles : ℕ) → PartsFit parts → StandWell st n roles → (e : Expands parts st b next w) → EntersFull e → Fits parts n b
    → IsFilledText n b → HasLanesApart next → HasLanesApart w
text_apart n roles all well expansion.at_end x f g h = h
text_apart n roles all well (expansion.message q e) x f g h = text_apart n roles all well e x f.1 g h
text_apart n roles all well (expansion.choice es e) x f g h = text_apart n roles all well e x.1 f.2 g.1 h
text_apart n roles all well (expansion.loop e k) x f g h = text_apart n roles all well k x.1 f.1 g.2 h
text_apart n roles all well (expansion.again e) x f g h = absurd g
text_apart n roles all well (expansion.beside es e) x f g h = (blocks_apart n roles all well es f.0 g.1, text_apart n roles all well e x.1 f.1 g.2 h)
text_apart {parts} {st} n roles all well (expansion.call {roles = rs} p i e k) x f g h =
    text_apart p.roles roles all (called_well st n roles p.roles rs well f.0.0 (f.0.1 p i)) e x.1 (all i.0 p i.2) (filled_text p.roles p.body x.0.0)
    (text_apart n roles all well k x.2 f.1 g.1 h)
