-- Roles of an expansion: what stands for them is declared, and two roles stand for two.
use Rattle.std.proofs.Common.{◌≡◌, ℕ, zero, suc, ◌<◌, Some, List, [], ◌∷◌, ◌++◌, length, get_or, refl, sym, ap, subst, ◌⊎◌, inl, inr, ⊎_elim, arith}
use Rattle.std.specs.Prelude.{slice_get}
use Rattle.std.specs.List.{AllByRecursion}
use Rattle.rcv_tree.specs.Words.{IsWord}
use Rattle.rcv_model.specs.Text.{Body, End, Single, Choose, Loop, Again, Parallel, Call, Bodies, NoMore, Or}
use Rattle.rcv_model.specs.Net.{IsIn}
use Rattle.rcv_model.specs.Form.{HaveEnds, HaveSubjects, HaveSubjectsIn}
use Rattle.rcv_model.specs.Places.{SingleMessage, singles, singles_of, HasEndOf}
use Rattle.rcv_module.specs.Parts.{Part, IsNamed}
use Rattle.rcv_module.specs.Form.{AreArguments, HasRole, SomeHasRole}
use Rattle.rcv_module.specs.Expansion as expansion
use Rattle.rcv_module.specs.Expansion.{Stands, called_with, Expands, AllExpand}

-- Ends, subjects and arguments of a text are among so many roles, ends and arguments differ, as many arguments stand in a
-- call as the protocol has roles, and labels are words.
abbrev mutual
  pub Fits : List Part → ℕ → Body → Type 0
  Fits parts n End = Unit {0}
  Fits parts n (Single label sorts s r p rest) = (IsWord label × (s < n) × (r < n) × (s ≡ r → ⊥)) × Fits parts n rest
  Fits parts n (Choose s bs rest) = (s < n) × AllFit parts n bs × Fits parts n rest
  Fits parts n (Loop name body rest) = Fits parts n body × Fits parts n rest
  Fits parts n (Again name rest) = Fits parts n rest
  Fits parts n (Parallel bs rest) = AllFit parts n bs × Fits parts n rest
  Fits parts n (Call name rs rest) = (AreArguments n rs × ((q : Part) → IsNamed parts name q → length rs ≡ q.roles)) × Fits parts n rest

  pub AllFit : List Part → ℕ → Bodies → Type 0
  AllFit parts n NoMore = Unit {0}
  AllFit parts n (Or b bs) = Fits parts n b × AllFit parts n bs

-- Each protocol's text fits.
abbrev pub PartsFit : List Part → Type 0
PartsFit parts = (i : ℕ) (p : Part) → slice_get parts i ≡ Some p → Fits parts p.roles p.body

-- So many roles stand for roles of so many, and two for two.
pub record StandWell (st : Stands) (n roles : ℕ) : Type 0 where
  pub inside : (r : ℕ) → r < n → st r < roles
  pub differ : (r q : ℕ) → r < n → q < n → st r ≡ st q → r ≡ q

argument_inside : (n i : ℕ) (rs : List ℕ) → AreArguments n rs → i < length rs → get_or rs i 0 < n
argument_inside n i [] a lt = absurd (omega (arith, lt))
argument_inside n zero (r ∷ rs) a lt = a.0
argument_inside n (suc i) (r ∷ rs) a lt = argument_inside n i rs a.2 (omega (arith, lt))

pub argument_in : (i : ℕ) (rs : List ℕ) → i < length rs → IsIn (get_or rs i 0) rs
argument_in i [] lt = absurd (omega (arith, lt))
argument_in zero (r ∷ rs) lt = inl refl
argument_in (suc i) (r ∷ rs) lt = inr (argument_in i rs (omega (arith, lt)))

arguments_differ : (n i j : ℕ) (rs : List ℕ) → AreArguments n rs → i < length rs → j < length rs → get_or rs i 0 ≡ get_or rs j 0 → i ≡ j
arguments_differ n i j [] a p q e = absurd (omega (arith, p))
arguments_differ n zero zero (r ∷ rs) a p q e = refl
arguments_differ n zero (suc j) (r ∷ rs) a p q e = absurd (a.1 (subst (λ x. IsIn x rs) (sym e) (argument_in j rs (omega (arith, q)))))
arguments_differ n (suc i) zero (r ∷ rs) a p q e = absurd (a.1 (subst (λ x. IsIn x rs) e (argument_in i rs (omega (arith, p)))))
arguments_differ n (suc i) (suc j) (r ∷ rs) a p q e = ap suc (arguments_differ n i j rs a.2 (omega (arith, p)) (omega (arith, q)) e)

pub called_well : (st : Stands) (n roles count : ℕ) (rs : List ℕ) → StandWell st n roles → AreArguments n rs → length rs ≡ count → StandWell (called_with st rs) count roles
called_well st n roles count rs w a e = record {
  inside = λ r lt. w.inside (get_or rs r 0) (argument_inside n r rs a (omega (arith, lt, e)));
  differ = λ r q lt lq same. arguments_differ n r q rs a (omega (arith, lt, e)) (omega (arith, lq, e))
      (w.differ (get_or rs r 0) (get_or rs q 0) (argument_inside n r rs a (omega (arith, lt, e))) (argument_inside n q rs a (omega (arith, lq, e))) same);
}

-- An expansion fits.
mutual
  pub expands_fit : {parts : List Part} {st : Stands} {b next w : Body} (n roles : ℕ) → PartsFit parts → StandWell st n roles → Expands parts st b next w → Fits parts n b → Fits parts roles next → Fits parts roles w
  expands_fit n roles all well expansion.at_end f g = g
  expands_fit n roles all well (expansion.message {s = s} {r = r} q e) f g =
      ((f.0.0, well.inside s f.0.1, well.inside r f.0.2, λ same. f.0.3 (well.differ s r f.0.1 f.0.2 same)), expands_fit n roles all well e f.1 g)
  expands_fit n roles all well (expansion.choice {s = s} es e) f g = (well.inside s f.0, all_expand_fit n roles all well es f.1, expands_fit n roles all well e f.2 g)
  expands_fit n roles all well (expansion.loop e x) f g = (expands_fit n roles all well e f.0 tt, expands_fit n roles all well x f.1 g)
  expands_fit n roles all well (expansion.again e) f g = expands_fit n roles all well e f g
  expands_fit n roles all well (expansion.beside es e) f g = (all_expand_fit n roles all well es f.0, expands_fit n roles all well e f.1 g)
  expands_fit {parts} {st} n roles all well (expansion.call {roles = rs} p i e x) f g =
      expands_fit p.roles roles all (called_well st n roles p.roles rs well f.0.0 (f.0.1 p i)) e (all i.0 p i.2) (expands_fit n roles all well x f.1 g)

  all_expand_fit : {parts : List Part} {st : Stands} {bs cs : Bodies} (n roles : ℕ) → PartsFit parts → StandWell st n roles → AllExpand parts st bs cs → AllFit parts n bs → AllFit parts roles cs
  all_expand_fit n roles all well expansion.no_more f = tt
  all_expand_fit n roles all well (expansion.one_more e es) f = (expands_fit n roles all well e f.0 tt, all_expand_fit n roles all well es f.1)

-- ---- to the form of a protocol, and from it

abbrev pub AreWords : List (ℕ × SingleMessage) → Type 0
AreWords es = AllByRecursion (λ m. IsWord m.1.label) es

ends_both : (n : ℕ) (xs ys : List (ℕ × SingleMessage)) → HaveEnds n xs → HaveEnds n ys → HaveEnds n (xs ++ ys)
ends_both n [] ys a b = b
ends_both n (x ∷ xs) ys a b = (a.0, a.1, a.2, ends_both n xs ys a.3 b)

words_both : (xs ys : List (ℕ × SingleMessage)) → AreWords xs → AreWords ys → AreWords (xs ++ ys)
words_both [] ys a b = b
words_both (x ∷ xs) ys a b = (a.0, words_both xs ys a.1 b)

mutual
  pub fit_ends : (parts : List Part) (n : ℕ) (b : Body) → Fits parts n b → HaveEnds n (singles b)
  fit_ends parts n End f = tt
  fit_ends parts n (Single label sorts s r p rest) f = (f.0.1, f.0.2, f.0.3, fit_ends parts n rest f.1)
  fit_ends parts n (Choose s bs rest) f = ends_both n (singles_of bs) (singles rest) (fit_ends_of parts n bs f.1) (fit_ends parts n rest f.2)
  fit_ends parts n (Loop name body rest) f = ends_both n (singles body) (singles rest) (fit_ends parts n body f.0) (fit_ends parts n rest f.1)
  fit_ends parts n (Again name rest) f = fit_ends parts n rest f
  fit_ends parts n (Parallel bs rest) f = ends_both n (singles_of bs) (singles rest) (fit_ends_of parts n bs f.0) (fit_ends parts n rest f.1)
  fit_ends parts n (Call name rs rest) f = fit_ends parts n rest f.1

  fit_ends_of : (parts : List Part) (n : ℕ) (bs : Bodies) → AllFit parts n bs → HaveEnds n (singles_of bs)
  fit_ends_of parts n NoMore f = tt
  fit_ends_of parts n (Or b bs) f = ends_both n (singles b) (singles_of bs) (fit_ends parts n b f.0) (fit_ends_of parts n bs f.1)

mutual
  pub fit_words : (parts : List Part) (n : ℕ) (b : Body) → Fits parts n b → AreWords (singles b)
  fit_words parts n End f = tt
  fit_words parts n (Single label sorts s r p rest) f = (f.0.0, fit_words parts n rest f.1)
  fit_words parts n (Choose s bs rest) f = words_both (singles_of bs) (singles rest) (fit_words_of parts n bs f.1) (fit_words parts n rest f.2)
  fit_words parts n (Loop name body rest) f = words_both (singles body) (singles rest) (fit_words parts n body f.0) (fit_words parts n rest f.1)
  fit_words parts n (Again name rest) f = fit_words parts n rest f
  fit_words parts n (Parallel bs rest) f = words_both (singles_of bs) (singles rest) (fit_words_of parts n bs f.0) (fit_words parts n rest f.1)
  fit_words parts n (Call name rs rest) f = fit_words parts n rest f.1

  fit_words_of : (parts : List Part) (n : ℕ) (bs : Bodies) → AllFit parts n bs → AreWords (singles_of bs)
  fit_words_of parts n NoMore f = tt
  fit_words_of parts n (Or b bs) f = words_both (singles b) (singles_of bs) (fit_words parts n b f.0) (fit_words_of parts n bs f.1)

mutual
  pub fit_subjects : (parts : List Part) (n : ℕ) (b : Body) → Fits parts n b → HaveSubjects n b
  fit_subjects parts n End f = tt
  fit_subjects parts n (Single label sorts s r p rest) f = fit_subjects parts n rest f.1
  fit_subjects parts n (Choose s bs rest) f = (f.0, fit_subjects_of parts n bs f.1, fit_subjects parts n rest f.2)
  fit_subjects parts n (Loop name body rest) f = (fit_subjects parts n body f.0, fit_subjects parts n rest f.1)
  fit_subjects parts n (Again name rest) f = fit_subjects parts n rest f
  fit_subjects parts n (Parallel bs rest) f = (fit_subjects_of parts n bs f.0, fit_subjects parts n rest f.1)
  fit_subjects parts n (Call name rs rest) f = fit_subjects parts n rest f.1

  fit_subjects_of : (parts : List Part) (n : ℕ) (bs : Bodies) → AllFit parts n bs → HaveSubjectsIn n bs
  fit_subjects_of parts n NoMore f = tt
  fit_subjects_of parts n (Or b bs) f = (fit_subjects parts n b f.0, fit_subjects_of parts n bs f.1)

-- ---- roles

-- roles of a text that fits are among so many
mutual
  pub role_inside : (parts : List Part) (n r : ℕ) (b : Body) → Fits parts n b → HasRole r b → r < n
  role_inside parts n r End f h = absurd h
  role_inside parts n r (Single label sorts s t p rest) f (inl (inl e)) = subst (λ x. x < n) e f.0.1
  role_inside parts n r (Single label sorts s t p rest) f (inl (inr e)) = subst (λ x. x < n) e f.0.2
  role_inside parts n r (Single label sorts s t p rest) f (inr h) = role_inside parts n r rest f.1 h
  role_inside parts n r (Choose s bs rest) f (inl h) = role_inside_of parts n r bs f.1 h
  role_inside parts n r (Choose s bs rest) f (inr h) = role_inside parts n r rest f.2 h
  role_inside parts n r (Loop name body rest) f (inl h) = role_inside parts n r body f.0 h
  role_inside parts n r (Loop name body rest) f (inr h) = role_inside parts n r rest f.1 h
  role_inside parts n r (Again name rest) f h = role_inside parts n r rest f h
  role_inside parts n r (Parallel bs rest) f (inl h) = role_inside_of parts n r bs f.0 h
  role_inside parts n r (Parallel bs rest) f (inr h) = role_inside parts n r rest f.1 h
  role_inside parts n r (Call name rs rest) f (inl h) = within rs f.0.0 h
    where
      within : (rs : List ℕ) → AreArguments n rs → IsIn r rs → r < n
      within [] a i = absurd i
      within (x ∷ rs) a (inl e) = subst (λ y. y < n) (sym e) a.0
      within (x ∷ rs) a (inr i) = within rs a.2 i
  role_inside parts n r (Call name rs rest) f (inr h) = role_inside parts n r rest f.1 h

  pub role_inside_of : (parts : List Part) (n r : ℕ) (bs : Bodies) → AllFit parts n bs → SomeHasRole r bs → r < n
  role_inside_of parts n r NoMore f h = absurd h
  role_inside_of parts n r (Or b bs) f (inl h) = role_inside parts n r b f.0 h
  role_inside_of parts n r (Or b bs) f (inr h) = role_inside_of parts n r bs f.1 h

end_split : (r : ℕ) (xs ys : List (ℕ × SingleMessage)) → HasEndOf r (xs ++ ys) → HasEndOf r xs ⊎ HasEndOf r ys
end_split r [] ys h = inr h
end_split r (x ∷ xs) ys (inl h) = inl (inl h)
end_split r (x ∷ xs) ys (inr h) = ⊎_elim (λ a. inl (inr a)) (λ b. inr b) (end_split r xs ys h)

-- An end of an expansion is what a role of the text stands for, or an end of what follows.
abbrev pub ComesFrom : Stands → ℕ → Body → Type 0
ComesFrom st r b = (q : ℕ) × HasRole q b × (st q ≡ r)

abbrev pub ComesFromSome : Stands → ℕ → Bodies → Type 0
ComesFromSome st r bs = (q : ℕ) × SomeHasRole q bs × (st q ≡ r)

mutual
  pub end_from : {parts : List Part} {st : Stands} {b next w : Body} (n r : ℕ) → PartsFit parts → Expands parts st b next w → Fits parts n b → HasEndOf r (singles w) → ComesFrom st r b ⊎ HasEndOf r (singles next)
  end_from n r all expansion.at_end f h = inr h
  end_from n r all (expansion.message {s = s} {r = t} q e) f (inl (inl h)) = inl (s, inl (inl refl), h)
  end_from n r all (expansion.message {s = s} {r = t} q e) f (inl (inr h)) = inl (t, inl (inr refl), h)
  end_from n r all (expansion.message q e) f (inr h) = ⊎_elim (λ a. inl (a.0, inr a.1, a.2)) (λ b. inr b) (end_from n r all e f.1 h)
  end_from n r all (expansion.choice {whole = whole} {cs = cs} es e) f h = ⊎_elim
      (λ x. let a = end_from_some n r all es f.1 x in inl (a.0, inl a.1, a.2))
      (λ y. ⊎_elim (λ a. inl (a.0, inr a.1, a.2)) (λ b. inr b) (end_from n r all e f.2 y))
      (end_split r (singles_of cs) (singles whole) h)
  end_from n r all (expansion.loop {whole = whole} {inner = inner} e x) f h = ⊎_elim
      (λ y. ⊎_elim (λ a. inl (a.0, inl a.1, a.2)) (λ b. absurd b) (end_from n r all e f.0 y))
      (λ y. ⊎_elim (λ a. inl (a.0, inr a.1, a.2)) (λ b. inr b) (end_from n r all x f.1 y))
      (end_split r (singles inner) (singles whole) h)
  end_from n r all (expansion.again e) f h = end_from n r all e f h
  end_from n r all (expansion.beside {whole = whole} {cs = cs} es e) f h = ⊎_elim
      (λ x. let a = end_from_some n r all es f.0 x in inl (a.0, inl a.1, a.2))
      (λ y. ⊎_elim (λ a. inl (a.0, inr a.1, a.2)) (λ b. inr b) (end_from n r all e f.1 y))
      (end_split r (singles_of cs) (singles whole) h)
  end_from {parts} n r all (expansion.call {roles = rs} p i e x) f h = ⊎_elim
      (λ a.
      let lt : a.0 < length rs = subst (λ k. a.0 < k) (sym (f.0.1 p i)) (role_inside parts p.roles a.0 p.body (all i.0 p i.2) a.1) in
      inl (get_or rs a.0 0, inl (argument_in a.0 rs lt), a.2))
      (λ y. ⊎_elim (λ a. inl (a.0, inr a.1, a.2)) (λ b. inr b) (end_from n r all x f.1 y))
      (end_from p.roles r all e (all i.0 p i.2) h)

  pub end_from_some : {parts : List Part} {st : Stands} {bs cs : Bodies} (n r : ℕ) → PartsFit parts → AllExpand parts st bs cs → AllFit parts n bs → HasEndOf r (singles_of cs) → ComesFromSome st r bs
  end_from_some n r all expansion.no_more f h = absurd h
  end_from_some n r all (expansion.one_more {c = c} {cs = cs} e es) f h = ⊎_elim
      (λ x. ⊎_elim (λ a. (a.0, inl a.1, a.2)) (λ b. absurd b) (end_from n r all e f.0 x))
      (λ y. let a = end_from_some n r all es f.1 y in (a.0, inr a.1, a.2))
      (end_split r (singles c) (singles_of cs) h)
