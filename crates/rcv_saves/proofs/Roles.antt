-- The lists that the code holds, of which one has changed.
use Prim.Native.Nat.{zero, suc}
use Rattle.std.proofs.Common.{◌≡◌, ℕ, ◌<◌, List, [], ◌∷◌, length, length-set, refl, sym, ◌∙◌, ap, subst, ⊎_elim, arith}
use Rattle.std.specs.Prelude.{slice_index, slice_index_or, slice_set}
use Rattle.std.specs.Prelude.{OnErr}
use Rattle.std.specs.declared.result.Result.TheVariants.{Ok, Err}
use Rattle.std.specs.declared.result.Result.{Result}
use Rattle.std.specs.declared.alloc.Global.{Global}
use Rattle.std.specs.declared.vec.Vec.{Vec}
use Rattle.std.proofs.lemmas.Bool.{cases_eq}
use Rattle.std.proofs.lemmas.Grind.{get_or-set_at}
use Rattle.std.proofs.lemmas.List.{get_or_default, get_or-map, map-set, length-map, get_or-set_other}
use Rattle.rcv_saves.specs.Counts.{IsAscending}
use Rattle.rcv_tree.specs.Lists.{lists_in}
use Rattle.rcv_saves.specs.Saves.{SavesView, saves_of, told_of, with_told, AreSaves}

pub on_err_weaker : {T E P Q : Type 0} (r : Result T E) → (P → Q) → OnErr r P → OnErr r Q
on_err_weaker (Ok x) f p = tt
on_err_weaker (Err x) f p = f p

set_back : {A : Type 0} (xs : List A) (i : ℕ) (d : A) → slice_set xs i (slice_index_or xs i d) ≡ xs
set_back [] i d = refl
set_back (x ∷ xs) zero d = refl
set_back (x ∷ xs) (suc i) d = ap (λ l. x ∷ l) (set_back xs i d)

-- Saves as the fields show them, and a role of them.
module _ (steps : List ℕ) (xs : List (Vec ℕ Global)) (seen : SavesView) (view : saves_of steps (lists_in xs) ≡ seen) (are : AreSaves (saves_of steps (lists_in xs))) (r : ℕ) (lt : r < length seen.steps) where
  pub in_lists : r < length (lists_in xs)
  in_lists = let a = are.all in let n = ap (λ (s : SavesView). length s.steps) view in omega (arith, a, n, lt)

  pub in_code : r < length xs
  in_code = let a = in_lists in let n = length-map xs (λ (v : Vec ℕ Global). v.items) in omega (arith, a, n)

  pub in_steps : r < length steps
  in_steps = let n = ap (λ (s : SavesView). length s.steps) view in omega (arith, n, lt)

  pub step_seen : (s : ℕ) → s ≡ slice_index_or steps r s → s ≡ slice_index seen.steps r
  step_seen s is = is ∙ get_or_default steps r s 0 in_steps ∙ ap (λ (v : SavesView). slice_index v.steps r) view

  module _ (w : Vec ℕ Global) (is : w ≡ slice_index_or xs r w) where
    pub own : w.items ≡ told_of (saves_of steps (lists_in xs)) r
    own = ap (λ (v : Vec ℕ Global). v.items) is ∙ sym (get_or-map (λ (v : Vec ℕ Global). v.items) xs r w [] in_code)

    pub own_seen : w.items ≡ told_of seen r
    own_seen = own ∙ ap (λ (s : SavesView). told_of s r) view

    pub own_ascends : IsAscending w.items
    own_ascends = subst IsAscending (sym own) (are.ascending r)

    -- This list took the place of its own.
    module _ (v : Vec ℕ Global) where
      pub now : lists_in (slice_set xs r v) ≡ slice_set (lists_in xs) r v.items
      now = map-set (λ (v : Vec ℕ Global). v.items) xs r v

      pub still_saves : IsAscending v.items → AreSaves (saves_of steps (lists_in (slice_set xs r v)))
      still_saves up = subst (λ l. AreSaves (saves_of steps l)) (sym now) (record { all = length-set (lists_in xs) r v.items ∙ are.all; ascending = each })
        where
          each : (q : ℕ) → IsAscending (told_of (saves_of steps (slice_set (lists_in xs) r v.items)) q)
          each q = ⊎_elim
              (λ e. subst IsAscending (sym (get_or-set_at (lists_in xs) r q v.items [] e in_lists)) up)
              (λ ne. subst IsAscending (sym (get_or-set_other (lists_in xs) r q v.items [] ne)) (are.ascending q))
              (cases_eq q r)

      pub seen_now : (f : List ℕ → List ℕ) → v.items ≡ f w.items → saves_of steps (lists_in (slice_set xs r v)) ≡ with_told seen r (f (told_of seen r))
      seen_now f e =
          ap (saves_of steps) (now ∙ ap (slice_set (lists_in xs) r) (e ∙ ap f own))
          ∙ ap (λ (s : SavesView). with_told s r (f (told_of s r))) view

      pub seen_same : v.items ≡ w.items → saves_of steps (lists_in (slice_set xs r v)) ≡ seen
      seen_same e = ap (saves_of steps) (now ∙ ap (slice_set (lists_in xs) r) (e ∙ own) ∙ set_back (lists_in xs) r []) ∙ view
