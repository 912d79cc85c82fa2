-- The items of a plan that was read are read without its crash lines: the reader goes over both lists of items at once,
-- and knows the same of them but for the crash lines.
use Rattle.std.proofs.Common.{◌≡◌, ℕ, Bool, true, false, cond, List, [], ◌∷◌, ◌++◌, refl, sym, ap, subst, ◌∙◌}
use Rattle.rcv_model.specs.Plan.{PlanLine}
use Rattle.rcv_plan.specs.Symbols.{Symbol}
use Rattle.rcv_plan.specs.Grammar.{Written, WrittenEvery, WrittenCrash, WrittenLimit, WrittenRoom, WrittenHost, item_text, plan_text}
use Rattle.rcv_plan.specs.Refusing.{IsRead}
use Rattle.rcv_plan.specs.Items.{KnownView, Step, Takes, Stops, next_item}
use Rattle.rcv_plan.proofs.Exactly.{SoFar, begin, one_more, done, stop}
use Rattle.rcv_plan.proofs.Once.{plans_have_one_answer}
use Rattle.rcv_transparent.specs.Calm.{without_crash_lines}
use Rattle.rcv_calm.specs.Without.{is_calm_item, without_crash_items}
use Rattle.rcv_calm.specs.Laws.{PlansWithoutCrashLinesAreRead}
use Rattle.rcv_calm.proofs.Calming.{known_of, calmed, then_calm, item_calm, item_leaves}
use Rattle.rcv_calm.proofs.Following.{Follows, item_follows}

some_text : (w : Written) (ts : List Symbol) → item_text w ++ ts ≡ [] → ⊥
some_text (WrittenEvery r n) ts e = cc
some_text (WrittenCrash r n) ts e = cc
some_text (WrittenLimit n) ts e = cc
some_text (WrittenRoom n) ts e = cc
some_text (WrittenHost h a b qs) ts e = cc

module _ (roles : List (List ℕ)) (symbols others : List Symbol) (lines : List PlanLine) (read : IsRead roles symbols lines) where
  -- behind the items so far, those without the crash lines are read as the other lines
  abbrev Both : List Written → KnownView → Type 0
  Both ws k = SoFar roles symbols (plan_text ws) k × SoFar roles others (plan_text (without_crash_items ws)) (calmed k)

  over : (k : KnownView) → Both [] k → IsRead roles others (without_crash_lines lines)
  over k both =
      let all : k.lines ≡ lines = plans_have_one_answer.lines roles symbols k.lines lines (done roles symbols [] k both.0 refl) read in
      subst (λ (l : List PlanLine). IsRead roles others (without_crash_lines l)) all (done roles others [] (calmed k) both.1 refl)

  -- one item more
  others_more : (w : Written) (ws : List Written) (k k' : KnownView)
      → SoFar roles others (plan_text (without_crash_items (w ∷ ws))) (calmed k)
      → next_item roles k (item_text w ++ plan_text (without_crash_items ws)) ≡ Takes k' (plan_text (without_crash_items ws))
      → SoFar roles others (plan_text (without_crash_items ws)) (calmed k')
  others_more w ws k k' so_far taken = go (is_calm_item w) refl so_far
    where
      left : List Symbol
      left = plan_text (without_crash_items ws)

      go : (b : Bool) → is_calm_item w ≡ b
          → SoFar roles others (plan_text (cond b (w ∷ without_crash_items ws) (without_crash_items ws))) (calmed k)
          → SoFar roles others left (calmed k')
      go false e h = subst (SoFar roles others left) (sym (item_leaves roles k k' w left left e taken)) h
      go true e h = one_more roles others (item_text w ++ left) left (calmed k) (calmed k') h (some_text w left) (item_calm roles k w left e ∙ ap then_calm taken)

  item_more : (w : Written) (ws : List Written) (k : KnownView) → Both (w ∷ ws) k → (k' : KnownView) × Both ws k'
  item_more w ws k both = go (next_item roles k (plan_text (w ∷ ws))) refl
    where
      go : (step : Step KnownView) → next_item roles k (plan_text (w ∷ ws)) ≡ step → (k' : KnownView) × Both ws k'
      go (Stops f new) e =
          absurd (plans_have_one_answer.either roles symbols lines f new read (stop roles symbols (plan_text (w ∷ ws)) new k f both.0 (some_text w (plan_text ws)) e))
      go (Takes k' new) e =
          let follows : Follows (Takes k' new) (next_item roles k (item_text w ++ plan_text (without_crash_items ws))) (plan_text ws) (plan_text (without_crash_items ws)) =
          subst (λ (s : Step KnownView). Follows s (next_item roles k (item_text w ++ plan_text (without_crash_items ws))) (plan_text ws) (plan_text (without_crash_items ws))) e (item_follows roles k w ws (without_crash_items ws)) in (
            k',
            (
              subst (λ (left : List Symbol). SoFar roles symbols left k') follows.0 (one_more roles symbols (plan_text (w ∷ ws)) new k k' both.0 (some_text w (plan_text ws)) e),
              others_more w ws k k' both.1 follows.1,
            ),
          )

  each_item : (ws : List Written) (k : KnownView) → Both ws k → IsRead roles others (without_crash_lines lines)
  each_item [] k both = over k both
  each_item (w ∷ ws) k both = let more = item_more w ws k both in each_item ws more.0 more.1

pub read_without : PlansWithoutCrashLinesAreRead
read_without roles items lines read =
    each_item roles (plan_text items) (plan_text (without_crash_items items)) lines read items (known_of [] [])
    (begin roles (plan_text items) (known_of [] []) refl refl, begin roles (plan_text (without_crash_items items)) (known_of [] []) refl refl)
