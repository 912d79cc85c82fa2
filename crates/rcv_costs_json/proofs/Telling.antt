-- The value tells what the costs say.
use Rattle.std.proofs.Common.{◌≡◌, ℕ, Option, None, Some, List, [], ◌∷◌, map, refl, ap₂}
use Rattle.serde_json.specs.View.{items_of}
use Rattle.rcv_session.specs.Session.{SessionView}
use Rattle.rcv_journal.specs.JournalText.{name_of}
use Rattle.rcv_export.specs.Pieces.{ascii_of}
use Rattle.rcv_costs.specs.declared.numbers.Cost.{Cost}
use Rattle.rcv_costs.specs.declared.numbers.Costs.{Costs}
use Rattle.rcv_costs_json.specs.CostsJson.{label_data, failure_data, costs_data}
use Rattle.rcv_costs_json.specs.Told.{Told, told, label_of}
use Rattle.rcv_costs_json.specs.Laws.{ValuesTellCosts}

module _ (session : SessionView) where
  label_told : (o p : Option ℕ) → label_data session o ≡ label_data session p → label_of session o ≡ label_of session p
  label_told None None e = refl
  label_told None (Some q) e = absurd cc
  label_told (Some p) None e = absurd cc
  label_told (Some p) (Some q) e = cc

  one_told : (x y : Cost) → failure_data session x ≡ failure_data session y → told session x ≡ told session y
  one_told x y e =
      let after : label_data session x.before ≡ label_data session y.before = cc in
      let before : label_data session x.after ≡ label_data session y.after = cc in
      let role : ascii_of (name_of session x.role) ≡ ascii_of (name_of session y.role) = cc in
      let count : x.count ≡ y.count = cc in
      let lost : x.lost ≡ y.lost = cc in
      let undone : x.undone ≡ y.undone = cc in
      let kept : x.kept ≡ y.kept = cc in
      let again : x.again ≡ y.again = cc in
      let last : label_of session x.before ≡ label_of session y.before = label_told x.before y.before after in
      let next : label_of session x.after ≡ label_of session y.after = label_told x.after y.after before in
      cc

  all_told : (xs ys : List Cost) → items_of (map (failure_data session) xs) ≡ items_of (map (failure_data session) ys) → map (told session) xs ≡ map (told session) ys
  all_told [] [] e = refl
  all_told [] (y ∷ ys) e = absurd cc
  all_told (x ∷ xs) [] e = absurd cc
  all_told (x ∷ xs) (y ∷ ys) e =
      let here : failure_data session x ≡ failure_data session y = cc in
      let rest : items_of (map (failure_data session) xs) ≡ items_of (map (failure_data session) ys) = cc in
      ap₂ (λ (t : Told) (ts : List Told). t ∷ ts) (one_told x y here) (all_told xs ys rest)

  list_told : (a b : Costs) → costs_data session a ≡ costs_data session b → items_of (map (failure_data session) a.list.items) ≡ items_of (map (failure_data session) b.list.items)
  list_told a b e = cc

  step_told : (a b : Costs) → costs_data session a ≡ costs_data session b → a.step ≡ b.step
  step_told a b e = cc

pub values_tell : ValuesTellCosts
values_tell = record {
  step = step_told;
  each = λ session a b e. all_told session a.list.items b.list.items (list_told session a b e);
}
