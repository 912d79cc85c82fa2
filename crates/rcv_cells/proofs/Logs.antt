-- The logs of cells in a list.
use Rattle.std.proofs.Common.{◌≡◌, ℕ, zero, suc, ◌+◌, ◌<◌, ◌≤◌, List, [], ◌∷◌, ◌++◌, length, map, take, refl, sym, ◌∙◌, ap, arith}
use Rattle.std.specs.Prelude.{slice_index_or, slice_set}
use Rattle.std.proofs.lemmas.List.{length-set}
use denote.Ref.{Bor}
use Rattle.rcv_tree.specs.declared.entry.Timed.{Timed}
use Rattle.rcv_merge.specs.Merge.{lent_logs}
use Rattle.rcv_role.specs.Cell.{CellView}
use Rattle.rcv_cells.specs.Home.{logs_in}

take_set : {A : Type 0} (xs : List A) (k : ℕ) (x : A) → k < length xs → take (suc k) (slice_set xs k x) ≡ take k xs ++ x ∷ []
take_set [] k x lt = absurd (omega (arith, lt))
take_set (y ∷ xs) zero x lt = refl
take_set (y ∷ xs) (suc k) x lt = ap (λ l. y ∷ l) (take_set xs k x (omega (arith, lt)))

take_more : (xs : List CellView) (k : ℕ) (x : CellView) → k < length xs → x ≡ slice_index_or xs k x → take (suc k) xs ≡ take k xs ++ x ∷ []
take_more [] k x lt e = absurd (omega (arith, lt))
take_more (y ∷ xs) zero x lt e = ap (λ z. z ∷ []) (sym e)
take_more (y ∷ xs) (suc k) x lt e = ap (λ l. y ∷ l) (take_more xs k x (omega (arith, lt)) e)

map_join : {A B : Type 0} (f : A → B) (xs ys : List A) → map f (xs ++ ys) ≡ map f xs ++ map f ys
map_join f [] ys = refl
map_join f (x ∷ xs) ys = ap (λ l. f x ∷ l) (map_join f xs ys)

plus : (k : ℕ) → k + 1 ≡ suc k
plus k = omega arith

pub one_log_more : (lanes : List CellView) (logs : List (Bor (List Timed))) (k : ℕ) (log : Bor (List Timed)) (cell : CellView) → k < length lanes → length lanes ≤ 8 → (length logs ≡ 8) × (lent_logs (take k logs) ≡ logs_in (take k lanes)) → cell ≡ slice_index_or lanes k cell → log.now ≡ cell.part.log → (length (slice_set logs k log) ≡ 8) × (lent_logs (take (k + 1) (slice_set logs k log)) ≡ logs_in (take (k + 1) lanes))
one_log_more lanes logs k log cell lt few so is same = (
  length-set logs k log ∙ so.0,
  ap (λ n. lent_logs (take n (slice_set logs k log))) (plus k)
      ∙ ap lent_logs (take_set logs k log (let c = so.0 in omega (arith, lt, few, c)))
      ∙ map_join (λ (l : Bor (List Timed)). l.now) (take k logs) (log ∷ [])
      ∙ ap (λ l. l ++ log.now ∷ []) so.1
      ∙ ap (λ x. logs_in (take k lanes) ++ x ∷ []) same
      ∙ sym (map_join (λ (c : CellView). c.part.log) (take k lanes) (cell ∷ []))
      ∙ sym (ap logs_in (take_more lanes k cell lt is))
      ∙ ap (λ n. logs_in (take n lanes)) (sym (plus k)),
)
