-- The cells of two halves are those of one list, and what the halves say of them.
use Rattle.std.proofs.Common.{◌≡◌, ℕ, zero, suc, ◌<◌, true, false, Option, Some, None, List, [], ◌∷◌, length, refl, sym, ◌∙◌, ap, subst, ⊎_elim, arith}
use Rattle.std.specs.Prelude.{slice_index_or}
use Rattle.std.proofs.lemmas.Bool.{cases_Bool}
use Rattle.std.proofs.lemmas.Option.{slice_get-get_or, get_or_from_slice_get}
use Rattle.rcv_tree.specs.Bits.{has_bit}
use Rattle.rcv_tree.specs.declared.role.RoleSet.{RoleSet}
use Rattle.rcv_fence.specs.Shown.{Shown}
use Rattle.rcv_role.specs.Cell.{CellView, AreJoined}
use Rattle.rcv_core.specs.Book.{BookView}
use Rattle.rcv_cells.specs.Home.{cell_at}
use Rattle.rcv_cells.specs.Running.{Runs, RanAt, HalfHasRun}
use Rattle.rcv_rollback.specs.Halves.{Has, Lacks, AreSplit}
use Rattle.rcv_rollback.specs.Back.{HasGone, HasGoneAlone, HaveGoneBack}
use Rattle.rcv_super.proofs.Apart.{same_cell}
use Rattle.rcv_super.specs.Beside.{HaveParted}

-- what holds at the front, and behind it
at_either : {A : Type 0} (n : ℕ) (P : ℕ → A → Type 0) (x : A) (xs : List A) → P 0 x → ((r : ℕ) (d : A) → r < n → P (suc r) (slice_index_or xs r d)) → (r : ℕ) (d : A) → r < suc n → P r (slice_index_or (x ∷ xs) r d)
at_either n P x xs first rest zero d lt = first
at_either n P x xs first rest (suc r) d lt = rest r d (omega (arith, lt))

-- a list of so many elements, each of which there is
pub collected : {A : Type 0} (n : ℕ) (P : ℕ → A → Type 0) → ((r : ℕ) → r < n → (a : A) × P r a) → (xs : List A) × (length xs ≡ n) × ((r : ℕ) (d : A) → r < n → P r (slice_index_or xs r d))
collected zero P each = ([], refl, λ r d lt. absurd (omega (arith, lt)))
collected (suc n) P each =
    let first = each 0 (omega arith) in
    let rest = collected n (λ r. P (suc r)) (λ r lt. each (suc r) (omega (arith, lt))) in
    (first.0 ∷ rest.0, (let l = rest.1 in omega (arith, l)), at_either n P first.0 rest.0 first.1 rest.2)

-- the cell at a place went on, if it ran
pub ran_on : (watch : Shown) (old new : List (Option CellView)) (r : ℕ) (c : CellView) → HalfHasRun watch old new → r < length old → Has old r c → (c' : CellView) × Has new r c' × Runs watch.fence c c'
ran_on watch old new r c ran lt has =
    let at : RanAt watch.fence (Some c) (slice_index_or new r (Some c)) = subst (λ o. RanAt watch.fence o (slice_index_or new r (Some c))) (get_or_from_slice_get old r (Some c) (Some c) has) (ran.each r (Some c) lt) in
    (at.0, slice_get-get_or new r (Some c) (let n = ran.count in omega (arith, n, lt)) ∙ ap Some at.1, at.2)

pub empty_still : (watch : Shown) (old new : List (Option CellView)) (r : ℕ) → HalfHasRun watch old new → r < length old → Lacks old r → Lacks new r
empty_still watch old new r ran lt lacks =
    let at : RanAt watch.fence None (slice_index_or new r None) = subst (λ o. RanAt watch.fence o (slice_index_or new r None)) (get_or_from_slice_get old r None None lacks) (ran.each r None lt) in
    slice_get-get_or new r None (let n = ran.count in omega (arith, n, lt)) ∙ ap Some at

module _ (watch : Shown) (book : BookView) (concerned : RoleSet) (cells : List CellView) (back beside back' beside' : List (Option CellView)) (split : AreSplit concerned cells back beside) (returned : HaveGoneBack book back back') (ran : HalfHasRun watch beside beside') where
  -- the cell of each role stands in one of the halves now
  abbrev Stands : ℕ → CellView → Type 0
  Stands r c = (has_bit concerned.0 r ≡ true → Has back' r c × Lacks beside' r) × (has_bit concerned.0 r ≡ false → Lacks back' r × Has beside' r c)

  low : (r : ℕ) → r < length cells → r < length beside
  low r lt = let n = split.beside_count in omega (arith, n, lt)

  some_cell : (r : ℕ) → r < length cells → CellView
  some_cell r lt = first cells lt
    where
      first : (xs : List CellView) → r < length xs → CellView
      first [] lt = absurd (omega (arith, lt))
      first (x ∷ xs) lt = x

  stands : (r : ℕ) → r < length cells → (c : CellView) × Stands r c
  stands r lt = ⊎_elim went stayed (cases_Bool (has_bit concerned.0 r))
    where
      d : CellView
      d = some_cell r lt

      went : has_bit concerned.0 r ≡ true → (c : CellView) × Stands r c
      went t =
          let was = split.goes r d lt t in
          let is = returned.each r (cell_at cells r d) was.0 in
          (is.cell, ((λ u. (is.has, empty_still watch beside beside' r ran (low r lt) was.1)), (λ f. absurd (let g = sym t ∙ f in cc))))

      stayed : has_bit concerned.0 r ≡ false → (c : CellView) × Stands r c
      stayed f =
          let was = split.stays r d lt f in
          let is = ran_on watch beside beside' r (cell_at cells r d) ran (low r lt) was.1 in
          (is.0, ((λ t. absurd (let g = sym t ∙ f in cc)), (λ g. (returned.empty r was.0, is.1))))

  -- so they can be put together
  pub halves : (gone : List CellView) × AreSplit concerned gone back' beside'
  halves =
      let all = collected (length cells) Stands stands in
      let n = all.1 in
      let m = returned.count in
      let k = split.back_count in
      let i = ran.count in
      let j = split.beside_count in (
        all.0,
        record {
          back_count = omega (arith, n, m, k);
          beside_count = omega (arith, n, i, j);
          goes = λ r d lt t. (all.2 r d (omega (arith, lt, n))).0 t;
          stays = λ r d lt f. (all.2 r d (omega (arith, lt, n))).1 f;
        },
      )

  module _ (gone : List CellView) (united : AreSplit concerned gone back' beside') where
    same_count : length gone ≡ length cells
    same_count = let m = returned.count in let k = split.back_count in let i = united.back_count in omega (arith, m, k, i)

    within : (r : ℕ) → r < length cells → r < length gone
    within r lt = let n = same_count in omega (arith, n, lt)

    parted_back : (r : ℕ) (d : CellView) → r < length cells → has_bit concerned.0 r ≡ true → HasGone book r (cell_at cells r d) (cell_at gone r d)
    parted_back r d lt t =
        let is = returned.each r (cell_at cells r d) (split.goes r d lt t).0 in
        subst (HasGone book r (cell_at cells r d)) (same_cell back' r is.cell (cell_at gone r d) is.has (united.goes r d (within r lt) t).0) is.gone

    parted_alone : (r q : ℕ) (d : CellView) → r < length cells → q < length cells → has_bit concerned.0 r ≡ true → has_bit concerned.0 q ≡ false → HasGoneAlone r q (cell_at cells r d) (cell_at gone r d)
    parted_alone r q d lt lq t f =
        let is = returned.each r (cell_at cells r d) (split.goes r d lt t).0 in
        subst (HasGoneAlone r q (cell_at cells r d)) (same_cell back' r is.cell (cell_at gone r d) is.has (united.goes r d (within r lt) t).0) (is.alone q (split.stays q d lq f).0)

    parted_joined : (s r : ℕ) (d : CellView) → s < length cells → r < length cells → has_bit concerned.0 s ≡ true → has_bit concerned.0 r ≡ true → (s ≡ r → ⊥) → AreJoined (cell_at gone s d) (cell_at gone r d)
    parted_joined s r d ls lr t u n = returned.joined s r (cell_at gone s d) (cell_at gone r d) (united.goes s d (within s ls) t).0 (united.goes r d (within r lr) u).0 n

    parted_ran : (r : ℕ) (d : CellView) → r < length cells → has_bit concerned.0 r ≡ false → Runs watch.fence (cell_at cells r d) (cell_at gone r d)
    parted_ran r d lt f =
        let is = ran_on watch beside beside' r (cell_at cells r d) ran (low r lt) (split.stays r d lt f).1 in
        subst (Runs watch.fence (cell_at cells r d)) (same_cell beside' r is.0 (cell_at gone r d) is.1 (united.stays r d (within r lt) f).1) is.2

    pub parted : HaveParted watch.fence book concerned cells gone
    parted = record { count = same_count; back = parted_back; alone = parted_alone; joined = parted_joined; ran = parted_ran }
