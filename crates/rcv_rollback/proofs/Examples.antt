-- Two cells of which the second one is concerned: their two halves, and what are none.
use Prim.Native.Nat.{zero, suc}
use Rattle.std.proofs.Common.{◌≡◌, ℕ, ◌<◌, true, false, Some, None, [], ◌∷◌, refl, ap, ◌∙◌, sym, arith}
use Rattle.rcv_tree.specs.Bits.{has_bit}
use Rattle.rcv_tree.specs.declared.role.RoleSet.{RoleSet}
use Rattle.rcv_role.specs.Cell.{CellView}
use Rattle.rcv_cells.specs.Home.{cell_at}
use Rattle.rcv_rollback.specs.Halves.{Has, Lacks, AreSplit}

module _ (a b : CellView) (concerned : RoleSet) (second : concerned.0 ≡ 2) where
  has_second : Has (None ∷ Some b ∷ []) 1 b
  has_second = refl

  lacks_first : Lacks (None ∷ Some b ∷ []) 0
  lacks_first = refl

  has_no_first : Has (None ∷ Some b ∷ []) 0 a → ⊥
  has_no_first h = absurd (cc)

  -- there is no third place, empty or not
  has_no_third : Has (None ∷ Some b ∷ []) 2 b → ⊥
  has_no_third h = absurd (cc)

  no_third_is_empty : Lacks (None ∷ Some b ∷ []) 2 → ⊥
  no_third_is_empty h = absurd (cc)

  are_split : AreSplit concerned (a ∷ b ∷ []) (None ∷ Some b ∷ []) (Some a ∷ None ∷ [])
  are_split = record { back_count = refl; beside_count = refl; goes = goes; stays = stays }
    where
      goes : (r : ℕ) (d : CellView) → r < 2 → has_bit concerned.0 r ≡ true
          → Has (None ∷ Some b ∷ []) r (cell_at (a ∷ b ∷ []) r d) × Lacks (Some a ∷ None ∷ []) r
      goes zero d lt bit = let f : has_bit 2 0 ≡ true = sym (ap (λ w. has_bit w 0) second) ∙ bit in absurd (cc)
      goes (suc zero) d lt bit = (refl, refl)
      goes (suc (suc r)) d lt bit = absurd (omega (arith, lt))

      stays : (r : ℕ) (d : CellView) → r < 2 → has_bit concerned.0 r ≡ false → Lacks (None ∷ Some b ∷ []) r
          × Has (Some a ∷ None ∷ []) r (cell_at (a ∷ b ∷ []) r d)
      stays zero d lt bit = (refl, refl)
      stays (suc zero) d lt bit = let f : has_bit 2 1 ≡ false = sym (ap (λ w. has_bit w 1) second) ∙ bit in absurd (cc)
      stays (suc (suc r)) d lt bit = absurd (omega (arith, lt))

  -- the other way about they aren't
  not_turned : AreSplit concerned (a ∷ b ∷ []) (Some a ∷ None ∷ []) (None ∷ Some b ∷ []) → ⊥
  not_turned split =
      let h : Lacks (Some a ∷ None ∷ []) 0 = (split.stays 0 a (omega arith) (ap (λ w. has_bit w 0) second)).0 in
      absurd (cc)

  -- nor where a cell stands in both
  not_in_both : AreSplit concerned (a ∷ b ∷ []) (Some a ∷ Some b ∷ []) (Some a ∷ None ∷ []) → ⊥
  not_in_both split =
      let h : Lacks (Some a ∷ Some b ∷ []) 0 = (split.stays 0 a (omega arith) (ap (λ w. has_bit w 0) second)).0 in
      absurd (cc)
