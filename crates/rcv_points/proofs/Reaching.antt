-- What can come from the start, where nobody has a point, are the points that walks hold.
use Rattle.std.proofs.Common.{◌≡◌, ℕ, ◌+◌, ◌-◌, ◌<◌, ◌≤◌, Bool, true, false, List, [], ◌∷◌, length, get_or, sym, ◌∙◌, subst, ⊎_elim, arith}
use Rattle.std.specs.Prelude.{◌↔◌}
use Rattle.rcv_tree.specs.Bits.{has_point, members, IsPoint}
use Rattle.rcv_model.specs.Net.{Net, IsIn, opened, moved, ComeFrom}
use Rattle.rcv_model.specs.Next.{HasNone, IsProper}
use Rattle.rcv_model.specs.Accept.{IsReached}
use Rattle.rcv_model.proofs.Walks.{Ahead, come_front}
use Rattle.rcv_model.proofs.Lanes.{IsLaned, moved_laned, opened_laned}
use Rattle.rcv_points.proofs.Members.{in_members, of_members}
use Rattle.rcv_points.specs.Ahead.{MayComeTo}
use Rattle.rcv_points.specs.Reached.{AreReached}

-- the flags of the first points
pub record FlagsSoFar (words : List ℕ) (flags : List Bool) (before : ℕ) : Type 0 where
  pub all : length flags ≡ before
  pub each : (i : ℕ) → i < before → get_or flags i false ≡ has_point words (i + 1)

module _ (net : Net) (proper : IsProper net 8) where
  nobodys : (ahead : Ahead) (w : List ℕ) → IsLaned net ahead → ComeFrom net ahead w → HasNone net 8 w
  nobodys ahead [] laned walk = tt
  nobodys ahead (p ∷ w) laned walk =
      let t = laned.in_text (net.lane p) p walk.0.offered in (
        λ own. ⊎_elim (λ e. absurd (let lt = proper.senders p t.0 t.1 in omega (arith, lt, e))) (λ e. absurd (let lt = proper.receivers p t.0 t.1 in omega (arith, lt, e))) own,
        nobodys (moved net ahead p) w (moved_laned net 8 ahead p proper laned) walk.1,
      )

  pub reached_both : (p : ℕ) → MayComeTo net 8 0 p ↔ IsReached net p
  reached_both p = (λ a. (a.0, a.1), λ a. (a.0, a.1, nobodys (opened net 0) a.0 (opened_laned net 8 0 proper) (come_front net (opened net 0) a.0 (p ∷ []) a.1)))

  pub all_flags : (words : List ℕ) (flags : List Bool) (before : ℕ) → ((z : ℕ) → IsIn z (members words) ↔ MayComeTo net 8 0 z) → before ≡ net.count → net.count ≤ 256 → FlagsSoFar words flags before → AreReached net flags
  all_flags words flags before all e few f = record { all = f.all ∙ e; each = each }
    where
      each : (p : ℕ) → 1 ≤ p → p ≤ net.count → (get_or flags (p - 1) false ≡ true) ↔ IsReached net p
      each p low high =
          let same : p - 1 + 1 ≡ p = omega (arith, low) in
          let point : IsPoint p = record { first = low; last = omega (arith, high, few) } in
          let told : get_or flags (p - 1) false ≡ has_point words p = subst (λ q. get_or flags (p - 1) false ≡ has_point words q) same (f.each (p - 1) (omega (arith, e, low, high))) in
          let both = reached_both p in (
            λ t. both.0 ((all p).0 (in_members words p point (sym told ∙ t))),
            λ r. told ∙ (of_members words p ((all p).1 (both.1 r))).1,
          )
