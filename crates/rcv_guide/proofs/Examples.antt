-- Ping, where A has saved both of its events and B saves nothing: A's first event is stable, and its second isn't.
use Prim.Native.Nat.{zero, suc}
use Rattle.std.proofs.Common.{ℕ, ◌<◌, ◌≤◌, List, [], ◌∷◌, length, refl, take, inl, inr, ⊎_elim, arith}
use Rattle.std.specs.Prelude.{slice_index}
use Rattle.rcv_model.specs.Run.{put, taken}
use Rattle.rcv_ledger.specs.Logs.{log_at}
use Rattle.rcv_tree.specs.declared.event.Event.{Event}
use Rattle.rcv_model.specs.Net.{Net}
use Rattle.rcv_model.specs.Places.{net_of}
use Rattle.rcv_model.proofs.Cases.{ping, says, hears}
use Rattle.rcv_saves.specs.Saves.{SavesView, saves_of}
use Rattle.rcv_guide.specs.declared.numbers.Numbers.{Numbers}
use Rattle.rcv_guide.specs.Numbers.{at_start}
use Rattle.rcv_guide.specs.Line.{reach, AreStableIn, IsSavedBehind}

abbrev net : Net
net = net_of ping

-- A sends, B receives and answers, A receives.
abbrev logs : List (List Event)
logs = (says 0 1 0 1 ∷ hears 0 2 0 4 3 ∷ []) ∷ (hears 1 1 0 2 1 ∷ says 1 2 0 3 ∷ []) ∷ []

abbrev numbers : List Numbers
numbers = at_start ∷ at_start ∷ []

abbrev saves : SavesView
saves = saves_of (0 ∷ 0 ∷ []) ((1 ∷ 2 ∷ []) ∷ [] ∷ [])

one_is_stable : AreStableIn net logs numbers saves (1 ∷ 0 ∷ 0 ∷ 0 ∷ 0 ∷ 0 ∷ 0 ∷ 0 ∷ [])
one_is_stable = record { eight = refl; held = held; closed = closed; saved = saved }
  where
    held : (r : ℕ) → r < length logs → reach numbers (1 ∷ 0 ∷ 0 ∷ 0 ∷ 0 ∷ 0 ∷ 0 ∷ 0 ∷ []) r ≤ length (log_at logs r)
    held zero lt = omega arith
    held (suc zero) lt = omega arith
    held (suc (suc r)) lt = absurd (omega (arith, lt))

    closed : (a b : ℕ) → a < length logs → b < length logs → length (taken net a b (take (reach numbers (1 ∷ 0 ∷ 0 ∷ 0 ∷ 0 ∷ 0 ∷ 0 ∷ 0 ∷ []) b) (log_at logs b))) ≤ length (put net a b (take (reach numbers (1 ∷ 0 ∷ 0 ∷ 0 ∷ 0 ∷ 0 ∷ 0 ∷ 0 ∷ []) a) (log_at logs a)))
    closed a zero la lb = omega arith
    closed a (suc zero) la lb = omega arith
    closed a (suc (suc b)) la lb = absurd (omega (arith, lb))

    saved : (r : ℕ) → r < length logs → IsSavedBehind numbers saves r (slice_index (1 ∷ 0 ∷ 0 ∷ 0 ∷ 0 ∷ 0 ∷ 0 ∷ 0 ∷ []) r)
    saved zero lt = inr (omega arith, inl (0, omega arith, refl))
    saved (suc zero) lt = inl refl
    saved (suc (suc r)) lt = absurd (omega (arith, lt))

-- B's Send of what A received would be outside.
two_are_not : AreStableIn net logs numbers saves (2 ∷ 0 ∷ 0 ∷ 0 ∷ 0 ∷ 0 ∷ 0 ∷ 0 ∷ []) → ⊥
two_are_not is = let le = is.closed 1 0 (omega arith) (omega arith) in omega (arith, le)

-- B has saved nothing but its start.
none_of_b : IsSavedBehind numbers saves 1 1 → ⊥
none_of_b is = ⊎_elim (λ e. omega (arith, e)) (λ p. ⊎_elim (λ t. let lt = t.1 in omega (arith, lt)) (λ s. let lt = s.0 in omega (arith, lt)) p.1) is
