-- Cells that run, meet and clear their logs forget nothing.
use Rattle.std.proofs.Common.{◌≡◌, ℕ, ◌<◌, List, length, sym, ◌∙◌, ap, ⊎_elim, arith}
use Rattle.std.proofs.lemmas.Bool.{cases_lt}
use Rattle.std.proofs.lemmas.List.{get_or_past}
use Rattle.rcv_role.specs.Part.{PartView}
use Rattle.rcv_role.specs.Cell.{CellView, without_log}
use Rattle.rcv_cells.specs.Home.{cell_at, AllGo, AllMet, SameBases}

-- beyond the last cell there is none to ask
pub all_bases : (old new : List CellView) → length new ≡ length old → ((r : ℕ) (d : CellView) → r < length old → (cell_at new r d).part.base ≡ (cell_at old r d).part.base) → SameBases old new
all_bases old new count same r d = ⊎_elim
    (λ lt. same r d lt)
    (λ le. ap (λ (c : CellView). c.part.base) (get_or_past new r d (omega (arith, le, count)) ∙ sym (get_or_past old r d le)))
    (cases_lt r (length old))

pub met_bases : (old met : List CellView) → AllMet old met → SameBases old met
met_bases old met meet r d = ap (λ (p : PartView). p.base) (meet.1 r d).part

pub gone_bases : (old gone : List CellView) → AllGo old gone → SameBases old gone
gone_bases old gone go = all_bases old gone go.0 (λ r d lt. (go.1 r d lt).base)

pub cleared_bases : (old new : List CellView) → length new ≡ length old → ((r : ℕ) (d : CellView) → r < length old → cell_at new r d ≡ without_log (cell_at old r d)) → SameBases old new
cleared_bases old new count cleared = all_bases old new count (λ r d lt. ap (λ (c : CellView). c.part.base) (cleared r d lt))

-- a round
pub round_bases : (old gone met new : List CellView) → AllGo old gone → AllMet gone met → length new ≡ length met → ((r : ℕ) (d : CellView) → r < length met → cell_at new r d ≡ without_log (cell_at met r d)) → SameBases old new
round_bases old gone met new go meet count cleared r d = cleared_bases met new count cleared r d ∙ met_bases gone met meet r d ∙ gone_bases old gone go r d
