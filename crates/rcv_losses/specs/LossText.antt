-- What crashes cost, as text: a line for each crash, a line for each role, and the worst of all.
use Rattle.std.specs.Prelude.{◌≡◌, ℕ, ◌==◌, if◌then◌else◌, Option, None, Some, List, [], ◌++◌, flat_map, codes, decimal}
use Rattle.std.specs.List.{range_with_len}
use Rattle.rcv_tree.specs.Bits.{has_bit}
use Rattle.rcv_session.specs.Session.{SessionView, roles_of, net_for}
use Rattle.rcv_journal.specs.JournalText.{name_of}
use Rattle.rcv_costs.specs.declared.numbers.Cost.{Cost}
use Rattle.rcv_costs.specs.declared.numbers.Costs.{Costs}
use Rattle.rcv_costs.specs.Costs.{AreCosts}
use Rattle.rcv_losses.specs.Totals.{costs_by, undone_in_all, worst_of}

-- The line of a plan that makes the crash.
abbrev pub crash_text : SessionView → Cost → List ℕ
crash_text session cost = codes "crash " ++ name_of session cost.role ++ codes " " ++ decimal cost.count

-- Between which of the role's events it crashes.
abbrev pub between_text : SessionView → Option ℕ → Option ℕ → List ℕ
between_text session None None = codes "without events"
between_text session None (Some q) = codes "before " ++ (net_for session).label q
between_text session (Some p) None = codes "after " ++ (net_for session).label p
between_text session (Some p) (Some q) =
    codes "after " ++ (net_for session).label p ++ codes ", before " ++ (net_for session).label q

-- How many of the kept events are undone.
abbrev pub share_text : Cost → List ℕ
share_text cost = codes "undone " ++ decimal cost.undone ++ codes " of " ++ decimal cost.kept

-- The name of a role, if it is concerned.
abbrev pub concerned_text : SessionView → ℕ → ℕ → List ℕ
concerned_text session set r = if has_bit set r then codes " " ++ name_of session r else []

-- The crash, and where it comes.
abbrev pub where_text : SessionView → Cost → List ℕ
where_text session cost = crash_text session cost ++ codes "  " ++ between_text session cost.before cost.after

-- How much is lost and undone.
abbrev pub loss_text : Cost → List ℕ
loss_text cost = codes ": lost " ++ decimal cost.lost ++ codes ", " ++ share_text cost

-- Whom it concerns, and what is received again.
unfoldable pub names_text : SessionView → ℕ → List ℕ
names_text session set = flat_map (concerned_text session set) (range_with_len 0 (roles_of session))

abbrev pub whom_text : SessionView → ℕ → List ℕ
whom_text session set = codes ", concerned" ++ names_text session set

abbrev pub again_text : Cost → List ℕ
again_text cost = codes ", received again " ++ decimal cost.again

abbrev pub reach_text : SessionView → Cost → List ℕ
reach_text session cost = whom_text session cost.concerned.0 ++ again_text cost

-- What one crash costs: `crash B 3  after commit, before ack: lost 2, undone 5 of 9, concerned A B, received again 1`.
unfoldable pub cost_text : SessionView → Cost → List ℕ
cost_text session cost = where_text session cost ++ loss_text cost ++ reach_text session cost

abbrev pub cost_line : SessionView → Cost → List ℕ
cost_line session cost = cost_text session cost ++ codes "\n"

-- Says that one of every so many counts is looked at, if not each is.
abbrev pub sampled_line : ℕ → List ℕ
sampled_line step = codes "sampled: every " ++ decimal step ++ codes " counts\n"

abbrev pub step_line : ℕ → List ℕ
step_line step = if step == 1 then [] else sampled_line step

-- The worst of a role's crashes: `, worst at 3: undone 5 of 9`.
abbrev pub worst_text : Option Cost → List ℕ
worst_text None = []
worst_text (Some cost) = codes ", worst at " ++ decimal cost.count ++ codes ": " ++ share_text cost

-- What a role's crashes cost together: `B: undone 12 in all, worst at 3: undone 5 of 9`.
abbrev pub role_line : SessionView → List Cost → ℕ → List ℕ
role_line session costs r =
    name_of session r ++ codes ": undone " ++ decimal (undone_in_all (costs_by r costs)) ++ codes " in all"
    ++ worst_text (worst_of (costs_by r costs)) ++ codes "\n"

-- The worst of all: `worst: crash B 3, undone 5 of 9`.
abbrev pub worst_line : SessionView → Option Cost → List ℕ
worst_line session None = []
worst_line session (Some cost) = codes "worst: " ++ crash_text session cost ++ codes ", " ++ share_text cost ++ codes "\n"

-- The whole text.
abbrev pub losses_text : SessionView → ℕ → List Cost → List ℕ
losses_text session step costs =
    step_line step ++ flat_map (cost_line session) costs ++ flat_map (role_line session costs) (range_with_len 0 (roles_of session))
    ++ worst_line session (worst_of costs)

-- The bytes are the text of what the session's crashes cost.
pub record IsLossesText (session : SessionView) (bytes : List ℕ) : Type 0 where
  pub costs : Costs
  pub are : AreCosts session costs
  pub is_text : bytes ≡ losses_text session costs.step costs.list.items
