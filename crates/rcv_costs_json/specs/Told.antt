-- What the JSON value tells of a cost.
use Rattle.std.specs.Prelude.{ℕ, ◌<◌, ◌^◌, Option, None, Some, List, length}
use Rattle.std.specs.List.{All}
use Rattle.rcv_session.specs.Session.{SessionView, net_for}
use Rattle.rcv_journal.specs.JournalText.{name_of}
use Rattle.rcv_export.specs.Pieces.{ascii_of}
use Rattle.rcv_costs.specs.declared.numbers.Cost.{Cost}
use Rattle.rcv_costs.specs.declared.numbers.Costs.{Costs}

-- The numbers of a cost fit into their types, and there are fewer costs than 2 ^ 32.
pub record FitsNumbers (cost : Cost) : Type 0 where
  pub count : cost.count < 2 ^ 32
  pub lost : cost.lost < 2 ^ 64
  pub undone : cost.undone < 2 ^ 32
  pub kept : cost.kept < 2 ^ 64
  pub again : cost.again < 2 ^ 64

pub record FitNumbers (costs : Costs) : Type 0 where
  pub step : costs.step < 2 ^ 32
  pub few : length costs.list.items < 2 ^ 32
  pub each : All FitsNumbers costs.list.items

-- What a cost says without the session's roles and points: names, labels and numbers.
pub record Told : Type 0 where
  pub role : List ℕ
  pub count : ℕ
  pub after : Option (List ℕ)
  pub before : Option (List ℕ)
  pub lost : ℕ
  pub undone : ℕ
  pub kept : ℕ
  pub again : ℕ

-- The label of a point, if there is one.
abbrev pub label_of : SessionView → Option ℕ → Option (List ℕ)
label_of session None = None
label_of session (Some p) = Some (ascii_of ((net_for session).label p))

abbrev pub told : SessionView → Cost → Told
told session cost = record {
  role = ascii_of (name_of session cost.role);
  count = cost.count;
  after = label_of session cost.before;
  before = label_of session cost.after;
  lost = cost.lost;
  undone = cost.undone;
  kept = cost.kept;
  again = cost.again;
}
