-- What crashes cost, as a JSON value: an element for each crash, what the crashes of each role come to, and the worst of all. Keys
-- are in order.
use Rattle.std.specs.Prelude.{◌≡◌, ℕ, if◌then◌else◌, Option, None, Some, List, [], ◌∷◌, flat_map, map, codes}
use Rattle.std.specs.List.{range_with_len}
use Rattle.serde_json.specs.Data.{Data, Members, member, no_members, null, object, put}
use Rattle.rcv_tree.specs.Bits.{has_bit}
use Rattle.rcv_session.specs.Session.{SessionView, roles_of, net_for}
use Rattle.rcv_journal.specs.JournalText.{name_of}
use Rattle.rcv_export.specs.Pieces.{count, line_of, list_of, word_data, words_data}
use Rattle.rcv_export.specs.ReadBack.{IsReadAs}
use Rattle.rcv_costs.specs.declared.numbers.Cost.{Cost}
use Rattle.rcv_costs.specs.declared.numbers.Costs.{Costs}
use Rattle.rcv_costs.specs.Costs.{AreCosts}
use Rattle.rcv_losses.specs.Totals.{costs_by, undone_in_all, kept_in_all, worst_of}

-- The name of a role; the label of a point, or null if there is none.
abbrev pub name_data : SessionView → ℕ → Data
name_data session r = word_data (name_of session r)

abbrev pub label_data : SessionView → Option ℕ → Data
label_data session None = null
label_data session (Some p) = word_data ((net_for session).label p)

-- The names of the concerned roles, in order.
abbrev pub concerned_data : SessionView → ℕ → ℕ → List Data
concerned_data session set r = if has_bit set r then name_data session r ∷ [] else []

abbrev pub concerned_list : SessionView → ℕ → List Data
concerned_list session set = flat_map (concerned_data session set) (range_with_len 0 (roles_of session))

-- Members with the numbers of a cost, each under its key.
abbrev pub with_losses : Cost → Members → Members
with_losses cost members =
    put (codes "undone") (count cost.undone) (put (codes "lost") (count cost.lost) (put (codes "kept") (count cost.kept) members))

abbrev pub with_numbers : Cost → Members → Members
with_numbers cost members =
    with_losses cost (put (codes "count") (count cost.count) (put (codes "again") (count cost.again) members))

-- One crash: `{"after":LABEL,"again":N,"before":LABEL,"concerned":[ROLE,..],"count":N,"kept":N,"lost":N,"role":ROLE,"undone":N}`.
-- The role crashes after so many of its events: after that with one label, before that with the other.
abbrev pub failure_data : SessionView → Cost → Data
failure_data session cost =
    object (member (codes "after") (label_data session cost.before)
    (member (codes "again") (count cost.again)
    (member (codes "before") (label_data session cost.after)
    (member (codes "concerned") (list_of (concerned_list session cost.concerned.0))
    (member (codes "count") (count cost.count)
    (member (codes "kept") (count cost.kept)
    (member (codes "lost") (count cost.lost)
    (member (codes "role") (name_data session cost.role)
    (member (codes "undone") (count cost.undone) no_members)))))))))

-- The count of the worst of a role's crashes, or null if it has none.
abbrev pub worst_count : Option Cost → Data
worst_count None = null
worst_count (Some cost) = count cost.count

-- What a role's crashes come to: `{"kept":N,"role":ROLE,"undone":N,"worst":COUNT}`. So many events they undo in all, and so many
-- restarting everybody would.
abbrev pub total_data : SessionView → List Cost → ℕ → Data
total_data session costs r =
    object (member (codes "kept") (count (kept_in_all (costs_by r costs)))
    (member (codes "role") (name_data session r)
    (member (codes "undone") (count (undone_in_all (costs_by r costs)))
    (member (codes "worst") (worst_count (worst_of (costs_by r costs))) no_members))))

-- The worst crash of all: `{"count":N,"role":ROLE}`, or null if there is none.
abbrev pub worst_data : SessionView → Option Cost → Data
worst_data session None = null
worst_data session (Some cost) =
    object (member (codes "count") (count cost.count)
    (member (codes "role") (name_data session cost.role) no_members))

-- The whole: `{"failures":[..],"protocol":NAME,"roles":[ROLE,..],"step":N,"totals":[..],"worst":{..}}`.
abbrev pub costs_data : SessionView → Costs → Data
costs_data session costs =
    object (member (codes "failures") (list_of (map (failure_data session) costs.list.items))
    (member (codes "protocol") (word_data session.protocol.name)
    (member (codes "roles") (words_data session.protocol.roles)
    (member (codes "step") (count costs.step)
    (member (codes "totals") (list_of (map (total_data session costs.list.items) (range_with_len 0 (roles_of session))))
    (member (codes "worst") (worst_data session (worst_of costs.list.items)) no_members))))))

-- Its line.
abbrev pub costs_json : SessionView → Costs → List ℕ
costs_json session costs = line_of (costs_data session costs)

-- The bytes are the JSON of what the session's crashes cost, and are read as that value.
pub record IsCostsJson (session : SessionView) (bytes : List ℕ) : Type 0 where
  pub costs : Costs
  pub are : AreCosts session costs
  pub is_json : bytes ≡ costs_json session costs
  pub is_read : IsReadAs bytes (costs_data session costs)
