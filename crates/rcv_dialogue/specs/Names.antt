-- Words that name roles and points of an accepted protocol.
use Rattle.std.specs.Prelude.{ℕ, ◌+◌, ◌&&◌, nat_lt, if◌then◌else◌, List, Option, Some, None}
use Rattle.rcv_tree.specs.Names.{name_at, place_of}
use Rattle.rcv_accept.specs.Accepted.{AcceptedView, net_for}
use Rattle.rcv_dialogue.specs.Numbers.{number_in}

-- The name of a role.
abbrev pub name_of : AcceptedView → ℕ → List ℕ
name_of a r = name_at a.protocol.roles r

-- The role that has this name.
abbrev pub role_in : AcceptedView → List ℕ → Option ℕ
role_in a word = place_of a.protocol.roles word

-- The point that has this number.
abbrev pub point_if : AcceptedView → Option ℕ → Option ℕ
point_if a None = None
point_if a (Some p) = if nat_lt 0 p && nat_lt p ((net_for a).count + 1) then Some p else None

abbrev pub point_said : AcceptedView → List ℕ → Option ℕ
point_said a word = point_if a (number_in word)

-- The place that has this number: a point, or 0.
abbrev pub place_if : AcceptedView → Option ℕ → Option ℕ
place_if a None = None
place_if a (Some p) = if nat_lt p ((net_for a).count + 1) then Some p else None

abbrev pub place_in : AcceptedView → List ℕ → Option ℕ
place_in a word = place_if a (number_in word)
