-- The places of names, and what the protocol's messages say of a role and a label.
use Rattle.std.specs.Prelude.{ℕ, ◌==◌, ◌&&◌, ◌||◌, not, Bool, true, false, List, unwrap_or, bytes_eq}
use Rattle.std.specs.List.{list_any}
use Rattle.rcv_tree.specs.Names.{place_of}
use Rattle.rcv_points.specs.Follow.{PointView}

-- the place of a name that is known
abbrev pub place_in : List (List ℕ) → List ℕ → ℕ
place_in names name = unwrap_or (place_of names name) 0

-- the role sends the message, or receives it if that counts too
abbrev pub is_end : ℕ → Bool → PointView → Bool
is_end role received m = m.sender == role || (received && m.receiver == role)

-- such a message with this label, without sorts if that is asked
abbrev pub is_meant : ℕ → List ℕ → Bool → Bool → PointView → Bool
is_meant role label received bare m = (is_end role received m && bytes_eq m.label label) && not (bare && m.payload)

-- the role sends a message with this label
abbrev pub sends : List PointView → ℕ → List ℕ → Bool
sends messages role label = list_any (is_meant role label false false) messages

-- it sends or receives one
abbrev pub takes_part : List PointView → ℕ → List ℕ → Bool
takes_part messages role label = list_any (is_meant role label true false) messages

-- one that it sends has no sorts
abbrev pub sends_bare : List PointView → ℕ → List ℕ → Bool
sends_bare messages role label = list_any (is_meant role label false true) messages

-- one that it sends or receives has no sorts
abbrev pub takes_bare : List PointView → ℕ → List ℕ → Bool
takes_bare messages role label = list_any (is_meant role label true true) messages
