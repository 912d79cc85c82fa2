-- The definitions, computed at small examples.
use Rattle.std.proofs.Common.{◌≡◌, ℕ, List, [], ◌∷◌, refl, codes}
use Rattle.std.specs.Prelude.{ℤ, pos, negsuc, replicate}
use Rattle.std.specs.Fmt.{digits}
use Rattle.serde_json.proofs.OnLiterals.{serde_json_on_literals}
use Rattle.rcv_tree.specs.declared.event.Dir.TheVariants.{Sent, Got}
use Rattle.rcv_tree.specs.declared.entry.Entry.{Entry}
use Rattle.rcv_tree.specs.declared.entry.Entry.TheVariants.{Send, Recv, Crash, Recover}
use Rattle.rcv_session.specs.Session.{SessionView, net_for}
use Rattle.rcv_journal.specs.declared.line.RoleLine.{RoleLine}
use Rattle.rcv_journal.specs.declared.line.RoleWord.{RoleWord}
use Rattle.rcv_journal.specs.declared.line.RoleWord.TheVariants.{Done, Limit, Waits}
use Rattle.rcv_journal.specs.Json.{IsJsonOf, json_text}
use Rattle.rcv_json.specs.Pieces.{entry_json}

-- ping from A to B, pong from B to A
record IsPing (setup : SessionView) : Type 0 where
  roles : setup.protocol.roles ≡ codes "A" ∷ codes "B" ∷ []
  ping : (net_for setup).label 1 ≡ codes "ping"
  pong : (net_for setup).label 2 ≡ codes "pong"

sent : ℕ → ℕ → ℕ → ℤ → Entry
sent role point stamp value = Send (record { role = role; dir = Sent; point = point; value = value; stamp = stamp; sent = stamp })

got : ℕ → ℕ → ℕ → ℤ → ℕ → Entry
got role point stamp value from = Recv (record { role = role; dir = Got; point = point; value = value; stamp = stamp; sent = from })

line : ℕ → ℕ → ℕ → RoleWord → RoleLine
line role kept raw word = record { role = role; kept = kept; raw = raw; word = word }

-- the whole JSON of a session of theirs
entries : List Entry
entries = sent 0 1 1 (pos 0) ∷ got 1 1 2 (pos 0) 1 ∷ sent 1 2 3 (pos 0) ∷ got 0 2 4 (pos 0) 3 ∷ []

completed : (setup : SessionView) → IsPing setup → json_text setup entries (line 0 2 2 Done ∷ line 1 2 2 Done ∷ []) ≡ codes "{\"entries\":[[\"send\",\"A\",1,\"ping\",0,1],[\"recv\",\"B\",1,\"ping\",0,2,1],[\"send\",\"B\",2,\"pong\",0,3],[\"recv\",\"A\",2,\"pong\",0,4,3]],\"limited\":[],\"roles\":[[\"A\",2,2,\"done\"],[\"B\",2,2,\"done\"]]}\n"
unfolding entries sent got line digits serde_json_on_literals
completed setup is = rw (is.roles, is.ping, is.pong) refl

-- one where a role is at the limit
limited : (setup : SessionView) → IsPing setup → json_text setup (sent 0 1 1 (negsuc 4) ∷ []) (line 0 1 1 Limit ∷ line 1 0 0 Waits ∷ []) ≡ codes "{\"entries\":[[\"send\",\"A\",1,\"ping\",-5,1]],\"limited\":[\"A\"],\"roles\":[[\"A\",1,1,\"limit\"],[\"B\",0,0,\"waits\"]]}\n"
unfolding sent line digits serde_json_on_literals
limited setup is = rw (is.roles, is.ping) refl

-- one without entries
nothing : (setup : SessionView) → IsPing setup → json_text setup [] [] ≡ codes "{\"entries\":[],\"limited\":[],\"roles\":[]}\n"
unfolding serde_json_on_literals
nothing setup is = refl

crash : (setup : SessionView) → IsPing setup → entry_json setup (Crash 1) ≡ codes "[\"crash\",\"B\"]"
unfolding serde_json_on_literals
crash setup is = rw is.roles refl

-- both roles are concerned, or one alone
all_undone : (setup : SessionView) → IsPing setup → entry_json setup (Recover 0 (record { 0 = 3 }) (replicate 8 0) 4) ≡ codes "[\"recover\",\"A\",4,[[\"A\",0],[\"B\",0]]]"
unfolding digits serde_json_on_literals
all_undone setup is = rw is.roles (rw is.roles refl)

one_concerned : (setup : SessionView) → IsPing setup → entry_json setup (Recover 1 (record { 0 = 2 }) (0 ∷ 12 ∷ 0 ∷ 0 ∷ 0 ∷ 0 ∷ 0 ∷ 0 ∷ []) 0) ≡ codes "[\"recover\",\"B\",0,[[\"B\",12]]]"
unfolding digits serde_json_on_literals
one_concerned setup is = rw is.roles (rw is.roles refl)

-- no bytes are no JSON
is_some : (setup : SessionView) (es : List Entry) → IsJsonOf setup es [] → ⊥
is_some setup es is = cc (is.is_json)
