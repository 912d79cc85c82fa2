-- The definitions, computed at small examples.
use Rattle.std.proofs.Common.{◌≡◌, ℕ, List, [], ◌∷◌, refl, codes, Some, None}
use Rattle.std.specs.Fmt.{digits}
use Rattle.serde_json.specs.Data.{null}
use Rattle.serde_json.specs.Read.{read}
use Rattle.serde_json.specs.Written.{compact_text}
use Rattle.serde_json.proofs.OnLiterals.{serde_json_on_literals}
use Rattle.rcv_accept.specs.Accepted.{AcceptedView, net_for, text_of}
use Rattle.rcv_project.specs.Act.{Sending, Receiving, Ended}
use Rattle.rcv_tables.specs.Rows.{RowView}
use Rattle.rcv_export.specs.Messages.{sorts_at}
use Rattle.rcv_export.specs.Pieces.{ascii_of, line_of}
use Rattle.rcv_export.specs.ReadBack.{IsReadAs}
use Rattle.rcv_export.specs.RoleJson.{place_data}
use Rattle.rcv_export.specs.TableJson.{concerned_list, failure_data}

-- buy, point 1, from B to S; price, point 2, from S to B
record IsOrder (accepted : AcceptedView) : Type 0 where
  roles : accepted.protocol.roles ≡ codes "B" ∷ codes "S" ∷ []
  buy : (net_for accepted).label 1 ≡ codes "buy"
  receiver : (net_for accepted).receiver 1 ≡ 1
  sorts : sorts_at (text_of accepted) 1 ≡ codes "Int" ∷ []
  price : (net_for accepted).label 2 ≡ codes "price"
  sender : (net_for accepted).sender 2 ≡ 1
  none : sorts_at (text_of accepted) 2 ≡ []

-- ---- tables

names : List (List ℕ)
names = codes "B" ∷ codes "S" ∷ []

-- both go back, and S alone
both : RowView
both = record { concerned = 3; restarts = (1 ∷ []) ∷ (1 ∷ 4 ∷ []) ∷ [] }

alone : RowView
alone = record { concerned = 2; restarts = [] ∷ (3 ∷ []) ∷ [] }

failure : compact_text (failure_data names 0 1 both) ≡ codes "{\"concerned\":[{\"restarts\":[1],\"role\":\"B\"},{\"restarts\":[1,4],\"role\":\"S\"}],\"point\":1,\"role\":\"B\"}"
unfolding names both digits serde_json_on_literals
failure = refl

failure_alone : compact_text (failure_data names 1 3 alone) ≡ codes "{\"concerned\":[{\"restarts\":[3],\"role\":\"S\"}],\"point\":3,\"role\":\"S\"}"
unfolding names alone digits serde_json_on_literals
failure_alone = refl

-- a concerned role isn't left out
not_alone : concerned_list names both ≡ concerned_list names alone → ⊥
unfolding names both alone
not_alone e = cc

-- ---- machines

sends : (accepted : AcceptedView) → IsOrder accepted → compact_text (place_data accepted 0 (Sending (1 ∷ []))) ≡ codes "{\"act\":\"send\",\"next\":[{\"label\":\"buy\",\"peer\":\"S\",\"point\":1,\"sorts\":[\"Int\"],\"value\":true}],\"place\":0}"
unfolding digits serde_json_on_literals
sends accepted is = rw (is.roles, is.buy, is.receiver, is.sorts) refl

receives : (accepted : AcceptedView) → IsOrder accepted → compact_text (place_data accepted 1 (Receiving 1 (2 ∷ []))) ≡ codes "{\"act\":\"receive\",\"next\":[{\"label\":\"price\",\"peer\":\"S\",\"point\":2,\"sorts\":[],\"value\":false}],\"peer\":\"S\",\"place\":1}"
unfolding digits serde_json_on_literals
receives accepted is = rw (is.roles, is.price, is.sender, is.none) refl

done : (accepted : AcceptedView) → compact_text (place_data accepted 3 Ended) ≡ codes "{\"act\":\"done\",\"next\":[],\"place\":3}"
unfolding digits serde_json_on_literals
done accepted = refl

-- a step that is sent isn't one that is received
not_received : (accepted : AcceptedView) (ps : List ℕ) → place_data accepted 0 (Sending ps) ≡ place_data accepted 0 (Receiving 1 ps) → ⊥
not_received accepted ps e = cc

-- ---- names, and texts that are read

word : ascii_of (codes "Int") ≡ codes "Int"
word = refl

no_word : ascii_of (73 ∷ 200 ∷ []) ≡ 73 ∷ 200 ∷ [] → ⊥
no_word e = cc

is_null : read (line_of null) ≡ Some null
unfolding serde_json_on_literals
is_null = refl

-- nothing is read of no bytes
not_read : IsReadAs [] null → ⊥
unfolding serde_json_on_literals
not_read is = let e : None ≡ Some null = is.is_read in cc
