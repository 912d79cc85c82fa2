-- The definitions, computed at small examples.
use Rattle.std.proofs.Common.{◌≡◌, ℕ, List, [], ◌∷◌, refl, codes}
use Rattle.std.specs.Fmt.{digits}
use Rattle.serde_json.specs.Data.{null}
use Rattle.serde_json.specs.Written.{compact_text}
use Rattle.serde_json.proofs.OnLiterals.{serde_json_on_literals}
use Rattle.rcv_points_json.specs.PointsJson.{rule_data, plain_data, no_protocol_data}

names : List (List ℕ)
names = codes "B" ∷ codes "S" ∷ []

-- a role's place, and a point
place : compact_text (rule_data names 24 1 3) ≡ codes "{\"code\":24,\"place\":3,\"role\":\"S\"}"
unfolding names digits serde_json_on_literals
place = refl

point : compact_text (rule_data names 20 0 1) ≡ codes "{\"code\":20,\"point\":1,\"role\":\"B\"}"
unfolding names digits serde_json_on_literals
point = refl

-- no protocol
call : compact_text (no_protocol_data (plain_data 52 3)) ≡ codes "{\"points\":[],\"refused\":{\"code\":52,\"line\":3},\"roles\":[]}"
unfolding digits serde_json_on_literals
call = refl

-- a refusal isn't null
not_null : rule_data names 24 1 3 ≡ null → ⊥
unfolding names
not_null e = cc
