-- The generated input.
use Rattle.std.specs.Prelude.{ℕ, ◌+◌, ◌*◌, ◌%◌, List, ◌++◌, flat_map, codes, decimal}
use Rattle.std.specs.List.{range_with_len}

-- A message from a role to the next one in the ring.
unfoldable pub message_line : List ℕ → ℕ → List ℕ
message_line label role = label ++ codes " from R" ++ decimal role ++ codes " to R" ++ decimal ((role + 1) % 8) ++ codes ";\n"

-- Such a message from each of so many roles.
unfoldable pub messages : List ℕ → ℕ → List ℕ
messages label roles = flat_map (message_line label) (range_with_len 0 roles)

-- The script of a role that passes on one more than it was given.
unfoldable pub script_line : ℕ → List ℕ
script_line role = codes "role R" ++ decimal role ++ codes " { var v = 0; on more set v = value; send more = v + 1; }\n"

-- The scripts of so many roles after the first.
unfoldable pub scripts : ℕ → List ℕ
scripts roles = flat_map script_line (range_with_len 1 roles)

-- The protocol up to its first message.
unfoldable pub head : List ℕ
head =
    codes "module gen;\nglobal protocol Gen("
    ++ codes "role R0, role R1, role R2, role R3, role R4, role R5, role R6, role R7"
    ++ codes ") {\nrec L {\nchoice at R0 {\n"

-- The protocol: the value goes round, or the ring stops.
unfoldable pub protocol : List ℕ
protocol =
    head
    ++ messages (codes "more(Int)") 8
    ++ codes "continue L;\n} or {\n"
    ++ messages (codes "stop()") 7
    ++ codes "}\n}\n}\n"

-- The script of the first role. It counts its events down from this number, two in each round, and then stops the ring.
unfoldable pub first_script : ℕ → List ℕ
first_script left =
    codes "role R0 { var left = " ++ decimal left
    ++ codes "; on more set left = left - 1; send more = left; pick more when left > 0; pick stop; }\n"

-- The plan: one role saves its state only now and then, and crashes; another one crashes, too.
unfoldable pub plan : List ℕ
plan = codes "%% plan\nevery R3 64\ncrash R3 101\ncrash R6 250\n"

-- The whole input: the value goes `200 + number` times round the ring.
abbrev pub generated : ℕ → List ℕ
generated number = protocol ++ codes "%% scripts\n" ++ first_script (2 * (200 + number)) ++ scripts 7 ++ plan
