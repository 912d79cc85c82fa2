-- What the messages of a protocol's picture are called.
use Rattle.std.specs.Prelude.{ℕ, List, ◌++◌, codes, decimal}
use Rattle.std.specs.List.{join_by}
use Rattle.rcv_tree.specs.Names.{name_at}
use Rattle.rcv_model.specs.Places.{SingleMessage}

-- Names with commas between.
abbrev pub names_text : List (List ℕ) → List ℕ
names_text names = join_by (λ (name : List ℕ). name) (codes ", ") names

-- `point 2: quote(Int) from S to A`
abbrev pub message_title : List (List ℕ) → ℕ × SingleMessage → List ℕ
message_title roles m =
    codes "point " ++ decimal m.0 ++ codes ": " ++ m.1.label ++ codes "(" ++ names_text m.1.sorts
    ++ codes ") from " ++ name_at roles m.1.sender ++ codes " to " ++ name_at roles m.1.receiver
