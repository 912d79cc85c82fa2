-- The words that tell the kind of a line.
use Rattle.std.specs.Prelude.{ℕ, if◌then◌else◌, List, [], ◌∷◌, codes, Option, Some, None}
use Rattle.rcv_dialogue.specs.declared.kind.Kind.{Kind}
use Rattle.rcv_dialogue.specs.declared.kind.Kind.TheVariants as kind
use Rattle.rcv_dialogue.specs.declared.kind.AgainKind.{AgainKind}
use Rattle.rcv_dialogue.specs.declared.kind.AgainKind.TheVariants as kinds
use Rattle.rcv_dialogue.specs.Numbers.{is_word}

abbrev pub kind_text : Kind → List ℕ
kind_text kind.Send = codes "send"
kind_text kind.Recv = codes "recv"
kind_text kind.Save = codes "save"
kind_text kind.Fail = codes "fail"
kind_text kind.Crash = codes "crash"
kind_text kind.Recover = codes "recover"
kind_text kind.Next = codes "next"
kind_text kind.Kept = codes "kept"
kind_text kind.Line = codes "line"
kind_text kind.Role = codes "role"
kind_text kind.Flight = codes "flight"
kind_text kind.Points = codes "points"
kind_text kind.Table = codes "table"
kind_text kind.Snapshot = codes "snapshot"
kind_text kind.End = codes "end"
kind_text kind.Again = codes "again"

abbrev pub again_text : AgainKind → List ℕ
again_text kinds.Session = codes "session"
again_text kinds.Role = codes "role"
again_text kinds.Flight = codes "flight"
again_text kinds.Send = codes "send"
again_text kinds.Recv = codes "recv"
again_text kinds.Save = codes "save"

-- The first of these that the word tells.
abbrev pub told_in : {K : Type 0} → (K → List ℕ) → List K → List ℕ → Option K
told_in text [] word = None
told_in text (k ∷ ks) word = if is_word word (text k) then Some k else told_in text ks word

abbrev pub all_kinds : List Kind
all_kinds =
    kind.Send ∷ kind.Recv ∷ kind.Save ∷ kind.Fail ∷ kind.Crash ∷ kind.Recover ∷ kind.Next ∷ kind.Kept
    ∷ kind.Line ∷ kind.Role ∷ kind.Flight ∷ kind.Points ∷ kind.Table ∷ kind.Snapshot ∷ kind.End ∷ kind.Again ∷ []

abbrev pub all_again : List AgainKind
all_again = kinds.Session ∷ kinds.Role ∷ kinds.Flight ∷ kinds.Send ∷ kinds.Recv ∷ kinds.Save ∷ []

-- The kind that a word tells.
abbrev pub kind_in : List ℕ → Option Kind
kind_in word = told_in kind_text all_kinds word

abbrev pub again_in : List ℕ → Option AgainKind
again_in word = told_in again_text all_again word
