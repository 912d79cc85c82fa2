-- The line that says a refusal.
use Rattle.std.specs.Prelude.{ℕ, ◌==◌, codes, decimal, List, [], ◌∷◌, ◌++◌, if◌then◌else◌}
use Rattle.rcv_input.specs.declared.refused.Refused.{Refused}
use Rattle.rcv_input.specs.declared.refused.Refused.TheVariants.{Line, Rule, NoRole, TooMuch}

-- The codes with their names, of both programs: of a text, of a protocol, of a command, of scripts, of a plan, of a journal that
-- stands after an input, which only `rcv-show` reads, and of several sessions.
abbrev pub code_names : List (ℕ × List ℕ)
code_names =
    (10, codes "Letter") ∷ (11, codes "Token") ∷ (12, codes "Deep") ∷ (13, codes "Name") ∷ (14, codes "Twice") ∷ (15, codes "SelfMessage")
    ∷ (16, codes "AfterContinue") ∷ (17, codes "Unguarded") ∷ (18, codes "TooMany") ∷ (19, codes "NotYet")
    ∷ (20, codes "Subject") ∷ (21, codes "Mixed")
    ∷ (22, codes "Senders") ∷ (23, codes "Labels") ∷ (24, codes "NotEnabled") ∷ (25, codes "MaybeDone")
    ∷ (26, codes "Unreachable") ∷ (27, codes "NoRole")
    ∷ (28, codes "LaneEnd") ∷ (29, codes "Shared")
    ∷ (30, codes "Token") ∷ (31, codes "Role") ∷ (32, codes "Label")
    ∷ (33, codes "Variable") ∷ (34, codes "AttemptInState") ∷ (35, codes "NoPayload")
    ∷ (36, codes "TooMany")
    ∷ (40, codes "Token") ∷ (41, codes "Role") ∷ (42, codes "Twice") ∷ (43, codes "Range")
    ∷ (50, codes "NoJournal") ∷ (51, codes "Journal")
    ∷ (52, codes "Arity") ∷ (53, codes "Recursive") ∷ (54, codes "EmptyDo") ∷ (55, codes "TooMuch") ∷ []

-- The name that stands beside a code in the list; none if the code isn't in it.
abbrev pub name_in : List (ℕ × List ℕ) → ℕ → List ℕ
name_in [] code = []
name_in (e ∷ es) code = if code == e.0 then e.1 else name_in es code

abbrev pub code_name : ℕ → List ℕ
code_name code = name_in code_names code

-- refused CODE NAME, and a space
abbrev pub head : ℕ → List ℕ
head code = codes "refused " ++ decimal code ++ codes " " ++ code_name code ++ codes " "

-- refused CODE NAME line LINE, refused CODE NAME ROLE NUMBER, refused 27 NoRole, or refused 55 TooMuch
abbrev pub refusal_line : Refused → List ℕ
refusal_line (Line code line) = head code ++ codes "line " ++ decimal line ++ codes "\n"
refusal_line (Rule code role number) = head code ++ role ++ codes " " ++ decimal number ++ codes "\n"
refusal_line NoRole = codes "refused 27 NoRole\n"
refusal_line TooMuch = codes "refused 55 TooMuch\n"
