-- The parts of a bundle, which lines of their own separate.
use Rattle.std.specs.Prelude.{ℕ, ◌+◌, ◌≤◌, Bool, true, false, ◌&&◌, ◌==◌, nat_eq, List, [], ◌∷◌, length, drop, Option, Some, None, if◌then◌else◌}
use Rattle.std.specs.List.{starts_with}
use Rattle.rcv_lexer.specs.declared.parts.Separator.{Separator}
use Rattle.rcv_lexer.specs.declared.parts.Parts.{Parts}
use Rattle.rcv_lexer.specs.declared.token.Span.{Span}

-- the part is in order and within the bundle
abbrev pub LiesIn : List ℕ → Span → Type 0
LiesIn bundle part = (part.start ≤ part.end) × (part.end ≤ length bundle)

abbrev pub begins_with_lf : List ℕ → Bool
begins_with_lf [] = false
begins_with_lf (b ∷ bs) = b == 10

-- after n bytes of a line: how long it is with its end, if it ends here
abbrev pub line_end : ℕ → List ℕ → Option ℕ
line_end n [] = Some n
line_end n (b ∷ bs) = if b == 10 then Some (n + 1) else (if b == 13 && begins_with_lf bs then Some (n + 2) else None)

-- how long the first line is with its end, if it is exactly this word
abbrev pub line_of : List ℕ → List ℕ → Option ℕ
line_of word text = if starts_with nat_eq text word then line_end (length word) (drop (length word) text) else None

-- %% scripts and %% plan
abbrev pub scripts_word : List ℕ
scripts_word = 37 ∷ 37 ∷ 32 ∷ 115 ∷ 99 ∷ 114 ∷ 105 ∷ 112 ∷ 116 ∷ 115 ∷ []

abbrev pub plan_word : List ℕ
plan_word = 37 ∷ 37 ∷ 32 ∷ 112 ∷ 108 ∷ 97 ∷ 110 ∷ []

abbrev pub separator_at : ℕ → Bool → Option ℕ → Option Separator → Option Separator
separator_at place plan None other = other
separator_at place plan (Some len) other = Some (record { place = place; behind = place + len; plan = plan })

abbrev pub plan_here : ℕ → List ℕ → Option Separator
plan_here place text = separator_at place true (line_of plan_word text) None

-- the separator that begins a text at a place, if a line begins there
abbrev pub here : Bool → Bool → ℕ → List ℕ → Option Separator
here scripts false place text = None
here true true place text = separator_at place false (line_of scripts_word text) (plan_here place text)
here false true place text = plan_here place text

abbrev pub or_else : Option Separator → Option Separator → Option Separator
or_else None other = other
or_else (Some s) other = Some s

-- the first separator in a text that begins at a place, at the start of a line or not
abbrev pub first_from : Bool → Bool → ℕ → List ℕ → Option Separator
first_from scripts fresh place [] = None
first_from scripts fresh place (b ∷ bs) = or_else (here scripts fresh place (b ∷ bs)) (first_from scripts (b == 10) (place + 1) bs)

abbrev pub span : ℕ → ℕ → Span
span start end = record { start = start; end = end }

abbrev pub behind_scripts : ℕ → ℕ → ℕ → Option Separator → Parts
behind_scripts stop protocol scripts None = record { protocol = span 0 protocol; scripts = span scripts stop; plan = span stop stop }
behind_scripts stop protocol scripts (Some s) =
    record { protocol = span 0 protocol; scripts = span scripts s.place; plan = span s.behind stop }

abbrev pub parts_from : List ℕ → Option Separator → Parts
parts_from bundle None =
    record { protocol = span 0 (length bundle); scripts = span (length bundle) (length bundle); plan = span (length bundle) (length bundle) }
parts_from bundle (Some s) =
    if s.plan then record { protocol = span 0 s.place; scripts = span s.place s.place; plan = span s.behind (length bundle) }
    else behind_scripts (length bundle) s.place s.behind (first_from false true s.behind (drop s.behind bundle))

abbrev pub parts_of : List ℕ → Parts
parts_of bundle = parts_from bundle (first_from true true 0 bundle)
