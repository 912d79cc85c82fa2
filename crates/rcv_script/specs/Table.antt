-- The codes from 31 on, each by the symbols alone. Everywhere back are the symbols before, the nearest first, and t is the
-- symbol at which the code may hold. No word of scripts is reserved, so what a symbol is follows from its line.
use Rattle.std.specs.Prelude.{◌≡◌, ℕ, ◌+◌, ◌&&◌, ◌||◌, not, nat_le, Bool, true, false, cond, codes, List, [], ◌∷◌}
use Rattle.std.specs.Prelude.{◌++◌, length, drop, bytes_eq}
use Rattle.std.specs.List.{list_any}
use Rattle.rcv_points.specs.Follow.{PointView}
use Rattle.rcv_script.specs.declared.sign.Sign.TheVariants as signs
use Rattle.rcv_script.specs.declared.fault.Fault.{Fault}
use Rattle.rcv_script.specs.declared.fault.Fault.TheVariants as faults
use Rattle.rcv_script.specs.Symbols.{Symbol, Is, Word}
use Rattle.rcv_script.specs.Labels.{sends, takes_part, sends_bare, takes_bare, place_in}

abbrev pub is_among : List ℕ → List (List ℕ) → Bool
is_among name names = list_any (λ other. bytes_eq name other) names

-- ---- what stands where

-- the symbols of this line, or of the head of this script, in their order
abbrev pub line_so_far : List Symbol → List Symbol
line_so_far [] = []
line_so_far (Is signs.Semicolon ∷ back) = []
line_so_far (Is signs.Open ∷ back) = []
line_so_far (Is signs.Close ∷ back) = []
line_so_far (t ∷ back) = line_so_far back ++ t ∷ []

abbrev pub word_of : Symbol → List ℕ
word_of (Word w) = w
word_of _ = []

-- the label of a line is its second word
abbrev pub label_in : List Symbol → List ℕ
label_in (a ∷ b ∷ ts) = word_of b
label_in _ = []

abbrev pub label : List Symbol → List ℕ
label back = label_in (line_so_far back)

-- of the line this first word stands, and no more
abbrev pub is_one : List ℕ → List Symbol → Bool
is_one word (a ∷ []) = bytes_eq (word_of a) word
is_one word _ = false

abbrev pub is_behind : List ℕ → List Symbol → Bool
is_behind word back = is_one word (line_so_far back)

-- pick and its label stand
abbrev pub are_two : List Symbol → Bool
are_two (a ∷ b ∷ []) = bytes_eq (word_of a) (codes "pick")
are_two _ = false

-- on, its label and set stand
abbrev pub are_three : List Symbol → Bool
are_three (a ∷ b ∷ c ∷ []) = bytes_eq (word_of a) (codes "on")
are_three _ = false

-- in the expression of a send or pick line, which begins after three symbols
abbrev pub decides : List Symbol → Bool
decides (a ∷ b ∷ c ∷ ts) = bytes_eq (word_of a) (codes "send") || bytes_eq (word_of a) (codes "pick")
decides _ = false

abbrev pub is_deciding : List Symbol → Bool
is_deciding back = decides (line_so_far back)

-- in that of an on line, which begins after five
abbrev pub remembers : List Symbol → Bool
remembers (a ∷ b ∷ c ∷ d ∷ e ∷ ts) = bytes_eq (word_of a) (codes "on")
remembers _ = false

abbrev pub is_remembering : List Symbol → Bool
is_remembering back = remembers (line_so_far back)

abbrev pub is_none : List Symbol → Bool
is_none [] = true
is_none _ = false

-- the names of the roles that have a script, with this one
abbrev pub given : List Symbol → List (List ℕ)
given [] = []
given (Is signs.Open ∷ Word n ∷ back) = given back ++ n ∷ []
given (_ ∷ back) = given back

-- the name of the role of this script
abbrev pub role_name : List Symbol → List ℕ
role_name [] = []
role_name (Is signs.Open ∷ Word n ∷ back) = n
role_name (_ ∷ back) = role_name back

-- the second words of this script's lines so far that begin with this word
abbrev pub seconds : List ℕ → List Symbol → List (List ℕ)
seconds word [] = []
seconds word (Is signs.Open ∷ back) = []
seconds word (Word n ∷ back) = cond (is_behind word back) (seconds word back ++ n ∷ []) (seconds word back)
seconds word (_ ∷ back) = seconds word back

-- the variables of this script so far, and the labels of its send lines
abbrev pub variables : List Symbol → List (List ℕ)
variables back = seconds (codes "var") back

abbrev pub labels_sent : List Symbol → List (List ℕ)
labels_sent back = seconds (codes "send") back

-- so many lines of this script are over
abbrev pub lines_over : List Symbol → ℕ
lines_over [] = 0
lines_over (Is signs.Open ∷ back) = 0
lines_over (Is signs.Close ∷ back) = 0
lines_over (Is signs.Semicolon ∷ back) = 1 + lines_over back
lines_over (_ ∷ back) = lines_over back

-- An atom begins here: after a mark that is no closing parenthesis, and after the word when of a pick line.
abbrev pub begins_an_atom : List Symbol → Bool
begins_an_atom (Is signs.Right ∷ back) = false
begins_an_atom (Is s ∷ back) = true
begins_an_atom (Word w ∷ back) = are_two (line_so_far back)
begins_an_atom _ = false

-- for each parenthesis that is open what stands before it
abbrev pub parentheses : List Symbol → List (List Symbol)
parentheses [] = []
parentheses (Is signs.Left ∷ back) = back ∷ parentheses back
parentheses (Is signs.Right ∷ back) = drop 1 (parentheses back)
parentheses (_ ∷ back) = parentheses back

-- so many signs stand here in front of an atom, one after another
abbrev pub minuses : List Symbol → ℕ
minuses (Is signs.Minus ∷ back) = cond (begins_an_atom back) (1 + minuses back) 0
minuses _ = 0

-- these parentheses, and the signs in front of each
abbrev pub with_signs : List (List Symbol) → ℕ
with_signs [] = 0
with_signs (before ∷ others) = 1 + minuses before + with_signs others

-- so many parentheses and signs are open
abbrev pub nesting : List Symbol → ℕ
nesting back = minuses back + with_signs (parentheses back)

-- ---- the table

abbrev pub role_of : List (List ℕ) → List Symbol → ℕ
role_of roles back = place_in roles (role_name back)

-- 31: a role that isn't declared, or that has a script before
abbrev pub is_role : List (List ℕ) → List Symbol → Symbol → Bool
is_role roles back (Word n) = is_behind (codes "role") back && (not (is_among n roles) || is_among n (given back))
is_role roles back _ = false

-- 32: a label of send or pick that the role never sends, one of on that it neither sends nor receives, and the label of
-- a second send line of the role
abbrev pub is_label : List (List ℕ) → List PointView → List Symbol → Symbol → Bool
is_label roles messages back (Word l) =
    (is_behind (codes "send") back && (not (sends messages (role_of roles back) l) || is_among l (labels_sent back)))
    || (is_behind (codes "pick") back && not (sends messages (role_of roles back) l))
    || (is_behind (codes "on") back && not (takes_part messages (role_of roles back) l))
is_label roles messages back _ = false

-- the words value and attempt
abbrev pub is_own_word : List ℕ → Bool
is_own_word w = bytes_eq w (codes "value") || bytes_eq w (codes "attempt")

-- 33: a variable that isn't declared before in this script, a declaration of a name declared before or named value or
-- attempt, and the word value in a send or pick line
abbrev pub is_variable : List Symbol → Symbol → Bool
is_variable back (Word w) =
    (is_behind (codes "var") back && (is_own_word w || is_among w (variables back)))
    || (are_three (line_so_far back) && not (is_among w (variables back)))
    || ((is_deciding back || is_remembering back) && not (is_own_word w) && begins_an_atom back && not (is_among w (variables back)))
    || (is_deciding back && bytes_eq w (codes "value"))
is_variable back _ = false

-- 34: the word attempt in the expression of an on line
abbrev pub is_attempt_in_state : List Symbol → Symbol → Bool
is_attempt_in_state back (Word w) = is_remembering back && bytes_eq w (codes "attempt")
is_attempt_in_state back _ = false

-- 35: the label of a send line, if a point that the role sends with it has no sorts; and the word value in an on line, if a
-- point of the role with that label has none
abbrev pub is_without_payload : List (List ℕ) → List PointView → List Symbol → Symbol → Bool
is_without_payload roles messages back (Word w) =
    (is_behind (codes "send") back && sends_bare messages (role_of roles back) w)
    || (is_remembering back && bytes_eq w (codes "value") && takes_bare messages (role_of roles back) (label back))
is_without_payload roles messages back _ = false

-- 36: the word var of a 17th variable, the first word of a 257th line of one role, and the ( or the sign that is the
-- 33rd nested one of its expression
abbrev pub is_too_many : List Symbol → Symbol → Bool
is_too_many back (Word w) =
    is_none (line_so_far back) && (nat_le 256 (lines_over back) || (bytes_eq w (codes "var") && nat_le 16 (length (variables back))))
is_too_many back (Is signs.Left) = nat_le 32 (nesting back)
is_too_many back (Is signs.Minus) = (is_deciding back || is_remembering back) && begins_an_atom back && nat_le 32 (nesting back)
is_too_many back _ = false

-- The code holds at t. (Code 30 is that of the grammar.)
abbrev pub Holds : List (List ℕ) → List PointView → Fault → List Symbol → Symbol → Type 0
Holds roles messages faults.Token back t = ⊥
Holds roles messages faults.Role back t = is_role roles back t ≡ true
Holds roles messages faults.Label back t = is_label roles messages back t ≡ true
Holds roles messages faults.Variable back t = is_variable back t ≡ true
Holds roles messages faults.AttemptInState back t = is_attempt_in_state back t ≡ true
Holds roles messages faults.NoPayload back t = is_without_payload roles messages back t ≡ true
Holds roles messages faults.TooMany back t = is_too_many back t ≡ true
