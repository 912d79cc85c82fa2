-- The grammar of plans: the items as they are written, and what each says.
use Rattle.std.specs.Prelude.{◌≡◌, ℕ, codes, List, [], ◌∷◌, ◌++◌, length, map, Bool, is_some, unwrap_or}
use Rattle.rcv_tree.specs.Names.{place_of}
use Rattle.rcv_model.specs.Plan.{PlanLine, EveryLine, CrashLine, LimitLine, RoomLine, HostLine}
use Rattle.rcv_plan.specs.declared.sign.Sign.TheVariants.{Equals, Comma}
use Rattle.rcv_plan.specs.Symbols.{Symbol, Word, Number, Is}

-- A host has a name, two roles, and any others.
pub data Written : Type 0 where
  WrittenEvery : (role : List ℕ) (number : ℕ) → Written
  WrittenCrash : (role : List ℕ) (number : ℕ) → Written
  WrittenLimit : (number : ℕ) → Written
  WrittenRoom : (number : ℕ) → Written
  WrittenHost : (name first second : List ℕ) (others : List (List ℕ)) → Written

abbrev pub more_roles : List (List ℕ) → List Symbol
more_roles [] = []
more_roles (q ∷ qs) = Is Comma ∷ Word q ∷ more_roles qs

abbrev pub item_text : Written → List Symbol
item_text (WrittenEvery r n) = Word (codes "every") ∷ Word r ∷ Number n ∷ []
item_text (WrittenCrash r n) = Word (codes "crash") ∷ Word r ∷ Number n ∷ []
item_text (WrittenLimit n) = Word (codes "limit") ∷ Number n ∷ []
item_text (WrittenRoom n) = Word (codes "room") ∷ Number n ∷ []
item_text (WrittenHost h a b qs) = Word (codes "host") ∷ Word h ∷ Is Equals ∷ Word a ∷ Is Comma ∷ Word b ∷ more_roles qs

abbrev pub plan_text : List Written → List Symbol
plan_text [] = []
plan_text (w ∷ ws) = item_text w ++ plan_text ws

-- The grammar derives the list, or it is the beginning of such a list.
abbrev pub IsDerived : List Symbol → Type 0
IsDerived symbols = (ws : List Written) × (symbols ≡ plan_text ws)

abbrev pub IsBeginning : List Symbol → Type 0
IsBeginning front = (more : List Symbol) × IsDerived (front ++ more)

-- the name is that of a role; and its place, or how many roles there are if it is none
abbrev pub is_role : List (List ℕ) → List ℕ → Bool
is_role roles name = is_some (place_of roles name)

abbrev pub place : List (List ℕ) → List ℕ → ℕ
place roles name = unwrap_or (place_of roles name) (length roles)

-- what an item says
abbrev pub said : List (List ℕ) → Written → PlanLine
said roles (WrittenEvery r n) = EveryLine (place roles r) n
said roles (WrittenCrash r n) = CrashLine (place roles r) n
said roles (WrittenLimit n) = LimitLine n
said roles (WrittenRoom n) = RoomLine n
said roles (WrittenHost h a b qs) = HostLine (map (place roles) (a ∷ b ∷ qs))
