-- Where the parser stands, and what the machine says there.
use Rattle.std.specs.Prelude.{◌≡◌, ℕ, ◌≤◌, Bool, false, List, [], ◌++◌, ◌∷◌, Option, Some, None}
use Rattle.rcv_tree.specs.Bits.{has_bit}
use Rattle.rcv_machine.specs.Words.{place_of, Named, Symbol, Is, IsNotNext, Sign, Right, Close, Or, And, Comma, Semicolon, Dot, Token, Item, This, AnyName, MoreModules, MoreRoles, Sorts, MoreSorts, MoreReceivers, MoreArguments, First, Rest, More, Later, Answer, Refuses, after_statement, answer, known}

-- what the parser knows, and the symbols that are left to read
pub record Standing : Type 0 where
  pub protocols : List (List ℕ)  -- the names of those before, and of this one
  pub roles : List (List ℕ)
  pub recs : List (List ℕ)  -- the names of the enclosing recursions, the innermost last
  pub count : ℕ  -- so many points
  pub since : ℕ  -- the set of the roles that are named since the last par began
  pub rest : List Symbol

-- There is a place for each protocol, each role and each point.
pub record IsSmall (protocols roles count : ℕ) : Type 0 where
  pub few_protocols : protocols ≤ 64
  pub few : roles ≤ 8
  pub short : count ≤ 256

-- the same in front of these symbols; with so many points and these roles named; with these roles; with these protocols; inside
-- these recursions
abbrev pub at : Standing → List Symbol → Standing
at p ts = record { protocols = p.protocols; roles = p.roles; recs = p.recs; count = p.count; since = p.since; rest = ts }

abbrev pub back_at : Standing → ℕ → ℕ → List Symbol → Standing
back_at p n named ts = record { protocols = p.protocols; roles = p.roles; recs = p.recs; count = n; since = named; rest = ts }

abbrev pub with_roles : Standing → List (List ℕ) → List Symbol → Standing
with_roles p roles ts = record { protocols = p.protocols; roles = roles; recs = p.recs; count = p.count; since = p.since; rest = ts }

abbrev pub with_protocols : Standing → List (List ℕ) → List Symbol → Standing
with_protocols p names ts = record { protocols = names; roles = p.roles; recs = p.recs; count = p.count; since = p.since; rest = ts }

abbrev pub within : Standing → List (List ℕ) → Standing
within p recs = record { protocols = p.protocols; roles = p.roles; recs = recs; count = p.count; since = p.since; rest = p.rest }

-- where a protocol begins, or the first one is still to come: nothing is known but the names of those before
abbrev pub afresh : List (List ℕ) → List Symbol → Standing
afresh names ts = record { protocols = names; roles = []; recs = []; count = 0; since = 0; rest = ts }

-- what the bits of a set say of the place of a role, and of a name
abbrev pub has_place : ℕ → Option ℕ → Bool
has_place bits None = false
has_place bits (Some r) = has_bit bits r

abbrev pub named_in : List (List ℕ) → ℕ → Named
named_in roles bits = λ n. has_place bits (place_of roles n)

-- what the machine answers from here on, if these are awaited
abbrev pub answers : Standing → List Item → Answer
answers p k = answer (known p.protocols p.roles p.count (named_in p.roles p.since)) k p.rest

-- the sign with which an item goes on, and what is awaited instead if another symbol is next
abbrev pub going_on : Item → Option Sign × Item × List Item
going_on MoreModules = (Some Dot, This (Is Semicolon), [])
going_on MoreRoles = (Some Comma, This (Is Right), [])
going_on Sorts = (Some Right, AnyName, MoreSorts ∷ [])
going_on MoreSorts = (Some Comma, This (Is Right), [])
going_on (MoreReceivers earlier sender before) = (Some Comma, This (Is Semicolon), [])
going_on (MoreArguments earlier before) = (Some Comma, This (Is Right), [])
going_on (Rest p) = (Some Close, First p, [])
going_on (More p) = (Some Or, Rest (after_statement p false), [])
going_on (Later p) = (Some And, Rest (after_statement p false), [])
going_on i = (None, i, [])

-- The sign isn't next.
pub record IsOver (sign : Sign) (p : Standing) : Type 0 where
  pub unlike : IsNotNext (Is sign) p.rest
  pub stops : (k : List Item) → answers p (This (Is sign) ∷ k) ≡ Refuses Token p.rest
  pub over : (i : Item) (k : List Item) → (going_on i).0 ≡ Some sign
      → answers p (i ∷ k) ≡ answers p ((going_on i).1 ∷ (going_on i).2 ++ k)
