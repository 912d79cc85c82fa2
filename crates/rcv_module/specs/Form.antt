-- What the reader gives of a module: what it gives of a protocol, with calls.
use Rattle.std.specs.Prelude.{◌≡◌, ℕ, ◌<◌, ◌≤◌, ◌⊎◌, List, [], ◌∷◌, length}
use Rattle.std.specs.List.{All, AllByRecursion}
use Rattle.rcv_tree.specs.declared.module.Module.{Module}
use Rattle.rcv_tree.specs.Words.{IsWord}
use Rattle.rcv_model.specs.Text.{Body, End, Single, Choose, Loop, Again, Parallel, Call, Bodies, NoMore, Or}
use Rattle.rcv_model.specs.Net.{IsIn}
use Rattle.rcv_model.specs.Places.{IsNothing, IsNamed as IsNameOf, singles}
use Rattle.rcv_model.specs.Form.{HasForm}
use Rattle.rcv_module.specs.Parts.{Part, parts_of, sites}

-- The roles are declared, and none stands twice.
abbrev pub AreArguments : ℕ → List ℕ → Type 0
AreArguments roles [] = Unit {0}
AreArguments roles (r ∷ rs) = (r < roles) × (IsIn r rs → ⊥) × AreArguments roles rs

-- Each block is full, as `IsFull` says, except that calls may stand where messages may: a call counts as a message, and its arguments are
-- declared roles that differ. No par.
abbrev mutual
  pub IsFilled : ℕ → List (List ℕ) → List (List ℕ) → Body → Type 0
  IsFilled roles recs bare End = Unit {0}
  IsFilled roles recs bare (Single label sorts s r p rest) = IsFilled roles recs [] rest
  IsFilled roles recs bare (Choose s bs rest) = AreFilled roles recs bare bs × IsFilled roles recs [] rest
  IsFilled roles recs bare (Loop name body rest) =
      (IsNothing body → ⊥) × IsFilled roles (name ∷ recs) (name ∷ bare) body × IsFilled roles recs [] rest
  IsFilled roles recs bare (Again name rest) = IsNameOf name recs × (IsNameOf name bare → ⊥) × IsNothing rest
  IsFilled roles recs bare (Parallel bs rest) = ⊥
  IsFilled roles recs bare (Call name rs rest) = AreArguments roles rs × IsFilled roles recs [] rest

  pub AreFilled : ℕ → List (List ℕ) → List (List ℕ) → Bodies → Type 0
  AreFilled roles recs bare NoMore = ⊥
  AreFilled roles recs bare (Or b bs) = (IsNothing b → ⊥) × IsFilled roles recs bare b × OthersFilled roles recs bare bs

  pub OthersFilled : ℕ → List (List ℕ) → List (List ℕ) → Bodies → Type 0
  OthersFilled roles recs bare NoMore = Unit {0}
  OthersFilled roles recs bare (Or b bs) = (IsNothing b → ⊥) × IsFilled roles recs bare b × OthersFilled roles recs bare bs

-- The role is an end of a message of the body, or an argument of a call.
abbrev mutual
  pub HasRole : ℕ → Body → Type 0
  HasRole r End = ⊥
  HasRole r (Single label sorts s t p rest) = ((s ≡ r) ⊎ (t ≡ r)) ⊎ HasRole r rest
  HasRole r (Choose s bs rest) = SomeHasRole r bs ⊎ HasRole r rest
  HasRole r (Loop name body rest) = HasRole r body ⊎ HasRole r rest
  HasRole r (Again name rest) = HasRole r rest
  HasRole r (Parallel bs rest) = SomeHasRole r bs ⊎ HasRole r rest
  HasRole r (Call name rs rest) = IsIn r rs ⊎ HasRole r rest

  pub SomeHasRole : ℕ → Bodies → Type 0
  SomeHasRole r NoMore = ⊥
  SomeHasRole r (Or b bs) = HasRole r b ⊎ SomeHasRole r bs

-- No role stands in two of the blocks.
abbrev pub ShareNoRole : Bodies → Type 0
ShareNoRole NoMore = Unit {0}
ShareNoRole (Or b bs) = ((r : ℕ) → HasRole r b → SomeHasRole r bs → ⊥) × ShareNoRole bs

-- The same as `IsFilled` for a text, in whose own block a par may stand: each block of the par is full, and no role stands in two of them.
abbrev pub IsFilledText : ℕ → Body → Type 0
IsFilledText roles End = Unit {0}
IsFilledText roles (Single label sorts s r p rest) = IsFilledText roles rest
IsFilledText roles (Choose s bs rest) = AreFilled roles [] [] bs × IsFilledText roles rest
IsFilledText roles (Loop name body rest) =
    (IsNothing body → ⊥) × IsFilled roles (name ∷ []) (name ∷ []) body × IsFilledText roles rest
IsFilledText roles (Again name rest) = ⊥
IsFilledText roles (Parallel bs rest) = AreFilled roles [] [] bs × ShareNoRole bs × IsFilledText roles rest
IsFilledText roles (Call name rs rest) = AreArguments roles rs × IsFilledText roles rest

-- One protocol: as `HasForm` says; its blocks are full; its labels are words. A par may stand in the first one.
pub record IsFormed (p : Part) : Type 0 where
  pub form : HasForm p.body p.roles
  pub filled : IsFilled p.roles [] [] p.body
  pub words : All (λ m. IsWord m.1.label) (singles p.body)

pub record IsFormedFirst (p : Part) : Type 0 where
  pub form : HasForm p.body p.roles
  pub filled : IsFilledText p.roles p.body
  pub words : All (λ m. IsWord m.1.label) (singles p.body)

abbrev pub AreFormed : List Part → Type 0
AreFormed [] = ⊥
AreFormed (p ∷ ps) = IsFormedFirst p × AllByRecursion IsFormed ps

-- There are at most 64 protocols, and a line for each call.
pub record HasModuleForm (m : Module) : Type 0 where
  pub few : length (parts_of m) ≤ 64
  pub formed : AreFormed (parts_of m)
  pub lines : length m.dos ≡ length (sites (parts_of m))
