-- What the count along a text says.
use Rattle.std.specs.Prelude.{◌≡◌, ℕ, min, nat_lt, Bool, Option, Some, List, [], ◌∷◌, ◌++◌, map, slice_get}
use Rattle.rcv_tree.specs.declared.statement.Stmt.{Stmt}
use Rattle.rcv_model.specs.Text.{Body, Bodies, stmt_body}
use Rattle.rcv_do.specs.declared.sizes.Size.{Size}
use Rattle.rcv_do.specs.declared.sizes.Count.{Count}
use Rattle.rcv_do.specs.Code.{parts_in, known_at}
use Rattle.rcv_module.specs.Parts.{Part, Site, place, calls, calls_of}
use Rattle.rcv_module.specs.Sizes as exact
use Rattle.rcv_module.specs.Sizes.{Passes, AllPass, AreMarks, nothing}

-- What is kept of a size.
abbrev pub capped : exact.Size → Size
capped s = record { points = min s.points 257; blocks = min s.blocks 33 }

-- This is kept of the size of this protocol's expansion, whose own block doesn't count.
pub record IsSizeOf (parts : List Part) (place : ℕ) (z : Size) : Type 0 where
  pub part : Part
  pub is : slice_get parts place ≡ Some part
  pub ends : List exact.Size
  pub whole : exact.Size
  pub passes : Passes parts 0 nothing part.body ends whole
  pub kept : z ≡ capped whole

-- What is known is right.
abbrev pub AreSizesOf : List Part → List (Option Size) → Type 0
AreSizesOf parts known = (i : ℕ) (z : Size) → known_at known i ≡ Some z → IsSizeOf parts i z

-- The size of each protocol that these call is known.
abbrev pub AreKnown : List Part → List (Option Size) → List Site → Type 0
AreKnown parts known [] = Unit {0}
AreKnown parts known (s ∷ ss) =
    ((i : ℕ) × (z : Size) × (place parts s.name ≡ Some i) × (known_at known i ≡ Some z)) × AreKnown parts known ss

-- The count went on from one size to another, past these ends.
pub record Went (old new : Count) (s t : exact.Size) (ends : List exact.Size) : Type 0 where
  pub now : new.now ≡ capped t
  pub more : new.ends.items ≡ old.ends.items ++ map capped ends

-- All that these call is known, and the count stands at this depth and this size, as far as it counts them.
abbrev pub IsReady : Count → List Site → ℕ → ℕ → exact.Size → Type 0
IsReady c sites depth d s =
    AreSizesOf (parts_in c.parts) c.known.now × AreKnown (parts_in c.parts) c.known.now sites × (depth ≡ min d 33) × (c.now ≡ capped s)

abbrev pub Stays : Count → Count → Type 0
Stays old new = (parts_in new.parts ≡ parts_in old.parts) × (new.known.now ≡ old.known.now)

abbrev pub PassesBlock : Count → ℕ → Body → Count → Type 0
PassesBlock old depth body new =
    Stays old new × ((d : ℕ) (s : exact.Size) → IsReady old (calls 0 body) depth d s
    → (t : exact.Size) × (ends : List exact.Size) × Passes (parts_in old.parts) d s body ends t × Went old new s t ends)

abbrev pub PassesBlocks : Count → ℕ → Bodies → Count → Type 0
PassesBlocks old depth bodies new =
    Stays old new × ((d : ℕ) (s : exact.Size) → IsReady old (calls_of 0 bodies) depth d s
    → (t : exact.Size) × (ends : List exact.Size) × AllPass (parts_in old.parts) d s bodies ends t × Went old new s t ends)

-- A statement, whatever stands after it.
abbrev pub PassesStmt : Count → ℕ → Stmt → Count → Type 0
PassesStmt old depth stmt new =
    Stays old new × ((d : ℕ) (s : exact.Size) (rest : Body) → IsReady old (calls 0 (stmt_body stmt rest)) depth d s
    → (t : exact.Size) × (ends : List exact.Size) × Went old new s t ends × AreKnown (parts_in old.parts) old.known.now (calls 0 rest)
    × ((more : List exact.Size) (u : exact.Size) → Passes (parts_in old.parts) d t rest more u
    → Passes (parts_in old.parts) d s (stmt_body stmt rest) (ends ++ more) u))

-- ---- the marks

-- What is kept of the marks by which a module is refused.
abbrev pub AreCapped : List Part → List Size → Type 0
AreCapped parts kept = (marks : List exact.Size) × AreMarks parts marks × (kept ≡ map capped marks)

abbrev pub is_deep : Size → Bool
is_deep z = nat_lt 32 z.blocks

abbrev pub is_many : Size → Bool
is_many z = nat_lt 256 z.points
