-- Texts that are short enough for their expansions to have blocks.
use Rattle.std.specs.Prelude.{ℕ, ◌+◌, ◌^◌, ◌<◌}
use Rattle.std.specs.List.{AllByRecursion}
use Rattle.rcv_tree.specs.declared.module.Module.{Module}
use Rattle.rcv_model.specs.Text.{Body, End, Single, Choose, Loop, Again, Parallel, Call, Bodies, NoMore, Or}
use Rattle.rcv_module.specs.Parts.{Part, parts_of}

-- How many statements and branches a body has, with those in its blocks.
abbrev mutual
  pub extent : Body → ℕ
  extent End = 0
  extent (Single label sorts s r p rest) = 1 + extent rest
  extent (Choose s bs rest) = 1 + (extent_of bs + extent rest)
  extent (Loop name body rest) = 1 + (extent body + extent rest)
  extent (Again name rest) = 1 + extent rest
  extent (Parallel bs rest) = 1 + (extent_of bs + extent rest)
  extent (Call name roles rest) = 1 + extent rest

  pub extent_of : Bodies → ℕ
  extent_of NoMore = 0
  extent_of (Or b bs) = 1 + (extent b + extent_of bs)

-- There are fewer than 2^62 of them. That holds for each text that was read, because each statement and each branch takes at least two
-- tokens.
abbrev pub IsShort : Part → Type 0
IsShort p = extent p.body < 2 ^ 62

-- The same for each protocol of a module.
abbrev pub AreShort : Module → Type 0
AreShort m = AllByRecursion IsShort (parts_of m)
