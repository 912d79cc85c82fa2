-- How deep in its protocol's text each call stands.
use Rattle.std.specs.Prelude.{ℕ, ◌+◌, nat_lt, if◌then◌else◌, List, [], ◌∷◌, ◌++◌, flat_map}
use Rattle.rcv_model.specs.Text.{Body, End, Single, Choose, Loop, Again, Parallel, Call, Bodies, NoMore, Or}
use Rattle.rcv_module.specs.Parts.{Part}

-- One block more. It is counted up to 255; a text that was read has at most 32 blocks within each other.
abbrev pub deeper : ℕ → ℕ
deeper n = if nat_lt n 255 then n + 1 else n

-- In how many inner blocks each call of a text stands, in order, if the text itself stands in so many.
abbrev mutual
  pub depths : ℕ → Body → List ℕ
  depths n End = []
  depths n (Single label sorts s r p rest) = depths n rest
  depths n (Choose s bs rest) = depths_of (deeper n) bs ++ depths n rest
  depths n (Loop name body rest) = depths (deeper n) body ++ depths n rest
  depths n (Again name rest) = depths n rest
  depths n (Parallel bs rest) = depths_of (deeper n) bs ++ depths n rest
  depths n (Call name roles rest) = n ∷ depths n rest

  pub depths_of : ℕ → Bodies → List ℕ
  depths_of n NoMore = []
  depths_of n (Or b bs) = depths n b ++ depths_of n bs

-- The same of all calls of a module, in text order.
abbrev pub call_depths : List Part → List ℕ
call_depths parts = flat_map (λ (p : Part). depths 0 p.body) parts
