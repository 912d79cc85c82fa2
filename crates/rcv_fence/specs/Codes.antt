-- The codes of a role and a point.
use Rattle.std.specs.Prelude.{◌≡◌, ℕ, ◌+◌, ◌-◌, ◌*◌, ◌<◌, ◌≤◌}
use Rattle.rcv_tree.specs.Bits.{IsPoint}

-- The word that says that this point of this role is raised. 0 says that nothing is.
abbrev pub code : ℕ → ℕ → ℕ
code role point = 1 + 256 * role + (point - 1)

-- 0, or the code of a role below 8 and a point from 1 to 256: these are the numbers from 1 to 2,048.
abbrev pub IsWord : ℕ → Type 0
IsWord word = word ≤ 2048

-- the word is the code of this role and this point
pub record IsPairOf (word role point : ℕ) : Type 0 where
  pub role_is : role < 8
  pub point_is : IsPoint point
  pub code_is : word ≡ code role point
