-- What tests say.
use Rattle.std.proofs.Common.{◌≡◌, Bool, true, false}
use Rattle.std.specs.Prelude.{◌↔◌, IsTrue}

-- what a test that fails says
pub is_not : (P : Type 0) (b : Bool) → IsTrue b ↔ P → b ≡ false → P → ⊥
is_not P b test f p = let t : b ≡ true = test.1 p in absurd (cc)
