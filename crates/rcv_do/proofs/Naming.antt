-- The first place of a name, found from one place on.
use Rattle.std.proofs.Common.{◌≡◌, ℕ, ◌+◌, Bool, true, false, cond, Option, Some, List, ◌∷◌, map, ap}
use Rattle.std.specs.Str.{bytes_eq}
use Rattle.rcv_tree.specs.declared.protocol.Protocol.{Protocol}
use Rattle.rcv_module.specs.Parts.{Part, part_of, first_from}

abbrev is_named : List ℕ → Part → Bool
is_named name p = bytes_eq p.name name

-- from this place on
abbrev pub placed_from : List ℕ → ℕ → List Protocol → Option ℕ
placed_from name i ps = first_from (is_named name) i (map part_of ps)

pub here_placed : (name : List ℕ) (i : ℕ) (p : Protocol) (ps : List Protocol) → bytes_eq p.name name ≡ true → placed_from name i (p ∷ ps) ≡ Some i
here_placed name i p ps e = ap (λ b. cond b (Some i) (placed_from name (i + 1) ps)) e

pub later_placed : (name : List ℕ) (i : ℕ) (p : Protocol) (ps : List Protocol) → bytes_eq p.name name ≡ false → placed_from name i (p ∷ ps) ≡ placed_from name (i + 1) ps
later_placed name i p ps e = ap (λ b. cond b (Some i) (placed_from name (i + 1) ps)) e
