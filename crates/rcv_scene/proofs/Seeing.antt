-- What is seen of shapes that are added one after another.
use Rattle.std.proofs.Common.{◌≡◌, List, [], ◌∷◌, ◌++◌, map, ◌∙◌, ap}
use Rattle.std.proofs.lemmas.List.{map-append}
use Rattle.rcv_picture.specs.declared.shape.Shape.{Shape}
use Rattle.rcv_scene.specs.Seen.{seen_of, seen}

-- one shape more
pub one_more : (old new : List Shape) (s : Shape) → new ≡ old ++ s ∷ [] → seen new ≡ seen old ++ seen_of s ∷ []
one_more old new s is = ap seen is ∙ map-append seen_of old (s ∷ [])
