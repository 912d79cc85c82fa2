-- Where wires begin and end, and that one is drawn.
use Rattle.std.proofs.Common.{◌≡◌, ℕ, Bool, List, [], ◌∷◌, ◌++◌, sym, ◌∙◌, ap, subst, inl, inr}
use Rattle.rcv_picture.specs.declared.pixels.Pixels.{Pixels}
use Rattle.rcv_picture.specs.declared.pixels.At.{At}
use Rattle.rcv_picture.specs.declared.look.Look.{Look}
use Rattle.rcv_scene.specs.declared.layout.Row.{Row}
use Rattle.rcv_scene.specs.declared.layout.Stand.{Stand}
use Rattle.rcv_scene.specs.declared.layout.Stand.TheVariants.{Own, Folded}
use Rattle.rcv_scene.specs.Seen.{Seen, Stroke, Way, at, further, back}
use Rattle.rcv_scene.specs.Grid.{Scene, column, StandsAt}
use Rattle.rcv_scene.specs.Wires.{wire_look, again_at, AreClose, Begins, beside_send, under_fold, Ends, beside_recv, over_fold, IsWireDrawn}

pub begins_own : (scene : Scene) (send role : ℕ) (stand : Stand) (y x b h : Pixels) (place : At) → stand ≡ Own y → x ≡ column scene.grid role
    → AreClose x b → AreClose y h → place ≡ at b h → StandsAt scene send stand → Begins scene send role place
begins_own scene send role stand y x b h place is in_column beside low there stands =
    subst (Begins scene send role) (sym there)
    (beside_send y (subst (StandsAt scene send) is stands)
    (record { x = subst (λ (p : Pixels). AreClose p b) in_column beside; y = low }))

pub begins_folded : (scene : Scene) (send role : ℕ) (stand : Stand) (row : Row) (x h : Pixels) (place : At) → stand ≡ Folded row
    → h ≡ back row.bottom 4 → place ≡ at x h → StandsAt scene send stand → Begins scene send role place
begins_folded scene send role stand row x h place is low there stands =
    subst (Begins scene send role) (sym there) (under_fold row (subst (StandsAt scene send) is stands) low)

pub ends_own : (scene : Scene) (receive role : ℕ) (stand : Stand) (y x b h : Pixels) (place : At) → stand ≡ Own y → x ≡ column scene.grid role
    → AreClose x b → AreClose y h → place ≡ at b h → StandsAt scene receive stand → Ends scene receive role place
ends_own scene receive role stand y x b h place is in_column beside low there stands =
    subst (Ends scene receive role) (sym there)
    (beside_recv y (subst (StandsAt scene receive) is stands)
    (record { x = subst (λ (p : Pixels). AreClose p b) in_column beside; y = low }))

pub ends_folded : (scene : Scene) (receive role : ℕ) (stand : Stand) (row : Row) (x h : Pixels) (place : At) → stand ≡ Folded row
    → h ≡ further row.top 4 → place ≡ at x h → StandsAt scene receive stand → Ends scene receive role place
ends_folded scene receive role stand row x h place is low there stands =
    subst (Ends scene receive role) (sym there) (over_fold row (subst (StandsAt scene receive) is stands) low)

-- the look of the Recv's wire
look_is : (scene : Scene) (receive : ℕ) (undone again : Bool) (look : Look) → again ≡ again_at scene receive → look ≡ wire_look undone again
    → look ≡ wire_look undone (again_at scene receive)
look_is scene receive undone again look known is = is ∙ ap (wire_look undone) known

pub straight : (scene : Scene) (send receive sender receiver : ℕ) (undone again : Bool) (from to : At) (look : Look) (drawn now old : List Seen)
    → Begins scene send sender from → Ends scene receive receiver to → again ≡ again_at scene receive → look ≡ wire_look undone again
    → drawn ≡ now → now ≡ old ++ Stroke from to look ∷ [] → old ≡ [] → IsWireDrawn scene send receive sender receiver undone drawn
straight scene send receive sender receiver undone again from to look drawn now old begins ends known is all more none =
    record {
      from = from;
      to = to;
      begins = begins;
      ends = ends;
      goes = inl
          (all ∙ more ∙ ap (λ (d : List Seen). d ++ Stroke from to look ∷ []) none
          ∙ ap (λ (l : Look). Stroke from to l ∷ []) (look_is scene receive undone again look known is));
    }

pub turning : (scene : Scene) (send receive sender receiver : ℕ) (undone again : Bool) (from to : At) (turns : List At) (look : Look) (drawn now old : List Seen)
    → Begins scene send sender from → Ends scene receive receiver to → again ≡ again_at scene receive → look ≡ wire_look undone again
    → drawn ≡ now → now ≡ old ++ Way (from ∷ turns ++ to ∷ []) look ∷ [] → old ≡ [] → IsWireDrawn scene send receive sender receiver undone drawn
turning scene send receive sender receiver undone again from to turns look drawn now old begins ends known is all more none =
    record {
      from = from;
      to = to;
      begins = begins;
      ends = ends;
      goes = inr (
        turns,
        all ∙ more ∙ ap (λ (d : List Seen). d ++ Way (from ∷ turns ++ to ∷ []) look ∷ []) none
            ∙ ap (λ (l : Look). Way (from ∷ turns ++ to ∷ []) l ∷ []) (look_is scene receive undone again look known is),
      );
    }
