-- The lines of a snapshot, one part behind the other.
use Rattle.std.proofs.Common.{◌≡◌, List, [], ◌∷◌, ◌++◌, map, flat_map, ◌∙◌, ap, ap₂}
use Rattle.std.specs.Prelude.{All}
use Rattle.std.specs.List.{range_with_len}
use Rattle.std.proofs.lemmas.List.Elements.{All-same, All-push}
use Rattle.rcv_tree.specs.declared.event.Event.{Event}
use Rattle.rcv_guide.specs.Remembered.{seeds_of}
use Rattle.rcv_dialogue.specs.declared.line.Again.{Again}
use Rattle.rcv_dialogue.specs.declared.line.Again.TheVariants as again
use Rattle.rcv_dialogue.specs.declared.line.Extent.{Extent}
use Rattle.rcv_dialogue.specs.Answers.{NamesInAgain}
use Rattle.rcv_guided.specs.Session.{SessionView, roles_in}
use Rattle.rcv_guided.specs.Hearing.{accepted_of}
use Rattle.rcv_guided.specs.Restoring.{extent_of, role_again, flight_again, saves_again, snapshot_of}

-- All lines name what is declared.
abbrev pub AreNamed : SessionView → List Again → Type 0
AreNamed s lines = All (NamesInAgain (accepted_of s)) lines

-- So do they with one more.
pub one_named : (s : SessionView) (before after : List Again) (line : Again) → after ≡ before ++ line ∷ [] → NamesInAgain (accepted_of s) line → AreNamed s before → AreNamed s after
one_named s before after line more named all =
    All-same (NamesInAgain (accepted_of s)) after (before ++ line ∷ []) more (All-push (NamesInAgain (accepted_of s)) before line all named)

pub are_lines : (s : SessionView) (events seeds es : List Event) (x : Extent) (l1 l2 l3 l4 l5 : List Again) → x ≡ extent_of s → es ≡ events → seeds ≡ seeds_of s.guide
    → l1 ≡ again.Session x ∷ [] → l2 ≡ l1 ++ map (role_again s) (range_with_len 0 (roles_in s)) → l3 ≡ l2 ++ map (flight_again s) seeds
    → l4 ≡ l3 ++ map (λ e. again.Event e) es → l5 ≡ l4 ++ flat_map (saves_again s) (range_with_len 0 (roles_in s)) → l5 ≡ snapshot_of s events
are_lines s events seeds es x l1 l2 l3 l4 l5 x_is es_is seeds_is e1 e2 e3 e4 e5 =
    let roles = map (role_again s) (range_with_len 0 (roles_in s)) in
    let first = e2 ∙ ap (λ (l : List Again). l ++ roles) (e1 ∙ ap (λ (y : Extent). again.Session y ∷ []) x_is) in
    let second = e3 ∙ ap₂ (λ (l : List Again) (z : List Event). l ++ map (flight_again s) z) first seeds_is in
    let third = e4 ∙ ap₂ (λ (l : List Again) (z : List Event). l ++ map (λ (e : Event). again.Event e) z) second es_is in
    e5 ∙ ap (λ (l : List Again). l ++ flat_map (saves_again s) (range_with_len 0 (roles_in s))) third
