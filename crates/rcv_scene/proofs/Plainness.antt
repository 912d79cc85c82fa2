-- Labels look like no mark.
use Rattle.std.proofs.Common.{◌≡◌, ℕ, Bool, List, [], ◌∙◌, ap}
use Rattle.rcv_tree.specs.declared.event.Event.{Event}
use Rattle.rcv_tree.specs.declared.event.Dir.{Dir}
use Rattle.rcv_tree.specs.declared.event.Dir.TheVariants.{Sent, Got}
use Rattle.rcv_picture.specs.declared.pixels.Pixels.{Pixels}
use Rattle.rcv_picture.specs.declared.look.Look.{Look}
use Rattle.rcv_scene.specs.Seen.{Seen, marks}
use Rattle.rcv_scene.specs.Grid.{Scene}
use Rattle.rcv_scene.specs.Labels.{IsStrike, struck, not_struck, IsTextBeside, IsRecvLabel, no_label, labelled}
use Rattle.rcv_scene.specs.Marks.{IsLabel}
use Rattle.rcv_scene.specs.Laws.{LabelsAreNoMarks}

plain_strike : (undone : Bool) (x y : Pixels) (drawn : List Seen) → IsStrike undone x y drawn → marks drawn ≡ []
plain_strike undone x y drawn (struck end so is) = ap marks is
plain_strike undone x y drawn (not_struck kept is) = ap marks is

plain_text : (x y line : Pixels) (look : Look) (text : List ℕ) (undone : Bool) (drawn : List Seen) → IsTextBeside x y line look text undone drawn → marks drawn ≡ []
plain_text x y line look text undone drawn there = ap marks there.is ∙ plain_strike undone there.place line there.strike there.through

plain_recv : (scene : Scene) (place : ℕ) (y : Pixels) (event : Event) (undone : Bool) (drawn : List Seen) → IsRecvLabel scene place y event undone drawn → marks drawn ≡ []
plain_recv scene place y event undone drawn (no_label known is) = ap marks is
plain_recv scene place y event undone drawn (labelled note) = plain_text _ _ _ _ _ undone drawn note.there

pub plain_labels : LabelsAreNoMarks
plain_labels scene place y event Sent undone drawn label = plain_text _ _ _ _ _ undone drawn label.there
plain_labels scene place y event Got undone drawn label = plain_recv scene place y event undone drawn label
