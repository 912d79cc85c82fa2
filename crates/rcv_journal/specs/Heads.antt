-- How the events at one point begin, as lines or otherwise.
use Rattle.std.specs.Prelude.{◌≡◌, ℕ, List, ◌++◌, map, codes, decimal}
use Rattle.std.specs.Fmt.{signed_decimal}
use Rattle.std.specs.List.{range_with_len}
use Rattle.rcv_tree.specs.declared.event.Event.{Event}
use Rattle.rcv_session.specs.Session.{SessionView, net_for}
use Rattle.rcv_journal.specs.JournalText.{name_of}

-- `KIND ROLE POINT LABEL `. The kind ends in a space.
abbrev pub head_text : SessionView → List ℕ → ℕ → ℕ → List ℕ
head_text setup kind r p =
    kind ++ name_of setup r ++ codes " " ++ decimal p ++ codes " " ++ (net_for setup).label p ++ codes " "

-- How a Send begins, and a Recv.
pub record HeadView : Type 0 where
  pub send : List ℕ
  pub recv : List ℕ

-- A text for each kind of event, role and point.
abbrev pub Begins : Type 0
Begins = SessionView → List ℕ → ℕ → ℕ → List ℕ

-- That of a point: its sender sends, its receiver receives.
abbrev pub head_of : Begins → SessionView → ℕ → HeadView
head_of begun setup p =
    record {
      send = begun setup (codes "send") ((net_for setup).sender p) p;
      recv = begun setup (codes "recv") ((net_for setup).receiver p) p;
    }

-- The heads of the points from 1 on.
abbrev pub heads_to : Begins → SessionView → ℕ → List HeadView
heads_to begun setup count = map (head_of begun setup) (range_with_len 1 count)

-- They are those of all points of the text.
abbrev pub AreHeads : Begins → SessionView → List HeadView → Type 0
AreHeads begun setup heads = heads ≡ heads_to begun setup (net_for setup).count

-- How the line of an event begins.
abbrev pub line_begun : Begins
line_begun setup kind role point = head_text setup (kind ++ codes " ") role point

-- What stands after it: `VALUE @STAMP`.
abbrev pub rest_text : Event → List ℕ
rest_text e = signed_decimal e.value ++ codes " @" ++ decimal e.stamp
