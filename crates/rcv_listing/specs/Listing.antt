-- What the listing of an input is.
use Rattle.std.specs.Prelude.{◌≡◌, ℕ, List, [], ◌++◌, length, codes}
use Rattle.rcv_tree.specs.declared.protocol.Protocol.{Protocol}
use Rattle.rcv_model.specs.Text.{body_of}
use Rattle.rcv_model.specs.Places.{net_of}
use Rattle.rcv_model.specs.Accept.{IsRefusal}
use Rattle.rcv_module.specs.declared.origin.Origins.{Origins}
use Rattle.rcv_module.specs.Origins.{AreOriginsOf}
use Rattle.rcv_lexer.specs.Parts.{parts_of}
use Rattle.rcv_accept.specs.Accepted.{IsAcceptedProtocol}
use Rattle.rcv_input.specs.Input.{IsProtocolOf}
use Rattle.rcv_input.specs.Refusals.{IsFirstRefusal}
use Rattle.rcv_input.specs.declared.refused.Refused.TheVariants.{Line}
use Rattle.rcv_input.specs.declared.refused.InputError.{InputError}
use Rattle.rcv_input.specs.declared.refused.InputError.TheVariants as errors
use Rattle.rcv_found.specs.Grammars.{OfScripts, OfPlan}
use Rattle.rcv_found.specs.Findings.{IsFindingIn}
use Rattle.rcv_found.specs.declared.finding.Finding.TheVariants.{Taken}
use Rattle.rcv_listing.specs.declared.listing.Listing.{Listing}
use Rattle.rcv_listing.specs.declared.listing.Listing.TheVariants.{Accepted, RuledOut, HalfRead, Unread}
use Rattle.rcv_listing.specs.declared.unread.Unread as unread
use Rattle.rcv_listing.specs.declared.written.PointLines.{PointLines}
use Rattle.rcv_listing.specs.Receivers.{receiver_lines}
use Rattle.rcv_listing.specs.Written.{lines_of_points}
use Rattle.rcv_listing.specs.Lines.{all_text, IsTold}
use Rattle.rcv_listing.specs.Unread.{IsUnread, IsHalfRead, AddsUnread}

-- The input's text is this protocol, whose points come from somewhere in its module and are written at these lines.
pub record IsSourceOf (input : List ℕ) (p : Protocol) (lines : List PointLines) : Type 0 where
  pub text : IsProtocolOf input p
  pub origins : Origins
  pub come : AreOriginsOf text.whole origins
  pub lines_are : lines ≡ lines_of_points (receiver_lines input text.tokens) text.whole.dos origins.points.items

-- The reader refuses the protocol part, or a call is refused, at a line, and this is the first refusal of the input; or no memory was left.
abbrev pub IsUnreadable : List ℕ → InputError → Type 0
IsUnreadable input errors.Memory = Unit {0}
IsUnreadable input (errors.Refused r) = (code : ℕ) × (line : ℕ) × (r ≡ Line code line) × IsFirstRefusal input (Line code line)

-- The points of a protocol, one line for each.
abbrev pub points_of : Protocol → List PointLines → List ℕ
points_of p lines = all_text p.roles (net_of (body_of p.body)) lines

-- After them stands what is said of the refusal by a rule.
abbrev pub IsRuledOut : Protocol → List PointLines → List ℕ → Type 0
IsRuledOut p lines text =
    (code : ℕ) × (role : ℕ) × (number : ℕ) × (told : List ℕ) × IsRefusal (body_of p.body) (length p.roles) code role number
    × IsTold p.roles (net_of (body_of p.body)) lines code role number told × (text ≡ points_of p lines ++ told)

-- The scripts and the plan are read for this protocol.
pub record AreRestRead (input : List ℕ) (p : Protocol) : Type 0 where
  pub are_scripts : IsFindingIn (OfScripts (record { protocol = p })) input (parts_of input).scripts Taken
  pub plan : IsFindingIn (OfPlan (record { protocol = p })) input (parts_of input).plan Taken

-- For an accepted protocol whose points are in a text: this text if the scripts and the plan are read; else this text, an empty line, and
-- what is said of their refusal.
abbrev pub IsListedAs : List ℕ → Protocol → List ℕ → Listing → Type 0
IsListedAs input p points (Accepted text) = AreRestRead input p × (text.items ≡ points)
IsListedAs input p points (HalfRead text) = (u : unread.Unread) × IsHalfRead input p u × AddsUnread input u (points ++ codes "\n") text.items
IsListedAs input p points (RuledOut text) = ⊥
IsListedAs input p points (Unread text) = ⊥

-- The listing of a protocol that was read: of an accepted one, or of one that a rule refuses.
abbrev pub IsListingOf : List ℕ → Protocol → List PointLines → Listing → Type 0
IsListingOf input p lines (RuledOut text) = IsRuledOut p lines text.items
IsListingOf input p lines listing = IsAcceptedProtocol p × IsListedAs input p (points_of p lines) listing

-- This is the listing of the protocol in the input; or what is said of a protocol part that isn't read.
abbrev pub IsListing : List ℕ → Listing → Type 0
IsListing input (Unread text) = (u : unread.Unread) × IsUnread input u × AddsUnread input u [] text.items
IsListing input listing = (p : Protocol) × (lines : List PointLines) × IsSourceOf input p lines × IsListingOf input p lines listing
