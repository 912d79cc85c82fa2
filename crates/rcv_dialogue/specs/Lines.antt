-- The grammar: which lines are of the form, which words each has, and which text says it.
use Rattle.std.specs.Prelude.{◌≡◌, ◌≢◌, ℕ, ℤ, ◌+◌, ◌<◌, ◌≤◌, ◌^◌, Bool, true, false, List, [], ◌∷◌, ◌++◌, length, map, flat_map, codes, decimal, Option, Some, None, IfSome, FitsSigned}
use Rattle.std.specs.Fmt.{signed_decimal}
use mir.Syntax.{w64}
use Rattle.rcv_tree.specs.declared.event.Event.{Event}
use Rattle.rcv_tree.specs.declared.event.Dir.{Dir}
use Rattle.rcv_tree.specs.declared.event.Dir.TheVariants.{Sent, Got}
use Rattle.rcv_accept.specs.Accepted.{AcceptedView, roles_of, net_for}
use Rattle.rcv_dialogue.specs.declared.few.Failed.{Failed}
use Rattle.rcv_dialogue.specs.declared.few.Kept.{Kept}
use Rattle.rcv_dialogue.specs.declared.line.Line.{Line}
use Rattle.rcv_dialogue.specs.declared.line.Line.TheVariants as line
use Rattle.rcv_dialogue.specs.declared.line.Question.{Question}
use Rattle.rcv_dialogue.specs.declared.line.Question.TheVariants as question
use Rattle.rcv_dialogue.specs.declared.line.Again.{Again}
use Rattle.rcv_dialogue.specs.declared.line.Again.TheVariants as again
use Rattle.rcv_dialogue.specs.declared.line.Extent.{Extent}
use Rattle.rcv_dialogue.specs.declared.line.ToldStanding.{ToldStanding}
use Rattle.rcv_dialogue.specs.declared.line.Stated.{Stated}
use Rattle.rcv_lines.specs.Cutting.{joined}
use Rattle.rcv_dialogue.specs.Names.{name_of}

-- A number with a mark in front, if there is one.
abbrev pub marked_word : ℕ → Option ℕ → List (List ℕ)
marked_word mark None = []
marked_word mark (Some n) = (mark ∷ decimal n) ∷ []

-- A point with its label, and a value.
abbrev pub message_words : AcceptedView → ℕ → ℤ → List (List ℕ)
message_words a p value = decimal p ∷ (net_for a).label p ∷ signed_decimal value ∷ []

-- A role that failed, with its count after `=`.
abbrev pub count_text : Option ℕ → List ℕ
count_text None = []
count_text (Some n) = 61 ∷ decimal n

abbrev pub failed_word : AcceptedView → Failed → List ℕ
failed_word a f = name_of a f.role ++ count_text f.count

-- A role and what it keeps.
abbrev pub kept_words : AcceptedView → Kept → List (List ℕ)
kept_words a k = name_of a k.role ∷ decimal k.count ∷ []

-- What is said to be taken back.
abbrev pub stated_words : AcceptedView → Option Stated → List (List ℕ)
stated_words a None = []
stated_words a (Some s) = codes "undone" ∷ (decimal s.undone ++ 58 ∷ []) ∷ flat_map (kept_words a) s.kept

abbrev pub question_words : AcceptedView → Question → List (List ℕ)
question_words a (question.Next r) = codes "next" ∷ name_of a r ∷ []
question_words a question.Kept = codes "kept" ∷ []
question_words a question.Line = codes "line" ∷ []
question_words a (question.Role r) = codes "role" ∷ name_of a r ∷ []
question_words a (question.Flight None) = codes "flight" ∷ []
question_words a (question.Flight (Some r)) = codes "flight" ∷ name_of a r ∷ []
question_words a question.Points = codes "points" ∷ []
question_words a question.Table = codes "table" ∷ []
question_words a question.Snapshot = codes "snapshot" ∷ []
question_words a question.End = codes "end" ∷ []

-- Whether a role is down.
abbrev pub down_text : Bool → List ℕ
down_text true = codes "down"
down_text false = codes "up"

-- Lines of a snapshot, after the word `again`.
abbrev pub extent_words : Extent → List (List ℕ)
extent_words x = codes "session" ∷ codes "told" ∷ decimal x.told ∷ codes "room" ∷ decimal x.room ∷ []

abbrev pub standing_words : AcceptedView → ToldStanding → List (List ℕ)
standing_words a s =
    codes "role" ∷ name_of a s.role ∷ codes "kept" ∷ decimal s.kept ∷ codes "raw" ∷ decimal s.raw
    ∷ codes "at" ∷ decimal s.place ∷ codes "clock" ∷ decimal s.clock ∷ codes "attempt" ∷ decimal s.attempt
    ∷ down_text s.down ∷ (35 ∷ decimal s.incarnation) ∷ []

abbrev pub event_words : AcceptedView → Dir → Event → List (List ℕ)
event_words a Sent e = codes "send" ∷ name_of a e.role ∷ message_words a e.point e.value ++ (64 ∷ decimal e.stamp) ∷ []
event_words a Got e = codes "recv" ∷ name_of a e.role ∷ message_words a e.point e.value ++ (64 ∷ decimal e.stamp) ∷ (60 ∷ decimal e.sent) ∷ []

abbrev pub again_words : AcceptedView → Again → List (List ℕ)
again_words a (again.Session x) = extent_words x
again_words a (again.Role s) = standing_words a s
again_words a (again.Flight f) =
    codes "flight" ∷ name_of a f.from ∷ name_of a f.to ∷ message_words a f.message.point f.message.value ++ (64 ∷ decimal f.message.stamp) ∷ []
again_words a (again.Event e) = event_words a e.dir e
again_words a (again.Save r count) = codes "save" ∷ name_of a r ∷ decimal count ∷ []

-- The words of a line.
abbrev pub line_words : AcceptedView → Line → List (List ℕ)
line_words a (line.Send e) =
    codes "send" ∷ name_of a e.role ∷ message_words a e.point e.value ++ (marked_word 64 e.stamp ++ marked_word 35 e.incarnation)
line_words a (line.Recv e) =
    codes "recv" ∷ name_of a e.role
    ∷ message_words a e.point e.value ++ (marked_word 64 e.stamp ++ (marked_word 60 e.sent ++ marked_word 35 e.incarnation))
line_words a (line.Save e) = codes "save" ∷ name_of a e.role ∷ decimal e.count ∷ marked_word 35 e.incarnation
line_words a (line.Fail failed) = codes "fail" ∷ map (failed_word a) failed
line_words a (line.Crash r) = codes "crash" ∷ name_of a r ∷ []
line_words a (line.Recover e) = codes "recover" ∷ map (failed_word a) e.failed ++ stated_words a e.stated
line_words a (line.Ask q) = question_words a q
line_words a (line.Again l) = codes "again" ∷ again_words a l

-- ---- what fits

abbrev pub Fits : ℕ → Type 0
Fits n = n < 2 ^ 64

abbrev pub MayFit : Option ℕ → Type 0
MayFit o = IfSome o Fits

-- A declared role; a point of the text with a value.
abbrev pub IsRole : AcceptedView → ℕ → Type 0
IsRole a r = r < roles_of a

pub record IsMessage (a : AcceptedView) (p : ℕ) (value : ℤ) : Type 0 where
  pub first : 1 ≤ p
  pub last : p ≤ (net_for a).count
  pub value_fits : FitsSigned w64 value

-- Roles that failed: one at least and all at most, each once.
abbrev pub AreOthers : ℕ → List Failed → Type 0
AreOthers r [] = Unit {0}
AreOthers r (f ∷ failed) = (f.role ≢ r) × AreOthers r failed

abbrev pub EachOnce : List Failed → Type 0
EachOnce [] = Unit {0}
EachOnce (f ∷ failed) = AreOthers f.role failed × EachOnce failed

abbrev pub AreRoles : AcceptedView → List Failed → Type 0
AreRoles a [] = Unit {0}
AreRoles a (f ∷ failed) = IsRole a f.role × MayFit f.count × AreRoles a failed

pub record AreFailed (a : AcceptedView) (failed : List Failed) : Type 0 where
  pub some : 1 ≤ length failed
  pub few : length failed ≤ roles_of a
  pub roles : AreRoles a failed
  pub once : EachOnce failed

-- After the first one none has the word `undone`: if a recovery is told, this word says what it takes back. A role of this name is told
-- with its count there.
abbrev pub NoneSaysUndone : AcceptedView → List Failed → Type 0
NoneSaysUndone a [] = Unit {0}
NoneSaysUndone a (f ∷ failed) = (failed_word a f ≢ codes "undone") × NoneSaysUndone a failed

abbrev pub NoneBehindSaysUndone : AcceptedView → List Failed → Type 0
NoneBehindSaysUndone a [] = Unit {0}
NoneBehindSaysUndone a (f ∷ failed) = NoneSaysUndone a failed

-- Roles that keep events: one at least and all at most, in order of declaration.
abbrev pub AreKeptFrom : AcceptedView → ℕ → List Kept → Type 0
AreKeptFrom a least [] = Unit {0}
AreKeptFrom a least (k ∷ kept) = (least ≤ k.role) × IsRole a k.role × Fits k.count × AreKeptFrom a (k.role + 1) kept

pub record IsStated (a : AcceptedView) (s : Stated) : Type 0 where
  pub undone : Fits s.undone
  pub some : 1 ≤ length s.kept
  pub few : length s.kept ≤ roles_of a
  pub kept : AreKeptFrom a 0 s.kept

abbrev pub IsQuestion : AcceptedView → Question → Type 0
IsQuestion a (question.Next r) = IsRole a r
IsQuestion a question.Kept = Unit {0}
IsQuestion a question.Line = Unit {0}
IsQuestion a (question.Role r) = IsRole a r
IsQuestion a (question.Flight to) = IfSome to (IsRole a)
IsQuestion a question.Points = Unit {0}
IsQuestion a question.Table = Unit {0}
IsQuestion a question.Snapshot = Unit {0}
IsQuestion a question.End = Unit {0}

-- Where a role may stand: the place is the number of a point, or 0.
pub record IsStanding (a : AcceptedView) (s : ToldStanding) : Type 0 where
  pub role : IsRole a s.role
  pub kept : Fits s.kept
  pub raw : Fits s.raw
  pub place : s.place ≤ (net_for a).count
  pub clock : Fits s.clock
  pub attempt : Fits s.attempt
  pub incarnation : Fits s.incarnation

-- The message of a Send has the Send's own stamp.
abbrev pub HasSent : Dir → Event → Type 0
HasSent Sent e = e.sent ≡ e.stamp
HasSent Got e = Fits e.sent

abbrev pub IsAgain : AcceptedView → Again → Type 0
IsAgain a (again.Session x) = Fits x.told × Fits x.room
IsAgain a (again.Role s) = IsStanding a s
IsAgain a (again.Flight f) = IsRole a f.from × IsRole a f.to × IsMessage a f.message.point f.message.value × Fits f.message.stamp
IsAgain a (again.Event e) = IsRole a e.role × IsMessage a e.point e.value × Fits e.stamp × HasSent e.dir e
IsAgain a (again.Save r count) = IsRole a r × Fits count

-- The line is of the form.
abbrev pub IsLine : AcceptedView → Line → Type 0
IsLine a (line.Send e) = IsRole a e.role × IsMessage a e.point e.value × MayFit e.stamp × MayFit e.incarnation
IsLine a (line.Recv e) = IsRole a e.role × IsMessage a e.point e.value × MayFit e.stamp × MayFit e.sent × MayFit e.incarnation
IsLine a (line.Save e) = IsRole a e.role × Fits e.count × MayFit e.incarnation
IsLine a (line.Fail failed) = AreFailed a failed
IsLine a (line.Crash r) = IsRole a r
IsLine a (line.Recover e) = AreFailed a e.failed × NoneBehindSaysUndone a e.failed × IfSome e.stated (IsStated a)
IsLine a (line.Ask q) = IsQuestion a q
IsLine a (line.Again l) = IsAgain a l

-- The text says the line: it is the line's words with one space between neighbours, and has at most 2,048 bytes.
pub record SaysLine (a : AcceptedView) (text : List ℕ) (l : Line) : Type 0 where
  pub formed : IsLine a l
  pub words : text ≡ joined (line_words a l)
  pub short : length text ≤ 2048
