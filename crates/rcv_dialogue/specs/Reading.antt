-- Reading a line's words from left to right: what they say, or the first one that doesn't fit.
use Rattle.std.specs.Prelude.{◌≡◌, ℕ, ℤ, ◌+◌, ◌-◌, ◌==◌, ◌&&◌, ◌||◌, nat_lt, Bool, true, false, if◌then◌else◌, List, [], ◌∷◌, ◌++◌, length, take, drop, position, codes, Option, Some, None, Result, Ok, Err}
use Rattle.rcv_accept.specs.Accepted.{AcceptedView, net_for, roles_of}
use Rattle.rcv_tree.specs.declared.event.Dir.TheVariants.{Got}
use Rattle.rcv_tree.specs.Events.{send_of}
use Rattle.rcv_dialogue.specs.declared.wrong.Wrong.{Wrong}
use Rattle.rcv_dialogue.specs.declared.wrong.Expected.{Expected}
use Rattle.rcv_dialogue.specs.declared.wrong.Expected.TheVariants as expected
use Rattle.rcv_dialogue.specs.declared.wrong.LineError.{LineError}
use Rattle.rcv_dialogue.specs.declared.wrong.LineError.TheVariants as errors
use Rattle.rcv_dialogue.specs.declared.few.Failed.{Failed}
use Rattle.rcv_dialogue.specs.declared.few.Kept.{Kept}
use Rattle.rcv_dialogue.specs.declared.kind.Kind.{Kind}
use Rattle.rcv_dialogue.specs.declared.kind.Kind.TheVariants as kind
use Rattle.rcv_dialogue.specs.declared.kind.AgainKind.{AgainKind}
use Rattle.rcv_dialogue.specs.declared.kind.AgainKind.TheVariants as kinds
use Rattle.rcv_dialogue.specs.declared.line.Line.{Line}
use Rattle.rcv_dialogue.specs.declared.line.Line.TheVariants as line
use Rattle.rcv_dialogue.specs.declared.line.Question.TheVariants as question
use Rattle.rcv_dialogue.specs.declared.line.Again.TheVariants as again
use Rattle.rcv_dialogue.specs.declared.line.Stated.{Stated}
use Rattle.rcv_dialogue.specs.declared.words.Misfit.{Misfit}
use Rattle.rcv_lines.specs.Cutting.{fields_of}
use Rattle.rcv_dialogue.specs.Names.{role_in, point_said, place_in}
use Rattle.rcv_dialogue.specs.Numbers.{is_word, number_in, signed_in, marked_in, number_before}
use Rattle.rcv_dialogue.specs.Kinds.{kind_in, again_in}

abbrev pub Words : Type 0
Words = List (List ℕ)

-- The first wrong word ends the reading.
infixl 10 ◌>>=◌
abbrev pub ◌>>=◌ : {A B : Type 0} → Result A Misfit → (A → Result B Misfit) → Result B Misfit
(Ok x) >>= f = f x
(Err e) >>= f = Err e

-- What a function returned, seen by view, is what reading gives.
abbrev pub Gives : {X Y : Type 0} → (X → Y) → Result X Misfit → Result Y Misfit → Type 0
Gives view (Ok x) read = read ≡ Ok (view x)
Gives view (Err e) read = read ≡ Err e

-- The next word doesn't fit.
abbrev pub wrong : {A : Type 0} → Words → Expected → Result A Misfit
wrong left expected = Err (record { left = length left; expected = expected })

-- What a word says, if it says something.
abbrev pub said : {A : Type 0} → Words → Expected → Option A → Result A Misfit
said left expected (Some x) = Ok x
said left expected None = wrong left expected

-- The next word, and what is left after it.
abbrev pub word_at : Expected → Words → Result (List ℕ × Words) Misfit
word_at expected [] = wrong [] expected
word_at expected (word ∷ words) = Ok (word, words)

abbrev pub is_over : Words → Bool
is_over [] = true
is_over (word ∷ words) = false

-- A line ends here.
abbrev pub ended : {A : Type 0} → Words → A → Result A Misfit
ended left x = if is_over left then Ok x else wrong left expected.End

-- Whether the next word begins with a mark.
abbrev pub has_mark : ℕ → List ℕ → Bool
has_mark mark [] = false
has_mark mark (b ∷ word) = b == mark

abbrev pub begins : ℕ → Words → Bool
begins mark [] = false
begins mark (word ∷ words) = has_mark mark word

-- A word that says one thing.
abbrev pub one_word : {A : Type 0} → (List ℕ → Option A) → Expected → Words → Result (A × Words) Misfit
one_word read expected left = do
  next ← word_at expected left
  x ← said left expected (read next.0)
  Ok (x, next.1)

unfoldable pub role_at : AcceptedView → Words → Result (ℕ × Words) Misfit
role_at a left = one_word (role_in a) expected.Role left

unfoldable pub point_at : AcceptedView → Words → Result (ℕ × Words) Misfit
point_at a left = one_word (point_said a) expected.Point left

unfoldable pub value_at : Words → Result (ℤ × Words) Misfit
value_at left = one_word signed_in expected.Value left

unfoldable pub number_at : Expected → Words → Result (ℕ × Words) Misfit
number_at expected left = one_word number_in expected left

unfoldable pub marked_at : ℕ → Expected → Words → Result (ℕ × Words) Misfit
marked_at mark expected left = one_word (marked_in mark) expected left

unfoldable pub literal_at : List ℕ → Expected → Words → Result Words Misfit
literal_at text expected left = do
  next ← word_at expected left
  if is_word next.0 text then Ok next.1 else wrong left expected

-- A number with a mark, if a word with this mark is next; else none.
unfoldable pub optional_at : ℕ → Expected → Words → Result (Option ℕ × Words) Misfit
optional_at mark expected left =
    if begins mark left then (marked_at mark expected left >>= λ number. Ok (Some number.0, number.1)) else Ok (None, left)

-- A point with its label, and a value.
unfoldable pub message_at : AcceptedView → Words → Result (ℕ × ℤ × Words) Misfit
message_at a left = do
  point ← point_at a left
  label ← literal_at ((net_for a).label point.0) expected.Label point.1
  value ← value_at label
  Ok (point.0, value.0, value.1)

-- Told events.
unfoldable pub send_at : AcceptedView → Words → Result Line Misfit
send_at a left = do
  role ← role_at a left
  message ← message_at a role.1
  stamp ← optional_at 64 expected.Stamp message.2
  incarnation ← optional_at 35 expected.Incarnation stamp.1
  ended incarnation.1 (line.Send (record { role = role.0; point = message.0; value = message.1; stamp = stamp.0; incarnation = incarnation.0 }))

unfoldable pub recv_at : AcceptedView → Words → Result Line Misfit
recv_at a left = do
  role ← role_at a left
  message ← message_at a role.1
  stamp ← optional_at 64 expected.Stamp message.2
  sent ← optional_at 60 expected.Sent stamp.1
  incarnation ← optional_at 35 expected.Incarnation sent.1
  ended incarnation.1 (line.Recv (record { role = role.0; point = message.0; value = message.1; stamp = stamp.0; sent = sent.0; incarnation = incarnation.0 }))

unfoldable pub save_at : AcceptedView → Words → Result Line Misfit
save_at a left = do
  role ← role_at a left
  count ← number_at expected.Count role.1
  incarnation ← optional_at 35 expected.Incarnation count.1
  ended incarnation.1 (line.Save (record { role = role.0; count = count.0; incarnation = incarnation.0 }))

-- A role that failed, with a count after `=` or without one; or what is expected there.
abbrev pub failed_if : Option ℕ → Option (Option ℕ) → Result Failed Expected
failed_if None count = Err expected.Role
failed_if (Some r) None = Ok (record { role = r; count = None })
failed_if (Some r) (Some None) = Err expected.Count
failed_if (Some r) (Some (Some n)) = Ok (record { role = r; count = Some n })

abbrev pub failed_cut : AcceptedView → List ℕ → Option ℕ → Result Failed Expected
failed_cut a word None = failed_if (role_in a word) None
failed_cut a word (Some i) = failed_if (role_in a (take i word)) (Some (number_in (drop (i + 1) word)))

abbrev pub failed_in : AcceptedView → List ℕ → Result Failed Expected
failed_in a word = failed_cut a word (position (λ b. b == 61) word)

abbrev pub or_wrong : {A : Type 0} → Words → Result A Expected → Result A Misfit
or_wrong left (Ok x) = Ok x
or_wrong left (Err e) = wrong left e

-- Whether one of these is of this role.
abbrev pub names_role : ℕ → List Failed → Bool
names_role r [] = false
names_role r (f ∷ found) = f.role == r || names_role r found

-- The list with one more, which is of another role.
abbrev pub one_more : Words → List Failed → Failed → Result (List Failed) Misfit
one_more left found f =
    if names_role f.role found then wrong left expected.Role else Ok (found ++ f ∷ [])

-- So many roles are named already: another one may be next, or, if all are named, the end.
abbrev pub unless_all : {A : Type 0} → AcceptedView → ℕ → Words → Result A Misfit → Result A Misfit
unless_all a count left read = if nat_lt count (roles_of a) then read else wrong left expected.End

-- Roles that failed, to the end, or to the word `undone` if that ends them.
unfoldable pub more_at : AcceptedView → Bool → List Failed → Words → Result (List Failed × Words) Misfit
more_at a stops found [] = Ok (found, [])
more_at a stops found (word ∷ words) =
    if stops && is_word word (codes "undone") then Ok (found, word ∷ words)
    else unless_all a (length found) (word ∷ words)
    (or_wrong (word ∷ words) (failed_in a word) >>= λ f. one_more (word ∷ words) found f >>= λ more. more_at a stops more words)

unfoldable pub all_failed_at : AcceptedView → Bool → Words → Result (List Failed × Words) Misfit
all_failed_at a stops left = do
  next ← word_at expected.Role left
  first ← or_wrong left (failed_in a next.0)
  more_at a stops (first ∷ []) next.1

unfoldable pub fail_at : AcceptedView → Words → Result Line Misfit
fail_at a left = do
  failed ← all_failed_at a false left
  ended failed.1 (line.Fail failed.0)

unfoldable pub crash_at : AcceptedView → Words → Result Line Misfit
crash_at a left = do
  role ← role_at a left
  ended role.1 (line.Crash role.0)

-- All roles of the list come before this one.
abbrev pub are_before : ℕ → List Kept → Bool
are_before r [] = true
are_before r (k ∷ found) = nat_lt k.role r && are_before r found

-- The role, if it comes after these.
abbrev pub next_if : Words → List Kept → Option ℕ → Result ℕ Misfit
next_if left found None = wrong left expected.Role
next_if left found (Some r) = if are_before r found then Ok r else wrong left expected.Role

-- Roles in order of declaration, each with its count after it, to the end. The role is given if its count is next.
unfoldable pub cuts_at : AcceptedView → List Kept → Option ℕ → Words → Result (List Kept) Misfit
cuts_at a found None [] = Ok found
cuts_at a found (Some r) [] = wrong [] expected.Count
cuts_at a found None (word ∷ words) =
    unless_all a (length found) (word ∷ words)
    (next_if (word ∷ words) found (role_in a word) >>= λ r. cuts_at a found (Some r) words)
cuts_at a found (Some r) (word ∷ words) =
    said (word ∷ words) expected.Count (number_in word)
    >>= λ n. cuts_at a (found ++ (record { role = r; count = n }) ∷ []) None words

-- What is said to be taken back, to the end.
unfoldable pub stated_at : AcceptedView → Words → Result Stated Misfit
stated_at a left = do
  begun ← literal_at (codes "undone") expected.Undone left
  next ← word_at expected.Undone begun
  undone ← said begun expected.Undone (number_before next.0)
  role ← role_at a next.1
  count ← number_at expected.Count role.1
  kept ← cuts_at a ((record { role = role.0; count = count.0 }) ∷ []) None count.1
  Ok (record { undone = undone; kept = kept })

-- The roles that failed, with what is said after them.
abbrev pub recovery_of : AcceptedView → List Failed → Words → Result Line Misfit
recovery_of a failed left =
    if is_over left then Ok (line.Recover (record { failed = failed; stated = None }))
    else (stated_at a left >>= λ stated. Ok (line.Recover (record { failed = failed; stated = Some stated })))

unfoldable pub recover_at : AcceptedView → Words → Result Line Misfit
recover_at a left = do
  failed ← all_failed_at a true left
  recovery_of a failed.0 failed.1

-- Questions.
unfoldable pub of_role_at : AcceptedView → Words → Result ℕ Misfit
of_role_at a left = do
  role ← role_at a left
  ended role.1 role.0

unfoldable pub flight_at : AcceptedView → Words → Result (Option ℕ) Misfit
flight_at a left =
    if is_over left then Ok None else (of_role_at a left >>= λ role. Ok (Some role))

-- The number of a point, or 0.
unfoldable pub place_at : AcceptedView → Words → Result (ℕ × Words) Misfit
place_at a left = one_word (place_in a) expected.Point left

-- `up`, or `down`.
abbrev pub down_in : List ℕ → Option Bool
down_in word = if is_word word (codes "up") then Some false else if is_word word (codes "down") then Some true else None

unfoldable pub down_at : Words → Result (Bool × Words) Misfit
down_at left = one_word down_in expected.Up left

-- A count after the word that says what is counted.
unfoldable pub named_at : List ℕ → Expected → Expected → Words → Result (ℕ × Words) Misfit
named_at text name expected left = do
  begun ← literal_at text name left
  number_at expected begun

-- How much was told.
unfoldable pub extent_at : Words → Result Line Misfit
extent_at left = do
  told ← named_at (codes "told") expected.Told expected.Count left
  room ← named_at (codes "room") expected.Room expected.Count told.1
  ended room.1 (line.Again (again.Session (record { told = told.0; room = room.0 })))

-- Where a role stands.
unfoldable pub standing_at : AcceptedView → Words → Result Line Misfit
standing_at a left = do
  role ← role_at a left
  kept ← named_at (codes "kept") expected.Kept expected.Count role.1
  raw ← named_at (codes "raw") expected.Raw expected.Count kept.1
  begun ← literal_at (codes "at") expected.At raw.1
  place ← place_at a begun
  clock ← named_at (codes "clock") expected.Clock expected.Stamp place.1
  attempt ← named_at (codes "attempt") expected.Attempt expected.Count clock.1
  down ← down_at attempt.1
  incarnation ← marked_at 35 expected.Incarnation down.1
  ended incarnation.1 (line.Again (again.Role (record {
    role = role.0;
    kept = kept.0;
    raw = raw.0;
    place = place.0;
    clock = clock.0;
    attempt = attempt.0;
    down = down.0;
    incarnation = incarnation.0;
  })))

unfoldable pub again_flight_at : AcceptedView → Words → Result Line Misfit
again_flight_at a left = do
  from ← role_at a left
  to ← role_at a from.1
  message ← message_at a to.1
  stamp ← marked_at 64 expected.Stamp message.2
  ended stamp.1 (line.Again (again.Flight (record {
    from = from.0;
    to = to.0;
    message = record { point = message.0; value = message.1; stamp = stamp.0 };
  })))

unfoldable pub again_send_at : AcceptedView → Words → Result Line Misfit
again_send_at a left = do
  role ← role_at a left
  message ← message_at a role.1
  stamp ← marked_at 64 expected.Stamp message.2
  ended stamp.1 (line.Again (again.Event (send_of role.0 message.0 message.1 stamp.0)))

unfoldable pub again_recv_at : AcceptedView → Words → Result Line Misfit
again_recv_at a left = do
  role ← role_at a left
  message ← message_at a role.1
  stamp ← marked_at 64 expected.Stamp message.2
  sent ← marked_at 60 expected.Sent stamp.1
  ended sent.1 (line.Again (again.Event (record {
    role = role.0;
    dir = Got;
    point = message.0;
    value = message.1;
    stamp = stamp.0;
    sent = sent.0;
  })))

unfoldable pub again_save_at : AcceptedView → Words → Result Line Misfit
again_save_at a left = do
  role ← role_at a left
  count ← number_at expected.Count role.1
  ended count.1 (line.Again (again.Save role.0 count.0))

-- A line of a snapshot, after `again` and the word that tells its kind.
abbrev pub again_of : AcceptedView → AgainKind → Words → Result Line Misfit
again_of a kinds.Session left = extent_at left
again_of a kinds.Role left = standing_at a left
again_of a kinds.Flight left = again_flight_at a left
again_of a kinds.Send left = again_send_at a left
again_of a kinds.Recv left = again_recv_at a left
again_of a kinds.Save left = again_save_at a left

unfoldable pub again_at : AcceptedView → Words → Result Line Misfit
again_at a left = do
  next ← word_at expected.Again left
  kind ← said left expected.Again (again_in next.0)
  again_of a kind next.1

-- A line after the word that tells its kind.
abbrev pub line_of : AcceptedView → Kind → Words → Result Line Misfit
line_of a kind.Send left = send_at a left
line_of a kind.Recv left = recv_at a left
line_of a kind.Save left = save_at a left
line_of a kind.Fail left = fail_at a left
line_of a kind.Crash left = crash_at a left
line_of a kind.Recover left = recover_at a left
line_of a kind.Next left = of_role_at a left >>= λ role. Ok (line.Ask (question.Next role))
line_of a kind.Kept left = ended left (line.Ask question.Kept)
line_of a kind.Line left = ended left (line.Ask question.Line)
line_of a kind.Role left = of_role_at a left >>= λ role. Ok (line.Ask (question.Role role))
line_of a kind.Flight left = flight_at a left >>= λ role. Ok (line.Ask (question.Flight role))
line_of a kind.Points left = ended left (line.Ask question.Points)
line_of a kind.Table left = ended left (line.Ask question.Table)
line_of a kind.Snapshot left = ended left (line.Ask question.Snapshot)
line_of a kind.End left = ended left (line.Ask question.End)
line_of a kind.Again left = again_at a left

unfoldable pub line_at : AcceptedView → Words → Result Line Misfit
line_at a left = do
  next ← word_at expected.Line left
  kind ← said left expected.Line (kind_in next.0)
  line_of a kind next.1

-- The first wrong word of a line of these words, counted from 1; one more than there are, if they stop too early.
abbrev pub wrong_in : Words → Misfit → Wrong
wrong_in words e = record { word = length words - e.left + 1; expected = e.expected }

abbrev pub counted : {A : Type 0} → Words → Result A Misfit → Result A Wrong
counted words (Ok x) = Ok x
counted words (Err e) = Err (wrong_in words e)

-- What the text of a line says, or its first wrong word.
abbrev pub reading : AcceptedView → List ℕ → Result Line Wrong
reading a text = counted (fields_of text) (line_at a (fields_of text))

-- What was read, if the text isn't too long.
abbrev pub IsReadAs : Result Line LineError → Result Line Wrong → Type 0
IsReadAs (Ok l) read = read ≡ Ok l
IsReadAs (Err errors.Long) read = ⊥
IsReadAs (Err (errors.Wrong e)) read = read ≡ Err e
