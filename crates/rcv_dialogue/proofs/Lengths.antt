-- No line of the form is too long.
use Rattle.std.proofs.Common.{◌≡◌, ◌+◌, ◌*◌, ◌<◌, ◌≤◌, ◌^◌, ◌==◌, ℕ, ℤ, pos, negsuc, zero, suc, Bool, true, false, cond, List, [], ◌∷◌, ◌++◌, map, flat_map, length, get_or, Option, Some, None, refl, arith, length-append, decimal}
use Rattle.std.specs.Prelude.{IfSome}
use Rattle.std.specs.Fmt.{signed_decimal}
use Rattle.std.specs.Int.Signed.{mag}
use Rattle.std.specs.List.{All}
use Rattle.std.proofs.lemmas.Fmt.{length-decimal-le}
use Rattle.std.proofs.lemmas.List.Elements.{All-head, All-tail}
use Rattle.rcv_tree.specs.Words.{IsWord}
use Rattle.rcv_tree.specs.declared.event.Event.{Event}
use Rattle.rcv_tree.specs.declared.event.Dir.{Dir}
use Rattle.rcv_tree.specs.declared.event.Dir.TheVariants.{Sent, Got}
use Rattle.rcv_model.specs.Places.{SingleMessage, single_at, singles}
use Rattle.rcv_accept.specs.Accepted.{AcceptedView, IsAcceptedProtocol, text_of}
use Rattle.rcv_dialogue.specs.declared.few.Failed.{Failed}
use Rattle.rcv_dialogue.specs.declared.few.Kept.{Kept}
use Rattle.rcv_dialogue.specs.declared.line.Line.{Line}
use Rattle.rcv_dialogue.specs.declared.line.Line.TheVariants as line
use Rattle.rcv_dialogue.specs.declared.line.Question.{Question}
use Rattle.rcv_dialogue.specs.declared.line.Question.TheVariants as question
use Rattle.rcv_dialogue.specs.declared.line.Again.{Again}
use Rattle.rcv_dialogue.specs.declared.line.Again.TheVariants as again
use Rattle.rcv_dialogue.specs.declared.line.Stated.{Stated}
use Rattle.rcv_lines.specs.Cutting.{joined, spaced}
use Rattle.rcv_dialogue.specs.Lines.{AreKeptFrom, AreRoles, Fits, HasSent, IsAgain, IsLine, IsMessage, IsStated, MayFit, again_words, count_text, down_text, event_words, failed_word, kept_words, line_words, marked_word, message_words, question_words, stated_words}
use Rattle.rcv_lines.proofs.Parses.{within}
use Rattle.rcv_dialogue.specs.Names.{name_of}
use Rattle.rcv_dialogue.specs.Reading.{Words}

-- How many bytes words have with a space behind each.
abbrev total : Words → ℕ
total [] = 0
total (w ∷ ws) = length w + 1 + total ws

total_both : (xs ys : Words) → total (xs ++ ys) ≡ total xs + total ys
total_both [] ys = omega arith
total_both (x ∷ xs) ys = let rest = total_both xs ys in omega (arith, rest)

spaced_total : (ws : Words) → length (flat_map spaced ws) ≡ total ws
spaced_total [] = refl
spaced_total (w ∷ ws) = let rest = spaced_total ws in let both = length-append (32 ∷ w) (flat_map spaced ws) in omega (arith, rest, both)

joined_short : (ws : Words) → length (joined ws) ≤ total ws
joined_short [] = omega arith
joined_short (w ∷ ws) = let rest = spaced_total ws in let both = length-append w (flat_map spaced ws) in omega (arith, rest, both)

-- ---- words

word_short : (w : List ℕ) → IsWord w → length w ≤ 64
word_short [] word = absurd word
word_short (b ∷ w) word = word.2

names_short : (names : List (List ℕ)) → All IsWord names → (r : ℕ) → length (get_or names r []) ≤ 64
names_short [] words r = omega arith
names_short (n ∷ names) words zero = word_short n (All-head IsWord n names words)
names_short (n ∷ names) words (suc r) = names_short names (All-tail IsWord n names words) r

label_short : (p : ℕ) (es : List (ℕ × SingleMessage)) → All (λ m. IsWord m.1.label) es → length (single_at p es).label ≤ 64
label_short p [] words = omega arith
label_short p (e ∷ es) words = go (e.0 == p) (label_short p es (All-tail (λ m. IsWord m.1.label) e es words))
  where
    go : (b : Bool) → length (single_at p es).label ≤ 64 → length (cond b e.1 (single_at p es)).label ≤ 64
    go true later = word_short e.1.label (All-head (λ m. IsWord m.1.label) e es words)
    go false later = later

number_short : (n : ℕ) → Fits n → length (decimal n) ≤ 20
number_short n fits = length-decimal-le 20 n (omega arith) (omega (arith, fits)) fits

signed_short : (z : ℤ) → mag z < 2 ^ 63 → length (signed_decimal z) ≤ 21
signed_short (pos n) fits = let short = number_short n (omega (arith, fits)) in omega (arith, short)
signed_short (negsuc n) fits = let short = number_short (suc n) (omega (arith, fits)) in omega (arith, short)

marked_short : (mark : ℕ) (o : Option ℕ) → MayFit o → total (marked_word mark o) ≤ 22
marked_short mark None fits = omega arith
marked_short mark (Some n) fits = let short = number_short n fits in omega (arith, short)

module _ (a : AcceptedView) (accepted : IsAcceptedProtocol a.protocol) where
  name_short : (r : ℕ) → length (name_of a r) ≤ 64
  name_short r = names_short a.protocol.roles accepted.names.role_words r

  message_short : (p : ℕ) (v : ℤ) → IsMessage a p v → total (message_words a p v) ≤ 108
  message_short p v is =
      let few = accepted.form.few_points in
      let last = is.last in
      let point = number_short p (omega (arith, last, few)) in
      let label = label_short p (singles (text_of a)) accepted.names.label_words in
      let value = signed_short v (within v is.value_fits) in
      omega (arith, point, label, value)

  failed_short : (f : Failed) → MayFit f.count → length (failed_word a f) ≤ 85
  failed_short f fits = let both = length-append (name_of a f.role) (count_text f.count) in let name = name_short f.role in let count = go f.count fits in omega (arith, both, name, count)
    where
      go : (o : Option ℕ) → MayFit o → length (count_text o) ≤ 21
      go None fits = omega arith
      go (Some n) fits = let short = number_short n fits in omega (arith, short)

  all_failed_short : (failed : List Failed) → AreRoles a failed → total (map (failed_word a) failed) ≤ 86 * length failed
  all_failed_short [] are = omega arith
  all_failed_short (f ∷ failed) are = let one = failed_short f are.1 in let rest = all_failed_short failed are.2 in omega (arith, one, rest)

  kept_short : (least : ℕ) (kept : List Kept) → AreKeptFrom a least kept → total (flat_map (kept_words a) kept) ≤ 86 * length kept
  kept_short least [] are = omega arith
  kept_short least (k ∷ kept) are =
      let name = name_short k.role in let count = number_short k.count are.2 in let rest = kept_short (k.role + 1) kept are.3 in omega (arith, name, count, rest)

  stated_short : (stated : Option Stated) → IfSome stated (IsStated a) → total (stated_words a stated) ≤ 717
  stated_short None is = omega arith
  stated_short (Some s) is =
      let undone = number_short s.undone is.undone in
      let colon = length-append (decimal s.undone) (58 ∷ []) in
      let kept = kept_short 0 s.kept is.kept in
      let few = is.few in
      let roles = accepted.form.few_roles in
      omega (arith, undone, colon, kept, few, roles)

  question_short : (q : Question) → total (question_words a q) ≤ 74
  question_short (question.Next r) = let name = name_short r in omega (arith, name)
  question_short question.Kept = omega arith
  question_short question.Line = omega arith
  question_short (question.Role r) = let name = name_short r in omega (arith, name)
  question_short (question.Flight None) = omega arith
  question_short (question.Flight (Some r)) = let name = name_short r in omega (arith, name)
  question_short question.Points = omega arith
  question_short question.Table = omega arith
  question_short question.Snapshot = omega arith
  question_short question.End = omega arith

  down_short : (down : Bool) → length (down_text down) ≤ 4
  down_short true = omega arith
  down_short false = omega arith

  event_short : (e : Event) (dir : Dir) → IsMessage a e.point e.value → Fits e.stamp → HasSent dir e → total (event_words a dir e) ≤ 300
  event_short e Sent message stamp sent =
      let name = name_short e.role in
      let mark = number_short e.stamp stamp in
      let whole = total_both (message_words a e.point e.value) ((64 ∷ decimal e.stamp) ∷ []) in
      let part = message_short e.point e.value message in
      omega (arith, name, mark, whole, part)
  event_short e Got message stamp sent =
      let name = name_short e.role in
      let mark = number_short e.stamp stamp in
      let behind = number_short e.sent sent in
      let whole = total_both (message_words a e.point e.value) ((64 ∷ decimal e.stamp) ∷ (60 ∷ decimal e.sent) ∷ []) in
      let part = message_short e.point e.value message in
      omega (arith, name, mark, behind, whole, part)

  again_short : (l : Again) → IsAgain a l → total (again_words a l) ≤ 400
  again_short (again.Session x) is =
      let told = number_short x.told is.0 in
      let room = number_short x.room is.1 in
      omega (arith, told, room)
  again_short (again.Role s) is =
      let few = accepted.form.few_points in
      let last = is.place in
      let name = name_short s.role in
      let kept = number_short s.kept is.kept in
      let raw = number_short s.raw is.raw in
      let place = number_short s.place (omega (arith, last, few)) in
      let clock = number_short s.clock is.clock in
      let attempt = number_short s.attempt is.attempt in
      let down = down_short s.down in
      let incarnation = number_short s.incarnation is.incarnation in
      omega (arith, name, kept, raw, place, clock, attempt, down, incarnation)
  again_short (again.Flight f) is =
      let from = name_short f.from in
      let to = name_short f.to in
      let mark = number_short f.message.stamp is.3 in
      let whole = total_both (message_words a f.message.point f.message.value) ((64 ∷ decimal f.message.stamp) ∷ []) in
      let part = message_short f.message.point f.message.value is.2 in
      omega (arith, from, to, mark, whole, part)
  again_short (again.Event e) is = let short = event_short e e.dir is.1 is.2 is.3 in omega (arith, short)
  again_short (again.Save r count) is = let name = name_short r in let number = number_short count is.1 in omega (arith, name, number)

  words_short : (l : Line) → IsLine a l → total (line_words a l) ≤ 1413
  words_short (line.Send e) is =
      let name = name_short e.role in
      let part = message_short e.point e.value is.1 in
      let stamp = marked_short 64 e.stamp is.2 in
      let incarnation = marked_short 35 e.incarnation is.3 in
      let one = total_both (message_words a e.point e.value) (marked_word 64 e.stamp ++ marked_word 35 e.incarnation) in
      let two = total_both (marked_word 64 e.stamp) (marked_word 35 e.incarnation) in
      omega (arith, name, part, stamp, incarnation, one, two)
  words_short (line.Recv e) is =
      let name = name_short e.role in
      let part = message_short e.point e.value is.1 in
      let stamp = marked_short 64 e.stamp is.2 in
      let sent = marked_short 60 e.sent is.3 in
      let incarnation = marked_short 35 e.incarnation is.4 in
      let one = total_both (message_words a e.point e.value) (marked_word 64 e.stamp ++ (marked_word 60 e.sent ++ marked_word 35 e.incarnation)) in
      let two = total_both (marked_word 64 e.stamp) (marked_word 60 e.sent ++ marked_word 35 e.incarnation) in
      let three = total_both (marked_word 60 e.sent) (marked_word 35 e.incarnation) in
      omega (arith, name, part, stamp, sent, incarnation, one, two, three)
  words_short (line.Save e) is =
      let name = name_short e.role in
      let count = number_short e.count is.1 in
      let incarnation = marked_short 35 e.incarnation is.2 in
      omega (arith, name, count, incarnation)
  words_short (line.Fail failed) is = let few = is.few in let roles = accepted.form.few_roles in let short = all_failed_short failed is.roles in omega (arith, few, roles, short)
  words_short (line.Crash r) is = let name = name_short r in omega (arith, name)
  words_short (line.Recover e) is =
      let few = is.0.few in
      let roles = accepted.form.few_roles in
      let failed = all_failed_short e.failed is.0.roles in
      let stated = stated_short e.stated is.2 in
      let both = total_both (map (failed_word a) e.failed) (stated_words a e.stated) in
      omega (arith, few, roles, failed, stated, both)
  words_short (line.Ask q) is = let short = question_short q in omega (arith, short)
  words_short (line.Again l) is = let short = again_short l is in omega (arith, short)

  pub line_short : (l : Line) → IsLine a l → length (joined (line_words a l)) ≤ 2048
  line_short l is = let one = joined_short (line_words a l) in let two = words_short l is in omega (arith, one, two)
