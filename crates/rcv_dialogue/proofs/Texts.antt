-- The text of a line is cut into its words.
use Rattle.std.proofs.Common.{◌≡◌, ◌∙◌, ◌+◌, ◌<◌, ◌≤◌, ◌^◌, ◌==◌, ℕ, ℤ, Bool, true, false, cond, List, [], ◌∷◌, ◌++◌, map, flat_map, length, Option, Some, None, Result, Ok, Err, refl, sym, ap, arith, decimal, codes}
use Rattle.std.specs.Prelude.{IfSome}
use Rattle.std.specs.List.{All, list_all}
use Rattle.std.proofs.lemmas.List.Elements.{All-head, All-tail}
use Rattle.rcv_tree.specs.Words.{IsWord, is_word_byte}
use Rattle.rcv_tree.specs.declared.event.Event.{Event}
use Rattle.rcv_tree.specs.declared.event.Dir.{Dir}
use Rattle.rcv_tree.specs.declared.event.Dir.TheVariants.{Sent, Got}
use Rattle.rcv_model.specs.Places.{SingleMessage, single_at, singles}
use Rattle.rcv_accept.specs.Accepted.{AcceptedView, IsAcceptedProtocol, net_for, text_of}
use Rattle.rcv_dialogue.specs.declared.few.Failed.{Failed}
use Rattle.rcv_dialogue.specs.declared.few.Kept.{Kept}
use Rattle.rcv_dialogue.specs.declared.line.Line.{Line}
use Rattle.rcv_dialogue.specs.declared.line.Line.TheVariants as line
use Rattle.rcv_dialogue.specs.declared.line.Question.{Question}
use Rattle.rcv_dialogue.specs.declared.line.Question.TheVariants as question
use Rattle.rcv_dialogue.specs.declared.line.Again.{Again}
use Rattle.rcv_dialogue.specs.declared.line.Again.TheVariants as again
use Rattle.rcv_dialogue.specs.declared.line.Stated.{Stated}
use Rattle.rcv_dialogue.specs.declared.words.Misfit.{Misfit}
use Rattle.rcv_dialogue.specs.declared.wrong.Wrong.{Wrong}
use Rattle.rcv_dialogue.specs.Lines.{AreKeptFrom, AreRoles, Fits, HasSent, IsAgain, IsLine, IsMessage, IsStated, MayFit, SaysLine, again_words, count_text, down_text, event_words, failed_word, kept_words, line_words, marked_word, message_words, question_words, stated_words}
use Rattle.rcv_lines.proofs.Parses.{within}
use Rattle.rcv_dialogue.specs.Names.{name_of}
use Rattle.rcv_dialogue.specs.Reading.{Words, counted, line_at, reading}
use Rattle.rcv_lines.specs.Cutting.{Lacks, fields_of, joined}
use Rattle.rcv_lines.proofs.Joining.{cut_all, join_again}
use Rattle.rcv_lines.proofs.Lacking.{AllLack, IsOutside, all_both, both_lack, names_lack, number_lacks, signed_lacks, space_is_outside, word_lacks, written_lacks}
use Rattle.rcv_dialogue.proofs.Rereading.{line_again}
use Rattle.rcv_dialogue.proofs.Failing.{Known}
use Rattle.rcv_dialogue.proofs.Lengths.{line_short}
use Rattle.rcv_dialogue.proofs.Whole.{line_takes}

abbrev read_as : Line → Result Line Misfit
read_as l = Ok l

sign_is_outside : IsOutside 61
sign_is_outside = record { word = refl; digit = refl; minus = λ e. omega (arith, e); stamp = λ e. omega (arith, e); sent = λ e. omega (arith, e); colon = λ e. omega (arith, e) }

label_lacks : (byte : ℕ) → IsOutside byte → (p : ℕ) (es : List (ℕ × SingleMessage)) → All (λ m. IsWord m.1.label) es → Lacks byte (single_at p es).label
label_lacks byte out p [] words = tt
label_lacks byte out p (e ∷ es) words = go (e.0 == p) (label_lacks byte out p es (All-tail (λ m. IsWord m.1.label) e es words))
  where
    go : (b : Bool) → Lacks byte (single_at p es).label → Lacks byte (cond b e.1 (single_at p es)).label
    go true later = word_lacks byte out e.1.label (All-head (λ m. IsWord m.1.label) e es words)
    go false later = later

number_so : (n : ℕ) → Fits n → Lacks 32 (decimal n)
number_so n fits = number_lacks 32 space_is_outside n fits

marked_so : (mark : ℕ) (o : Option ℕ) → (mark ≡ 32 → ⊥) → MayFit o → AllLack 32 (marked_word mark o)
marked_so mark None other fits = tt
marked_so mark (Some n) other fits = ((other, number_so n fits), tt)

-- It isn't a space.
abbrev IsMark : ℕ → Type 0
IsMark mark = mark ≡ 32 → ⊥

stamp_mark : IsMark 64
stamp_mark = λ e. omega (arith, e)

sent_mark : IsMark 60
sent_mark = λ e. omega (arith, e)

incarnation_mark : IsMark 35
incarnation_mark = λ e. omega (arith, e)

module _ (a : AcceptedView) (accepted : IsAcceptedProtocol a.protocol) where
  name_so : (r : ℕ) → Lacks 32 (name_of a r)
  name_so r = names_lack 32 space_is_outside a.protocol.roles accepted.names.role_words r

  pub known : Known a
  known = record { differ = accepted.names.differ; lack = λ r. names_lack 61 sign_is_outside a.protocol.roles accepted.names.role_words r }

  pub small : (p : ℕ) → p ≤ (net_for a).count → p < 2 ^ 64
  small p last = let few = accepted.form.few_points in omega (arith, last, few)

  message_so : (p : ℕ) (v : ℤ) → IsMessage a p v → AllLack 32 (message_words a p v)
  message_so p v is = (
    number_so p (small p is.last),
    (
      label_lacks 32 space_is_outside p (singles (text_of a)) accepted.names.label_words,
      (signed_lacks 32 space_is_outside v (within v is.value_fits), tt),
    ),
  )

  failed_so : (f : Failed) → MayFit f.count → Lacks 32 (failed_word a f)
  failed_so f fits = both_lack 32 (name_of a f.role) (count_text f.count) (name_so f.role) (go f.count fits)
    where
      go : (o : Option ℕ) → MayFit o → Lacks 32 (count_text o)
      go None fits = tt
      go (Some n) fits = ((λ e. omega (arith, e)), number_so n fits)

  all_failed_so : (failed : List Failed) → AreRoles a failed → AllLack 32 (map (failed_word a) failed)
  all_failed_so [] are = tt
  all_failed_so (f ∷ failed) are = (failed_so f are.1, all_failed_so failed are.2)

  kept_so : (least : ℕ) (kept : List Kept) → AreKeptFrom a least kept → AllLack 32 (flat_map (kept_words a) kept)
  kept_so least [] are = tt
  kept_so least (k ∷ kept) are = (name_so k.role, (number_so k.count are.2, kept_so (k.role + 1) kept are.3))

  stated_so : (stated : Option Stated) → IfSome stated (IsStated a) → AllLack 32 (stated_words a stated)
  stated_so None is = tt
  stated_so (Some s) is = (
    written_lacks 32 space_is_outside (codes "undone") refl,
    (both_lack 32 (decimal s.undone) (58 ∷ []) (number_so s.undone is.undone) ((λ e. omega (arith, e)), tt), kept_so 0 s.kept is.kept),
  )

  word_so : (w : List ℕ) → list_all is_word_byte w ≡ true → Lacks 32 w
  word_so w all = written_lacks 32 space_is_outside w all

  question_so : (q : Question) → AllLack 32 (question_words a q)
  question_so (question.Next r) = (word_so (codes "next") refl, (name_so r, tt))
  question_so question.Kept = (word_so (codes "kept") refl, tt)
  question_so question.Line = (word_so (codes "line") refl, tt)
  question_so (question.Role r) = (word_so (codes "role") refl, (name_so r, tt))
  question_so (question.Flight None) = (word_so (codes "flight") refl, tt)
  question_so (question.Flight (Some r)) = (word_so (codes "flight") refl, (name_so r, tt))
  question_so question.Points = (word_so (codes "points") refl, tt)
  question_so question.Table = (word_so (codes "table") refl, tt)
  question_so question.Snapshot = (word_so (codes "snapshot") refl, tt)
  question_so question.End = (word_so (codes "end") refl, tt)

  down_so : (down : Bool) → Lacks 32 (down_text down)
  down_so true = word_so (codes "down") refl
  down_so false = word_so (codes "up") refl

  event_so : (e : Event) (dir : Dir) → IsMessage a e.point e.value → Fits e.stamp → (dir ≡ Got → Fits e.sent) → AllLack 32 (event_words a dir e)
  event_so e Sent message stamp sent =
      (word_so (codes "send") refl, (name_so e.role, all_both 32 (message_words a e.point e.value) ((64 ∷ decimal e.stamp) ∷ []) (message_so e.point e.value message) ((stamp_mark, number_so e.stamp stamp), tt)))
  event_so e Got message stamp sent = (
    word_so (codes "recv") refl,
    (
      name_so e.role,
      all_both 32 (message_words a e.point e.value) ((64 ∷ decimal e.stamp) ∷ (60 ∷ decimal e.sent) ∷ []) (message_so e.point e.value message)
          ((stamp_mark, number_so e.stamp stamp), ((sent_mark, number_so e.sent (sent refl)), tt)),
    ),
  )

  named_so : (text : List ℕ) (n : ℕ) (rest : Words) → list_all is_word_byte text ≡ true → Fits n → AllLack 32 rest → AllLack 32 (text ∷ decimal n ∷ rest)
  named_so text n rest word fits lack = (word_so text word, (number_so n fits, lack))

  again_so : (l : Again) → IsAgain a l → AllLack 32 (again_words a l)
  again_so (again.Session x) is =
      (word_so (codes "session") refl, (word_so (codes "told") refl, (number_so x.told is.0, (word_so (codes "room") refl, (number_so x.room is.1, tt)))))
  again_so (again.Role s) is =
      let r5 : Words = down_text s.down ∷ (35 ∷ decimal s.incarnation) ∷ [] in
      let r4 : Words = codes "attempt" ∷ decimal s.attempt ∷ r5 in
      let r3 : Words = codes "clock" ∷ decimal s.clock ∷ r4 in
      let r2 : Words = codes "at" ∷ decimal s.place ∷ r3 in
      let r1 : Words = codes "raw" ∷ decimal s.raw ∷ r2 in
      let l5 : AllLack 32 r5 = (down_so s.down, ((incarnation_mark, number_so s.incarnation is.incarnation), tt)) in
      let l4 = named_so (codes "attempt") s.attempt r5 refl is.attempt l5 in
      let l3 = named_so (codes "clock") s.clock r4 refl is.clock l4 in
      let l2 = named_so (codes "at") s.place r3 refl (small s.place is.place) l3 in
      let l1 = named_so (codes "raw") s.raw r2 refl is.raw l2 in
      (word_so (codes "role") refl, (name_so s.role, named_so (codes "kept") s.kept r1 refl is.kept l1))
  again_so (again.Flight f) is = (
    word_so (codes "flight") refl,
    (
      name_so f.from,
      (
        name_so f.to,
        all_both 32 (message_words a f.message.point f.message.value) ((64 ∷ decimal f.message.stamp) ∷ []) (message_so f.message.point f.message.value is.2)
            ((stamp_mark, number_so f.message.stamp is.3), tt),
      ),
    ),
  )
  again_so (again.Event e) is = event_so e e.dir is.1 is.2 (λ got. sent_fits e e.dir got is.3)
    where
      sent_fits : (e : Event) (dir : Dir) → dir ≡ Got → HasSent dir e → Fits e.sent
      sent_fits e Sent got has = absurd cc
      sent_fits e Got got has = has
  again_so (again.Save r count) is = (word_so (codes "save") refl, (name_so r, (number_so count is.1, tt)))

  words_so : (l : Line) → IsLine a l → AllLack 32 (line_words a l)
  words_so (line.Send e) is = (
    word_so (codes "send") refl,
    (
      name_so e.role,
      all_both 32 (message_words a e.point e.value) (marked_word 64 e.stamp ++ marked_word 35 e.incarnation) (message_so e.point e.value is.1)
          (all_both 32 (marked_word 64 e.stamp) (marked_word 35 e.incarnation) (marked_so 64 e.stamp stamp_mark is.2) (marked_so 35 e.incarnation incarnation_mark is.3)),
    ),
  )
  words_so (line.Recv e) is = (
    word_so (codes "recv") refl,
    (
      name_so e.role,
      all_both 32 (message_words a e.point e.value) (marked_word 64 e.stamp ++ (marked_word 60 e.sent ++ marked_word 35 e.incarnation)) (message_so e.point e.value is.1)
          (all_both 32 (marked_word 64 e.stamp) (marked_word 60 e.sent ++ marked_word 35 e.incarnation) (marked_so 64 e.stamp stamp_mark is.2)
          (all_both 32 (marked_word 60 e.sent) (marked_word 35 e.incarnation) (marked_so 60 e.sent sent_mark is.3) (marked_so 35 e.incarnation incarnation_mark is.4))),
    ),
  )
  words_so (line.Save e) is = (word_so (codes "save") refl, (name_so e.role, (number_so e.count is.1, marked_so 35 e.incarnation incarnation_mark is.2)))
  words_so (line.Fail failed) is = (word_so (codes "fail") refl, all_failed_so failed is.roles)
  words_so (line.Crash r) is = (word_so (codes "crash") refl, (name_so r, tt))
  words_so (line.Recover e) is =
      (word_so (codes "recover") refl, all_both 32 (map (failed_word a) e.failed) (stated_words a e.stated) (all_failed_so e.failed is.0.roles) (stated_so e.stated is.2))
  words_so (line.Ask q) is = question_so q
  words_so (line.Again l) is = (word_so (codes "again") refl, again_so l is)

  -- No line is without words.
  some_words : (l : Line) → line_words a l ≡ [] → ⊥
  some_words (line.Send e) none = omega (arith, ap length none)
  some_words (line.Recv e) none = omega (arith, ap length none)
  some_words (line.Save e) none = omega (arith, ap length none)
  some_words (line.Fail failed) none = omega (arith, ap length none)
  some_words (line.Crash r) none = omega (arith, ap length none)
  some_words (line.Recover e) none = omega (arith, ap length none)
  some_words (line.Ask (question.Next r)) none = omega (arith, ap length none)
  some_words (line.Ask question.Kept) none = omega (arith, ap length none)
  some_words (line.Ask question.Line) none = omega (arith, ap length none)
  some_words (line.Ask (question.Role r)) none = omega (arith, ap length none)
  some_words (line.Ask (question.Flight None)) none = omega (arith, ap length none)
  some_words (line.Ask (question.Flight (Some r))) none = omega (arith, ap length none)
  some_words (line.Ask question.Points) none = omega (arith, ap length none)
  some_words (line.Ask question.Table) none = omega (arith, ap length none)
  some_words (line.Ask question.Snapshot) none = omega (arith, ap length none)
  some_words (line.Ask question.End) none = omega (arith, ap length none)
  some_words (line.Again l) none = omega (arith, ap length none)

  -- What a text says is read, and what is read is what it says.
  pub said_is_read : (text : List ℕ) (l : Line) → SaysLine a text l → line_at a (fields_of text) ≡ Ok l
  said_is_read text l says =
      ap (line_at a) (ap fields_of says.words ∙ cut_all (line_words a l) (some_words l) (words_so l says.formed)) ∙ line_again a known small l says.formed

  pub read_is_said : (text : List ℕ) (l : Line) → length text ≤ 2048 → line_at a (fields_of text) ≡ Ok l → SaysLine a text l
  read_is_said text l short is =
      let t = line_takes a (fields_of text) l is in
      record { formed = t.0; words = sym (join_again text) ∙ ap joined t.1; short = short }

  pub one_thing : (text : List ℕ) (x y : Line) → SaysLine a text x → SaysLine a text y → x ≡ y
  one_thing text x y says-x says-y = same x y (sym (said_is_read text x says-x) ∙ said_is_read text y says-y)
    where
      same : (x y : Line) → read_as x ≡ read_as y → x ≡ y
      same x y e = cc

-- ---- what contracts ask

abbrev counted_as : Line → Result Line Wrong
counted_as l = Ok l

counted_is : (x y : Line) → counted_as x ≡ counted_as y → x ≡ y
counted_is x y e = cc

counted_ok : (words : Words) (r : Result Line Misfit) (l : Line) → counted words r ≡ Ok l → r ≡ Ok l
counted_ok words (Ok x) l is = ap (λ (y : Line). Ok y) (counted_is x l is)
counted_ok words (Err e) l is = absurd cc

pub found : (a : AcceptedView) → IsAcceptedProtocol a.protocol → (text : List ℕ) (l : Line) → length text ≤ 2048 → Ok l ≡ reading a text → SaysLine a text l
found a accepted text l short is = read_is_said a accepted text l short (counted_ok (fields_of text) (line_at a (fields_of text)) l (sym is))

pub only : (a : AcceptedView) → IsAcceptedProtocol a.protocol → (text : List ℕ) (l : Line) → SaysLine a text l → reading a text ≡ Ok l
only a accepted text l says = ap (counted (fields_of text)) (said_is_read a accepted text l says)

pub read_back : (a : AcceptedView) (l : Line) → IsAcceptedProtocol a.protocol → IsLine a l → SaysLine a (joined (line_words a l)) l × (reading a (joined (line_words a l)) ≡ Ok l)
read_back a l accepted is =
    let says : SaysLine a (joined (line_words a l)) l = record { formed = is; words = refl; short = line_short a accepted l is } in
    (says, only a accepted (joined (line_words a l)) l says)

-- Nothing else is read.
pub ok_only : (a : AcceptedView) → IsAcceptedProtocol a.protocol → (text : List ℕ) (l other : Line) → Ok l ≡ reading a text → SaysLine a text other → l ≡ other
ok_only a accepted text l other is says = counted_is l other (is ∙ only a accepted text other says)
