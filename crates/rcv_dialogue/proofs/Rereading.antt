-- The words of a line of the form are read as this line.
use Rattle.std.proofs.Common.{◌≡◌, ◌∙◌, ◌<◌, ◌≤◌, ◌^◌, ◌==◌, ℕ, ℤ, Bool, true, false, true≢false, List, [], ◌∷◌, ◌++◌, map, flat_map, Option, Some, None, Ok, inl, inr, refl, sym, ap, arith, append-nil, decimal, codes}
use Rattle.std.specs.Prelude.{IfSome}
use Rattle.rcv_tree.specs.declared.event.Dir.{Dir}
use Rattle.rcv_tree.specs.declared.event.Dir.TheVariants.{Sent, Got}
use Rattle.rcv_accept.specs.Accepted.{AcceptedView, net_for}
use Rattle.rcv_dialogue.specs.declared.few.Failed.{Failed}
use Rattle.rcv_dialogue.specs.declared.few.Kept.{Kept}
use Rattle.rcv_dialogue.specs.declared.line.Line.{Line}
use Rattle.rcv_dialogue.specs.declared.line.Line.TheVariants as line
use Rattle.rcv_dialogue.specs.declared.line.Question.{Question}
use Rattle.rcv_dialogue.specs.declared.line.Question.TheVariants as question
use Rattle.rcv_dialogue.specs.declared.line.Again.{Again}
use Rattle.rcv_dialogue.specs.declared.line.Again.TheVariants as again
use Rattle.rcv_dialogue.specs.declared.line.Flight.{Flight}
use Rattle.rcv_dialogue.specs.declared.line.Extent.{Extent}
use Rattle.rcv_dialogue.specs.declared.line.ToldStanding.{ToldStanding}
use Rattle.rcv_dialogue.specs.declared.line.Stated.{Stated}
use Rattle.rcv_dialogue.specs.declared.line.ToldRecv.{ToldRecv}
use Rattle.rcv_dialogue.specs.declared.line.ToldSave.{ToldSave}
use Rattle.rcv_dialogue.specs.declared.line.ToldSend.{ToldSend}
use Rattle.rcv_dialogue.specs.declared.wrong.Expected.TheVariants as expected
use Rattle.rcv_dialogue.specs.Lines.{AreFailed, IsAgain, IsLine, IsMessage, IsQuestion, IsRole, IsStated, NoneBehindSaysUndone, down_text, failed_word, kept_words, line_words, marked_word, message_words, stated_words}
use Rattle.rcv_dialogue.specs.Names.{name_of}
use Rattle.rcv_dialogue.specs.Reading.{Words, again_at, again_flight_at, again_recv_at, again_save_at, again_send_at, all_failed_at, crash_at, fail_at, flight_at, begins, line_at, message_at, of_role_at, recover_at, recv_at, role_at, save_at, send_at, extent_at, standing_at, stated_at}
use Rattle.rcv_dialogue.proofs.Cutting.{cuts_again}
use Rattle.rcv_dialogue.proofs.Failing.{Known, Stops, failed_again, more_again}
use Rattle.rcv_dialogue.proofs.Numerals.{colon_again}
use Rattle.rcv_dialogue.proofs.Parts.{down_at_again, marked_at_again, message_at_again, named_at_again, number_at_again, optional_at_again, optional_at_last, other_begins, place_at_again, role_at_again}
use Rattle.rcv_dialogue.proofs.Steps.{literal_again}

-- A word with another mark than a stamp's.
two_begin : (mark : ℕ) (o p : Option ℕ) → (60 == mark) ≡ false → (35 == mark) ≡ false → begins mark (marked_word 60 o ++ marked_word 35 p) ≡ false
two_begin mark None p differ other = other_begins mark 35 p other
two_begin mark (Some n) p differ other = differ

module _ (a : AcceptedView) (known : Known a) (small : (p : ℕ) → p ≤ (net_for a).count → p < 2 ^ 64) where
  role_so : (r : ℕ) (rest : Words) → IsRole a r → role_at a (name_of a r ∷ rest) ≡ Ok (r, rest)
  role_so r rest inside = role_at_again a r rest known.differ inside

  message_so : (p : ℕ) (v : ℤ) (rest : Words) → IsMessage a p v → message_at a (message_words a p v ++ rest) ≡ Ok (p, v, rest)
  message_so p v rest is = message_at_again a p v rest is (small p is.last)

  send_again : (e : ToldSend) → IsLine a (line.Send e)
      → send_at a (name_of a e.role ∷ message_words a e.point e.value ++ (marked_word 64 e.stamp ++ marked_word 35 e.incarnation)) ≡ Ok (line.Send e)
  unfolding send_at
  send_again e is =
      let r2 = marked_word 35 e.incarnation in
      let r1 = marked_word 64 e.stamp ++ r2 in
      rw (
        role_so e.role (message_words a e.point e.value ++ r1) is.0,
        message_so e.point e.value r1 is.1,
        optional_at_again 64 expected.Stamp e.stamp r2 is.2 (other_begins 64 35 e.incarnation refl),
        optional_at_last 35 expected.Incarnation e.incarnation is.3,
      ) refl

  recv_again : (e : ToldRecv) → IsLine a (line.Recv e)
      → recv_at a (name_of a e.role ∷ message_words a e.point e.value ++ (marked_word 64 e.stamp ++ (marked_word 60 e.sent ++ marked_word 35 e.incarnation))) ≡ Ok (line.Recv e)
  unfolding recv_at
  recv_again e is =
      let r3 = marked_word 35 e.incarnation in
      let r2 = marked_word 60 e.sent ++ r3 in
      let r1 = marked_word 64 e.stamp ++ r2 in
      rw (
        role_so e.role (message_words a e.point e.value ++ r1) is.0,
        message_so e.point e.value r1 is.1,
        optional_at_again 64 expected.Stamp e.stamp r2 is.2 (two_begin 64 e.sent e.incarnation refl refl),
        optional_at_again 60 expected.Sent e.sent r3 is.3 (other_begins 60 35 e.incarnation refl),
        optional_at_last 35 expected.Incarnation e.incarnation is.4,
      ) refl

  save_again : (e : ToldSave) → IsLine a (line.Save e) → save_at a (name_of a e.role ∷ decimal e.count ∷ marked_word 35 e.incarnation) ≡ Ok (line.Save e)
  unfolding save_at
  save_again e is =
      rw (
        role_so e.role (decimal e.count ∷ marked_word 35 e.incarnation) is.0,
        number_at_again expected.Count e.count (marked_word 35 e.incarnation) is.1,
        optional_at_last 35 expected.Incarnation e.incarnation is.2,
      ) refl

  crash_again : (r : ℕ) → IsRole a r → crash_at a (name_of a r ∷ []) ≡ Ok (line.Crash r)
  unfolding crash_at
  crash_again r is = rw (role_so r [] is) refl

  of_role_again : (r : ℕ) → IsRole a r → of_role_at a (name_of a r ∷ []) ≡ Ok r
  unfolding of_role_at
  of_role_again r is = rw (role_so r [] is) refl

  flight_again : (to : Option ℕ) → IfSome to (IsRole a) → line_at a (line_words a (line.Ask (question.Flight to))) ≡ Ok (line.Ask (question.Flight to))
  unfolding line_at flight_at
  flight_again None is = refl
  flight_again (Some r) is = rw (of_role_again r is) refl

  question_again : (q : Question) → IsQuestion a q → line_at a (line_words a (line.Ask q)) ≡ Ok (line.Ask q)
  unfolding line_at
  question_again (question.Next r) is = rw (of_role_again r is) refl
  question_again question.Kept is = refl
  question_again question.Line is = refl
  question_again (question.Role r) is = rw (of_role_again r is) refl
  question_again (question.Flight to) is = flight_again to is
  question_again question.Points is = refl
  question_again question.Table is = refl
  question_again question.Snapshot is = refl
  question_again question.End is = refl

  extent_again : (x : Extent) → IsAgain a (again.Session x)
      → extent_at (codes "told" ∷ decimal x.told ∷ codes "room" ∷ decimal x.room ∷ []) ≡ Ok (line.Again (again.Session x))
  unfolding extent_at
  extent_again x is =
      rw (
        named_at_again (codes "told") expected.Told expected.Count x.told (codes "room" ∷ decimal x.room ∷ []) is.0,
        named_at_again (codes "room") expected.Room expected.Count x.room [] is.1,
      ) refl

  standing_again : (s : ToldStanding) → IsAgain a (again.Role s)
      → standing_at a (name_of a s.role ∷ codes "kept" ∷ decimal s.kept ∷ codes "raw" ∷ decimal s.raw ∷ codes "at" ∷ decimal s.place ∷ codes "clock" ∷ decimal s.clock
      ∷ codes "attempt" ∷ decimal s.attempt ∷ down_text s.down ∷ (35 ∷ decimal s.incarnation) ∷ []) ≡ Ok (line.Again (again.Role s))
  unfolding standing_at
  standing_again s is =
      let r7 : Words = (35 ∷ decimal s.incarnation) ∷ [] in
      let r6 : Words = down_text s.down ∷ r7 in
      let r5 : Words = codes "attempt" ∷ decimal s.attempt ∷ r6 in
      let r4 : Words = codes "clock" ∷ decimal s.clock ∷ r5 in
      let r3 : Words = decimal s.place ∷ r4 in
      let r2 : Words = codes "at" ∷ r3 in
      let r1 : Words = codes "raw" ∷ decimal s.raw ∷ r2 in
      rw (
        role_so s.role (codes "kept" ∷ decimal s.kept ∷ r1) is.role,
        named_at_again (codes "kept") expected.Kept expected.Count s.kept r1 is.kept,
        named_at_again (codes "raw") expected.Raw expected.Count s.raw r2 is.raw,
        literal_again (codes "at") expected.At r3,
        place_at_again a s.place r4 is.place (small s.place is.place),
        named_at_again (codes "clock") expected.Clock expected.Stamp s.clock r5 is.clock,
        named_at_again (codes "attempt") expected.Attempt expected.Count s.attempt r6 is.attempt,
        down_at_again s.down r7,
        marked_at_again 35 expected.Incarnation s.incarnation [] is.incarnation,
      ) refl

  again_flight_again : (f : Flight) → IsAgain a (again.Flight f)
      → again_flight_at a (name_of a f.from ∷ name_of a f.to ∷ message_words a f.message.point f.message.value ++ (64 ∷ decimal f.message.stamp) ∷ []) ≡ Ok (line.Again (again.Flight f))
  unfolding again_flight_at
  again_flight_again f is =
      let r2 : Words = (64 ∷ decimal f.message.stamp) ∷ [] in
      let r1 = message_words a f.message.point f.message.value ++ r2 in
      rw (role_so f.from (name_of a f.to ∷ r1) is.0, role_so f.to r1 is.1, message_so f.message.point f.message.value r2 is.2, marked_at_again 64 expected.Stamp f.message.stamp [] is.3) refl

  event_again : (r p : ℕ) (v : ℤ) (t u : ℕ) (dir : Dir) → IsAgain a (again.Event (record { role = r; dir = dir; point = p; value = v; stamp = t; sent = u }))
      → line_at a (line_words a (line.Again (again.Event (record { role = r; dir = dir; point = p; value = v; stamp = t; sent = u }))))
      ≡ Ok (line.Again (again.Event (record { role = r; dir = dir; point = p; value = v; stamp = t; sent = u })))
  unfolding line_at again_at again_send_at again_recv_at
  event_again r p v t u Sent is =
      let r2 : Words = (64 ∷ decimal t) ∷ [] in
      rw (role_so r (message_words a p v ++ r2) is.0, message_so p v r2 is.1, marked_at_again 64 expected.Stamp t [] is.2)
      (ap (λ s. Ok (line.Again (again.Event (record { role = r; dir = Sent; point = p; value = v; stamp = t; sent = s })))) (sym is.3))
  event_again r p v t u Got is =
      let r3 : Words = (60 ∷ decimal u) ∷ [] in
      let r2 : Words = (64 ∷ decimal t) ∷ r3 in
      rw (role_so r (message_words a p v ++ r2) is.0, message_so p v r2 is.1, marked_at_again 64 expected.Stamp t r3 is.2, marked_at_again 60 expected.Sent u [] is.3) refl

  again_save_again : (r count : ℕ) → IsAgain a (again.Save r count) → again_save_at a (name_of a r ∷ decimal count ∷ []) ≡ Ok (line.Again (again.Save r count))
  unfolding again_save_at
  again_save_again r count is = rw (role_so r (decimal count ∷ []) is.0, number_at_again expected.Count count [] is.1) refl

  again_again : (l : Again) → IsAgain a l → line_at a (line_words a (line.Again l)) ≡ Ok (line.Again l)
  unfolding line_at again_at
  again_again (again.Session x) is = extent_again x is
  again_again (again.Role s) is = standing_again s is
  again_again (again.Flight f) is = again_flight_again f is
  again_again (again.Event e) is = event_again e.role e.point e.value e.stamp e.sent e.dir is
  again_again (again.Save r count) is = again_save_again r count is

  all_failed_again : (stops : Bool) (failed : List Failed) (rest : Words) → AreFailed a failed → (stops ≡ true → NoneBehindSaysUndone a failed) → Stops stops rest
      → all_failed_at a stops (map (failed_word a) failed ++ rest) ≡ Ok (failed, rest)
  unfolding all_failed_at
  all_failed_again stops [] rest is none stop = absurd (omega (arith, is.some))
  all_failed_again stops (f ∷ failed) rest is none stop =
      rw (failed_again a f known.differ (known.lack f.role) is.roles.0 is.roles.1) (more_again a known stops (f ∷ []) failed rest is.roles.2 is.once is.few none stop)

  fail_again : (failed : List Failed) → AreFailed a failed → fail_at a (map (failed_word a) failed) ≡ Ok (line.Fail failed)
  unfolding fail_at
  fail_again failed is =
      ap (fail_at a) (sym (append-nil (map (failed_word a) failed))) ∙ rw (all_failed_again false failed [] is (λ off. absurd (true≢false (sym off))) (inl refl)) refl

  stated_again : (undone : ℕ) (kept : List Kept) → IsStated a (record { undone = undone; kept = kept })
      → stated_at a (stated_words a (Some (record { undone = undone; kept = kept }))) ≡ Ok (record { undone = undone; kept = kept })
  unfolding stated_at
  stated_again undone [] is = absurd (omega (arith, is.some))
  stated_again undone (k ∷ kept) is =
      let rest = flat_map (kept_words a) kept in
      rw (
        literal_again (codes "undone") expected.Undone ((decimal undone ++ 58 ∷ []) ∷ name_of a k.role ∷ decimal k.count ∷ rest),
        colon_again undone is.undone,
        role_so k.role (decimal k.count ∷ rest) is.kept.1,
        number_at_again expected.Count k.count rest is.kept.2,
        cuts_again a known.differ (k ∷ []) kept is.kept is.few,
      ) refl

  recover_again : (failed : List Failed) (stated : Option Stated) → AreFailed a failed → NoneBehindSaysUndone a failed → IfSome stated (IsStated a)
      → recover_at a (map (failed_word a) failed ++ stated_words a stated) ≡ Ok (line.Recover (record { failed = failed; stated = stated }))
  unfolding recover_at
  recover_again failed None is none fits = rw (all_failed_again true failed [] is (λ _. none) (inl refl)) refl
  recover_again failed (Some s) is none fits =
      rw (all_failed_again true failed (stated_words a (Some s)) is (λ _. none) (inr (refl, (_, refl))), stated_again s.undone s.kept fits) refl

  -- Each line.
  pub line_again : (l : Line) → IsLine a l → line_at a (line_words a l) ≡ Ok l
  unfolding line_at
  line_again (line.Send e) is = send_again e is
  line_again (line.Recv e) is = recv_again e is
  line_again (line.Save e) is = save_again e is
  line_again (line.Fail failed) is = fail_again failed is
  line_again (line.Crash r) is = crash_again r is
  line_again (line.Recover e) is = recover_again e.failed e.stated is.0 is.1 is.2
  line_again (line.Ask q) is = question_again q is
  line_again (line.Again l) is = again_again l is
