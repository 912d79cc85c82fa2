-- What is read of a line's words behind the first is of the form, and has these words.
use Rattle.std.proofs.Common.{◌≡◌, ◌∙◌, ◌<◌, ℕ, List, [], ◌∷◌, ◌++◌, Ok, refl, ap, subst, append-nil, decimal, codes}
use Rattle.rcv_accept.specs.Accepted.{AcceptedView, roles_of}
use Rattle.rcv_dialogue.specs.declared.line.Line.{Line}
use Rattle.rcv_dialogue.specs.declared.wrong.Expected.TheVariants as expected
use Rattle.rcv_dialogue.specs.Lines.{IsLine, down_text, line_words, marked_word, message_words}
use Rattle.rcv_dialogue.specs.Names.{name_of}
use Rattle.rcv_dialogue.specs.Reading.{◌>>=◌, Words, again_flight_at, again_recv_at, again_save_at, again_send_at, all_failed_at, crash_at, fail_at, is_over, of_role_at, recover_at, recv_at, save_at, send_at, extent_at, standing_at, stated_at}
use Rattle.rcv_dialogue.specs.Reading as reading
use Rattle.rcv_dialogue.proofs.Parts.{down_at_takes, marked_at_takes, message_at_takes, named_at_takes, number_at_takes, optional_at_takes, place_at_takes, role_at_takes}
use Rattle.rcv_dialogue.proofs.Steps.{bind_ok, ended_takes, literal_takes}

-- A line with these words behind the first.
pub record Took (a : AcceptedView) (word : List ℕ) (left : Words) (l : Line) : Type 0 where
  pub formed : IsLine a l
  pub words : word ∷ left ≡ line_words a l

-- Words and what stands behind them.
onto : (xs : Words) (left rest later : Words) → left ≡ xs ++ rest → rest ≡ later → left ≡ xs ++ later
onto xs left rest later is next = is ∙ ap (λ ys. xs ++ ys) next

at_end : (xs : Words) (left rest : Words) → left ≡ xs ++ rest → rest ≡ [] → left ≡ xs
at_end xs left rest is none = onto xs left rest [] is none ∙ append-nil xs

pub send_takes : (a : AcceptedView) (left : Words) (l : Line) → send_at a left ≡ Ok l → Took a (codes "send") left l
unfolding send_at
send_takes a left l is =
    let b0 = bind_ok (reading.role_at a left) _ l is in
    let b1 = bind_ok (reading.message_at a b0.0.1) _ l b0.2 in
    let b2 = bind_ok (reading.optional_at 64 expected.Stamp b1.0.2) _ l b1.2 in
    let b3 = bind_ok (reading.optional_at 35 expected.Incarnation b2.0.1) _ l b2.2 in
    let e = ended_takes b3.0.1 _ l b3.2 in
    let t0 = role_at_takes a left b0.0.0 b0.0.1 b0.1 in
    let t1 = message_at_takes a b0.0.1 b1.0.0 b1.0.1 b1.0.2 b1.1 in
    let t2 = optional_at_takes 64 expected.Stamp b1.0.2 b2.0.0 b2.0.1 b2.1 in
    let t3 = optional_at_takes 35 expected.Incarnation b2.0.1 b3.0.0 b3.0.1 b3.1 in
    let i3 = at_end (marked_word 35 b3.0.0) b2.0.1 b3.0.1 t3.1 e.0 in
    let i2 = onto (marked_word 64 b2.0.0) b1.0.2 b2.0.1 _ t2.1 i3 in
    let i1 = onto (message_words a b1.0.0 b1.0.1) b0.0.1 b1.0.2 _ t1.1 i2 in
    subst (Took a (codes "send") left) e.1 (record {
      formed = (t0.0, t1.0, t2.0, t3.0);
      words = ap (λ (ws : Words). codes "send" ∷ ws) (t0.1 ∙ ap (λ (ws : Words). name_of a b0.0.0 ∷ ws) i1);
    })

pub recv_takes : (a : AcceptedView) (left : Words) (l : Line) → recv_at a left ≡ Ok l → Took a (codes "recv") left l
unfolding recv_at
recv_takes a left l is =
    let b0 = bind_ok (reading.role_at a left) _ l is in
    let b1 = bind_ok (reading.message_at a b0.0.1) _ l b0.2 in
    let b2 = bind_ok (reading.optional_at 64 expected.Stamp b1.0.2) _ l b1.2 in
    let b3 = bind_ok (reading.optional_at 60 expected.Sent b2.0.1) _ l b2.2 in
    let b4 = bind_ok (reading.optional_at 35 expected.Incarnation b3.0.1) _ l b3.2 in
    let e = ended_takes b4.0.1 _ l b4.2 in
    let t0 = role_at_takes a left b0.0.0 b0.0.1 b0.1 in
    let t1 = message_at_takes a b0.0.1 b1.0.0 b1.0.1 b1.0.2 b1.1 in
    let t2 = optional_at_takes 64 expected.Stamp b1.0.2 b2.0.0 b2.0.1 b2.1 in
    let t3 = optional_at_takes 60 expected.Sent b2.0.1 b3.0.0 b3.0.1 b3.1 in
    let t4 = optional_at_takes 35 expected.Incarnation b3.0.1 b4.0.0 b4.0.1 b4.1 in
    let i4 = at_end (marked_word 35 b4.0.0) b3.0.1 b4.0.1 t4.1 e.0 in
    let i3 = onto (marked_word 60 b3.0.0) b2.0.1 b3.0.1 _ t3.1 i4 in
    let i2 = onto (marked_word 64 b2.0.0) b1.0.2 b2.0.1 _ t2.1 i3 in
    let i1 = onto (message_words a b1.0.0 b1.0.1) b0.0.1 b1.0.2 _ t1.1 i2 in
    subst (Took a (codes "recv") left) e.1 (record {
      formed = (t0.0, t1.0, t2.0, t3.0, t4.0);
      words = ap (λ (ws : Words). codes "recv" ∷ ws) (t0.1 ∙ ap (λ (ws : Words). name_of a b0.0.0 ∷ ws) i1);
    })

pub save_takes : (a : AcceptedView) (left : Words) (l : Line) → save_at a left ≡ Ok l → Took a (codes "save") left l
unfolding save_at
save_takes a left l is =
    let b0 = bind_ok (reading.role_at a left) _ l is in
    let b1 = bind_ok (reading.number_at expected.Count b0.0.1) _ l b0.2 in
    let b2 = bind_ok (reading.optional_at 35 expected.Incarnation b1.0.1) _ l b1.2 in
    let e = ended_takes b2.0.1 _ l b2.2 in
    let t0 = role_at_takes a left b0.0.0 b0.0.1 b0.1 in
    let t1 = number_at_takes expected.Count b0.0.1 b1.0.0 b1.0.1 b1.1 in
    let t2 = optional_at_takes 35 expected.Incarnation b1.0.1 b2.0.0 b2.0.1 b2.1 in
    let i2 = at_end (marked_word 35 b2.0.0) b1.0.1 b2.0.1 t2.1 e.0 in
    subst (Took a (codes "save") left) e.1 (record {
      formed = (t0.0, t1.0, t2.0);
      words = ap (λ (ws : Words). codes "save" ∷ ws) (t0.1 ∙ ap (λ (ws : Words). name_of a b0.0.0 ∷ ws) (t1.1 ∙ ap (λ (ws : Words). decimal b1.0.0 ∷ ws) i2));
    })

pub crash_takes : (a : AcceptedView) (left : Words) (l : Line) → crash_at a left ≡ Ok l → Took a (codes "crash") left l
unfolding crash_at
crash_takes a left l is =
    let b0 = bind_ok (reading.role_at a left) _ l is in
    let e = ended_takes b0.0.1 _ l b0.2 in
    let t0 = role_at_takes a left b0.0.0 b0.0.1 b0.1 in
    subst (Took a (codes "crash") left) e.1 (record {
      formed = t0.0;
      words = ap (λ (ws : Words). codes "crash" ∷ ws) (t0.1 ∙ ap (λ (ws : Words). name_of a b0.0.0 ∷ ws) e.0);
    })

pub of_role_takes : (a : AcceptedView) (left : Words) (r : ℕ) → of_role_at a left ≡ Ok r → (r < roles_of a) × (left ≡ name_of a r ∷ [])
unfolding of_role_at
of_role_takes a left r is =
    let b0 = bind_ok (reading.role_at a left) _ r is in
    let e = ended_takes b0.0.1 _ r b0.2 in
    let t0 = role_at_takes a left b0.0.0 b0.0.1 b0.1 in
    subst (λ (x : ℕ). (x < roles_of a) × (left ≡ name_of a x ∷ [])) e.1 (t0.0, t0.1 ∙ ap (λ (ws : Words). name_of a b0.0.0 ∷ ws) e.0)

-- ---- snapshots, behind `again` and the next word

pub record TookAgain (a : AcceptedView) (word : List ℕ) (left : Words) (l : Line) : Type 0 where
  pub formed : IsLine a l
  pub words : codes "again" ∷ word ∷ left ≡ line_words a l

again_from : (a : AcceptedView) (word : List ℕ) (left other : Words) → left ≡ other → codes "again" ∷ word ∷ left ≡ codes "again" ∷ word ∷ other
again_from a word left other is = ap (λ (ws : Words). codes "again" ∷ word ∷ ws) is

pub extent_takes : (a : AcceptedView) (left : Words) (l : Line) → extent_at left ≡ Ok l → TookAgain a (codes "session") left l
unfolding extent_at
extent_takes a left l is =
    let b0 = bind_ok (reading.named_at (codes "told") expected.Told expected.Count left) _ l is in
    let b1 = bind_ok (reading.named_at (codes "room") expected.Room expected.Count b0.0.1) _ l b0.2 in
    let e = ended_takes b1.0.1 _ l b1.2 in
    let t0 = named_at_takes (codes "told") expected.Told expected.Count left b0.0.0 b0.0.1 b0.1 in
    let t1 = named_at_takes (codes "room") expected.Room expected.Count b0.0.1 b1.0.0 b1.0.1 b1.1 in
    let i1 = t1.1 ∙ ap (λ (ws : Words). codes "room" ∷ decimal b1.0.0 ∷ ws) e.0 in
    let i0 = t0.1 ∙ ap (λ (ws : Words). codes "told" ∷ decimal b0.0.0 ∷ ws) i1 in
    subst (TookAgain a (codes "session") left) e.1 (record { formed = (t0.0, t1.0); words = again_from a (codes "session") left _ i0 })

pub standing_takes : (a : AcceptedView) (left : Words) (l : Line) → standing_at a left ≡ Ok l → TookAgain a (codes "role") left l
unfolding standing_at
standing_takes a left l is =
    let b0 = bind_ok (reading.role_at a left) _ l is in
    let b1 = bind_ok (reading.named_at (codes "kept") expected.Kept expected.Count b0.0.1) _ l b0.2 in
    let b2 = bind_ok (reading.named_at (codes "raw") expected.Raw expected.Count b1.0.1) _ l b1.2 in
    let b3 = bind_ok (reading.literal_at (codes "at") expected.At b2.0.1) _ l b2.2 in
    let b4 = bind_ok (reading.place_at a b3.0) _ l b3.2 in
    let b5 = bind_ok (reading.named_at (codes "clock") expected.Clock expected.Stamp b4.0.1) _ l b4.2 in
    let b6 = bind_ok (reading.named_at (codes "attempt") expected.Attempt expected.Count b5.0.1) _ l b5.2 in
    let b7 = bind_ok (reading.down_at b6.0.1) _ l b6.2 in
    let b8 = bind_ok (reading.marked_at 35 expected.Incarnation b7.0.1) _ l b7.2 in
    let e = ended_takes b8.0.1 _ l b8.2 in
    let t0 = role_at_takes a left b0.0.0 b0.0.1 b0.1 in
    let t1 = named_at_takes (codes "kept") expected.Kept expected.Count b0.0.1 b1.0.0 b1.0.1 b1.1 in
    let t2 = named_at_takes (codes "raw") expected.Raw expected.Count b1.0.1 b2.0.0 b2.0.1 b2.1 in
    let t3 = literal_takes (codes "at") expected.At b2.0.1 b3.0 b3.1 in
    let t4 = place_at_takes a b3.0 b4.0.0 b4.0.1 b4.1 in
    let t5 = named_at_takes (codes "clock") expected.Clock expected.Stamp b4.0.1 b5.0.0 b5.0.1 b5.1 in
    let t6 = named_at_takes (codes "attempt") expected.Attempt expected.Count b5.0.1 b6.0.0 b6.0.1 b6.1 in
    let t7 = down_at_takes b6.0.1 b7.0.0 b7.0.1 b7.1 in
    let t8 = marked_at_takes 35 expected.Incarnation b7.0.1 b8.0.0 b8.0.1 b8.1 in
    let i8 = t8.1 ∙ ap (λ (ws : Words). (35 ∷ decimal b8.0.0) ∷ ws) e.0 in
    let i7 = t7 ∙ ap (λ (ws : Words). down_text b7.0.0 ∷ ws) i8 in
    let i6 = t6.1 ∙ ap (λ (ws : Words). codes "attempt" ∷ decimal b6.0.0 ∷ ws) i7 in
    let i5 = t5.1 ∙ ap (λ (ws : Words). codes "clock" ∷ decimal b5.0.0 ∷ ws) i6 in
    let i4 = t4.1 ∙ ap (λ (ws : Words). decimal b4.0.0 ∷ ws) i5 in
    let i3 = t3 ∙ ap (λ (ws : Words). codes "at" ∷ ws) i4 in
    let i2 = t2.1 ∙ ap (λ (ws : Words). codes "raw" ∷ decimal b2.0.0 ∷ ws) i3 in
    let i1 = t1.1 ∙ ap (λ (ws : Words). codes "kept" ∷ decimal b1.0.0 ∷ ws) i2 in
    let i0 = t0.1 ∙ ap (λ (ws : Words). name_of a b0.0.0 ∷ ws) i1 in
    subst (TookAgain a (codes "role") left) e.1 (record {
      formed = record { role = t0.0; kept = t1.0; raw = t2.0; place = t4.0; clock = t5.0; attempt = t6.0; incarnation = t8.0 };
      words = again_from a (codes "role") left _ i0;
    })

pub again_flight_takes : (a : AcceptedView) (left : Words) (l : Line) → again_flight_at a left ≡ Ok l → TookAgain a (codes "flight") left l
unfolding again_flight_at
again_flight_takes a left l is =
    let b0 = bind_ok (reading.role_at a left) _ l is in
    let b1 = bind_ok (reading.role_at a b0.0.1) _ l b0.2 in
    let b2 = bind_ok (reading.message_at a b1.0.1) _ l b1.2 in
    let b3 = bind_ok (reading.marked_at 64 expected.Stamp b2.0.2) _ l b2.2 in
    let e = ended_takes b3.0.1 _ l b3.2 in
    let t0 = role_at_takes a left b0.0.0 b0.0.1 b0.1 in
    let t1 = role_at_takes a b0.0.1 b1.0.0 b1.0.1 b1.1 in
    let t2 = message_at_takes a b1.0.1 b2.0.0 b2.0.1 b2.0.2 b2.1 in
    let t3 = marked_at_takes 64 expected.Stamp b2.0.2 b3.0.0 b3.0.1 b3.1 in
    let i3 = t3.1 ∙ ap (λ (ws : Words). (64 ∷ decimal b3.0.0) ∷ ws) e.0 in
    let i2 = onto (message_words a b2.0.0 b2.0.1) b1.0.1 b2.0.2 _ t2.1 i3 in
    let i0 = t0.1 ∙ ap (λ (ws : Words). name_of a b0.0.0 ∷ ws) (t1.1 ∙ ap (λ (ws : Words). name_of a b1.0.0 ∷ ws) i2) in
    subst (TookAgain a (codes "flight") left) e.1 (record { formed = (t0.0, t1.0, t2.0, t3.0); words = again_from a (codes "flight") left _ i0 })

pub again_send_takes : (a : AcceptedView) (left : Words) (l : Line) → again_send_at a left ≡ Ok l → TookAgain a (codes "send") left l
unfolding again_send_at
again_send_takes a left l is =
    let b0 = bind_ok (reading.role_at a left) _ l is in
    let b1 = bind_ok (reading.message_at a b0.0.1) _ l b0.2 in
    let b2 = bind_ok (reading.marked_at 64 expected.Stamp b1.0.2) _ l b1.2 in
    let e = ended_takes b2.0.1 _ l b2.2 in
    let t0 = role_at_takes a left b0.0.0 b0.0.1 b0.1 in
    let t1 = message_at_takes a b0.0.1 b1.0.0 b1.0.1 b1.0.2 b1.1 in
    let t2 = marked_at_takes 64 expected.Stamp b1.0.2 b2.0.0 b2.0.1 b2.1 in
    let i2 = t2.1 ∙ ap (λ (ws : Words). (64 ∷ decimal b2.0.0) ∷ ws) e.0 in
    let i1 = onto (message_words a b1.0.0 b1.0.1) b0.0.1 b1.0.2 _ t1.1 i2 in
    let i0 = t0.1 ∙ ap (λ (ws : Words). name_of a b0.0.0 ∷ ws) i1 in
    subst (TookAgain a (codes "send") left) e.1 (record { formed = (t0.0, t1.0, t2.0, refl); words = again_from a (codes "send") left _ i0 })

pub again_recv_takes : (a : AcceptedView) (left : Words) (l : Line) → again_recv_at a left ≡ Ok l → TookAgain a (codes "recv") left l
unfolding again_recv_at
again_recv_takes a left l is =
    let b0 = bind_ok (reading.role_at a left) _ l is in
    let b1 = bind_ok (reading.message_at a b0.0.1) _ l b0.2 in
    let b2 = bind_ok (reading.marked_at 64 expected.Stamp b1.0.2) _ l b1.2 in
    let b3 = bind_ok (reading.marked_at 60 expected.Sent b2.0.1) _ l b2.2 in
    let e = ended_takes b3.0.1 _ l b3.2 in
    let t0 = role_at_takes a left b0.0.0 b0.0.1 b0.1 in
    let t1 = message_at_takes a b0.0.1 b1.0.0 b1.0.1 b1.0.2 b1.1 in
    let t2 = marked_at_takes 64 expected.Stamp b1.0.2 b2.0.0 b2.0.1 b2.1 in
    let t3 = marked_at_takes 60 expected.Sent b2.0.1 b3.0.0 b3.0.1 b3.1 in
    let i3 = t3.1 ∙ ap (λ (ws : Words). (60 ∷ decimal b3.0.0) ∷ ws) e.0 in
    let i2 = t2.1 ∙ ap (λ (ws : Words). (64 ∷ decimal b2.0.0) ∷ ws) i3 in
    let i1 = onto (message_words a b1.0.0 b1.0.1) b0.0.1 b1.0.2 _ t1.1 i2 in
    let i0 = t0.1 ∙ ap (λ (ws : Words). name_of a b0.0.0 ∷ ws) i1 in
    subst (TookAgain a (codes "recv") left) e.1 (record { formed = (t0.0, t1.0, t2.0, t3.0); words = again_from a (codes "recv") left _ i0 })

pub again_save_takes : (a : AcceptedView) (left : Words) (l : Line) → again_save_at a left ≡ Ok l → TookAgain a (codes "save") left l
unfolding again_save_at
again_save_takes a left l is =
    let b0 = bind_ok (reading.role_at a left) _ l is in
    let b1 = bind_ok (reading.number_at expected.Count b0.0.1) _ l b0.2 in
    let e = ended_takes b1.0.1 _ l b1.2 in
    let t0 = role_at_takes a left b0.0.0 b0.0.1 b0.1 in
    let t1 = number_at_takes expected.Count b0.0.1 b1.0.0 b1.0.1 b1.1 in
    let i1 = t1.1 ∙ ap (λ (ws : Words). decimal b1.0.0 ∷ ws) e.0 in
    let i0 = t0.1 ∙ ap (λ (ws : Words). name_of a b0.0.0 ∷ ws) i1 in
    subst (TookAgain a (codes "save") left) e.1 (record { formed = (t0.0, t1.0); words = again_from a (codes "save") left _ i0 })
