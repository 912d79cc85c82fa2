-- What is read of a line is of the form, and has its words: failures, questions, and each kind by its first word.
use Rattle.std.proofs.Common.{◌≡◌, ◌∙◌, ◌≤◌, ℕ, Bool, true, false, true≢false, cond, List, [], ◌∷◌, ◌++◌, map, flat_map, length, Some, None, Ok, refl, sym, ap, ap₂, subst, arith, append-nil, decimal, codes}
use Rattle.rcv_accept.specs.Accepted.{AcceptedView, roles_of}
use Rattle.rcv_dialogue.specs.declared.few.Failed.{Failed}
use Rattle.rcv_dialogue.specs.declared.few.Kept.{Kept}
use Rattle.rcv_dialogue.specs.declared.kind.Kind.{Kind}
use Rattle.rcv_dialogue.specs.declared.kind.Kind.TheVariants as kind
use Rattle.rcv_dialogue.specs.declared.kind.AgainKind.{AgainKind}
use Rattle.rcv_dialogue.specs.declared.kind.AgainKind.TheVariants as kinds
use Rattle.rcv_dialogue.specs.declared.line.Line.{Line}
use Rattle.rcv_dialogue.specs.declared.line.Line.TheVariants as line
use Rattle.rcv_dialogue.specs.declared.line.Question.{Question}
use Rattle.rcv_dialogue.specs.declared.line.Question.TheVariants as question
use Rattle.rcv_dialogue.specs.declared.line.Stated.{Stated}
use Rattle.rcv_dialogue.specs.declared.wrong.Expected.TheVariants as expected
use Rattle.rcv_dialogue.specs.Kinds.{again_in, again_text, all_again, all_kinds, kind_in, kind_text}
use Rattle.rcv_dialogue.specs.Lines.{AreFailed, EachOnce, IsLine, IsStated, NoneBehindSaysUndone, failed_word, kept_words, line_words, stated_words}
use Rattle.rcv_dialogue.specs.Names.{name_of}
use Rattle.rcv_dialogue.specs.Numbers.{number_before}
use Rattle.rcv_dialogue.specs.Reading.{◌>>=◌, Words, again_at, again_of, all_failed_at, ended, fail_at, flight_at, is_over, line_at, line_of, of_role_at, recover_at, recovery_of, stated_at}
use Rattle.rcv_dialogue.specs.Reading as reading
use Rattle.rcv_dialogue.proofs.Cutting.{cuts_takes}
use Rattle.rcv_dialogue.proofs.Failing.{Stops, failed_takes, more_takes, or_wrong_ok}
use Rattle.rcv_dialogue.proofs.Numerals.{colon_takes}
use Rattle.rcv_dialogue.proofs.Parts.{number_at_takes, role_at_takes}
use Rattle.rcv_dialogue.proofs.Steps.{bind_ok, ended_takes, literal_takes, ok_is, said_ok, word_takes}
use Rattle.rcv_dialogue.proofs.Taken.{Took, TookAgain, again_flight_takes, again_recv_takes, again_save_takes, again_send_takes, crash_takes, of_role_takes, recv_takes, save_takes, send_takes, extent_takes, standing_takes}
use Rattle.rcv_dialogue.proofs.Telling.{told_takes}

-- ---- failures

-- All roles that failed, from the first on.
record AllGrew (a : AcceptedView) (stops : Bool) (left : Words) (all : List Failed) (rest : Words) : Type 0 where
  pub failed : AreFailed a all
  pub words : left ≡ map (failed_word a) all ++ rest
  pub none : stops ≡ true → NoneBehindSaysUndone a all
  pub rest_is : Stops stops rest

all_failed_takes : (a : AcceptedView) (stops : Bool) (left : Words) (all : List Failed) (rest : Words) → all_failed_at a stops left ≡ Ok (all, rest) → AllGrew a stops left all rest
unfolding all_failed_at
all_failed_takes a stops left all rest is =
    let b0 = bind_ok (reading.word_at expected.Role left) _ (all, rest) is in
    let b1 = bind_ok (reading.or_wrong left (reading.failed_in a b0.0.0)) _ (all, rest) b0.2 in
    let f = b1.0 in
    let t = failed_takes a b0.0.0 f (or_wrong_ok left (reading.failed_in a b0.0.0) f b1.1) in
    let inside = t.0 in
    let g = more_takes a stops (f ∷ []) b0.0.1 all rest (tt, tt) (omega (arith, inside)) b1.2 in
    let first = word_takes expected.Role left b0.0.0 b0.0.1 b0.1 in
    let all-is : all ≡ f ∷ g.more = g.all_is in
    subst (λ (xs : List Failed). AllGrew a stops left xs rest) (sym all-is) (record {
      failed = record {
        some = omega arith;
        few = subst (λ xs. length xs ≤ roles_of a) all-is g.few;
        roles = (t.0, t.1, g.roles);
        once = subst EachOnce all-is g.once;
      };
      words = first ∙ ap₂ (λ x xs. x ∷ xs) t.2 g.words;
      none = λ on. g.none on;
      rest_is = g.rest_is;
    })

fail_takes : (a : AcceptedView) (left : Words) (l : Line) → fail_at a left ≡ Ok l → Took a (codes "fail") left l
unfolding fail_at
fail_takes a left l is =
    let b0 = bind_ok (all_failed_at a false left) _ l is in
    let e = ended_takes b0.0.1 _ l b0.2 in
    let g = all_failed_takes a false left b0.0.0 b0.0.1 b0.1 in
    subst (Took a (codes "fail") left) e.1 (record {
      formed = g.failed;
      words = ap (λ (ws : Words). codes "fail" ∷ ws) (g.words ∙ ap (λ (ws : Words). map (failed_word a) b0.0.0 ++ ws) e.0 ∙ append-nil (map (failed_word a) b0.0.0));
    })

some_list : (k : Kept) (all more : List Kept) → all ≡ k ∷ [] ++ more → 1 ≤ length all
some_list k all more is = subst (λ xs. 1 ≤ length xs) (sym is) (omega arith)

stated_takes : (a : AcceptedView) (left : Words) (s : Stated) → stated_at a left ≡ Ok s → IsStated a s × (left ≡ stated_words a (Some s))
unfolding stated_at
stated_takes a left s is =
    let b0 = bind_ok (reading.literal_at (codes "undone") expected.Undone left) _ s is in
    let b1 = bind_ok (reading.word_at expected.Undone b0.0) _ s b0.2 in
    let b2 = bind_ok (reading.said b0.0 expected.Undone (number_before b1.0.0)) _ s b1.2 in
    let b3 = bind_ok (reading.role_at a b1.0.1) _ s b2.2 in
    let b4 = bind_ok (reading.number_at expected.Count b3.0.1) _ s b3.2 in
    let k : Kept = record { role = b3.0.0; count = b4.0.0 } in
    let b5 = bind_ok (reading.cuts_at a (k ∷ []) None b4.0.1) _ s b4.2 in
    let t0 = literal_takes (codes "undone") expected.Undone left b0.0 b0.1 in
    let t1 = word_takes expected.Undone b0.0 b1.0.0 b1.0.1 b1.1 in
    let t2 = colon_takes b1.0.0 b2.0 (said_ok b0.0 expected.Undone (number_before b1.0.0) b2.0 b2.1) in
    let t3 = role_at_takes a b1.0.1 b3.0.0 b3.0.1 b3.1 in
    let t4 = number_at_takes expected.Count b3.0.1 b4.0.0 b4.0.1 b4.1 in
    let inside = t3.0 in
    let g = cuts_takes a (k ∷ []) b4.0.1 b5.0 (omega arith, t3.0, t4.0, tt) (omega (arith, inside)) b5.1 in
    let kept : b1.0.1 ≡ flat_map (kept_words a) b5.0 = t3.1 ∙ ap (λ (ws : Words). name_of a b3.0.0 ∷ ws) (t4.1 ∙ ap (λ (ws : Words). decimal b4.0.0 ∷ ws) g.words)
    ∙ ap (λ (xs : List Kept). flat_map (kept_words a) xs) (sym g.all_is) in
    subst (λ (x : Stated). IsStated a x × (left ≡ stated_words a (Some x))) (ok_is (record { undone = b2.0; kept = b5.0 }) s b5.2) (
      record { undone = t2.1; some = some_list k b5.0 g.more g.all_is; few = g.few; kept = g.kept },
      t0 ∙ ap (λ (ws : Words). codes "undone" ∷ ws) (t1 ∙ ap₂ (λ x xs. x ∷ xs) t2.0 kept),
    )

recover_takes : (a : AcceptedView) (left : Words) (l : Line) → recover_at a left ≡ Ok l → Took a (codes "recover") left l
unfolding recover_at
recover_takes a left l is =
    let b0 = bind_ok (all_failed_at a true left) (λ failed. recovery_of a failed.0 failed.1) l is in
    let all = b0.0.0 in
    let g = all_failed_takes a true left all b0.0.1 b0.1 in
    go all b0.0.1 (is_over b0.0.1) refl g b0.2
  where
    over : (ws : Words) → is_over ws ≡ true → ws ≡ []
    over [] e = refl
    over (w ∷ ws) e = absurd (true≢false (sym e))

    go : (all : List Failed) (rest : Words) (b : Bool) → is_over rest ≡ b → AllGrew a true left all rest
        → cond b (Ok (line.Recover (record { failed = all; stated = None }))) (stated_at a rest >>= λ stated. Ok (line.Recover (record { failed = all; stated = Some stated }))) ≡ Ok l
        → Took a (codes "recover") left l
    go all rest true none g e =
        subst (Took a (codes "recover") left) (ok_is (line.Recover (record { failed = all; stated = None })) l e) (record {
          formed = (g.failed, g.none refl, tt);
          words = ap (λ (ws : Words). codes "recover" ∷ ws) (g.words ∙ ap (λ (ws : Words). map (failed_word a) all ++ ws) (over rest none));
        })
    go all rest false some g e =
        let b = bind_ok (stated_at a rest) (λ stated. Ok (line.Recover (record { failed = all; stated = Some stated }))) l e in
        let s = stated_takes a rest b.0 b.1 in
        subst (Took a (codes "recover") left) (ok_is (line.Recover (record { failed = all; stated = Some b.0 })) l b.2) (record {
          formed = (g.failed, g.none refl, s.0);
          words = ap (λ (ws : Words). codes "recover" ∷ ws) (g.words ∙ ap (λ (ws : Words). map (failed_word a) all ++ ws) s.1);
        })

-- ---- questions

plain_takes : (a : AcceptedView) (word : List ℕ) (q : Question) (left : Words) (l : Line) → ended left (line.Ask q) ≡ Ok l → IsLine a (line.Ask q) → word ∷ [] ≡ line_words a (line.Ask q) → Took a word left l
plain_takes a word q left l is formed words =
    let e = ended_takes left (line.Ask q) l is in
    subst (Took a word left) e.1 (record { formed = formed; words = ap (λ (ws : Words). word ∷ ws) e.0 ∙ words })

next_takes : (a : AcceptedView) (left : Words) (l : Line) → (of_role_at a left >>= λ r. Ok (line.Ask (question.Next r))) ≡ Ok l → Took a (codes "next") left l
next_takes a left l is =
    let b = bind_ok (of_role_at a left) (λ r. Ok (line.Ask (question.Next r))) l is in
    let t = of_role_takes a left b.0 b.1 in
    subst (Took a (codes "next") left) (ok_is (line.Ask (question.Next b.0)) l b.2) (record { formed = t.0; words = ap (λ (ws : Words). codes "next" ∷ ws) t.1 })

role_takes : (a : AcceptedView) (left : Words) (l : Line) → (of_role_at a left >>= λ r. Ok (line.Ask (question.Role r))) ≡ Ok l → Took a (codes "role") left l
role_takes a left l is =
    let b = bind_ok (of_role_at a left) (λ r. Ok (line.Ask (question.Role r))) l is in
    let t = of_role_takes a left b.0 b.1 in
    subst (Took a (codes "role") left) (ok_is (line.Ask (question.Role b.0)) l b.2) (record { formed = t.0; words = ap (λ (ws : Words). codes "role" ∷ ws) t.1 })

flight_takes : (a : AcceptedView) (left : Words) (l : Line) → (flight_at a left >>= λ to. Ok (line.Ask (question.Flight to))) ≡ Ok l → Took a (codes "flight") left l
unfolding flight_at
flight_takes a left l is = go left is
  where
    go : (ws : Words) → (flight_at a ws >>= λ to. Ok (line.Ask (question.Flight to))) ≡ Ok l → Took a (codes "flight") ws l
    go [] is = subst (Took a (codes "flight") []) (ok_is (line.Ask (question.Flight None)) l is) (record { formed = tt; words = refl })
    go (w ∷ ws) is =
        let b = bind_ok (flight_at a (w ∷ ws)) (λ to. Ok (line.Ask (question.Flight to))) l is in
        let c = bind_ok (of_role_at a (w ∷ ws)) (λ r. Ok (Some r)) b.0 b.1 in
        let t = of_role_takes a (w ∷ ws) c.0 c.1 in
        subst (Took a (codes "flight") (w ∷ ws)) (ap (λ to. line.Ask (question.Flight to)) (ok_is (Some c.0) b.0 c.2) ∙ ok_is (line.Ask (question.Flight b.0)) l b.2)
        (record { formed = t.0; words = ap (λ (xs : Words). codes "flight" ∷ xs) t.1 })

-- ---- each kind

of_again : (a : AcceptedView) (k : AgainKind) (left : Words) (l : Line) → again_of a k left ≡ Ok l → TookAgain a (again_text k) left l
of_again a kinds.Session left l is = extent_takes a left l is
of_again a kinds.Role left l is = standing_takes a left l is
of_again a kinds.Flight left l is = again_flight_takes a left l is
of_again a kinds.Send left l is = again_send_takes a left l is
of_again a kinds.Recv left l is = again_recv_takes a left l is
of_again a kinds.Save left l is = again_save_takes a left l is

again_takes : (a : AcceptedView) (left : Words) (l : Line) → again_at a left ≡ Ok l → Took a (codes "again") left l
unfolding again_at
again_takes a left l is =
    let b0 = bind_ok (reading.word_at expected.Again left) _ l is in
    let b1 = bind_ok (reading.said left expected.Again (again_in b0.0.0)) _ l b0.2 in
    let word = told_takes again_text all_again b0.0.0 b1.0 (said_ok left expected.Again (again_in b0.0.0) b1.0 b1.1) in
    let t = of_again a b1.0 b0.0.1 l b1.2 in
    record { formed = t.formed; words = ap (λ (ws : Words). codes "again" ∷ ws) (word_takes expected.Again left b0.0.0 b0.0.1 b0.1 ∙ ap (λ (w : List ℕ). w ∷ b0.0.1) word) ∙ t.words }

of_kind : (a : AcceptedView) (k : Kind) (left : Words) (l : Line) → line_of a k left ≡ Ok l → Took a (kind_text k) left l
of_kind a kind.Send left l is = send_takes a left l is
of_kind a kind.Recv left l is = recv_takes a left l is
of_kind a kind.Save left l is = save_takes a left l is
of_kind a kind.Fail left l is = fail_takes a left l is
of_kind a kind.Crash left l is = crash_takes a left l is
of_kind a kind.Recover left l is = recover_takes a left l is
of_kind a kind.Next left l is = next_takes a left l is
of_kind a kind.Kept left l is = plain_takes a (codes "kept") question.Kept left l is tt refl
of_kind a kind.Line left l is = plain_takes a (codes "line") question.Line left l is tt refl
of_kind a kind.Role left l is = role_takes a left l is
of_kind a kind.Flight left l is = flight_takes a left l is
of_kind a kind.Points left l is = plain_takes a (codes "points") question.Points left l is tt refl
of_kind a kind.Table left l is = plain_takes a (codes "table") question.Table left l is tt refl
of_kind a kind.Snapshot left l is = plain_takes a (codes "snapshot") question.Snapshot left l is tt refl
of_kind a kind.End left l is = plain_takes a (codes "end") question.End left l is tt refl
of_kind a kind.Again left l is = again_takes a left l is

-- What is read of some words is a line of the form, and has these words.
pub line_takes : (a : AcceptedView) (words : Words) (l : Line) → line_at a words ≡ Ok l → IsLine a l × (words ≡ line_words a l)
unfolding line_at
line_takes a words l is =
    let b0 = bind_ok (reading.word_at expected.Line words) _ l is in
    let b1 = bind_ok (reading.said words expected.Line (kind_in b0.0.0)) _ l b0.2 in
    let word = told_takes kind_text all_kinds b0.0.0 b1.0 (said_ok words expected.Line (kind_in b0.0.0) b1.0 b1.1) in
    let t = of_kind a b1.0 b0.0.1 l b1.2 in
    (t.formed, word_takes expected.Line words b0.0.0 b0.0.1 b0.1 ∙ ap (λ (w : List ℕ). w ∷ b0.0.1) word ∙ t.words)
