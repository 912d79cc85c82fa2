-- Two texts of ping from A to B and pong from B to A: one that is read, and one that isn't.
use Rattle.std.proofs.Common.{◌≡◌, ◌∙◌, ◌<◌, ◌≤◌, ◌+◌, ◌||◌, ◌==◌, ◌^◌, ℕ, Bool, true, false, true≢false, List, [], ◌∷◌, ◌++◌, All, length, refl, sym, ap, inl, arith, codes, decimal, get_or, inr, length-append, map, rules}
use Rattle.std.specs.Prelude.{pos}
use Rattle.std.specs.Fmt.{digits}
use Rattle.std.specs.List.{list_any}
use Rattle.std.proofs.lemmas.Option.{none-some}
use Rattle.std.proofs.lemmas.List.Elements.{All-nil, All-from_recursion}
use Rattle.rcv_tree.specs.declared.event.Dir.TheVariants.{Sent, Got}
use Rattle.rcv_tree.specs.declared.entry.Entry.{Entry}
use Rattle.rcv_tree.specs.declared.entry.Entry.TheVariants.{Send, Recv, Crash, Recover}
use Rattle.rcv_tree.specs.declared.protocol.Protocol.{Protocol}
use Rattle.rcv_session.specs.Session.{net_for, roles_of}
use Rattle.rcv_journal.specs.declared.line.RoleLine.{RoleLine}
use Rattle.rcv_journal.specs.declared.line.RoleWord.TheVariants.{Done, Limit, Waits}
use Rattle.rcv_journal.specs.Recorded.{JournalView, bare}
use Rattle.rcv_journal.specs.Lines.{limited_in}
use Rattle.rcv_journal.specs.Form.{IsFormed, IsFormedEntry, Spells, IsFirstWrong, lines_of, journal_lines, FitsLine}
use Rattle.std.specs.Fmt.{signed_decimal}
use Rattle.std.proofs.lemmas.List.Folds.{list_any-append}
use Rattle.rcv_journal.specs.JournalText.{entry_line, role_line, event_text, name_of}
use Rattle.rcv_journal.specs.Form.{end_line}
use Rattle.rcv_lines.specs.Line.{LineView, EntryLine, RoleLineOf, EndLine, line_text}
use Rattle.rcv_lines.specs.Reading.{IsRead}
use Rattle.rcv_model.specs.Script.{Literal, SendLine}
use Rattle.rcv_lines.specs.SmallScripts.{IsSmallLine}
use Rattle.rcv_lines.proofs.FirstWrong.{one_first_wrong, spells_none}
use Rattle.rcv_lines.proofs.Progress.{begun, completed}
use Rattle.rcv_lines.proofs.Order.{Ordered, at_places}

record IsPing (p : Protocol) : Type 0 where
  roles : p.roles ≡ codes "A" ∷ codes "B" ∷ []
  count : (net_for (bare p)).count ≡ 2
  ping : (net_for (bare p)).label 1 ≡ codes "ping"
  pong : (net_for (bare p)).label 2 ≡ codes "pong"

sent : ℕ → ℕ → ℕ → Entry
sent role point stamp = Send (record { role = role; dir = Sent; point = point; value = pos 0; stamp = stamp; sent = stamp })

got : ℕ → ℕ → ℕ → ℕ → Entry
got role point stamp from = Recv (record { role = role; dir = Got; point = point; value = pos 0; stamp = stamp; sent = from })

done_line : ℕ → RoleLine
done_line role = record { role = role; kept = 2; raw = 2; word = Done }

entries : List Entry
entries = sent 0 1 1 ∷ got 1 1 2 1 ∷ sent 1 2 3 ∷ got 0 2 4 3 ∷ []

journal : JournalView
journal = record { entries = entries; roles = done_line 0 ∷ done_line 1 ∷ []; limited = [] }

text : List ℕ
text = codes "send A 1 ping 0 @1\nrecv B 1 ping 0 @2 <1\nsend B 2 pong 0 @3\nrecv A 2 pong 0 @4 <3\nrole A kept 2 raw 2 done\nrole B kept 2 raw 2 done\ncompleted\n"

its_lines : (p : Protocol) → IsPing p → lines_of text ≡ journal_lines (bare p) journal
unfolding text journal entries sent got done_line digits
its_lines p is = rw (is.roles, is.ping, is.pong) refl

sent_formed : (p : Protocol) (role point stamp : ℕ) → IsPing p → role < 2 → 1 ≤ point → point ≤ 2 → stamp < 2 ^ 64 → IsFormedEntry (bare p) (sent role point stamp)
unfolding sent
sent_formed p role point stamp is declared first last fits =
    let two : length p.roles ≡ 2 = ap length is.roles in
    let count = is.count in
    (record { named = record { role = omega (arith, declared, two); first = first; last = omega (arith, last, count) }; way = refl; value = search rules; stamp = fits; sent = fits }, refl)

got_formed : (p : Protocol) (role point stamp from : ℕ) → IsPing p → role < 2 → 1 ≤ point → point ≤ 2 → stamp < 2 ^ 64 → from < 2 ^ 64 → IsFormedEntry (bare p) (got role point stamp from)
unfolding got
got_formed p role point stamp from is declared first last fits from_fits =
    let two : length p.roles ≡ 2 = ap length is.roles in
    let count = is.count in
    record { named = record { role = omega (arith, declared, two); first = first; last = omega (arith, last, count) }; way = refl; value = search rules; stamp = fits; sent = from_fits }

entries_formed : (p : Protocol) → IsPing p → All (IsFormedEntry (bare p)) entries
unfolding entries
entries_formed p is =
    let first = sent_formed p 0 1 1 is (omega arith) (omega arith) (omega arith) (omega arith) in
    let second = got_formed p 1 1 2 1 is (omega arith) (omega arith) (omega arith) (omega arith) (omega arith) in
    let third = sent_formed p 1 2 3 is (omega arith) (omega arith) (omega arith) (omega arith) in
    let fourth = got_formed p 0 2 4 3 is (omega arith) (omega arith) (omega arith) (omega arith) (omega arith) in
    All-from_recursion (IsFormedEntry (bare p)) entries (first, (second, (third, (fourth, tt))))

in_order : Ordered 0 (done_line 0 ∷ done_line 1 ∷ [])
unfolding done_line
in_order = (refl, (refl, tt))

is_formed : (p : Protocol) → IsPing p → IsFormed (bare p) journal
unfolding journal done_line
is_formed p is =
    record {
      entries = entries_formed p is;
      all = sym (ap length is.roles);
      in_order = λ q line at. at_places 0 (done_line 0 ∷ done_line 1 ∷ []) in_order q line at ∙ omega arith;
      fit = All-from_recursion FitsLine (done_line 0 ∷ done_line 1 ∷ []) ((omega arith, omega arith), ((omega arith, omega arith), tt));
      limited = record { declared = All-nil (λ r. r < roles_of (bare p)); ascending = λ k a b at next. absurd (none-some a at) };
    }

ping_is_read : (p : Protocol) → IsPing p → Spells (bare p) text journal
ping_is_read p is = (is_formed p is, its_lines p is)

-- a Send without the letter in front of its stamp
wrong : List ℕ
wrong = codes "send A 1 ping 0 1\n"

wrong_text : List ℕ
wrong_text = codes "send A 1 ping 0 1\ncompleted\n"

abbrev has_at : List ℕ → Bool
has_at xs = list_any (λ b. b == 64) xs

left_at : (xs ys : List ℕ) → has_at xs ≡ true → has_at (xs ++ ys) ≡ true
left_at xs ys is = list_any-append (λ b. b == 64) xs ys ∙ ap (λ t. t || has_at ys) is

right_at : (xs ys : List ℕ) → has_at ys ≡ true → has_at (xs ++ ys) ≡ true
right_at [] ys is = is
right_at (x ∷ xs) ys is = go (x == 64) (right_at xs ys is)
  where
    go : (t : Bool) → has_at (xs ++ ys) ≡ true → (t || has_at (xs ++ ys)) ≡ true
    go true more = refl
    go false more = more

not_wrong : (p : Protocol) (v : LineView) → line_text (bare p) v ≡ wrong → ⊥
unfolding wrong
not_wrong p (EntryLine (Send e)) is =
    let before = name_of (bare p) e.role ++ codes " " ++ decimal e.point ++ codes " " ++ (net_for (bare p)).label e.point ++ codes " " ++ signed_decimal e.value in
    let stamped : has_at (before ++ codes " @" ++ decimal e.stamp) ≡ true = left_at (before ++ codes " @") (decimal e.stamp) (right_at before (codes " @") refl) in
    let whole : has_at (line_text (bare p) (EntryLine (Send e))) ≡ true = left_at (codes "send " ++ event_text (bare p) e) (codes "\n") (right_at (codes "send ") (event_text (bare p) e) stamped) in
    true≢false (sym whole ∙ ap has_at is)
not_wrong p (EntryLine (Recv e)) is = let first : 114 ≡ 115 = ap (λ xs. get_or xs 0 0) is in absurd (omega (arith, first))
not_wrong p (EntryLine (Crash r)) is = let first : 99 ≡ 115 = ap (λ xs. get_or xs 0 0) is in absurd (omega (arith, first))
not_wrong p (EntryLine (Recover r concerned kept undone)) is = let first : 114 ≡ 115 = ap (λ xs. get_or xs 0 0) is in absurd (omega (arith, first))
not_wrong p (RoleLineOf line) is = let first : 114 ≡ 115 = ap (λ xs. get_or xs 0 0) is in absurd (omega (arith, first))
not_wrong p (EndLine []) is = let first : 99 ≡ 115 = ap (λ xs. get_or xs 0 0) is in absurd (omega (arith, first))
not_wrong p (EndLine (r ∷ rs)) is = let first : 108 ≡ 115 = ap (λ xs. get_or xs 0 0) is in absurd (omega (arith, first))

begins_wrong : (p : Protocol) (entries : List Entry) (roles : List RoleLine) (limited : List ℕ) (more : List (List ℕ)) → map (entry_line (bare p)) entries ++ map (role_line (bare p)) roles ++ end_line (bare p) limited ∷ [] ≡ wrong ∷ more → ⊥
begins_wrong p [] [] limited more is = not_wrong p (EndLine limited) (let here : end_line (bare p) limited ≡ wrong = cc in here)
begins_wrong p [] (line ∷ roles) limited more is = not_wrong p (RoleLineOf line) (let here : role_line (bare p) line ≡ wrong = cc in here)
begins_wrong p (e ∷ entries) roles limited more is = not_wrong p (EntryLine e) (let here : entry_line (bare p) e ≡ wrong = cc in here)

first_is_wrong : (p : Protocol) → IsFirstWrong (bare p) wrong_text 1
unfolding wrong wrong_text
first_is_wrong p =
    record {
      first = omega arith;
      before = completed (bare p) [] [] [] [] false (begun (bare p));
      wrong = inl (omega arith, λ begins. begins_wrong p begins.0.entries begins.0.roles begins.0.limited begins.2 begins.3);
    }

-- so it is none
wrong_is_no_journal : (p : Protocol) (j : JournalView) → Spells (bare p) wrong_text j → ⊥
wrong_is_no_journal p j spells = spells_none (bare p) wrong_text 1 j (first_is_wrong p) spells

-- and line 1 alone is its first wrong one
wrong_is_not_line_2 : (p : Protocol) → IsFirstWrong (bare p) wrong_text 2 → ⊥
wrong_is_not_line_2 p is =
    let same = one_first_wrong (bare p) wrong_text 1 2 (first_is_wrong p) is in absurd (omega (arith, same))

-- a text that stops too early is wrong at the line behind its last one
crash : List ℕ
crash = codes "crash A\n"

no_end : (p : Protocol) → IsPing p → IsFirstWrong (bare p) crash 2
unfolding crash
no_end p is =
    record {
      first = omega arith;
      before = completed (bare p) (codes "crash A\n" ∷ []) (Crash 0 ∷ []) [] [] false read;
      wrong = inr (refl, λ j spells. stops j.entries j.roles j.limited spells.0.all spells.1);
    }
  where
    read : IsRead (bare p) (codes "crash A\n" ∷ []) (record { journal = record { entries = Crash 0 ∷ []; roles = []; limited = [] }; over = false })
    read =
        let two : length p.roles ≡ 2 = ap length is.roles in
        let start = begun (bare p) in
        record {
          entries = All-from_recursion (IsFormedEntry (bare p)) (Crash 0 ∷ []) (omega (arith, two), tt);
          in_order = start.in_order;
          fit = start.fit;
          few = start.few;
          limited = start.limited;
          all = start.all;
          are_lines = rw is.roles refl;
        }

    stops : (es : List Entry) (roles : List RoleLine) (limited : List ℕ) → length roles ≡ length p.roles → codes "crash A\n" ∷ [] ≡ map (entry_line (bare p)) es ++ map (role_line (bare p)) roles ++ end_line (bare p) limited ∷ [] → ⊥
    stops es [] limited all same = let two : length p.roles ≡ 2 = ap length is.roles in absurd (omega (arith, all, two))
    stops [] (a ∷ roles) limited all same = let two : length p.roles ≡ 2 = ap length is.roles in
        let long : 1 ≡ length (map (role_line (bare p)) roles ++ end_line (bare p) limited ∷ []) + 1 = ap length same ∙ omega arith in
        let parts = length-append (map (role_line (bare p)) roles) (end_line (bare p) limited ∷ []) in
        absurd (omega (arith, long, parts))
    stops (e ∷ rest) (a ∷ roles) limited all same =
        let long = ap length same in
        let parts = length-append (map (entry_line (bare p)) rest ++ map (role_line (bare p)) (a ∷ roles)) (end_line (bare p) limited ∷ []) in
        absurd (omega (arith, long, parts))

-- the roles at the limit
one_limited : limited_in (record { role = 0; kept = 1; raw = 2; word = Waits } ∷ record { role = 1; kept = 1; raw = 3; word = Limit } ∷ []) ≡ 1 ∷ []
one_limited = refl

-- the greatest number of a script, and one more
greatest_is_small : IsSmallLine (SendLine (codes "ping") (Literal 9223372036854775807))
greatest_is_small = omega arith

one_more_is_not : IsSmallLine (SendLine (codes "ping") (Literal 9223372036854775808)) → ⊥
one_more_is_not is = omega (arith, is)
