-- The definitions, computed at small examples.
use Rattle.std.proofs.Common.{◌≡◌, ◌≤◌, ℕ, List, [], ◌∷◌, ◌++◌, Option, Some, refl, sym, ◌∙◌, ap, arith, codes}
use Rattle.std.specs.Io.KnownBytes.{append_known}
use Rattle.std.specs.Prelude.{ℤ, pos, negsuc, replicate}
use Rattle.std.specs.Fmt.{digits}
use Rattle.rcv_tree.specs.declared.event.Dir.TheVariants.{Sent, Got}
use Rattle.rcv_tree.specs.declared.entry.Entry.{Entry}
use Rattle.rcv_tree.specs.declared.entry.Entry.TheVariants.{Send, Recv, Crash, Recover}
use Rattle.rcv_session.specs.Session.{SessionView, net_for}
use Rattle.rcv_journal.specs.declared.line.RoleLine.{RoleLine}
use Rattle.rcv_journal.specs.declared.line.RoleWord.{RoleWord}
use Rattle.rcv_journal.specs.declared.line.RoleWord.TheVariants.{Done, Limit, Waits}
use Rattle.rcv_journal.specs.Lines.{IsTextOf}
use Rattle.rcv_journal.specs.Writing.{WroteText, BrokeText}
use Rattle.rcv_journal.proofs.OneText.{one_text}
use Rattle.rcv_journal.specs.JournalText.{entry_line, role_line, last_line, journal_text}

-- ping from A to B, pong from B to A
record IsPing (setup : SessionView) : Type 0 where
  roles : setup.protocol.roles ≡ codes "A" ∷ codes "B" ∷ []
  ping : (net_for setup).label 1 ≡ codes "ping"
  pong : (net_for setup).label 2 ≡ codes "pong"

sent : ℕ → ℕ → ℕ → ℤ → Entry
sent role point stamp value = Send (record { role = role; dir = Sent; point = point; value = value; stamp = stamp; sent = stamp })

got : ℕ → ℕ → ℕ → ℤ → ℕ → Entry
got role point stamp value from = Recv (record { role = role; dir = Got; point = point; value = value; stamp = stamp; sent = from })

line : ℕ → ℕ → ℕ → RoleWord → RoleLine
line role kept raw word = record { role = role; kept = kept; raw = raw; word = word }

-- the whole text of a session of theirs
entries : List Entry
entries = sent 0 1 1 (pos 0) ∷ got 1 1 2 (pos 0) 1 ∷ sent 1 2 3 (pos 0) ∷ got 0 2 4 (pos 0) 3 ∷ []

lines : List RoleLine
lines = line 0 2 2 Done ∷ line 1 2 2 Done ∷ []

whole_text : (setup : SessionView) → IsPing setup → journal_text setup entries lines ≡ codes "send A 1 ping 0 @1\nrecv B 1 ping 0 @2 <1\nsend B 2 pong 0 @3\nrecv A 2 pong 0 @4 <3\nrole A kept 2 raw 2 done\nrole B kept 2 raw 2 done\ncompleted\n"
unfolding entries lines sent got line digits
whole_text setup is = rw (is.roles, is.ping, is.pong) refl

-- the least number of 64 bits, and many digits
least_number : (setup : SessionView) → IsPing setup → entry_line setup (sent 0 1 120 (negsuc 9223372036854775807)) ≡ codes "send A 1 ping -9223372036854775808 @120\n"
unfolding sent digits
least_number setup is = rw (is.roles, is.ping) refl

crash_line : (setup : SessionView) → IsPing setup → entry_line setup (Crash 1) ≡ codes "crash B\n"
crash_line setup is = rw is.roles refl

-- both roles are concerned, or one alone
all_undone : (setup : SessionView) → IsPing setup → entry_line setup (Recover 0 (record { 0 = 3 }) (replicate 8 0) 4) ≡ codes "recover A undone 4: A 0 B 0\n"
unfolding digits
all_undone setup is = rw is.roles refl

one_concerned : (setup : SessionView) → IsPing setup → entry_line setup (Recover 1 (record { 0 = 2 }) (0 ∷ 12 ∷ 0 ∷ 0 ∷ 0 ∷ 0 ∷ 0 ∷ 0 ∷ []) 0) ≡ codes "recover B undone 0: B 12\n"
unfolding digits
one_concerned setup is = rw is.roles refl

-- the ends of sessions
both_limited : (setup : SessionView) → IsPing setup → last_line setup (line 0 7 10000 Limit ∷ line 1 7 10000 Limit ∷ []) ≡ codes "limited A B\n"
unfolding line
both_limited setup is = rw is.roles refl

one_limited : (setup : SessionView) → IsPing setup → last_line setup (line 0 6 12 Waits ∷ line 1 7 10000 Limit ∷ []) ≡ codes "limited B\n"
unfolding line
one_limited setup is = rw is.roles refl

limit_line : (setup : SessionView) → IsPing setup → role_line setup (line 1 7 10000 Limit) ≡ codes "role B kept 7 raw 10000 limit\n"
unfolding line digits
limit_line setup is = rw is.roles refl

waits_line : (setup : SessionView) → IsPing setup → role_line setup (line 0 0 3 Waits) ≡ codes "role A kept 0 raw 3 waits\n"
unfolding line digits
waits_line setup is = rw is.roles refl

-- what is told of a sink to which a whole text was written
wrote_all : (setup : SessionView) (journal : List Entry) (bytes : List ℕ) → IsTextOf setup journal bytes → WroteText setup journal (Some (codes "x")) (Some (codes "x" ++ bytes)) 3 3
wrote_all setup journal bytes text = record { bytes = bytes; is_text = text; written = refl; fine = refl }

-- which is one thing
wrote_one_text : (setup : SessionView) (journal : List Entry) (start a b : Option (List ℕ)) → WroteText setup journal start a 3 3 → WroteText setup journal start b 3 3 → a ≡ b
wrote_one_text setup journal start a b x y = x.written ∙ ap (append_known start) (one_text setup journal x.bytes y.bytes x.is_text y.is_text) ∙ sym y.written

-- and of one whose second call failed
broke_off : (setup : SessionView) (journal : List Entry) → IsTextOf setup journal (codes "ab") → BrokeText setup journal (Some []) (Some (codes "a")) 3 4
broke_off setup journal text =
    record {
      bytes = codes "ab";
      is_text = text;
      beginning = record { front = codes "a"; back = codes "b"; whole = refl; missing = omega arith; written = refl };
      later = omega arith;
      rose = omega arith;
    }

-- but not where no fault was counted
not_without_a_fault : (setup : SessionView) (journal : List Entry) (start now : Option (List ℕ)) → BrokeText setup journal start now 3 3 → ⊥
not_without_a_fault setup journal start now broke = let rose : 4 ≤ 3 = broke.rose in absurd (omega (arith, rose))
