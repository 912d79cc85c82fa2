-- The definitions, computed at small examples.
use Rattle.std.proofs.Common.{◌≡◌, ◌+◌, ◌<◌, ℕ, zero, suc, List, [], ◌∷◌, Some, refl, ap, arith, codes, length, length-append}
use Rattle.std.specs.Prelude.{pos, negsuc, replicate, slice_get, unwrap_or}
use Rattle.std.specs.Fmt.{digits}
use Rattle.rcv_tree.specs.declared.event.Dir.TheVariants.{Sent, Got}
use Rattle.rcv_tree.specs.declared.entry.Entry.TheVariants.{Send, Recv, Crash, Recover}
use Rattle.rcv_session.specs.Session.{SessionView, net_for}
use Rattle.rcv_journal.specs.declared.line.RoleWord.TheVariants.{Limit}
use Rattle.rcv_journal.specs.Form.{IsAscending, AreCuts}
use Rattle.rcv_lines.specs.Cutting.{fields_of, joined}
use Rattle.rcv_lines.specs.Fields.{line_fields}
use Rattle.rcv_lines.specs.Laws.{EndsInFeed}
use Rattle.rcv_lines.specs.Line.{EndLine, EntryLine, LineView, RoleLineOf, SaysLine, line_text}

-- ping from A to B, pong from B to A
record IsPing (setup : SessionView) : Type 0 where
  roles : setup.protocol.roles ≡ codes "A" ∷ codes "B" ∷ []
  ping : (net_for setup).label 1 ≡ codes "ping"
  pong : (net_for setup).label 2 ≡ codes "pong"

-- Cuts at spaces: one field more than there are spaces.
cut : fields_of (codes "role A kept 4") ≡ codes "role" ∷ codes "A" ∷ codes "kept" ∷ codes "4" ∷ []
cut = refl

cut_empty : fields_of [] ≡ [] ∷ []
cut_empty = refl

cut_twice : fields_of (codes "a  b ") ≡ codes "a" ∷ [] ∷ codes "b" ∷ [] ∷ []
cut_twice = refl

join : joined (codes "crash" ∷ codes "B" ∷ []) ≡ codes "crash B"
join = refl

-- The lines of the four kinds, of a role, and the last ones.
send : LineView
send = EntryLine (Send (record { role = 0; dir = Sent; point = 1; value = negsuc 6; stamp = 10; sent = 10 }))

send_line : (setup : SessionView) → IsPing setup → line_text setup send ≡ codes "send A 1 ping -7 @10\n"
unfolding send digits
send_line setup is = rw (is.roles, is.ping) refl

send_fields : (setup : SessionView) → IsPing setup → line_fields setup send ≡ fields_of (codes "send A 1 ping -7 @10")
unfolding send digits
send_fields setup is = rw (is.roles, is.ping) refl

recv : LineView
recv = EntryLine (Recv (record { role = 1; dir = Got; point = 1; value = pos 0; stamp = 2; sent = 1 }))

recv_fields : (setup : SessionView) → IsPing setup → line_fields setup recv ≡ fields_of (codes "recv B 1 ping 0 @2 <1")
unfolding recv digits
recv_fields setup is = rw (is.roles, is.ping) refl

recover : LineView
recover = EntryLine (Recover 1 (record { 0 = 2 }) (replicate 8 0) 3)

recover_fields : (setup : SessionView) → IsPing setup → line_fields setup recover ≡ fields_of (codes "recover B undone 3: B 0")
unfolding recover digits
recover_fields setup is = rw is.roles refl

role_fields_are : (setup : SessionView) → IsPing setup → line_fields setup (RoleLineOf (record { role = 1; kept = 2; raw = 12; word = Limit })) ≡ fields_of (codes "role B kept 2 raw 12 limit")
unfolding digits
role_fields_are setup is = rw is.roles refl

limited : (setup : SessionView) → IsPing setup → line_text setup (EndLine (0 ∷ 1 ∷ [])) ≡ codes "limited A B\n"
limited setup is = rw is.roles refl

completed : (setup : SessionView) → line_text setup (EndLine []) ≡ codes "completed\n"
completed setup = refl

-- A crash of a declared role is said, and no text says one of a third role of two.
crash_said : (setup : SessionView) → IsPing setup → SaysLine setup (codes "crash B\n") (EntryLine (Crash 1))
crash_said setup is = (let two = ap length is.roles in omega (arith, two), rw is.roles refl)

third_not_said : (setup : SessionView) (line : List ℕ) → IsPing setup → SaysLine setup line (EntryLine (Crash 2)) → ⊥
third_not_said setup line is says = let two = ap length is.roles in let declared = says.0 in omega (arith, two, declared)

-- Roles ascend, each once.
ascending : IsAscending (3 ∷ 5 ∷ [])
ascending = λ k a b first second. go k a b first second
  where
    go : (k a b : ℕ) → slice_get (3 ∷ 5 ∷ []) k ≡ Some a → slice_get (3 ∷ 5 ∷ []) (k + 1) ≡ Some b → a < b
    go zero a b first second = let three = ap (λ o. unwrap_or o 0) first in let five = ap (λ o. unwrap_or o 0) second in omega (arith, three, five)
    go (suc zero) a b first second = absurd (cc)
    go (suc (suc k)) a b first second = absurd (cc)

twice_not : IsAscending (3 ∷ 3 ∷ []) → ⊥
twice_not ascends = let below = ascends 0 3 3 refl refl in omega (arith, below)

-- A recovery that concerns nobody is none.
nobody : (names : List (List ℕ)) (kept : List ℕ) → AreCuts (length names) 0 kept → ⊥
nobody names kept are = are.some refl

-- A line feed at the end, and no other.
feed : EndsInFeed (codes "A\n")
feed = record { front = codes "A"; lacks = ((λ e. omega (arith, e)), tt); whole = refl }

no_feed : EndsInFeed [] → ⊥
no_feed ends = omega (arith, ap length ends.whole, length-append ends.front (10 ∷ []))
