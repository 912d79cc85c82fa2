-- The definitions, computed at small examples.
use Rattle.std.proofs.Common.{◌≡◌, ◌^◌, ◌<◌, ◌≤◌, ℕ, zero, suc, pos, Some, List, [], ◌∷◌, ◌∙◌, length, refl, sym, ap, subst, arith, codes}
use Rattle.std.specs.Prelude.{All, replicate, slice_get, slice_index, slice_index_or, unwrap_or}
use Rattle.std.proofs.Math.Facts.{sfits_lit}
use Rattle.std.proofs.lemmas.List.Elements.{All-cons, All-nil}
use Rattle.json.proofs.Printed.Utf8.{IsUtf8-are_ascii}
use Rattle.serde_json.specs.Data.{Data, array, item, member, no_items, no_members, object, string}
use Rattle.serde_json.specs.Read.{read}
use Rattle.serde_json.proofs.OnLiterals.{serde_json_on_literals}
use Rattle.rcv_tree.specs.declared.event.Dir.TheVariants.{Sent, Got}
use Rattle.rcv_tree.specs.declared.entry.Entry.{Entry}
use Rattle.rcv_tree.specs.declared.entry.Entry.TheVariants.{Send, Recv, Crash}
use Rattle.rcv_tree.specs.declared.protocol.Protocol.{Protocol}
use Rattle.rcv_session.specs.Session.{net_for, roles_of}
use Rattle.rcv_journal.specs.declared.line.RoleLine.{RoleLine}
use Rattle.rcv_journal.specs.declared.line.RoleWord.TheVariants.{Done}
use Rattle.rcv_journal.specs.Form.{IsFormed, IsFormedEntry, AreCuts, FitsLine}
use Rattle.rcv_journal.specs.Recorded.{JournalView, bare}
use Rattle.rcv_journal.specs.Json.{count, formed_data, list_of}
use Rattle.rcv_json_reader.specs.Parts.{Rise, SaysEntry}
use Rattle.rcv_json_reader.specs.Reading.{IsReadAs}

-- ---- a protocol without roles

record HasNoRoles (p : Protocol) : Type 0 where
  roles : p.roles ≡ []

nothing : JournalView
nothing = record { entries = []; roles = []; limited = [] }

none : {X : Type 0} (P : X → Type 0) → All P []
none P = All-nil P

nothing_formed : (p : Protocol) → HasNoRoles p → IsFormed (bare p) nothing
unfolding nothing
nothing_formed p is = record {
  entries = none (IsFormedEntry (bare p));
  all = ap length (sym is.roles);
  in_order = λ r line here. absurd (cc);
  fit = none FitsLine;
  limited = record { declared = none (λ r. r < roles_of (bare p)); ascending = λ k a b at_a at_b. absurd (cc) };
}

-- in any spacing and any order of the keys
spaced : (p : Protocol) → HasNoRoles p → IsReadAs p (codes " { \"roles\" : [ ],\n\"limited\":[],\t\"entries\":[]}\n\n") nothing
unfolding serde_json_on_literals nothing
spaced p is = record { formed = nothing_formed p is; utf8 = IsUtf8-are_ascii _ refl; value = refl }

-- of a key that stands twice the last value counts
twice : (p : Protocol) → HasNoRoles p → IsReadAs p (codes "{\"entries\":5,\"limited\":[],\"roles\":[],\"entries\":[]}") nothing
unfolding serde_json_on_literals nothing
twice p is = record { formed = nothing_formed p is; utf8 = IsUtf8-are_ascii _ refl; value = refl }

-- another value, a key too few and a key too many
list : (p : Protocol) (j : JournalView) → IsReadAs p (codes "[]") j → ⊥
unfolding serde_json_on_literals
list p j is = let e : Some (array no_items) ≡ Some (formed_data (bare p) j) = is.value in absurd (cc)

key_missing : (p : Protocol) (j : JournalView) → IsReadAs p (codes "{\"entries\":[],\"limited\":[]}") j → ⊥
unfolding serde_json_on_literals
key_missing p j is =
    let e : Some (object (member (codes "entries") (array no_items) (member (codes "limited") (array no_items) no_members))) ≡ Some (formed_data (bare p) j) = is.value in
    absurd (cc)

key_more : (p : Protocol) (j : JournalView) → IsReadAs p (codes "{\"a\":0,\"entries\":[],\"limited\":[],\"roles\":[]}") j → ⊥
unfolding serde_json_on_literals
key_more p j is =
    let e : Some (object (member (codes "a") (count 0) (member (codes "entries") (array no_items) (member (codes "limited") (array no_items) (member (codes "roles") (array no_items) no_members)))))
    ≡ Some (formed_data (bare p) j) = is.value in
    absurd (cc)

-- 1.0 is no count
no_count : read (codes "1.0") ≡ Some (count 1) → ⊥
unfolding serde_json_on_literals
no_count is = absurd (cc)

-- ---- ping from A to B, pong from B to A

record IsPing (p : Protocol) : Type 0 where
  roles : p.roles ≡ codes "A" ∷ codes "B" ∷ []
  points : (net_for (bare p)).count ≡ 2
  ping : (net_for (bare p)).label 1 ≡ codes "ping"
  pong : (net_for (bare p)).label 2 ≡ codes "pong"

sent : ℕ → ℕ → ℕ → Entry
sent role point stamp = Send (record { role = role; dir = Sent; point = point; value = pos 0; stamp = stamp; sent = stamp })

got : ℕ → ℕ → ℕ → ℕ → Entry
got role point stamp from = Recv (record { role = role; dir = Got; point = point; value = pos 0; stamp = stamp; sent = from })

done : ℕ → RoleLine
done role = record { role = role; kept = 2; raw = 2; word = Done }

whole : JournalView
whole = record { entries = sent 0 1 1 ∷ got 1 1 2 1 ∷ sent 1 2 3 ∷ got 0 2 4 3 ∷ []; roles = done 0 ∷ done 1 ∷ []; limited = [] }

sent_formed : (p : Protocol) (role point stamp : ℕ) → IsPing p → role < 2 → 1 ≤ point → point ≤ 2 → stamp < 2 ^ 64 → IsFormedEntry (bare p) (sent role point stamp)
unfolding sent
sent_formed p role point stamp is declared first last fits = (
  record {
    named = record { role = omega (arith, declared, ap length is.roles); first = first; last = omega (arith, last, is.points) };
    way = refl;
    value = sfits_lit tt;
    stamp = fits;
    sent = fits;
  },
  refl,
)

got_formed : (p : Protocol) (role point stamp from : ℕ) → IsPing p → role < 2 → 1 ≤ point → point ≤ 2 → stamp < 2 ^ 64 → from < 2 ^ 64 → IsFormedEntry (bare p) (got role point stamp from)
unfolding got
got_formed p role point stamp from is declared first last fits sent_fits = record {
  named = record { role = omega (arith, declared, ap length is.roles); first = first; last = omega (arith, last, is.points) };
  way = refl;
  value = sfits_lit tt;
  stamp = fits;
  sent = sent_fits;
}

whole_formed : (p : Protocol) → IsPing p → IsFormed (bare p) whole
unfolding whole done
whole_formed p is = record {
  entries = All-cons Formed (sent 0 1 1) (got 1 1 2 1 ∷ sent 1 2 3 ∷ got 0 2 4 3 ∷ []) (sent_formed p 0 1 1 is (omega arith) (omega arith) (omega arith) (omega arith))
      (All-cons Formed (got 1 1 2 1) (sent 1 2 3 ∷ got 0 2 4 3 ∷ []) (got_formed p 1 1 2 1 is (omega arith) (omega arith) (omega arith) (omega arith) (omega arith))
      (All-cons Formed (sent 1 2 3) (got 0 2 4 3 ∷ []) (sent_formed p 1 2 3 is (omega arith) (omega arith) (omega arith) (omega arith))
      (All-cons Formed (got 0 2 4 3) [] (got_formed p 0 2 4 3 is (omega arith) (omega arith) (omega arith) (omega arith) (omega arith)) (none Formed))));
  all = ap length (sym is.roles);
  in_order = order;
  fit = All-cons FitsLine (done 0) (done 1 ∷ []) (omega arith, omega arith) (All-cons FitsLine (done 1) [] (omega arith, omega arith) (none FitsLine));
  limited = record { declared = none (λ r. r < roles_of (bare p)); ascending = λ k a b at_a at_b. absurd (cc) };
}
  where
    Formed : Entry → Type 0
    Formed = IsFormedEntry (bare p)

    order : (r : ℕ) (line : RoleLine) → slice_get (done 0 ∷ done 1 ∷ []) r ≡ Some line → line.role ≡ r
    order zero line here = sym (ap (λ o. (unwrap_or o (done 0)).role) here)
    order (suc zero) line here = sym (ap (λ o. (unwrap_or o (done 0)).role) here)
    order (suc (suc r)) line here = absurd (cc)

-- its line is read
ping_line : (p : Protocol) → IsPing p → IsReadAs p (codes "{\"entries\":[[\"send\",\"A\",1,\"ping\",0,1],[\"recv\",\"B\",1,\"ping\",0,2,1],[\"send\",\"B\",2,\"pong\",0,3],[\"recv\",\"A\",2,\"pong\",0,4,3]],\"limited\":[],\"roles\":[[\"A\",2,2,\"done\"],[\"B\",2,2,\"done\"]]}\n") whole
unfolding serde_json_on_literals whole done sent got
ping_line p is = record {
  formed = whole_formed p is;
  utf8 = IsUtf8-are_ascii _ refl;
  value = rw (is.roles, is.ping, is.pong) refl;
}

-- ---- entries, roles and cuts

abbrev text_in : Data → List ℕ
text_in (array (item a (item (string s) ds))) = s
text_in _ = []

crash : (p : Protocol) → IsPing p → SaysEntry (bare p) (list_of (string (codes "crash") ∷ string (codes "B") ∷ [])) (Crash 1)
crash p is = record { formed = omega (arith, ap length is.roles); is = rw is.roles refl }

other_crash : (p : Protocol) → IsPing p → SaysEntry (bare p) (list_of (string (codes "crash") ∷ string (codes "B") ∷ [])) (Crash 0) → ⊥
other_crash p is says = let e : 66 ≡ 65 = ap (λ l. slice_index_or l 0 0) (ap text_in says.is ∙ ap (λ rs. slice_index_or rs 0 []) is.roles) in omega (arith, e)

rises : Rise 0 (0 ∷ 2 ∷ []) 3
rises = (omega arith, (omega arith, omega arith))

falls : Rise 0 (2 ∷ 0 ∷ []) 3 → ⊥
falls rise = omega (arith, rise.1.0)

zeros : (n : ℕ) → All (λ n. n < 2 ^ 32) (replicate n 0)
zeros zero = none (λ n. n < 2 ^ 32)
zeros (suc n) = All-cons (λ n. n < 2 ^ 32) 0 (replicate n 0) (omega arith) (zeros n)

zero_at : (n q : ℕ) → slice_index (replicate n 0) q ≡ 0
zero_at zero q = refl
zero_at (suc n) zero = refl
zero_at (suc n) (suc q) = zero_at n q

cut : (p : Protocol) → IsPing p → AreCuts (roles_of (bare p)) 2 (replicate 8 0)
cut p is = record {
  some = λ e. absurd (omega (arith, e));
  declared = subst (λ n. 2 < 2 ^ n) (sym (ap length is.roles)) (omega arith);
  eight = refl;
  fit = zeros 8;
  others = λ q clear inside. zero_at 8 q;
}

no_cut : (p : Protocol) (kept : List ℕ) → AreCuts (roles_of (bare p)) 0 kept → ⊥
no_cut p kept are = are.some refl
