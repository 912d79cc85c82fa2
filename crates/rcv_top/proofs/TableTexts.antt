-- A protocol has recovery tables.
use Rattle.std.proofs.Common.{◌≡◌, ℕ, zero, suc, ◌+◌, Bool, true, false, cond, Some, List, [], ◌∷◌, length, refl, ◌∙◌, ap, subst, ◌⊎◌, inl, inr, arith}
use Rattle.std.specs.Prelude.{◌↔◌, slice_get}
use Rattle.std.specs.Int.{bit_at}
use Rattle.std.proofs.lemmas.Bool.Decides.{nat_tests}
use Rattle.rcv_tree.specs.Bits.{has_bit}
use Rattle.rcv_tree.specs.declared.protocol.Protocol.{Protocol}
use Rattle.rcv_model.specs.Net.{Net}
use Rattle.rcv_model.specs.Next.{IsProper}
use Rattle.rcv_model.specs.Table.{IsConcerned, AreRestarts}
use Rattle.rcv_model.specs.Text.{body_of}
use Rattle.rcv_model.specs.Places.{net_of}
use Rattle.rcv_model.proofs.BitSets.{bits, bit_is}
use Rattle.rcv_model.proofs.Forms.{proper}
use Rattle.rcv_model.proofs.RestartLists.{restart_list, is_concerned}
use Rattle.rcv_accept.specs.Accepted.{IsAcceptedProtocol}
use Rattle.rcv_tables.specs.Starts.{AreConcerned}
use Rattle.rcv_tables.specs.Rows.{RowView, TableView, IsRowOf, AreRowsOf, IsTable}
use Rattle.rcv_tables.specs.TableText.{table_text}
use Rattle.rcv_top.specs.Recovering.{IsTableText}

-- ---- lists by place

abbrev all_from : {A : Type 0} → (ℕ → A) → ℕ → ℕ → List A
all_from f k zero = []
all_from f k (suc n) = f k ∷ all_from f (suc k) n

as_many : {A : Type 0} (f : ℕ → A) (k n : ℕ) → length (all_from f k n) ≡ n
as_many f k zero = refl
as_many f k (suc n) = ap suc (as_many f (suc k) n)

same_some : {A : Type 0} (a b : A) → Some a ≡ Some b → a ≡ b
same_some a b e = cc

each : {A : Type 0} (f : ℕ → A) (k n i : ℕ) (x : A) → slice_get (all_from f k n) i ≡ Some x → f (k + i) ≡ x
each f k zero i x at = absurd cc
each f k (suc n) zero x at = ap f (omega arith) ∙ same_some (f k) x at
each f k (suc n) (suc i) x at = ap f (omega arith) ∙ each f (suc k) n i x at

-- ---- who is concerned

abbrev decided : {A B : Type 0} → A ⊎ B → Bool
decided (inl a) = true
decided (inr b) = false

abbrev test : (net : Net) (roles p n : ℕ) → IsProper net roles → ℕ → Bool
test net roles p n lawful q = decided (is_concerned net roles p n q lawful)

is_test : (net : Net) (roles p n : ℕ) (lawful : IsProper net roles) (q : ℕ) → (test net roles p n lawful q ≡ true) ↔ IsConcerned net p n q
is_test net roles p n lawful q = go (is_concerned net roles p n q lawful)
  where
    go : (d : IsConcerned net p n q ⊎ (IsConcerned net p n q → ⊥)) → (decided d ≡ true) ↔ IsConcerned net p n q
    go (inl is) = (λ e. is, λ c. refl)
    go (inr other) = (λ e. absurd cc, λ c. absurd (other c))

bit_tells : (b : Bool) (word q : ℕ) → bit_at word q ≡ cond b 1 0 → has_bit word q ≡ b
bit_tells true word q e = grind (arith, nat_tests)
bit_tells false word q e = grind (arith, nat_tests)

are_concerned : (net : Net) (roles p n : ℕ) (lawful : IsProper net roles) → AreConcerned net p n (bits (test net roles p n lawful) 8)
are_concerned net roles p n lawful q below =
    let tells = bit_tells (test net roles p n lawful q) (bits (test net roles p n lawful) 8) q (bit_is (test net roles p n lawful) 8 q below) in
    subst (λ (b : Bool). (b ≡ true) ↔ IsConcerned net p n q) (ap (λ (b : Bool). b) (back tells)) (is_test net roles p n lawful q)
  where
    back : {a b : Bool} → a ≡ b → b ≡ a
    back e = cc

-- ---- rows and the table

abbrev row : (net : Net) (roles : ℕ) → IsProper net roles → ℕ → ℕ → RowView
row net roles lawful p n = record { concerned = bits (test net roles p n lawful) 8; restarts = all_from (λ q. (restart_list net roles p n q lawful).0) 0 8 }

is_row : (net : Net) (roles : ℕ) (lawful : IsProper net roles) (p n : ℕ) → IsRowOf net p n (row net roles lawful p n)
is_row net roles lawful p n = record {
  concerned = are_concerned net roles p n lawful;
  all = as_many (λ q. (restart_list net roles p n q lawful).0) 0 8;
  each = λ q zs at. let is = each (λ q. (restart_list net roles p n q lawful).0) 0 8 q zs at in restarts q zs is;
}
  where
    restarts : (q : ℕ) (zs : List ℕ) → (restart_list net roles p n (0 + q) lawful).0 ≡ zs → AreRestarts net p n q zs
    restarts q zs is = subst (AreRestarts net p n q) (ap (λ (k : ℕ). (restart_list net roles p n k lawful).0) (omega arith) ∙ is) (restart_list net roles p n q lawful).1

abbrev rows : (net : Net) (roles : ℕ) → IsProper net roles → ℕ → List RowView
rows net roles lawful p = all_from (row net roles lawful p) 0 (net.count + 1)

are_rows : (net : Net) (roles : ℕ) (lawful : IsProper net roles) (p : ℕ) → AreRowsOf net p (rows net roles lawful p)
are_rows net roles lawful p = record {
  all = as_many (row net roles lawful p) 0 (net.count + 1);
  each = λ n r at own.
      subst (IsRowOf net p n) (ap (row net roles lawful p) (omega arith) ∙ each (row net roles lawful p) 0 (net.count + 1) n r at) (is_row net roles lawful p n);
}

is_table : (net : Net) (roles : ℕ) (lawful : IsProper net roles) → IsTable net roles (record { rows = all_from (rows net roles lawful) 0 roles })
is_table net roles lawful = record {
  all = as_many (rows net roles lawful) 0 roles;
  each = λ p rs at. subst (AreRowsOf net p) (ap (rows net roles lawful) (omega arith) ∙ each (rows net roles lawful) 0 roles p rs at) (are_rows net roles lawful p);
}

pub table_exists : (p : Protocol) → IsAcceptedProtocol p → (bytes : List ℕ) × IsTableText p bytes
table_exists p accepted =
    let lawful = proper (body_of p.body) (length p.roles) accepted.form in
    let table : TableView = record { rows = all_from (rows (net_of (body_of p.body)) (length p.roles) lawful) 0 (length p.roles) } in
    (table_text (net_of (body_of p.body)) p.roles table, record { table = table; is_table = is_table (net_of (body_of p.body)) (length p.roles) lawful; is_text = refl })
