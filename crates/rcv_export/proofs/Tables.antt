-- A table's value is plain, and so it is read back.
use Rattle.std.proofs.Common.{◌≡◌, ℕ, zero, suc, ◌<◌, ◌≤◌, ◌^◌, ◌||◌, Bool, true, false, List, [], ◌∷◌, ◌++◌, length, get_or, refl, sym, subst, ◌⊎◌, inl, inr, arith, codes}
use Rattle.std.specs.Prelude.{All, ◌==◌, if◌then◌else◌}
use Rattle.std.proofs.lemmas.Bool.Decides.{nat_tests}
use Rattle.json.proofs.Printed.Utf8.{IsUtf8-are_ascii}
use Rattle.serde_json.specs.View.{items_of}
use Rattle.rcv_tree.specs.Bits.{has_bit}
use Rattle.rcv_tree.specs.Names.{name_at}
use Rattle.rcv_model.specs.Net.{Net, IsIn, IsWalk}
use Rattle.rcv_model.specs.Next.{IsOf, IsProper}
use Rattle.rcv_model.specs.Table.{IsRestart}
use Rattle.rcv_model.proofs.Forms.{proper}
use Rattle.rcv_model.proofs.Lanes.{walk_in_text}
use Rattle.rcv_accept.specs.Accepted.{AcceptedView, IsAcceptedProtocol, text_of, roles_of, net_for}
use Rattle.rcv_tables.specs.Rows.{TableView, row_at, IsRowOf, IsTable}
use Rattle.rcv_tables.specs.Starts.{IsOwnPoint}
use Rattle.rcv_tables.specs.TableText.{is_own}
use Rattle.rcv_tables.proofs.Reading.{own_row, own_restarts, has_rows}
use Rattle.rcv_export.specs.Pieces.{count, word_data}
use Rattle.rcv_export.specs.ReadBack.{IsReadAs}
use Rattle.rcv_export.specs.TableJson.{restarts_data, concerned_data, failure_data, start_data, role_failures, table_data, table_json}
use Rattle.rcv_export.proofs.Plain.{IsPlain, ArePlain, line_is_read, plain_each, plain_map, plain_range}
use Rattle.rcv_export.proofs.Names.{ascii_is_text}

-- a role's point
pub own_is_of : (net : Net) (p n : ℕ) → is_own net p n ≡ true → IsOf net p n
own_is_of net p n own = go (net.sender n == p) refl own
  where
    go : (b : Bool) → (net.sender n == p) ≡ b → (b || net.receiver n == p) ≡ true → (net.sender n ≡ p) ⊎ (net.receiver n ≡ p)
    go true e t = inl (grind (arith, nat_tests))
    go false e t = inr (grind (arith, nat_tests))

in_list : (zs : List ℕ) (k d : ℕ) → k < length zs → IsIn (get_or zs k d) zs
in_list [] k d lt = absurd (omega arith)
in_list (z ∷ zs) zero d lt = inl refl
in_list (z ∷ zs) (suc k) d lt = inr (in_list zs k d (omega arith))

-- a role restarts at points of the text
restart_in_text : (net : Net) (roles p n q z : ℕ) → IsProper net roles → IsOwnPoint net p n → IsRestart net p n q z → z ≤ net.count
restart_in_text net roles p n q z form own (inl at) = subst (λ k. k ≤ net.count) (sym at.1) own.1
restart_in_text net roles p n q z form own (inr at) = go at.1.before at.1.after at.1.walk.0 at.1.walk.1 at.1.walk.2
  where
    go : (before after w : List ℕ) → IsWalk net n w → before ++ z ∷ after ≡ n ∷ w → z ≤ net.count
    go [] after w walk e = let same : z ≡ n = cc in subst (λ k. k ≤ net.count) (sym same) own.1
    go (b ∷ bs) after w walk e = let rest : bs ++ z ∷ after ≡ w = cc in (walk_in_text net roles n z bs after form (subst (IsWalk net n) (sym rest) walk)).1

module _ (accepted : AcceptedView) (table : TableView) (lawful : IsAcceptedProtocol accepted.protocol) (is : IsTable (net_for accepted) (roles_of accepted) table) where
  small : (n : ℕ) → n ≤ (net_for accepted).count → n < 2 ^ 64
  small n last = let few = lawful.form.few_points in omega (arith, last, few)

  row_is : (p n : ℕ) → p < roles_of accepted → IsOwnPoint (net_for accepted) p n → IsRowOf (net_for accepted) p n (row_at table p n)
  row_is p n role own =
      let there = has_rows (net_for accepted) (roles_of accepted) table p n is role own in
      own_row (net_for accepted) (roles_of accepted) table p n is there.0 there.1 own

  restarts_small : (p n q : ℕ) → p < roles_of accepted → IsOwnPoint (net_for accepted) p n → q < roles_of accepted → All (λ z. z < 2 ^ 64) (get_or (row_at table p n).restarts q [])
  restarts_small p n q role own other k d lt =
      let row = row_is p n role own in
      let long = row.all in
      let few = lawful.form.few_roles in
      let zs = get_or (row_at table p n).restarts q [] in
      let are = own_restarts (net_for accepted) p n q (row_at table p n) row (omega (arith, long, few, other)) in
      small (get_or zs k d) (restart_in_text (net_for accepted) (roles_of accepted) p n q (get_or zs k d) (proper (text_of accepted) (roles_of accepted) lawful.form) own (are.sound (get_or zs k d) (in_list zs k d lt)))

  plain_restarts : (p n q : ℕ) → p < roles_of accepted → IsOwnPoint (net_for accepted) p n → q < roles_of accepted → IsPlain 2 (restarts_data accepted.protocol.roles (row_at table p n) q)
  plain_restarts p n q role own other = (
    1,
    omega arith,
    (
      IsUtf8-are_ascii (codes "restarts") refl,
      (0, omega arith, plain_map 0 (λ z. z < 2 ^ 64) count (λ z lt. lt) (get_or (row_at table p n).restarts q []) (restarts_small p n q role own other)),
      (IsUtf8-are_ascii (codes "role") refl, ascii_is_text (name_at accepted.protocol.roles q), tt),
    ),
    (((refl, tt), tt), (tt, tt)),
  )

  plain_concerned : (p n q : ℕ) → p < roles_of accepted → IsOwnPoint (net_for accepted) p n → q < roles_of accepted → ArePlain 2 (items_of (concerned_data accepted.protocol.roles (row_at table p n) q))
  plain_concerned p n q role own other = go (has_bit (row_at table p n).concerned q)
    where
      go : (b : Bool) → ArePlain 2 (items_of (if b then restarts_data accepted.protocol.roles (row_at table p n) q ∷ [] else []))
      go true = (plain_restarts p n q role own other, tt)
      go false = tt

  plain_failure : (p n : ℕ) → p < roles_of accepted → IsOwnPoint (net_for accepted) p n → IsPlain 4 (failure_data accepted.protocol.roles p n (row_at table p n))
  plain_failure p n role own = (
    3,
    omega arith,
    (
      IsUtf8-are_ascii (codes "concerned") refl,
      (2, omega arith, plain_range 2 (concerned_data accepted.protocol.roles (row_at table p n)) 0 (roles_of accepted) (λ q low high. plain_concerned p n q role own (omega (arith, high)))),
      (
        IsUtf8-are_ascii (codes "point") refl,
        small n own.1,
        (IsUtf8-are_ascii (codes "role") refl, ascii_is_text (name_at accepted.protocol.roles p), tt),
      ),
    ),
    (((refl, tt), ((refl, tt), tt)), (((refl, tt), tt), (tt, tt))),
  )

  plain_start : (p n : ℕ) → p < roles_of accepted → 1 ≤ n → n ≤ (net_for accepted).count → ArePlain 4 (items_of (start_data (net_for accepted) accepted.protocol.roles table p n))
  plain_start p n role low high = go (is_own (net_for accepted) p n) refl
    where
      go : (b : Bool) → is_own (net_for accepted) p n ≡ b → ArePlain 4 (items_of (if b then failure_data accepted.protocol.roles p n (row_at table p n) ∷ [] else []))
      go true own = (plain_failure p n role (low, high, own_is_of (net_for accepted) p n own), tt)
      go false own = tt

  plain_role : (p : ℕ) → p < roles_of accepted → ArePlain 4 (items_of (role_failures (net_for accepted) accepted.protocol.roles table p))
  plain_role p role = plain_range 4 (start_data (net_for accepted) accepted.protocol.roles table p) 1 (net_for accepted).count (λ n low high. plain_start p n role low (omega (arith, high)))

  pub plain_table : IsPlain 100 (table_data accepted table)
  plain_table = (
    5,
    omega arith,
    (
      IsUtf8-are_ascii (codes "failures") refl,
      (4, omega arith, plain_range 4 (role_failures (net_for accepted) accepted.protocol.roles table) 0 (roles_of accepted) (λ p low high. plain_role p (omega (arith, high)))),
      (
        IsUtf8-are_ascii (codes "protocol") refl,
        ascii_is_text accepted.protocol.name,
        (IsUtf8-are_ascii (codes "roles") refl, (0, omega arith, plain_each 0 word_data (λ name. ascii_is_text name) accepted.protocol.roles), tt),
      ),
    ),
    (((refl, tt), ((refl, tt), tt)), (((refl, tt), tt), (tt, tt))),
  )

pub tables_are_read_back : (accepted : AcceptedView) (table : TableView) → IsAcceptedProtocol accepted.protocol → IsTable (net_for accepted) (roles_of accepted) table → IsReadAs (table_json accepted table) (table_data accepted table)
tables_are_read_back accepted table lawful is = line_is_read (table_data accepted table) (plain_table accepted table lawful is)
