-- What the table of a protocol says of its starts.
use Rattle.std.proofs.Common.{◌≡◌, ℕ, zero, suc, ◌+◌, ◌<◌, ◌≤◌, ◌||◌, Bool, true, false, List, [], ◌∷◌, length, get_or, refl, sym, ◌∙◌, subst, ◌⊎◌, inl, inr, ⊎_elim, arith}
use Rattle.std.specs.Prelude.{◌↔◌, Some, slice_get}
use Rattle.std.proofs.lemmas.Bool.{cases_eq, or_cases, or_left, or_right}
use Rattle.rcv_tree.specs.Bits.{has_bit}
use Rattle.rcv_model.specs.Net.{Net}
use Rattle.rcv_model.specs.Table.{IsConcerned, AreRestarts}
use Rattle.rcv_model.specs.Places.{net_of}
use Rattle.rcv_model.proofs.Forms.{proper}
use Rattle.rcv_points.specs.Follow.{PointsView, ArePointsOf, net_in}
use Rattle.rcv_points.proofs.Whole.{same_net}
use Rattle.rcv_accept.specs.Accepted.{AcceptedView, IsAcceptedProtocol, text_of, roles_of}
use Rattle.rcv_tables.specs.Line.{HasLine}
use Rattle.rcv_tables.specs.Starts.{IsOwnPoint, HaveEnds}
use Rattle.rcv_tables.specs.Rows.{RowView, TableView, no_row, rows_at, row_at, IsRowOf, IsTable}
use Rattle.rcv_tables.specs.Told.{HaveRows, AreStarts, AreConcernedBelow}
use Rattle.rcv_tables.proofs.TextLanes.{lanes_rise}

-- the item at a place
pub got : {A : Type 0} (xs : List A) (i : ℕ) (d : A) → i < length xs → slice_get xs i ≡ Some (get_or xs i d)
got [] i d lt = absurd (omega arith)
got (x ∷ xs) zero d lt = refl
got (x ∷ xs) (suc i) d lt = got xs i d (omega arith)

-- the row of a start
pub own_row : (net : Net) (roles : ℕ) (table : TableView) (p n : ℕ) → IsTable net roles table → p < length table.rows → n < length (rows_at table p) → IsOwnPoint net p n → IsRowOf net p n (row_at table p n)
own_row net roles table p n is role low start = (is.each p (rows_at table p) (got table.rows p [] role)).each n (row_at table p n) (got (rows_at table p) n no_row low) start

pub own_restarts : (net : Net) (p n q : ℕ) (row : RowView) → IsRowOf net p n row → q < length row.restarts → AreRestarts net p n q (get_or row.restarts q [])
own_restarts net p n q row is low = is.each q (get_or row.restarts q []) (got row.restarts q [] low)

-- a declared role and its points have rows
pub has_rows : (net : Net) (roles : ℕ) (table : TableView) (p n : ℕ) → IsTable net roles table → p < roles → IsOwnPoint net p n → (p < length table.rows) × (n < length (rows_at table p))
has_rows net roles table p n is declared start =
    let long = is.all in
    let role : p < length table.rows = omega (arith, long, declared) in
    let all = (is.each p (rows_at table p) (got table.rows p [] role)).all in
    let last = start.1 in
    (role, omega (arith, all, last))

-- and so have the starts of declared roles that failed
pub starts_have_rows : (net : Net) (roles : ℕ) (table : TableView) (failed : ℕ) (starts : List ℕ) → IsTable net roles table → ((p : ℕ) → p < 8 → has_bit failed p ≡ true → p < roles) → AreStarts net failed starts → HaveRows table starts
starts_have_rows net roles table failed starts is declared are p low some =
    has_rows net roles table p (get_or starts p 0) is (declared p low (are p low some).among) (are p low some).own

-- all points of an accepted text are sent and received by two of eight roles
pub have_ends : (accepted : AcceptedView) (points : PointsView) → IsAcceptedProtocol accepted.protocol → ArePointsOf (text_of accepted) points → HaveEnds (net_in points)
have_ends accepted points is are = subst HaveEnds (sym (same_net (text_of accepted) (roles_of accepted) points is.form are)) of_text
  where
    of_text : HaveEnds (net_of (text_of accepted))
    of_text = record {
      senders = λ z low high. let lt = (ends z low high).0 in let few = is.form.few_roles in omega (arith, lt, few);
      receivers = λ z low high. let lt = (ends z low high).1 in let few = is.form.few_roles in omega (arith, lt, few);
    }
      where
        ends : (z : ℕ) → 1 ≤ z → z ≤ (net_of (text_of accepted)).count → ((net_of (text_of accepted)).sender z < roles_of accepted) × ((net_of (text_of accepted)).receiver z < roles_of accepted)
        ends z low high =
            let form = proper (text_of accepted) (roles_of accepted) is.form in
            (form.senders z low high, form.receivers z low high)

-- and it has a line
pub have_line : (accepted : AcceptedView) (points : PointsView) → IsAcceptedProtocol accepted.protocol → ArePointsOf (text_of accepted) points → HasLine (net_in points)
have_line accepted points is are = subst HasLine (sym (same_net (text_of accepted) (roles_of accepted) points is.form are)) (record { rises = lanes_rise (text_of accepted) is.form.numbered; ends = is.accepted.lanes_end })

-- no start concerns a role, and one start more
pub none_concerned : (net : Net) (failed : ℕ) (starts : List ℕ) → AreConcernedBelow net failed starts 0 failed
none_concerned net failed starts q low = (λ t. inl t, λ a. ⊎_elim (λ t. t) (λ b. absurd (let lt = b.1 in omega (arith, lt))) a)

pub more_concerned : (net : Net) (failed : ℕ) (starts : List ℕ) (n start bits more all : ℕ) → start ≡ get_or starts n 0 → AreConcernedBelow net failed starts n bits → ((q : ℕ) → q < 8 → (has_bit more q ≡ true) ↔ ((start ≡ 0 → ⊥) × IsConcerned net n start q)) → ((q : ℕ) → q < 8 → has_bit all q ≡ (has_bit bits q || has_bit more q)) → AreConcernedBelow net failed starts (n + 1) all
more_concerned net failed starts n start bits more all is before one both q low = (
  λ t. ⊎_elim
      (λ b. ⊎_elim (λ f. inl f) (λ a. inr (a.0, (let lt = a.1 in omega (arith, lt)), a.2, a.3)) ((before q low).0 b))
      (λ m. let a = (one q low).0 m in inr (n, omega arith, subst (λ s. s ≡ 0 → ⊥) is a.0, subst (λ s. IsConcerned net n s q) is a.1))
      (or_cases (has_bit bits q) (has_bit more q) (sym (both q low) ∙ t)),
  λ a. both q low ∙ ⊎_elim
      (λ f. or_left (has_bit bits q) (has_bit more q) ((before q low).1 (inl f)))
      (λ b. ⊎_elim
      (λ e. or_right (has_bit bits q) (has_bit more q) ((one q low).1 (subst (λ s. s ≡ 0 → ⊥) (sym is) (subst (λ p. get_or starts p 0 ≡ 0 → ⊥) e b.2), subst (λ s. IsConcerned net n s q) (sym is) (subst (λ p. IsConcerned net p (get_or starts p 0) q) e b.3))))
      (λ m. or_left (has_bit bits q) (has_bit more q) ((before q low).1 (inr (b.0, (let lt = b.1 in omega (arith, lt, m)), b.2, b.3))))
      (cases_eq b.0 n))
      a,
)
