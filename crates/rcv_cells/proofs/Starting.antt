-- The cells of a new session are at home with its empty book.
use Prim.Native.Nat.{zero, suc}
use Rattle.std.proofs.Common.{◌≡◌, ℕ, ◌+◌, ◌<◌, List, [], ◌∷◌, ◌++◌, length, drop, refl, sym, ◌∙◌, ap, subst, ⊎_elim, arith}
use Rattle.std.specs.Prelude.{slice_index_or}
use Rattle.std.specs.List.{remove}
use Rattle.std.proofs.lemmas.Bool.{cases_lt}
use Rattle.std.proofs.lemmas.List.{get_or_past}
use Rattle.rcv_model.specs.Journal.{own_of, start}
use Rattle.rcv_tree.specs.declared.event.Message.{Message}
use Rattle.rcv_ring.specs.Lists.{Begins}
use Rattle.rcv_mailbox.specs.Ends.{IsChannel}
use Rattle.rcv_session.specs.Session.{SessionView, roles_of, rules_of}
use Rattle.rcv_role.specs.Part.{first_own, first_part}
use Rattle.rcv_role.specs.Ends.{end_at, AreEnds, AreFresh}
use Rattle.rcv_role.specs.Cell.{CellView, cell_of, IsSettled}
use Rattle.rcv_cells.specs.Home.{cell_at, IsOutAt, AreHome, HaveBases}
use Rattle.rcv_cells.specs.Making.{EndsView, no_ends, ends_of, AreOpen, AreFirst}
use Rattle.rcv_cells.proofs.Rounds.{any_default}
use Rattle.rcv_cells.proofs.Between.{at_front, at_back, length_more}

-- a list that is taken from its front
drop_at : (xs : List EndsView) (k : ℕ) (d : EndsView) → slice_index_or (drop k xs) 0 d ≡ slice_index_or xs k d
drop_at xs zero d = refl
drop_at [] (suc k) d = refl
drop_at (x ∷ xs) (suc k) d = drop_at xs k d

remove_at : (xs : List EndsView) (k : ℕ) → k < length xs → remove (drop k xs) 0 ≡ drop (suc k) xs
remove_at [] k lt = absurd (omega (arith, lt))
remove_at (x ∷ xs) zero lt = refl
remove_at (x ∷ xs) (suc k) lt = remove_at xs k (omega (arith, lt))

plus : (k : ℕ) → suc k ≡ k + 1
plus k = omega arith

pub front_taken : (all now now' : List EndsView) (k : ℕ) → now ≡ drop k all → k < length all → now' ≡ remove now 0 → now' ≡ drop (k + 1) all
front_taken all now now' k is lt taken = taken ∙ ap (λ l. remove l 0) is ∙ remove_at all k lt ∙ ap (λ n. drop n all) (plus k)

pub front_is : (all now : List EndsView) (k : ℕ) (x y : EndsView) → now ≡ drop k all → k < length all → x ≡ y → y ≡ slice_index_or now 0 y → (d : EndsView) → x ≡ ends_of all k d
front_is all now k x y is lt same value d = same ∙ value ∙ ap (λ l. slice_index_or l 0 y) is ∙ drop_at all k y ∙ any_default all k y d lt

module _ (setup : SessionView) (all : List EndsView) (opened : AreOpen (rules_of setup) (roles_of setup) all) where
  pub ends_there : (r : ℕ) (x : EndsView) → r < roles_of setup → ((d : EndsView) → x ≡ ends_of all r d) → AreEnds (rules_of setup) r x.posts x.inboxes
  ends_there r x lt is = subst (λ (y : EndsView). AreEnds (rules_of setup) r y.posts y.inboxes) (sym (is x)) (record {
    declared = lt;
    post_count = opened.posts r x lt;
    inbox_count = opened.inboxes r x lt;
    post = λ q d lq n. (opened.each r q x d lt lq (λ f. n (sym f))).post_is;
    inbox = λ q d lq n. (opened.each q r x d lq lt n).inbox_is;
  })

  pub fresh_there : (r : ℕ) (x : EndsView) → r < roles_of setup → ((d : EndsView) → x ≡ ends_of all r d) → AreFresh (roles_of setup) r x.posts x.inboxes
  fresh_there r x lt is = subst (λ (y : EndsView). AreFresh (roles_of setup) r y.posts y.inboxes) (sym (is x)) (λ q d lq n. record {
    put = (opened.each r q x d lt lq (λ f. n (sym f))).put;
    sent = (opened.each r q x d lt lq (λ f. n (sym f))).sent;
    taken = (opened.each q r x d lq lt n).taken;
    got = (opened.each q r x d lq lt n).got;
  })

pub no_cell_yet : (setup : SessionView) (all : List EndsView) → AreFirst setup 0 all []
no_cell_yet setup all = record {
  count = refl;
  each = λ r d e lt. absurd (omega (arith, lt));
  settled = λ r d lt. absurd (omega (arith, lt));
}

pub one_cell_more : (setup : SessionView) (all : List EndsView) (r : ℕ) (cells cells' : List CellView) (cell : CellView) (x : EndsView) → AreFirst setup r all cells → cell ≡ cell_of (first_part setup r) x.posts x.inboxes → ((d : EndsView) → x ≡ ends_of all r d) → IsSettled cell → cells' ≡ cells ++ cell ∷ [] → AreFirst setup (r + 1) all cells'
one_cell_more setup all r cells cells' cell x first is there settled more = subst (AreFirst setup (r + 1) all) (sym more) (record {
  count = length_more cells cell ∙ ap (λ n. n + 1) first.count;
  each = λ k d e lt. ⊎_elim
      (λ low. old k d low ∙ first.each k d e low)
      (λ high. let f : r ≡ k = omega (arith, lt, high) in subst (λ j. cell_at (cells ++ cell ∷ []) j d ≡ cell_of (first_part setup j) (ends_of all j e).posts (ends_of all j e).inboxes) f (new d ∙ is ∙ ap (λ (y : EndsView). cell_of (first_part setup r) y.posts y.inboxes) (there e)))
      (cases_lt k r);
  settled = λ k d lt. ⊎_elim
      (λ low. subst IsSettled (sym (old k d low)) (first.settled k d low))
      (λ high. let f : r ≡ k = omega (arith, lt, high) in subst (λ j. IsSettled (cell_at (cells ++ cell ∷ []) j d)) f (subst IsSettled (sym (new d)) settled))
      (cases_lt k r);
})
  where
    old : (k : ℕ) (d : CellView) → k < r → cell_at (cells ++ cell ∷ []) k d ≡ cell_at cells k d
    old k d lt = at_front cells (cell ∷ []) d k (let c = first.count in omega (arith, c, lt))

    new : (d : CellView) → cell_at (cells ++ cell ∷ []) r d ≡ cell
    new d = at_back cells cell d r (sym first.count)

-- nothing begins every list
begins_none : (taken put : List Message) → taken ≡ [] → Begins taken put
begins_none taken put none = subst (λ l. Begins l put) (sym none) (put, refl)

-- what the start has of a role
own_start : (n r : ℕ) → r < n → own_of (start n) r ≡ first_own
own_start zero r lt = absurd (omega (arith, lt))
own_start (suc n) zero lt = refl
own_start (suc n) (suc r) lt = own_start n r (omega (arith, lt))

pub start_home : (setup : SessionView) (all : List EndsView) (cells : List CellView) → AreOpen (rules_of setup) (roles_of setup) all → AreFirst setup (roles_of setup) all cells → AreHome (record { setup = setup; entries = [] }) cells
start_home setup all cells opened first = record {
  out = record {
    count = first.count;
    each = λ r d lt. subst (IsOutAt setup (start (roles_of setup)) r) (sym (first.each r d no_ends lt)) (record {
      setup_is = refl;
      role_is = refl;
      lawful = tt;
      own = own_start (roles_of setup) r lt;
      settled = subst IsSettled (first.each r d no_ends lt) (first.settled r d lt);
      strangers = λ t o. refl;
    });
    joined = λ s r d e ls lr n. subst (λ (z : CellView × CellView). IsChannel (end_at z.0.posts s r e) (end_at z.1.inboxes r s e)) (λ i. (sym (first.each s d no_ends ls) i, sym (first.each r d no_ends lr) i)) (opened.each s r no_ends e ls lr n).channel;
  };
  begun = λ s r d e ls lr n. subst (λ (z : CellView × CellView). Begins (end_at z.1.inboxes r s e).list (end_at z.0.posts s r e).list) (λ i. (sym (first.each s d no_ends ls) i, sym (first.each r d no_ends lr) i)) (begins_none _ _ (opened.each s r no_ends e ls lr n).taken);
  logs = λ r d lt. ap (λ (c : CellView). c.part.log) (first.each r d no_ends lt);
}

-- they have forgotten nothing
pub start_bases : (setup : SessionView) (all : List EndsView) (cells : List CellView) → AreFirst setup (roles_of setup) all cells → HaveBases (roles_of setup) [] cells
start_bases setup all cells first r d lt = ap (λ (c : CellView). c.part.base) (first.each r d no_ends lt) ∙ sym (get_or_past [] r 0 (omega arith))
