-- The cells come home from a recovery, beside which nobody ran.
use Rattle.std.proofs.Common.{◌≡◌, ℕ, zero, suc, ◌<◌, ◌≤◌, true, false, Option, Some, None, List, [], ◌∷◌, length, refl, sym, ◌∙◌, ap, subst, ◌⊎◌, inl, inr, arith}
use Rattle.std.proofs.lemmas.Bool.{cases_Bool}
use Rattle.rcv_tree.specs.Bits.{has_bit}
use Rattle.rcv_tree.specs.declared.role.RoleSet.{RoleSet}
use Rattle.rcv_tree.specs.declared.entry.Entry.{Entry}
use Rattle.rcv_tree.specs.declared.entry.Entry.TheVariants.{Send, Recv, Crash, Recover}
use Rattle.rcv_model.specs.Journal.{May, IsLegal}
use Rattle.rcv_model.proofs.Lists.{some_same}
use Rattle.rcv_ring.specs.Lists.{Begins}
use Rattle.rcv_mailbox.specs.Ends.{End, received, IsChannel}
use Rattle.rcv_accept.specs.Accepted.{IsAcceptedProtocol}
use Rattle.rcv_session.specs.Session.{roles_of, rules_of}
use Rattle.rcv_core.specs.Book.{BookView, state_of, with_entry, IsRecoveryOf}
use Rattle.rcv_role.specs.Ends.{end_at}
use Rattle.rcv_role.specs.Cell.{CellView}
use Rattle.rcv_cells.specs.Home.{cell_at, AreJoined, AreBegun, AreHome}
use Rattle.rcv_rollback.specs.Halves.{Has, Lacks, AreSplit}
use Rattle.rcv_rollback.specs.Back.{IsBack, HaveGoneBack}
use Rattle.rcv_super.specs.Steps.{concerned_of}
use Rattle.rcv_super.proofs.Apart.{IsHomeAt, same_cell, home_at, out_at}
use Rattle.rcv_super.proofs.Leaving.{with_recover, keeps_there}

-- an inbox that went back alone is the end of the same channel
pub still_channel : (post inbox : End) (count : ℕ) → IsChannel post inbox → IsChannel post (received inbox count)
still_channel post inbox count h = record { ring = h.ring; dropped_is = h.dropped_is; rewound_is = h.rewound_is; limit_is = h.limit_is; first = h.first }

module _ (book : BookView) (cells cells' : List CellView) (p : ℕ) (concerned : RoleSet) (kept : List ℕ) (undone : ℕ) (back back' beside : List (Option CellView)) (accepted : IsAcceptedProtocol book.setup.protocol) (legal : IsLegal (rules_of book.setup) book.entries) (may : May (rules_of book.setup) (state_of book) (Recover p concerned kept undone)) (home : AreHome book cells) (split : AreSplit concerned cells back beside) (gone : HaveGoneBack (with_recover book p concerned kept undone) back back') (united : AreSplit concerned cells' back' beside) where
  count : length cells' ≡ roles_of book.setup
  count = sym united.back_count ∙ gone.count ∙ split.back_count ∙ home.out.count

  old_low : (r : ℕ) → r < roles_of book.setup → r < length cells
  old_low r lt = let c = home.out.count in omega (arith, c, lt)

  new_low : (r : ℕ) → r < roles_of book.setup → r < length cells'
  new_low r lt = let c = count in omega (arith, c, lt)

  lacks : (r : ℕ) (d : CellView) → r < roles_of book.setup → has_bit concerned.0 r ≡ false → Lacks back r
  lacks r d lt f = (split.stays r d (old_low r lt) f).0

  stays : (r : ℕ) (d : CellView) → r < roles_of book.setup → has_bit concerned.0 r ≡ false → cell_at cells' r d ≡ cell_at cells r d
  stays r d lt f = same_cell beside r (cell_at cells' r d) (cell_at cells r d) (united.stays r d (new_low r lt) f).1 (split.stays r d (old_low r lt) f).1

  has : (r : ℕ) (d : CellView) → r < roles_of book.setup → has_bit concerned.0 r ≡ true → Has back' r (cell_at cells' r d)
  has r d lt t = (united.goes r d (new_low r lt) t).0

  went : (r : ℕ) (d : CellView) → r < roles_of book.setup → has_bit concerned.0 r ≡ true → IsBack (with_recover book p concerned kept undone) back back' r (cell_at cells r d)
  went r d lt t = gone.each r (cell_at cells r d) (split.goes r d (old_low r lt) t).0

  now : (r : ℕ) (d : CellView) (lt : r < roles_of book.setup) (t : has_bit concerned.0 r ≡ true) → (went r d lt t).cell ≡ cell_at cells' r d
  now r d lt t = same_cell back' r (went r d lt t).cell (cell_at cells' r d) (went r d lt t).has (has r d lt t)

  -- each cell is at home with the Recover
  here : (r : ℕ) (d : CellView) → r < roles_of book.setup → IsHomeAt (with_recover book p concerned kept undone) r (cell_at cells' r d)
  here r d lt = go (cases_Bool (has_bit concerned.0 r))
    where
      go : (has_bit concerned.0 r ≡ true) ⊎ (has_bit concerned.0 r ≡ false) → IsHomeAt (with_recover book p concerned kept undone) r (cell_at cells' r d)
      go (inl t) =
          let b = went r d lt t in
          subst (IsHomeAt (with_recover book p concerned kept undone) r) (now r d lt t) (record {
            setup_is = b.gone.setup_is;
            role_is = b.gone.role_is;
            own = b.gone.own;
            log = b.gone.log ∙ home.logs r d lt;
            settled = b.gone.settled;
            strangers = b.gone.strangers;
          })
      go (inr f) =
          let h = home_at book cells r d home lt in
          subst (IsHomeAt (with_recover book p concerned kept undone) r) (sym (stays r d lt f)) (record {
            setup_is = h.setup_is;
            role_is = h.role_is;
            own = (keeps_there book accepted legal p concerned kept undone r may lt f).own ∙ h.own;
            log = h.log;
            settled = h.settled;
            strangers = h.strangers;
          })

  -- towards a cell that isn't concerned each post is the old one, and each inbox that one with some messages to be received again
  post_is : (s r : ℕ) (d : CellView) (e : End) → s < roles_of book.setup → Lacks back r → end_at (cell_at cells' s d).posts s r e ≡ end_at (cell_at cells s d).posts s r e
  post_is s r d e lt none = go (cases_Bool (has_bit concerned.0 s))
    where
      go : (has_bit concerned.0 s ≡ true) ⊎ (has_bit concerned.0 s ≡ false) → end_at (cell_at cells' s d).posts s r e ≡ end_at (cell_at cells s d).posts s r e
      go (inl t) = ap (λ (c : CellView). end_at c.posts s r e) (sym (now s d lt t)) ∙ ((went s d lt t).alone r none).post e
      go (inr f) = ap (λ (c : CellView). end_at c.posts s r e) (stays s d lt f)

  inbox_is : (r s : ℕ) (d : CellView) (e : End) (lt : r < roles_of book.setup) → has_bit concerned.0 r ≡ true → Lacks back s → (n : ℕ) × (end_at (cell_at cells' r d).inboxes r s e ≡ received (end_at (cell_at cells r d).inboxes r s e) n)
  inbox_is r s d e lt t none = (((went r d lt t).alone s none).count, ap (λ (c : CellView). end_at c.inboxes r s e) (sym (now r d lt t)) ∙ ((went r d lt t).alone s none).inbox e)

  -- what holds of the ends of each channel: it holds where both ends went back, and of the old ends, also where the inbox went back alone
  ends : (P : End → End → Type 0) → ((x y : End) (n : ℕ) → P x y → P x (received y n)) → (s r : ℕ) (d : CellView) (e : End) → s < roles_of book.setup → r < roles_of book.setup → (has_bit concerned.0 s ≡ true → has_bit concerned.0 r ≡ true → P (end_at (cell_at cells' s d).posts s r e) (end_at (cell_at cells' r d).inboxes r s e)) → P (end_at (cell_at cells s d).posts s r e) (end_at (cell_at cells r d).inboxes r s e) → P (end_at (cell_at cells' s d).posts s r e) (end_at (cell_at cells' r d).inboxes r s e)
  ends P alone s r d e ls lr both old = go (cases_Bool (has_bit concerned.0 s)) (cases_Bool (has_bit concerned.0 r))
    where
      go : (has_bit concerned.0 s ≡ true) ⊎ (has_bit concerned.0 s ≡ false) → (has_bit concerned.0 r ≡ true) ⊎ (has_bit concerned.0 r ≡ false) → P (end_at (cell_at cells' s d).posts s r e) (end_at (cell_at cells' r d).inboxes r s e)
      go (inl t) (inl u) = both t u
      go a (inr g) =
          let post = post_is s r d e ls (lacks r d lr g) in
          let inbox : end_at (cell_at cells' r d).inboxes r s e ≡ end_at (cell_at cells r d).inboxes r s e = ap (λ (c : CellView). end_at c.inboxes r s e) (stays r d lr g) in
          subst (λ x. P x (end_at (cell_at cells' r d).inboxes r s e)) (sym post) (subst (λ y. P (end_at (cell_at cells s d).posts s r e) y) (sym inbox) old)
      go (inr f) (inl u) =
          let post : end_at (cell_at cells' s d).posts s r e ≡ end_at (cell_at cells s d).posts s r e = ap (λ (c : CellView). end_at c.posts s r e) (stays s d ls f) in
          let inbox = inbox_is r s d e lr u (lacks s d ls f) in
          subst (λ x. P x (end_at (cell_at cells' r d).inboxes r s e)) (sym post) (subst (λ y. P (end_at (cell_at cells s d).posts s r e) y) (sym inbox.1) (alone (end_at (cell_at cells s d).posts s r e) (end_at (cell_at cells r d).inboxes r s e) inbox.0 old))

  -- two that went back, by their roles
  named : (P : End → End → Type 0) (s r : ℕ) (d : CellView) (e : End) → s < roles_of book.setup → r < roles_of book.setup → P (end_at (cell_at cells' s d).posts (cell_at cells' s d).part.role (cell_at cells' r d).part.role e) (end_at (cell_at cells' r d).inboxes (cell_at cells' r d).part.role (cell_at cells' s d).part.role e) → P (end_at (cell_at cells' s d).posts s r e) (end_at (cell_at cells' r d).inboxes r s e)
  named P s r d e ls lr h = subst (λ (z : ℕ × ℕ). P (end_at (cell_at cells' s d).posts z.0 z.1 e) (end_at (cell_at cells' r d).inboxes z.1 z.0 e)) (λ i. ((here s d ls).role_is i, (here r d lr).role_is i)) h

  joined : AreJoined (roles_of book.setup) cells'
  joined s r d e ls lr n = ends IsChannel still_channel s r d e ls lr
      (λ t u. named IsChannel s r d e ls lr (gone.joined s r (cell_at cells' s d) (cell_at cells' r d) (has s d ls t) (has r d lr u) n e))
      (home.out.joined s r d e ls lr n)

  begun : AreBegun (roles_of book.setup) cells'
  begun s r d e ls lr n = ends (λ (x y : End). Begins y.list x.list) (λ x y k h. h) s r d e ls lr
      (λ t u. named (λ (x y : End). Begins y.list x.list) s r d e ls lr (gone.begun s r (cell_at cells' s d) (cell_at cells' r d) e (has s d ls t) (has r d lr u) n))
      (home.begun s r d e ls lr n)

  pub come_back : AreHome (with_recover book p concerned kept undone) cells'
  come_back = record {
    out = record {
      count = count;
      each = λ r d lt. out_at (with_recover book p concerned kept undone) r (cell_at cells' r d) (here r d lt);
      joined = joined;
    };
    begun = begun;
    logs = λ r d lt. (here r d lt).log;
  }

-- the same by the entry that a recovery made
pub come_back_by : (book : BookView) (cells cells' : List CellView) (p : ℕ) (e : Entry) (back back' beside : List (Option CellView)) → IsAcceptedProtocol book.setup.protocol → IsLegal (rules_of book.setup) book.entries → IsRecoveryOf book p e → AreHome book cells → AreSplit (concerned_of e) cells back beside → HaveGoneBack (with_entry book e) back back' → AreSplit (concerned_of e) cells' back' beside → AreHome (with_entry book e) cells'
come_back_by book cells cells' p (Send e) back back' beside accepted legal is home split gone united = absurd is
come_back_by book cells cells' p (Recv e) back back' beside accepted legal is home split gone united = absurd is
come_back_by book cells cells' p (Crash q) back back' beside accepted legal is home split gone united = absurd is
come_back_by book cells cells' p (Recover q concerned kept undone) back back' beside accepted legal is home split gone united = come_back book cells cells' q concerned kept undone back back' beside accepted legal is.1 home split gone united

-- cells at home are few, and the concerned ones of them can be put back where they were
pub few_cells : (book : BookView) (cells : List CellView) → IsAcceptedProtocol book.setup.protocol → AreHome book cells → length cells ≤ 8
few_cells book cells accepted home = let few = accepted.form.few_roles in let c = home.out.count in omega (arith, few, c)

-- each place of a half that has a cell, put over the cells
abbrev mixed : List (Option CellView) → List CellView → List CellView
mixed [] cells = cells
mixed (o ∷ half) [] = []
mixed (Some x ∷ half) (c ∷ cells) = x ∷ mixed half cells
mixed (None ∷ half) (c ∷ cells) = c ∷ mixed half cells

as_long : (half : List (Option CellView)) (cells : List CellView) → length (mixed half cells) ≡ length cells
as_long [] cells = refl
as_long (o ∷ half) [] = refl
as_long (Some x ∷ half) (c ∷ cells) = ap suc (as_long half cells)
as_long (None ∷ half) (c ∷ cells) = ap suc (as_long half cells)

put_over : (half : List (Option CellView)) (cells : List CellView) (r : ℕ) (x d : CellView) → Has half r x → r < length cells → cell_at (mixed half cells) r d ≡ x
put_over [] cells r x d has lt = absurd (cc)
put_over (o ∷ half) [] r x d has lt = absurd (omega (arith, lt))
put_over (Some y ∷ half) (c ∷ cells) zero x d has lt = some_same (some_same has)
put_over (None ∷ half) (c ∷ cells) zero x d has lt = absurd (cc)
put_over (Some y ∷ half) (c ∷ cells) (suc r) x d has lt = put_over half cells r x d has (omega (arith, lt))
put_over (None ∷ half) (c ∷ cells) (suc r) x d has lt = put_over half cells r x d has (omega (arith, lt))

left_as : (half : List (Option CellView)) (cells : List CellView) (r : ℕ) (d : CellView) → Lacks half r → cell_at (mixed half cells) r d ≡ cell_at cells r d
left_as [] cells r d lacks = refl
left_as (o ∷ half) [] r d lacks = refl
left_as (Some y ∷ half) (c ∷ cells) zero d lacks = absurd (cc)
left_as (None ∷ half) (c ∷ cells) zero d lacks = refl
left_as (Some y ∷ half) (c ∷ cells) (suc r) d lacks = left_as half cells r d lacks
left_as (None ∷ half) (c ∷ cells) (suc r) d lacks = left_as half cells r d lacks

pub can_unite : (book : BookView) (concerned : RoleSet) (cells : List CellView) (back back' beside : List (Option CellView)) → AreSplit concerned cells back beside → HaveGoneBack book back back' → (cells' : List CellView) × AreSplit concerned cells' back' beside
can_unite book concerned cells back back' beside split gone = (
  mixed back' cells,
  record {
    back_count = gone.count ∙ split.back_count ∙ sym (as_long back' cells);
    beside_count = split.beside_count ∙ sym (as_long back' cells);
    goes = λ r d lt t.
        let low = within r lt in
        let b = gone.each r (cell_at cells r d) (split.goes r d low t).0 in
        (subst (Has back' r) (sym (put_over back' cells r b.cell d b.has low)) b.has, (split.goes r d low t).1);
    stays = λ r d lt f.
        let low = within r lt in
        let none = gone.empty r (split.stays r d low f).0 in
        (none, subst (Has beside r) (sym (left_as back' cells r d none)) (split.stays r d low f).1);
  },
)
  where
    within : (r : ℕ) → r < length (mixed back' cells) → r < length cells
    within r lt = let l = as_long back' cells in omega (arith, l, lt)
