-- Going over the entries: the Sends of each role so far, and the arrows so far.
use Rattle.std.proofs.Common.{◌≡◌, ℕ, zero, suc, ◌+◌, ◌-◌, ◌<◌, ◌≤◌, Some, List, [], ◌∷◌, ◌++◌, length, replicate, refl, sym, ◌∙◌, ap, subst, inl, ⊎_elim, arith, length-append}
use Rattle.std.specs.Prelude.{slice_get, slice_index_or, slice_set}
use Rattle.std.specs.List.Sorted.{IsNonDecreasingBy}
use Rattle.std.proofs.lemmas.Bool.{cases_eq, cases_lt}
use Rattle.std.proofs.lemmas.List.{length-set, get_or-set_same, get_or-set_other, length-replicate}
use Rattle.std.proofs.lemmas.List.Sorted.{IsNonDecreasingBy-short, IsNonDecreasingBy-push}
use Rattle.std.proofs.lemmas.Option.{slice_get_within, slice_get-get_or, slice_get_read}
use Rattle.rcv_tree.specs.declared.event.Event.{Event}
use Rattle.rcv_tree.specs.declared.entry.Entry.{Entry}
use Rattle.rcv_tree.specs.declared.entry.Entry.TheVariants.{Send, Recv}
use Rattle.rcv_model.specs.Net.{Net}
use Rattle.rcv_model.proofs.Lists.{some_same}
use Rattle.rcv_session.specs.Session.{SessionView, roles_of, net_for}
use Rattle.rcv_journal.specs.JournalText.{IsNamedEvent}
use Rattle.rcv_ledger.proofs.Lists.{get_left, get_end, get_more}
use Rattle.rcv_fates.specs.declared.arrow.Arrow.{Arrow}
use Rattle.rcv_fates.specs.declared.sends.Sent.{Sent}
use Rattle.rcv_fates.specs.Fates.{IsMessage, AreArrows, arrow}
use Rattle.rcv_fates.specs.Laws.{HasOneSend}
use Rattle.rcv_fates.specs.Record.{IsSound}
use Rattle.rcv_fates.specs.Sends.{sends_at, with_sent, HasNoStamp, HasSent}
use Rattle.rcv_fates.proofs.Messages.{one_got}
use Rattle.rcv_fates.proofs.Searching.{sent_of}

-- a Send of role r stands where this says
abbrev pub IsSendOf : List Entry → ℕ → Sent → Type 0
IsSendOf entries r x = (e : Event) × (slice_get entries x.place ≡ Some (Send e)) × (e.role ≡ r) × (e.stamp ≡ x.stamp)

-- the Sends of role r before place k
pub record AreSends (entries : List Entry) (r k : ℕ) (sends : List Sent) : Type 0 where
  pub stand : (i : ℕ) (x : Sent) → slice_get sends i ≡ Some x → (x.place < k) × IsSendOf entries r x
  pub all : (s : ℕ) (e : Event) → s < k → slice_get entries s ≡ Some (Send e) → e.role ≡ r → (i : ℕ) × (slice_get sends i ≡ Some (sent_of e.stamp s))
  pub rise : IsNonDecreasingBy (λ (x : Sent). x.stamp) sends

none_yet : (entries : List Entry) (r : ℕ) (sends : List Sent) → sends ≡ [] → AreSends entries r 0 sends
none_yet entries r sends none = subst (AreSends entries r 0) (sym none) (record { stand = λ i x at. absurd (cc); all = λ s e lt at role. absurd (omega (arith, lt)); rise = IsNonDecreasingBy-short (λ (x : Sent). x.stamp) [] (omega arith) })

next_other : (entries : List Entry) (r k : ℕ) (sends : List Sent) → AreSends entries r k sends → ((e : Event) → slice_get entries k ≡ Some (Send e) → e.role ≡ r → ⊥) → AreSends entries r (k + 1) sends
next_other entries r k sends are other = record {
  stand = λ i x at. (let a = (are.stand i x at).0 in omega (arith, a), (are.stand i x at).1);
  all = λ s e lt at role. ⊎_elim
      (λ low. are.all s e low at role)
      (λ le. absurd (let same : s ≡ k = omega (arith, le, lt) in other e (subst (λ q. slice_get entries q ≡ Some (Send e)) same at) role))
      (cases_lt s k);
  rise = are.rise;
}

one_sent : (entries : List Entry) (k : ℕ) (d e : Event) → slice_get entries k ≡ Some (Send d) → slice_get entries k ≡ Some (Send e) → d ≡ e
one_sent entries k d e f g = let h : Send d ≡ Send e = some_same (sym f ∙ g) in cc

next_own : (setup : SessionView) (entries : List Entry) (k : ℕ) (sends : List Sent) (e : Event) → IsSound setup entries → AreSends entries e.role k sends → slice_get entries k ≡ Some (Send e) → AreSends entries e.role (k + 1) (sends ++ sent_of e.stamp k ∷ [])
next_own setup entries k sends e sound are here = record {
  stand = λ i x at. ⊎_elim
      (λ old. (let a = (are.stand i x old).0 in omega (arith, a), (are.stand i x old).1))
      (λ new. subst (λ (y : Sent). (y.place < k + 1) × IsSendOf entries e.role y) new (omega arith, (e, here, refl, refl)))
      (get_more sends (sent_of e.stamp k) x i at);
  all = λ s d lt at role. ⊎_elim
      (λ low. let old = are.all s d low at role in (old.0, get_left sends (sent_of e.stamp k ∷ []) old.0 (slice_get_within sends old.0 (sent_of d.stamp s) old.1) ∙ old.1))
      (λ le.
      let same : s ≡ k = omega (arith, le, lt) in
      let f : d ≡ e = one_sent entries k d e (subst (λ q. slice_get entries q ≡ Some (Send d)) same at) here in
      (length sends, get_end sends (sent_of e.stamp k) ∙ ap (λ (z : Event). Some (sent_of z.stamp k)) (sym f) ∙ ap (λ q. Some (sent_of d.stamp q)) (sym same)))
      (cases_lt s k);
  rise = IsNonDecreasingBy-push (λ (x : Sent). x.stamp) sends (sent_of e.stamp k) are.rise (λ d some.
      let last = are.stand (length sends - 1) (slice_index_or sends (length sends - 1) d) (slice_get-get_or sends (length sends - 1) d (omega (arith, some))) in
      let a = sound.grow (slice_index_or sends (length sends - 1) d).place k last.1.0 e last.0 (inl last.1.1) (inl here) last.1.2 in
      let b = last.1.3 in
      omega (arith, a, b));
}

-- the Sends of each role
pub record AllSends (roles : ℕ) (entries : List Entry) (k : ℕ) (lists : List (List Sent)) : Type 0 where
  pub count : length lists ≡ roles
  pub each : (r : ℕ) → r < roles → AreSends entries r k (sends_at lists r)

bare_at : (n r : ℕ) → sends_at (replicate n []) r ≡ []
bare_at zero r = refl
bare_at (suc n) zero = refl
bare_at (suc n) (suc r) = bare_at n r

pub all_none : (roles : ℕ) (entries : List Entry) (lists : List (List Sent)) → lists ≡ replicate roles [] → AllSends roles entries 0 lists
all_none roles entries lists bare = record {
  count = ap length bare ∙ length-replicate roles [];
  each = λ r lt. none_yet entries r (sends_at lists r) (ap (λ l. sends_at l r) bare ∙ bare_at roles r);
}

pub all_other : (roles : ℕ) (entries : List Entry) (k : ℕ) (lists : List (List Sent)) → AllSends roles entries k lists → ((e : Event) → slice_get entries k ≡ Some (Send e) → ⊥) → AllSends roles entries (k + 1) lists
all_other roles entries k lists are other = record { count = are.count; each = λ r lt. next_other entries r k (sends_at lists r) (are.each r lt) (λ e at role. other e at) }

pub all_own : (setup : SessionView) (entries : List Entry) (k : ℕ) (lists more : List (List Sent)) (e : Event) → IsSound setup entries → AllSends (roles_of setup) entries k lists → slice_get entries k ≡ Some (Send e) → e.role < roles_of setup → more ≡ with_sent lists e.role (sent_of e.stamp k) → AllSends (roles_of setup) entries (k + 1) more
all_own setup entries k lists more e sound are here declared added = subst (AllSends (roles_of setup) entries (k + 1)) (sym added) (record {
  count = length-set lists e.role new ∙ are.count;
  each = λ r lt. ⊎_elim
      (λ same. subst (λ q. AreSends entries q (k + 1) (sends_at (slice_set lists e.role new) q)) (sym same) (subst (AreSends entries e.role (k + 1)) (sym (get_or-set_same lists e.role new [] (let a = are.count in omega (arith, a, declared)))) (next_own setup entries k (sends_at lists e.role) e sound (are.each e.role declared) here)))
      (λ n. subst (AreSends entries r (k + 1)) (sym (get_or-set_other lists e.role r new [] n)) (next_other entries r k (sends_at lists r) (are.each r lt) (λ d at role. n (sym role ∙ ap (λ (z : Event). z.role) (one_sent entries k d e at here)))))
      (cases_eq r e.role);
})
  where
    new : List Sent
    new = sends_at lists e.role ++ sent_of e.stamp k ∷ []

-- the messages whose Recvs stand before place k
pub record AreArrowsTo (net : Net) (entries : List Entry) (k : ℕ) (arrows : List Arrow) : Type 0 where
  pub sound : (i : ℕ) (a : Arrow) → slice_get arrows i ≡ Some a → (a.receive < k) × IsMessage net entries a.send a.receive
  pub complete : (s t : ℕ) → t < k → IsMessage net entries s t → (i : ℕ) × (slice_get arrows i ≡ Some (arrow s t))
  pub ascending : (i j : ℕ) (a b : Arrow) → i < j → slice_get arrows i ≡ Some a → slice_get arrows j ≡ Some b → a.receive < b.receive

pub no_arrows : (net : Net) (entries : List Entry) (arrows : List Arrow) → arrows ≡ [] → AreArrowsTo net entries 0 arrows
no_arrows net entries arrows none = subst (AreArrowsTo net entries 0) (sym none) (record { sound = λ i a at. absurd (cc); complete = λ s t lt m. absurd (omega (arith, lt)); ascending = λ i j a b lt f g. absurd (cc) })

pub arrows_other : (net : Net) (entries : List Entry) (k : ℕ) (arrows : List Arrow) → AreArrowsTo net entries k arrows → ((e : Event) → slice_get entries k ≡ Some (Recv e) → ⊥) → AreArrowsTo net entries (k + 1) arrows
arrows_other net entries k arrows are other = record {
  sound = λ i a at. (let b = (are.sound i a at).0 in omega (arith, b), (are.sound i a at).1);
  complete = λ s t lt m. ⊎_elim
      (λ low. are.complete s t low m)
      (λ le. absurd (let same : t ≡ k = omega (arith, le, lt) in other m.got (subst (λ q. slice_get entries q ≡ Some (Recv m.got)) same m.recv_at)))
      (cases_lt t k);
  ascending = are.ascending;
}

length_more : {A : Type 0} (xs : List A) (x : A) → length (xs ++ x ∷ []) ≡ length xs + 1
length_more xs x = let a = length-append xs (x ∷ []) in omega (arith, a)

pub arrows_own : (net : Net) (entries : List Entry) (k s : ℕ) (arrows : List Arrow) → AreArrowsTo net entries k arrows → IsMessage net entries s k → ((other : ℕ) → IsMessage net entries other k → other ≡ s) → AreArrowsTo net entries (k + 1) (arrows ++ arrow s k ∷ [])
arrows_own net entries k s arrows are message only = record {
  sound = λ i a at. ⊎_elim
      (λ old. (let b = (are.sound i a old).0 in omega (arith, b), (are.sound i a old).1))
      (λ new. subst (λ (b : Arrow). (b.receive < k + 1) × IsMessage net entries b.send b.receive) new (omega arith, message))
      (get_more arrows (arrow s k) a i at);
  complete = λ p t lt m. ⊎_elim
      (λ low. let old = are.complete p t low m in (old.0, get_left arrows (arrow s k ∷ []) old.0 (slice_get_within arrows old.0 (arrow p t) old.1) ∙ old.1))
      (λ le.
      let same : t ≡ k = omega (arith, le, lt) in
      let first : p ≡ s = only p (subst (IsMessage net entries p) same m) in
      (length arrows, get_end arrows (arrow s k) ∙ ap (λ q. Some (arrow q k)) (sym first) ∙ ap (λ q. Some (arrow p q)) (sym same)))
      (cases_lt t k);
  ascending = λ i j a b lt f g. ⊎_elim
      (λ old. are.ascending i j a b lt (within i j a b lt f old) old)
      (λ new.
      let low = (are.sound i a (first i j a b lt f g)).0 in
      subst (λ (c : Arrow). a.receive < c.receive) new low)
      (get_more arrows (arrow s k) b j g);
}
  where
    inner : (i j : ℕ) (a b : Arrow) → i < j → j < length arrows + 1 → slice_get (arrows ++ arrow s k ∷ []) i ≡ Some a → slice_get arrows i ≡ Some a
    inner i j a b lt low f = sym (get_left arrows (arrow s k ∷ []) i (omega (arith, lt, low))) ∙ f

    within : (i j : ℕ) (a b : Arrow) → i < j → slice_get (arrows ++ arrow s k ∷ []) i ≡ Some a → slice_get arrows j ≡ Some b → slice_get arrows i ≡ Some a
    within i j a b lt f old = inner i j a b lt (let c = slice_get_within arrows j b old in omega (arith, c)) f

    first : (i j : ℕ) (a b : Arrow) → i < j → slice_get (arrows ++ arrow s k ∷ []) i ≡ Some a → slice_get (arrows ++ arrow s k ∷ []) j ≡ Some b → slice_get arrows i ≡ Some a
    first i j a b lt f g = inner i j a b lt (let c = slice_get_within (arrows ++ arrow s k ∷ []) j b g in let d = length_more arrows (arrow s k) in omega (arith, c, d)) f

-- a Recv at place k: its Send is found, and is its one Send
module _ (setup : SessionView) (entries : List Entry) (sound : IsSound setup entries) (k : ℕ) (got : Event) (here : slice_get entries k ≡ Some (Recv got)) where
  one : HasOneSend (net_for setup) entries k got
  one = sound.sent k got here

  same_got : one.message.got ≡ got
  same_got = one_got entries k one.message.got got one.message.recv_at here

  by_sender : one.message.sent.role ≡ (net_for setup).sender got.point
  by_sender = one.message.sender ∙ ap (λ (e : Event). (net_for setup).sender e.point) same_got

  pub sender_declared : (net_for setup).sender got.point < roles_of setup
  sender_declared =
      subst (λ r. r < roles_of setup) by_sender (sound.named one.s (Send one.message.sent) one.message.send_at).0.role

  module _ (lists : List (List Sent)) (are : AllSends (roles_of setup) entries k lists) where
    list : AreSends entries ((net_for setup).sender got.point) k (sends_at lists ((net_for setup).sender got.point))
    list = are.each ((net_for setup).sender got.point) sender_declared

    pub rises : IsNonDecreasingBy (λ (x : Sent). x.stamp) (sends_at lists ((net_for setup).sender got.point))
    rises = list.rise

    pub is_there : HasNoStamp (sends_at lists ((net_for setup).sender got.point)) got.sent → ⊥
    is_there none =
        let at = list.all one.s one.message.sent one.before one.message.send_at by_sender in
        none at.0 (sent_of one.message.sent.stamp one.s) at.1 (one.message.stamp ∙ ap (λ (e : Event). e.sent) same_got)

    is_message : (place : ℕ) → HasSent (sends_at lists ((net_for setup).sender got.point)) got.sent place → IsMessage (net_for setup) entries place k
    is_message place has =
        let at = list.stand has.0 (sent_of got.sent place) has.1 in
        record { sent = at.1.0; got = got; send_at = at.1.1; recv_at = here; sender = at.1.2; stamp = at.1.3 }

    pub arrow_more : (place : ℕ) (arrows more : List Arrow) → HasSent (sends_at lists ((net_for setup).sender got.point)) got.sent place → AreArrowsTo (net_for setup) entries k arrows → more ≡ arrows ++ arrow place k ∷ [] → AreArrowsTo (net_for setup) entries (k + 1) more
    arrow_more place arrows more has so_far added =
        let m = is_message place has in
        subst (AreArrowsTo (net_for setup) entries (k + 1)) (sym added) (arrows_own (net_for setup) entries k place arrows so_far m (λ other o. one.only other o ∙ sym (one.only place m)))

-- at the end
pub all_arrows : (net : Net) (entries : List Entry) (k : ℕ) (arrows : List Arrow) → length entries ≤ k → AreArrowsTo net entries k arrows → AreArrows net entries arrows
all_arrows net entries k arrows over are = record {
  sound = λ i a at. (are.sound i a at).1;
  complete = λ s t m. are.complete s t (let a = slice_get_within entries t (Recv m.got) m.recv_at in omega (arith, a, over)) m;
  ascending = are.ascending;
}

pub send_declared : (setup : SessionView) (entries : List Entry) (k : ℕ) (e : Event) → IsSound setup entries → slice_get entries k ≡ Some (Send e) → e.role < roles_of setup
send_declared setup entries k e sound here = (sound.named k (Send e) here).0.role

-- the entry that the loop is at
pub entry_here : (entries items : List Entry) (k : ℕ) (x y : Entry) → items ≡ entries → k < length items → x ≡ slice_index_or items k x → x ≡ y → slice_get entries k ≡ Some y
entry_here entries items k x y value lt is same = ap (λ l. slice_get l k) (sym value) ∙ slice_get_read items (length items) k x refl lt is ∙ ap Some same

-- what the loop keeps
abbrev pub IsJoined : SessionView → List Entry → ℕ → List (List Sent) → List Arrow → Type 0
IsJoined setup entries k lists arrows = AllSends (roles_of setup) entries k lists × AreArrowsTo (net_for setup) entries k arrows

-- behind a Send, behind a Recv, and behind another entry
pub behind_send : (setup : SessionView) (entries : List Entry) (k : ℕ) (lists more : List (List Sent)) (arrows others : List Arrow) (e : Event) → IsSound setup entries → IsJoined setup entries k lists arrows → slice_get entries k ≡ Some (Send e) → more ≡ with_sent lists e.role (sent_of e.stamp k) → others ≡ arrows → IsJoined setup entries (k + 1) more others
behind_send setup entries k lists more arrows others e sound joined here added same = (
  all_own setup entries k lists more e sound joined.0 here (send_declared setup entries k e sound here) added,
  subst (AreArrowsTo (net_for setup) entries (k + 1)) (sym same) (arrows_other (net_for setup) entries k arrows joined.1 (λ d at. let f : Send e ≡ Recv d = some_same (sym here ∙ at) in cc)),
)

pub behind_recv : (setup : SessionView) (entries : List Entry) (k place : ℕ) (lists more : List (List Sent)) (arrows others : List Arrow) (got : Event) → IsSound setup entries → IsJoined setup entries k lists arrows → slice_get entries k ≡ Some (Recv got) → HasSent (sends_at lists ((net_for setup).sender got.point)) got.sent place → more ≡ lists → others ≡ arrows ++ arrow place k ∷ [] → IsJoined setup entries (k + 1) more others
behind_recv setup entries k place lists more arrows others got sound joined here has same added = (
  subst (AllSends (roles_of setup) entries (k + 1)) (sym same) (all_other (roles_of setup) entries k lists joined.0 (λ d at. let f : Recv got ≡ Send d = some_same (sym here ∙ at) in cc)),
  arrow_more setup entries sound k got here lists joined.0 place arrows others has joined.1 added,
)

pub behind_other : (setup : SessionView) (entries : List Entry) (k : ℕ) (lists more : List (List Sent)) (arrows others : List Arrow) (x : Entry) → IsJoined setup entries k lists arrows → slice_get entries k ≡ Some x → ((e : Event) → x ≡ Send e → ⊥) → ((e : Event) → x ≡ Recv e → ⊥) → more ≡ lists → others ≡ arrows → IsJoined setup entries (k + 1) more others
behind_other setup entries k lists more arrows others x joined here no_send no_recv same unchanged = (
  subst (AllSends (roles_of setup) entries (k + 1)) (sym same) (all_other (roles_of setup) entries k lists joined.0 (λ d at. no_send d (some_same (sym here ∙ at)))),
  subst (AreArrowsTo (net_for setup) entries (k + 1)) (sym unchanged) (arrows_other (net_for setup) entries k arrows joined.1 (λ d at. no_recv d (some_same (sym here ∙ at)))),
)

-- what the calls ask for
pub recv_point : (setup : SessionView) (entries : List Entry) (k : ℕ) (got : Event) → IsSound setup entries → slice_get entries k ≡ Some (Recv got) → IsNamedEvent setup got
recv_point setup entries k got sound here = (sound.named k (Recv got) here).0
