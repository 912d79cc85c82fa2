-- Going over the arrows: the Send of each Recv, what is received again, and which Sends share their fate with a Recv.
use Rattle.std.proofs.Common.{◌≡◌, ℕ, ◌+◌, ◌<◌, ◌≤◌, Bool, true, false, Option, Some, None, List, length, replicate, refl, sym, ◌∙◌, ap, subst, ⊎_elim, arith}
use Rattle.std.specs.Prelude.{slice_get, slice_index_or, slice_set, MatchOption}
use Rattle.std.proofs.lemmas.Bool.{cases_eq, cases_lt, cases_order}
use Rattle.std.proofs.lemmas.List.{length-set, length-replicate}
use Rattle.std.proofs.lemmas.Option.{slice_get_within, slice_get-get_or}
use Rattle.rcv_tree.specs.declared.entry.Entry.{Entry}
use Rattle.rcv_tree.specs.declared.entry.Entry.TheVariants.{Send, Recv}
use Rattle.rcv_model.specs.Net.{Net}
use Rattle.rcv_model.proofs.Lists.{some_same}
use Rattle.rcv_ledger.proofs.Lists.{none_there}
use Rattle.rcv_fates.specs.declared.arrow.Arrow.{Arrow}
use Rattle.rcv_fates.specs.Fates.{IsMessage, AreArrows, arrow}
use Rattle.rcv_story.specs.Messages.{IsAgain, AreSendsOf, AreAgain}
use Rattle.rcv_story.specs.Stacks.{IsMet, AreMet}
use Rattle.rcv_story.proofs.Marking.{set_here, set_other, filled_with}

pub record HasSends (net : Net) (entries : List Entry) (arrows : List Arrow) (k : ℕ) (sends : List (Option ℕ)) : Type 0 where
  pub size : length sends ≡ length entries
  pub sound : (t s : ℕ) → slice_get sends t ≡ Some (Some s) → IsMessage net entries s t
  pub complete : (i : ℕ) (a : Arrow) → i < k → slice_get arrows i ≡ Some a → slice_get sends a.receive ≡ Some (Some a.send)

pub record HasReceived (entries : List Entry) (arrows : List Arrow) (k : ℕ) (received : List Bool) : Type 0 where
  pub size : length received ≡ length entries
  pub sound : (s : ℕ) → slice_get received s ≡ Some true → (i : ℕ) × (a : Arrow) × (i < k) × (slice_get arrows i ≡ Some a) × (a.send ≡ s)
  pub complete : (i : ℕ) (a : Arrow) → i < k → slice_get arrows i ≡ Some a → slice_get received a.send ≡ Some true

pub record HasAgain (net : Net) (entries : List Entry) (arrows : List Arrow) (k : ℕ) (again : List Bool) : Type 0 where
  pub size : length again ≡ length entries
  pub sound : (t : ℕ) → slice_get again t ≡ Some true → IsAgain net entries t
  pub complete : (i j : ℕ) (a b : Arrow) → i < j → j < k → slice_get arrows i ≡ Some a → slice_get arrows j ≡ Some b → a.send ≡ b.send → slice_get again b.receive ≡ Some true

pub record HasMet (net : Net) (entries : List Entry) (arrows : List Arrow) (undone : List (Option ℕ)) (k : ℕ) (met : List Bool) : Type 0 where
  pub size : length met ≡ length entries
  pub sound : (s : ℕ) → slice_get met s ≡ Some true → IsMet net entries undone s
  pub complete : (i : ℕ) (a : Arrow) → i < k → slice_get arrows i ≡ Some a → slice_get undone a.receive ≡ slice_get undone a.send → slice_get met a.send ≡ Some true

-- both ends of an arrow are entries
module _ (net : Net) (entries : List Entry) (s t : ℕ) (m : IsMessage net entries s t) where
  pub send_within : s < length entries
  send_within = slice_get_within entries s (Send m.sent) m.send_at

  pub recv_within : t < length entries
  recv_within = slice_get_within entries t (Recv m.got) m.recv_at

same_arrow : (arrows : List Arrow) (k : ℕ) (a b : Arrow) → slice_get arrows k ≡ Some a → slice_get arrows k ≡ Some b → a ≡ b
same_arrow arrows k a b f g = some_same (sym f ∙ g)

-- before the first arrow nothing is marked
pub sends_start : (net : Net) (entries : List Entry) (arrows : List Arrow) (n : ℕ) (sends : List (Option ℕ)) → n ≡ length entries → sends ≡ replicate n None → HasSends net entries arrows 0 sends
sends_start net entries arrows n sends all bare = subst (HasSends net entries arrows 0) (sym bare) (record {
  size = length-replicate n None ∙ all;
  sound = λ t s at. let f : (let o : Option ℕ = None in o) ≡ Some s = filled_with n t None (Some s) at in absurd (cc);
  complete = λ i a lt at. absurd (omega (arith, lt));
})

no_mark : (n t : ℕ) → slice_get (replicate n false) t ≡ Some true → ⊥
no_mark n t at = let f : false ≡ true = filled_with n t false true at in cc

pub received_start : (entries : List Entry) (arrows : List Arrow) (n : ℕ) (received : List Bool) → n ≡ length entries → received ≡ replicate n false → HasReceived entries arrows 0 received
received_start entries arrows n received all bare = subst (HasReceived entries arrows 0) (sym bare) (record {
  size = length-replicate n false ∙ all;
  sound = λ s at. absurd (no_mark n s at);
  complete = λ i a lt at. absurd (omega (arith, lt));
})

pub again_start : (net : Net) (entries : List Entry) (arrows : List Arrow) (n : ℕ) (again : List Bool) → n ≡ length entries → again ≡ replicate n false → HasAgain net entries arrows 0 again
again_start net entries arrows n again all bare = subst (HasAgain net entries arrows 0) (sym bare) (record {
  size = length-replicate n false ∙ all;
  sound = λ t at. absurd (no_mark n t at);
  complete = λ i j a b lt low f g same. absurd (omega (arith, low));
})

pub met_start : (net : Net) (entries : List Entry) (arrows : List Arrow) (undone : List (Option ℕ)) (n : ℕ) (met : List Bool) → n ≡ length entries → met ≡ replicate n false → HasMet net entries arrows undone 0 met
met_start net entries arrows undone n met all bare = subst (HasMet net entries arrows undone 0) (sym bare) (record {
  size = length-replicate n false ∙ all;
  sound = λ s at. absurd (no_mark n s at);
  complete = λ i a lt at same. absurd (omega (arith, lt));
})

module _ (net : Net) (entries : List Entry) (arrows : List Arrow) (are : AreArrows net entries arrows) (k : ℕ) (a : Arrow) (at : slice_get arrows k ≡ Some a) where
  message : IsMessage net entries a.send a.receive
  message = are.sound k a at

  earlier : (i : ℕ) (b : Arrow) → i < k → slice_get arrows i ≡ Some b → b.receive ≡ a.receive → ⊥
  earlier i b lt f same = let c = are.ascending i k b a lt f at in omega (arith, c, same)

  pub sends_next : (sends : List (Option ℕ)) → HasSends net entries arrows k sends → HasSends net entries arrows (k + 1) (slice_set sends a.receive (Some a.send))
  sends_next sends has = record {
    size = length-set sends a.receive (Some a.send) ∙ has.size;
    sound = λ t s there. ⊎_elim
        (λ (same : t ≡ a.receive).
        let f : Some a.send ≡ Some s = some_same (sym here ∙ subst (λ (m : ℕ). slice_get (slice_set sends a.receive (Some a.send)) m ≡ Some (Some s)) same there) in
        subst (λ (m : ℕ). IsMessage net entries s m) (sym same) (subst (λ (m : ℕ). IsMessage net entries m a.receive) (some_same f) message))
        (λ (ne : t ≡ a.receive → ⊥). has.sound t s (sym (set_other sends a.receive t (Some a.send) ne) ∙ there))
        (cases_eq t a.receive);
    complete = λ i b lt f. ⊎_elim
        (λ low. set_other sends a.receive b.receive (Some a.send) (earlier i b low f) ∙ has.complete i b low f)
        (λ le. let same : i ≡ k = omega (arith, le, lt) in subst (λ (c : Arrow). slice_get (slice_set sends a.receive (Some a.send)) c.receive ≡ Some (Some c.send)) (same_arrow arrows k a b at (subst (λ (m : ℕ). slice_get arrows m ≡ Some b) same f)) here)
        (cases_lt i k);
  }
    where
      here : slice_get (slice_set sends a.receive (Some a.send)) a.receive ≡ Some (Some a.send)
      here = set_here sends a.receive (Some a.send) (let b = has.size in let c = recv_within net entries a.send a.receive message in omega (arith, b, c))

  pub received_next : (received : List Bool) → HasReceived entries arrows k received → HasReceived entries arrows (k + 1) (slice_set received a.send true)
  received_next received has = record {
    size = length-set received a.send true ∙ has.size;
    sound = λ s there. ⊎_elim
        (λ (same : s ≡ a.send). (k, a, omega arith, at, sym same))
        (λ (ne : s ≡ a.send → ⊥). let h = has.sound s (sym (set_other received a.send s true ne) ∙ there) in (h.0, h.1, (let b = h.2 in omega (arith, b)), h.3, h.4))
        (cases_eq s a.send);
    complete = λ i b lt f. ⊎_elim
        (λ (same : b.send ≡ a.send). subst (λ (m : ℕ). slice_get (slice_set received a.send true) m ≡ Some true) (sym same) here)
        (λ (ne : b.send ≡ a.send → ⊥). set_other received a.send b.send true ne ∙ has.complete i b (⊎_elim (λ low. low) (λ le. absurd (let same : i ≡ k = omega (arith, le, lt) in ne (ap (λ (c : Arrow). c.send) (sym (same_arrow arrows k a b at (subst (λ (m : ℕ). slice_get arrows m ≡ Some b) same f)))))) (cases_lt i k)) f)
        (cases_eq b.send a.send);
  }
    where
      here : slice_get (slice_set received a.send true) a.send ≡ Some true
      here = set_here received a.send true (let b = has.size in let c = send_within net entries a.send a.receive message in omega (arith, b, c))

  pub again_next : (again received : List Bool) (v : Bool) → HasAgain net entries arrows k again → HasReceived entries arrows k received → slice_get received a.send ≡ Some v → HasAgain net entries arrows (k + 1) (slice_set again a.receive v)
  again_next again received v has got is = record {
    size = length-set again a.receive v ∙ has.size;
    sound = λ t there. ⊎_elim
        (λ (same : t ≡ a.receive).
        let f : v ≡ true = some_same (sym here ∙ subst (λ (m : ℕ). slice_get (slice_set again a.receive v) m ≡ Some true) same there) in
        subst (IsAgain net entries) (sym same) (first (got.sound a.send (is ∙ ap Some f))))
        (λ (ne : t ≡ a.receive → ⊥). has.sound t (sym (set_other again a.receive t v ne) ∙ there))
        (cases_eq t a.receive);
    complete = λ i j b c lt low f g same. ⊎_elim
        (λ low. set_other again a.receive c.receive v (earlier j c low g) ∙ has.complete i j b c lt low f g same)
        (λ le.
        let last : j ≡ k = omega (arith, le, low) in
        let e = same_arrow arrows k a c at (subst (λ (m : ℕ). slice_get arrows m ≡ Some c) last g) in
        let old = got.complete i b (omega (arith, lt, last)) f in
        let one : b.send ≡ a.send = same ∙ ap (λ (x : Arrow). x.send) (sym e) in
        let marked : v ≡ true = some_same (sym is ∙ subst (λ (m : ℕ). slice_get received m ≡ Some true) one old) in
        subst (λ (x : Arrow). slice_get (slice_set again a.receive v) x.receive ≡ Some true) e (here ∙ ap Some marked))
        (cases_lt j k);
  }
    where
      here : slice_get (slice_set again a.receive v) a.receive ≡ Some v
      here = set_here again a.receive v (let b = has.size in let c = recv_within net entries a.send a.receive message in omega (arith, b, c))

      first : ((i : ℕ) × (b : Arrow) × (i < k) × (slice_get arrows i ≡ Some b) × (b.send ≡ a.send)) → IsAgain net entries a.receive
      first h = record {
        send = a.send;
        earlier = h.1.receive;
        this = message;
        other = subst (λ (m : ℕ). IsMessage net entries m h.1.receive) h.4 (are.sound h.0 h.1 h.3);
        before = are.ascending h.0 k h.1 a h.2 h.3 at;
      }

  pub met_next : (undone : List (Option ℕ)) (met : List Bool) → HasMet net entries arrows undone k met → slice_get undone a.receive ≡ slice_get undone a.send → HasMet net entries arrows undone (k + 1) (slice_set met a.send true)
  met_next undone met has fate = record {
    size = length-set met a.send true ∙ has.size;
    sound = λ s there. ⊎_elim
        (λ (same : s ≡ a.send). subst (IsMet net entries undone) (sym same) (record { t = a.receive; message = message; same = fate }))
        (λ (ne : s ≡ a.send → ⊥). has.sound s (sym (set_other met a.send s true ne) ∙ there))
        (cases_eq s a.send);
    complete = λ i b lt f fate. ⊎_elim
        (λ (same : b.send ≡ a.send). subst (λ (m : ℕ). slice_get (slice_set met a.send true) m ≡ Some true) (sym same) here)
        (λ (ne : b.send ≡ a.send → ⊥). set_other met a.send b.send true ne ∙ has.complete i b (⊎_elim (λ low. low) (λ le. absurd (let same : i ≡ k = omega (arith, le, lt) in ne (ap (λ (c : Arrow). c.send) (sym (same_arrow arrows k a b at (subst (λ (m : ℕ). slice_get arrows m ≡ Some b) same f)))))) (cases_lt i k)) f fate)
        (cases_eq b.send a.send);
  }
    where
      here : slice_get (slice_set met a.send true) a.send ≡ Some true
      here = set_here met a.send true (let b = has.size in let c = send_within net entries a.send a.receive message in omega (arith, b, c))

  pub met_other : (undone : List (Option ℕ)) (met : List Bool) → HasMet net entries arrows undone k met → (slice_get undone a.receive ≡ slice_get undone a.send → ⊥) → HasMet net entries arrows undone (k + 1) met
  met_other undone met has differ = record {
    size = has.size;
    sound = has.sound;
    complete = λ i b lt f fate. ⊎_elim
        (λ low. has.complete i b low f fate)
        (λ le. absurd (let same : i ≡ k = omega (arith, le, lt) in differ (subst (λ (c : Arrow). slice_get undone c.receive ≡ slice_get undone c.send) (sym (same_arrow arrows k a b at (subst (λ (m : ℕ). slice_get arrows m ≡ Some b) same f))) fate)))
        (cases_lt i k);
  }

-- after the last arrow
module _ (net : Net) (entries : List Entry) (arrows : List Arrow) (are : AreArrows net entries arrows) (k : ℕ) (over : length arrows ≤ k) where
  counted : (i : ℕ) (a : Arrow) → slice_get arrows i ≡ Some a → i < k
  counted i a at = let b = slice_get_within arrows i a at in omega (arith, b, over)

  pub all_sends : (sends : List (Option ℕ)) → HasSends net entries arrows k sends → AreSendsOf net entries sends
  all_sends sends has = record { size = has.size; each = λ t. ⊎_elim (λ lt. inside t (slice_index_or sends t None) refl lt) (λ le. outside t le) (cases_lt t (length sends)) }
    where
      found : (s t : ℕ) → IsMessage net entries s t → slice_get sends t ≡ Some (Some s)
      found s t m = let c = are.complete s t m in has.complete c.0 (arrow s t) (counted c.0 (arrow s t) c.1) c.1

      inside : (t : ℕ) (o : Option ℕ) → slice_index_or sends t None ≡ o → t < length sends → MatchOption (slice_index_or sends t None) ((s : ℕ) → IsMessage net entries s t → ⊥) (λ s. IsMessage net entries s t)
      inside t None is lt = subst (λ o. MatchOption o ((s : ℕ) → IsMessage net entries s t → ⊥) (λ s. IsMessage net entries s t)) (sym is) (λ s m. let f : Some s ≡ None = some_same (sym (found s t m) ∙ (slice_get-get_or sends t None lt ∙ ap Some is)) in cc)
      inside t (Some s) is lt = subst (λ o. MatchOption o ((s : ℕ) → IsMessage net entries s t → ⊥) (λ s. IsMessage net entries s t)) (sym is) (has.sound t s (slice_get-get_or sends t None lt ∙ ap Some is))

      outside : (t : ℕ) → length sends ≤ t → MatchOption (slice_index_or sends t None) ((s : ℕ) → IsMessage net entries s t → ⊥) (λ s. IsMessage net entries s t)
      outside t le = subst (λ o. MatchOption o ((s : ℕ) → IsMessage net entries s t → ⊥) (λ s. IsMessage net entries s t)) (sym (none_there sends t None le)) (λ s m. let a = recv_within net entries s t m in let b = has.size in omega (arith, a, b, le))

  pub all_again : (again : List Bool) → HasAgain net entries arrows k again → AreAgain net entries again
  all_again again has = record {
    size = has.size;
    each = λ t. (
      (λ at. has.sound t at),
      (λ x.
          let i = are.complete x.send x.earlier x.other in
          let j = are.complete x.send t x.this in
          let lt : i.0 < j.0 = ⊎_elim
          (λ (same : i.0 ≡ j.0). absurd (let f = same_arrow arrows j.0 (arrow x.send x.earlier) (arrow x.send t) (subst (λ (m : ℕ). slice_get arrows m ≡ Some (arrow x.send x.earlier)) same i.1) j.1 in let g = ap (λ (a : Arrow). a.receive) f in let b = x.before in omega (arith, g, b)))
          (λ s. ⊎_elim (λ low. low) (λ high. absurd (let a = are.ascending j.0 i.0 (arrow x.send t) (arrow x.send x.earlier) high j.1 i.1 in let b = x.before in omega (arith, a, b))) s)
          (cases_order i.0 j.0) in
          has.complete i.0 j.0 (arrow x.send x.earlier) (arrow x.send t) lt (counted j.0 (arrow x.send t) j.1) i.1 j.1 refl),
    );
  }

  pub all_met : (undone : List (Option ℕ)) (met : List Bool) → HasMet net entries arrows undone k met → AreMet net entries undone met
  all_met undone met has = record {
    size = has.size;
    each = λ s. (
      (λ at. has.sound s at),
      (λ x. let c = are.complete s x.t x.message in has.complete c.0 (arrow s x.t) (counted c.0 (arrow s x.t) c.1) c.1 x.same),
    );
  }
