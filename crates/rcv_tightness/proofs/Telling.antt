-- A walk is told in turn: at each point its Send and its Recv may be told.
use Rattle.std.proofs.Common.{◌≡◌, ℕ, ◌+◌, ◌<◌, max, true, false, cond, Some, None, List, [], ◌∷◌, ◌++◌, length, drop, replicate, refl, sym, ◌∙◌, ap, subst, inl, inr, append_assoc, append-nil, arith}
use Rattle.std.specs.Prelude.{pos}
use Rattle.std.proofs.Math.Seq.{drop-append_seam}
use Rattle.std.proofs.lemmas.Bool.Decides.{nat_tests}
use Rattle.std.proofs.lemmas.List.{get_or-replicate}
use Rattle.rcv_tree.specs.Numbers.{fresh}
use Rattle.rcv_tree.specs.declared.numbers.Numbers.{Numbers}
use Rattle.rcv_tree.specs.declared.event.Event.{Event}
use Rattle.rcv_tree.specs.declared.event.Dir.TheVariants.{Sent, Got}
use Rattle.rcv_tree.specs.declared.entry.Entry.{Entry}
use Rattle.rcv_tree.specs.declared.entry.Entry.TheVariants.{Send, Recv}
use Rattle.rcv_tree.specs.Events.{message_got}
use Rattle.rcv_model.specs.Net.{IsWalk, HasTwoEnds}
use Rattle.rcv_model.specs.Run.{acts, part, place_of, puts_on, put_by, put, taken, channel}
use Rattle.rcv_model.specs.Next.{IsNext}
use Rattle.rcv_model.specs.Journal.{nobody, numbers_at, advanced}
use Rattle.rcv_model.proofs.Keeping.{taken_none}
use Rattle.rcv_model.proofs.Parts.{acts_other}
use Rattle.rcv_model.proofs.Roles.{set_keeps}
use Rattle.rcv_model.proofs.Ways.{point_is_next, ends_declared}
use Rattle.std.specs.List.{cons_option}
use Rattle.std.proofs.lemmas.List.Elements.{filter_map-append}
use Rattle.rcv_told.specs.Told.{Terms, Remembered, nothing_told, down_at, standpoint, IsSend, IsRecv, after_event, told_after, told_from, IsToldFrom}
use Rattle.rcv_told.specs.Laws.{AreAccepted}
use Rattle.rcv_told.proofs.Telling.{ForgotNothing, down_here, nothing_after, at_start, place_is}
use Rattle.rcv_tightness.proofs.Turns.{IsTurn, AreInTurn, acts_in_turn, all_taken, turns_join}

starts_up : (n r : ℕ) → r < n → (numbers_at (replicate n fresh) r).crashed ≡ false
starts_up n r lt = ap (λ (x : Numbers). x.crashed) (get_or-replicate n r fresh nobody lt)

-- told one list after another
pub told_join : (terms : Terms) (m : Remembered) (u v : List Entry) → told_from terms m (u ++ v) ≡ told_from terms (told_from terms m u) v
told_join terms m [] v = refl
told_join terms m (e ∷ u) v = told_join terms (told_after terms m e) u v

pub are_told_join : (terms : Terms) (m : Remembered) (u v : List Entry) → IsToldFrom terms m u → IsToldFrom terms (told_from terms m u) v
    → IsToldFrom terms m (u ++ v)
are_told_join terms m [] v a b = b
are_told_join terms m (e ∷ u) v a b = (a.0, are_told_join terms (told_after terms m e) u v a.1 b)

module _ (terms : Terms) (known : AreAccepted terms) where
  -- nothing is forgotten, no role is down, and the events are those of a walk in turn
  pub record IsUp (m : Remembered) (u : List ℕ) : Type 0 where
    pub nothing : ForgotNothing terms.roles m
    pub up : (r : ℕ) → r < terms.roles → (numbers_at m.roles r).crashed ≡ false
    pub turns : AreInTurn terms.net u m.held

  pub up_at_start : IsUp (nothing_told terms.roles) []
  up_at_start = record { nothing = at_start terms.roles; up = starts_up terms.roles; turns = tt }

  pub is_up : (m : Remembered) (u : List ℕ) (r : ℕ) → IsUp m u → r < terms.roles → down_at m r ≡ Some false
  is_up m u r is lt = down_here m.roles r (subst (λ n. r < n) (sym is.nothing.numbers) lt) ∙ ap Some (is.up r lt)

  two : HasTwoEnds terms.net
  two = known.proper.two_ends

  -- a point that the walk goes on with
  module _ (m : Remembered) (u v : List ℕ) (x : ℕ) (is : IsUp m u) (walk : IsWalk terms.net 0 (u ++ x ∷ v)) where
    abbrev s : ℕ
    s = terms.net.sender x

    abbrev r : ℕ
    r = terms.net.receiver x

    abbrev sending : Event
    sending = record { role = s; dir = Sent; point = x; value = pos 0; stamp = (numbers_at m.roles s).clock + 1; sent = (numbers_at m.roles s).clock + 1 }

    abbrev after_send : Remembered
    after_send = after_event m sending

    abbrev receiving : Event
    receiving =
        record {
          role = r;
          dir = Got;
          point = x;
          value = pos 0;
          stamp = max (numbers_at after_send.roles r).clock ((numbers_at m.roles s).clock + 1) + 1;
          sent = (numbers_at m.roles s).clock + 1;
        }

    abbrev after_recv : Remembered
    after_recv = after_event after_send receiving

    turn : IsTurn terms.net x sending receiving
    turn = record { sender = refl; is_send = refl; sent_at = refl; receiver = refl; is_recv = refl; got_at = refl; value = refl; stamp = refl }

    declared : (s < terms.roles) × (r < terms.roles)
    declared = ends_declared terms.net terms.roles x u v known.proper walk

    stands : (q : ℕ) → place_of 0 (acts q m.held) ≡ place_of 0 (part terms.net q u)
    stands q = ap (place_of 0) (acts_in_turn terms.net u m.held q two is.turns)

    may_send : IsSend terms.net (standpoint terms.net m s) sending
    may_send = record {
      up = is_up m u s is declared.0;
      next = subst (λ k. IsNext terms.net s k x) (sym (place_is terms.roles m s is.nothing ∙ stands s))
          (point_is_next terms.net terms.roles s x u [] v known.proper walk tt (inl refl));
      sends = refl;
      is_send = refl;
      stamp = refl;
      sent = refl;
    }

    nothing_sent : ForgotNothing terms.roles after_send
    nothing_sent = nothing_after terms m (Send sending) is.nothing

    in_front : channel terms.net s r (m.held ++ sending ∷ []) ≡ message_got receiving ∷ []
    in_front = ap (λ l. drop (length l) (put terms.net s r (m.held ++ sending ∷ []))) takes ∙ ap (drop (length (put terms.net s r m.held))) puts
        ∙ drop-append_seam (put terms.net s r m.held) (message_got receiving ∷ [])
      where
        takes : taken terms.net s r (m.held ++ sending ∷ []) ≡ put terms.net s r m.held
        takes = taken_none terms.net s r m.held sending refl ∙ sym (all_taken terms.net u m.held s r is.turns)

        on : puts_on terms.net s r sending ≡ true
        on = grind (arith, nat_tests)

        puts : put terms.net s r (m.held ++ sending ∷ []) ≡ put terms.net s r m.held ++ message_got receiving ∷ []
        puts = filter_map-append (put_by terms.net s r) m.held (sending ∷ [])
            ∙ ap (λ b. put terms.net s r m.held ++ cons_option (cond b (Some (message_got receiving)) None) []) on

    -- an event leaves who is up
    up_with : (l : Remembered) (e : Event) (q : ℕ) → (numbers_at l.roles q).crashed ≡ false → (numbers_at (after_event l e).roles q).crashed ≡ false
    up_with l e q up = set_keeps (λ (x : Numbers). x.crashed) l.roles e.role q (advanced (numbers_at l.roles e.role) e.stamp) refl ∙ up

    may_receive : IsRecv terms.net (standpoint terms.net after_send r) receiving
    may_receive = record {
      up =
          down_here after_send.roles r (subst (λ n. r < n) (sym nothing_sent.numbers) declared.1)
          ∙ ap Some (up_with m sending r (is.up r declared.1));
      next = subst (λ k. IsNext terms.net r k x)
          (sym (place_is terms.roles after_send r nothing_sent ∙ ap (place_of 0) (acts_other r m.held sending (two x)) ∙ stands r))
          (point_is_next terms.net terms.roles r x u [] v known.proper walk tt (inr refl));
      receives = refl;
      is_recv = refl;
      front = ([], in_front);
      stamp = refl;
    }

    up_after : IsUp after_recv (u ++ x ∷ [])
    up_after = record {
      nothing = nothing_after terms after_send (Recv receiving) nothing_sent;
      up = λ q lt. up_with after_send receiving q (up_with m sending q (is.up q lt));
      turns = subst (AreInTurn terms.net (u ++ x ∷ [])) (sym (append_assoc m.held (sending ∷ []) (receiving ∷ [])))
          (turns_join terms.net u (x ∷ []) m.held (sending ∷ (receiving ∷ [])) is.turns (turn, tt));
    }

    held_after : after_recv.held ≡ m.held ++ sending ∷ (receiving ∷ [])
    held_after = append_assoc m.held (sending ∷ []) (receiving ∷ [])

  -- entries that are told, and the events that they add
  pub record Tells (m : Remembered) (u v : List ℕ) : Type 0 where
    pub entries : List Entry
    pub are_told : IsToldFrom terms m entries
    pub events : List Event
    pub turns : AreInTurn terms.net v events
    pub held : (told_from terms m entries).held ≡ m.held ++ events
    pub up : IsUp (told_from terms m entries) (u ++ v)

  pub tells : (m : Remembered) (u v : List ℕ) → IsUp m u → IsWalk terms.net 0 (u ++ v) → Tells m u v
  tells m u [] is walk =
      record { entries = []; are_told = tt; events = []; turns = tt; held = sym (append-nil m.held); up = subst (IsUp m) (sym (append-nil u)) is }
  tells m u (x ∷ v) is walk =
      go (tells (after_recv m u v x is walk) (u ++ x ∷ []) v (up_after m u v x is walk)
      (subst (IsWalk terms.net 0) (sym (append_assoc u (x ∷ []) v)) walk))
    where
      go : Tells (after_recv m u v x is walk) (u ++ x ∷ []) v → Tells m u (x ∷ v)
      go t = record {
        entries = Send (sending m u v x is walk) ∷ (Recv (receiving m u v x is walk) ∷ t.entries);
        are_told = (may_send m u v x is walk, (may_receive m u v x is walk, t.are_told));
        events = sending m u v x is walk ∷ (receiving m u v x is walk ∷ t.events);
        turns = (turn m u v x is walk, t.turns);
        held = t.held ∙ ap (λ l. l ++ t.events) (held_after m u v x is walk)
            ∙ append_assoc m.held (sending m u v x is walk ∷ (receiving m u v x is walk ∷ [])) t.events;
        up = subst (IsUp (told_from terms (after_recv m u v x is walk) t.entries)) (append_assoc u (x ∷ []) v) t.up;
      }
