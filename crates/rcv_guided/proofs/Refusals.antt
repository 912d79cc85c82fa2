-- What is answered where an event isn't taken.
use Rattle.std.proofs.Common.{◌≡◌, ℕ, ◌⊎◌, Option, Some, None, List, [], ◌∷◌, refl, sym, ◌∙◌, ap, subst, inl}
use Rattle.std.specs.Prelude.{MatchOption, slice_get}
use Rattle.rcv_tree.specs.declared.event.Message.{Message}
use Rattle.rcv_guide.specs.Guide.{message, stamp_to_send, stamp_to_receive, IsTurnToSend, MayBeReceived}
use Rattle.rcv_guide.specs.Causes.{IsNotFront}
use Rattle.rcv_dialogue.specs.declared.line.ToldSend.{ToldSend}
use Rattle.rcv_dialogue.specs.declared.line.ToldRecv.{ToldRecv}
use Rattle.rcv_dialogue.specs.declared.answer.Answer.{Answer}
use Rattle.rcv_dialogue.specs.declared.answer.Answer.TheVariants as answer
use Rattle.rcv_guided.specs.Session.{SessionView}
use Rattle.rcv_guided.specs.Hearing.{Agrees, IsHeard, IsRefusalOfStamp}
use Rattle.rcv_guided.specs.Events.{news_of_send, news_of_recv, MaySend, IsMistakenSend, channel_of, stamp_told, IsFront, IsToldMessage, IsTimelyReceipt, MayReceive, IsMistakenReceipt, SaysFront}

pub match_map : {A : Type 0} (P P' : Type 0) (Q Q' : A → Type 0) (o : Option A) → (P → P') → ((a : A) → Q a → Q' a) → MatchOption o P Q → MatchOption o P' Q'
match_map P P' Q Q' None f g h = f h
match_map P P' Q Q' (Some a) f g h = g a h

-- Only the stamp of a send may be wrong.
pub stamp_of_send : (s : SessionView) (told : ToldSend) (right : ℕ) (o : Option Answer) → IsHeard s told.role told.incarnation → IsTurnToSend s.guide (news_of_send s told) → right ≡ stamp_to_send s.guide told.role
    → MatchOption o (Agrees told.stamp right) (IsRefusalOfStamp told.stamp right) → MatchOption o (MaySend s told) (λ said. IsMistakenSend s told said ⊎ (said ≡ answer.Memory))
stamp_of_send s told right o heard turn is =
    match_map (Agrees told.stamp right) (MaySend s told) (IsRefusalOfStamp told.stamp right) (λ said. IsMistakenSend s told said ⊎ (said ≡ answer.Memory)) o
    (λ agrees. record { heard = heard; turn = turn; stamp = subst (Agrees told.stamp) is agrees })
    (λ said wrong. subst (λ (x : Answer). IsMistakenSend s told x ⊎ (x ≡ answer.Memory)) (sym wrong.says) (inl (record { heard = heard; turn = turn; other = wrong.other; is = is })))

-- The message in front is the one that is told where it has the told stamp, or none is told.
module _ (s : SessionView) (told : ToldRecv) (stamp : ℕ) (is : stamp ≡ stamp_told told.sent (channel_of s told)) where
  agrees_told : (sent : Option ℕ) (lies rest : List Message) (front : Message) → lies ≡ front ∷ rest → front.stamp ≡ stamp_told sent lies → Agrees sent front.stamp
  agrees_told None lies rest front there same = tt
  agrees_told (Some n) lies rest front there same = sym same

  told_stamp : (sent : Option ℕ) (lies rest : List Message) (front : Message) → lies ≡ front ∷ rest → Agrees sent front.stamp → front.stamp ≡ stamp_told sent lies
  told_stamp None lies rest front there agrees = sym (ap (stamp_told None) there)
  told_stamp (Some n) lies rest front there agrees = sym agrees

  -- a message that may be received
  pub received_front : MayBeReceived s.guide (news_of_recv s told) stamp → IsFront s told (message (news_of_recv s told) stamp)
  received_front may = ap (λ (l : List Message). slice_get l 0) may.front.1

  pub received_told : MayBeReceived s.guide (news_of_recv s told) stamp → IsToldMessage told (message (news_of_recv s told) stamp)
  received_told may = record {
    point = refl;
    value = refl;
    sent = agrees_told told.sent (channel_of s told) may.front.0 (message (news_of_recv s told) stamp) may.front.1 is;
  }

  -- another one in front isn't the one that is told
  pub not_told : (front : Message) (rest : List Message) → channel_of s told ≡ front ∷ rest → (front ≡ message (news_of_recv s told) stamp → ⊥) → IsToldMessage told front → ⊥
  not_told front rest there other told_is =
      other (same front (message (news_of_recv s told) stamp) told_is.point told_is.value (told_stamp told.sent (channel_of s told) rest front there told_is.sent ∙ sym is))
    where
      same : (a b : Message) → a.point ≡ b.point → a.value ≡ b.value → a.stamp ≡ b.stamp → a ≡ b
      same a b p v t = λ i. record { point = p i; value = v i; stamp = t i }

  pub stamp_of_receipt : (right : ℕ) (o : Option Answer) → IsTimelyReceipt s told → MayBeReceived s.guide (news_of_recv s told) stamp → right ≡ stamp_to_receive s.guide told.role stamp
      → MatchOption o (Agrees told.stamp right) (IsRefusalOfStamp told.stamp right) → MatchOption o (MayReceive s told) (λ said. IsMistakenReceipt s told said ⊎ (said ≡ answer.Memory))
  stamp_of_receipt right o timely may right_is =
      match_map (Agrees told.stamp right) (MayReceive s told) (IsRefusalOfStamp told.stamp right) (λ said. IsMistakenReceipt s told said ⊎ (said ≡ answer.Memory)) o
      (λ agrees. record {
        timely = timely;
        front = message (news_of_recv s told) stamp;
        lies = received_front may;
        is = received_told may;
        stamp = subst (Agrees told.stamp) right_is agrees;
      })
      (λ said wrong. subst (λ (x : Answer). IsMistakenReceipt s told x ⊎ (x ≡ answer.Memory)) (sym wrong.says) (inl (record {
        timely = timely;
        front = message (news_of_recv s told) stamp;
        lies = received_front may;
        told_is = received_told may;
        other = wrong.other;
        is = right_is;
      })))

  first_is : (l rest : List Message) (front other : Message) → l ≡ front ∷ rest → slice_get l 0 ≡ Some other → other ≡ front
  first_is l rest front other there at = (let e = sym at ∙ ap (λ (x : List Message). slice_get x 0) there in cc)

  -- nothing may lie there where another one does
  not_empty : (l rest : List Message) (front : Message) → l ≡ front ∷ rest → l ≡ [] → ⊥
  not_empty l rest front there none = (let e = sym none ∙ there in cc)

  pub front_of_receipt : (o : Option Answer) → IsTimelyReceipt s told → IsNotFront s.guide (news_of_recv s told) stamp
      → MatchOption o (channel_of s told ≡ []) (SaysFront s told) → MatchOption o (MayReceive s told) (λ said. IsMistakenReceipt s told said ⊎ (said ≡ answer.Memory))
  front_of_receipt o timely not =
      match_map (channel_of s told ≡ []) (MayReceive s told) (SaysFront s told) (λ said. IsMistakenReceipt s told said ⊎ (said ≡ answer.Memory)) o
      (λ none. absurd (not_empty (channel_of s told) not.rest not.front not.there none))
      (λ said front. subst (λ (x : Answer). IsMistakenReceipt s told x ⊎ (x ≡ answer.Memory)) (sym front.says) (inl (record {
        timely = timely;
        lies = front.lies;
        other = subst (λ (m : Message). IsToldMessage told m → ⊥) (sym (first_is (channel_of s told) not.rest not.front front.front not.there front.lies)) (not_told not.front not.rest not.there not.other);
      })))

-- A channel without a first message is empty.
pub none_first : (l : List Message) → slice_get l 0 ≡ None → l ≡ []
none_first [] e = refl
none_first (m ∷ l) e = absurd (cc)
