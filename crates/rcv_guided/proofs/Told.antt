-- What comes of events that are taken.
use Rattle.std.proofs.Common.{◌≡◌, ℕ, ◌<◌, ◌≤◌, true, false, Some, arith, [], ◌∷◌, refl, sym, ◌∙◌, ap, subst, inl, inr}
use Rattle.std.specs.Prelude.{if◌then◌else◌, nat_le}
use Rattle.std.proofs.lemmas.Bool.Decides.{nat_tests}
use Rattle.rcv_tree.specs.declared.entry.Entry.TheVariants as entry
use Rattle.rcv_tree.specs.declared.event.Message.{Message}
use Rattle.rcv_saves.specs.Counts.{with_count}
use Rattle.rcv_saves.specs.Saves.{SavesView, told_of, with_told}
use Rattle.rcv_guide.specs.declared.news.News.{News}
use Rattle.rcv_guide.specs.declared.cause.Cause.{Cause}
use Rattle.rcv_guide.specs.declared.cause.Cause.TheVariants.{Undeclared, Down, Up, Stale, Full, NotNext, Empty, NotFront, Forgotten}
use Rattle.rcv_guide.specs.Causes.{IsCauseNotToCrash}
use Rattle.rcv_guide.specs.Numbers.{with_crash}
use Rattle.rcv_guide.specs.Guide.{GuideView, roles_of, stand, most_told, with_event, with_numbers, sent, received, message, stamp_to_send, stamp_to_receive, terms_of, IsAfter, MayBeReceived}
use Rattle.rcv_dialogue.specs.declared.line.Line.TheVariants as line
use Rattle.rcv_dialogue.specs.declared.line.ToldSend.{ToldSend}
use Rattle.rcv_dialogue.specs.declared.line.ToldRecv.{ToldRecv}
use Rattle.rcv_dialogue.specs.declared.line.ToldSave.{ToldSave}
use Rattle.rcv_dialogue.specs.declared.answer.Answer.TheVariants as answer
use Rattle.rcv_dialogue.specs.declared.answer.Cause.TheVariants as cause
use Rattle.rcv_guided.specs.Session.{SessionView, roles_in, forgotten_of}
use Rattle.rcv_guided.specs.Hearing.{Agrees, IsUp, IsDown}
use Rattle.rcv_guided.specs.Events.{news_of_send, news_of_recv, channel_of, stamp_told, MaySend, MayReceive, MaySave}
use Rattle.rcv_guided.specs.Answers.{ComesBy}
use Rattle.rcv_guided.proofs.Going.{on_same, on_told}
use Rattle.rcv_guided.proofs.Saying.{unchanged_by}
use Rattle.rcv_guided.proofs.Refusals.{received_front, received_told}

-- There is no memory for it.
pub no_memory_to_send : (s : SessionView) (told : ToldSend) → ComesBy s (line.Send told) s answer.Memory
no_memory_to_send s told = unchanged_by s (line.Send told) answer.Memory (λ added after same. inr (inr refl, same))

pub no_memory_to_receive : (s : SessionView) (told : ToldRecv) → ComesBy s (line.Recv told) s answer.Memory
no_memory_to_receive s told = unchanged_by s (line.Recv told) answer.Memory (λ added after same. inr (inr refl, same))

pub sent_by : (s : SessionView) (told : ToldSend) (g : GuideView) (news : News) (stamp : ℕ) → MaySend s told → news ≡ news_of_send s told → stamp ≡ stamp_to_send s.guide news.role → g ≡ with_event s.guide (sent s.guide news)
    → IsAfter s.guide g (entry.Send (sent s.guide news)) → ComesBy s (line.Send told) (record s { guide = g }) (answer.Sent stamp)
sent_by s told g news stamp may same stamp_is value after = record {
  added = entry.Send (sent s.guide (news_of_send s told)) ∷ [];
  comes = inl (record {
    may = may;
    says = ap answer.Sent (stamp_is ∙ ap (λ (n : News). stamp_to_send s.guide n.role) same);
    adds = refl;
    is = ap (λ (x : GuideView). with_guide x) (value ∙ ap (λ (n : News). with_event s.guide (sent s.guide n)) same);
  });
  history = on_told s (with_guide g) (entry.Send (sent s.guide (news_of_send s told))) (subst (λ (n : News). IsAfter s.guide g (entry.Send (sent s.guide n))) same after) (ap (λ (x : GuideView). terms_of x) value);
}
  where
    with_guide : GuideView → SessionView
    with_guide x = record s { guide = x }

pub received_by : (s : SessionView) (told : ToldRecv) (g : GuideView) (news : News) (stamp own : ℕ) → MayReceive s told → stamp ≡ stamp_told told.sent (channel_of s told) → news ≡ news_of_recv s told → MayBeReceived s.guide news stamp
    → own ≡ stamp_to_receive s.guide news.role stamp → g ≡ with_event s.guide (received s.guide news stamp) → IsAfter s.guide g (entry.Recv (received s.guide news stamp)) → ComesBy s (line.Recv told) (record s { guide = g }) (answer.Received own stamp)
received_by s told g news stamp own may stamp_is same front own_is value after = record {
  added = entry.Recv (received s.guide (news_of_recv s told) stamp) ∷ [];
  comes = inl (record {
    may = record {
      timely = may.timely;
      front = message (news_of_recv s told) stamp;
      lies = received_front s told stamp stamp_is (subst (λ (n : News). MayBeReceived s.guide n stamp) same front);
      is = received_told s told stamp stamp_is (subst (λ (n : News). MayBeReceived s.guide n stamp) same front);
      stamp = subst (λ (m : Message). Agrees told.stamp (stamp_to_receive s.guide told.role m.stamp)) one_front may.stamp;
    };
    says = ap (λ n. answer.Received n stamp) (own_is ∙ ap (λ (n : News). stamp_to_receive s.guide n.role stamp) same);
    adds = refl;
    is = ap (λ (x : GuideView). with_guide x) (value ∙ ap (λ (n : News). with_event s.guide (received s.guide n stamp)) same);
  });
  history = on_told s (with_guide g) (entry.Recv (received s.guide (news_of_recv s told) stamp)) (subst (λ (n : News). IsAfter s.guide g (entry.Recv (received s.guide n stamp))) same after) (ap (λ (x : GuideView). terms_of x) value);
}
  where
    with_guide : GuideView → SessionView
    with_guide x = record s { guide = x }

    one_front : may.front ≡ message (news_of_recv s told) stamp
    one_front = (let e = sym may.lies ∙ received_front s told stamp stamp_is (subst (λ (n : News). MayBeReceived s.guide n stamp) same front) in cc)

pub crashed_by : (s : SessionView) (r : ℕ) (g : GuideView) → IsUp s r → g ≡ with_numbers s.guide (with_crash s.guide.numbers r) → IsAfter s.guide g (entry.Crash r) → ComesBy s (line.Crash r) (record s { guide = g }) answer.Done
crashed_by s r g up value after = record {
  added = entry.Crash r ∷ [];
  comes = inl (record { up = up; says = refl; adds = refl; is = ap (λ (x : GuideView). with_guide x) value });
  history = on_told s (with_guide g) (entry.Crash r) after (ap (λ (x : GuideView). terms_of x) value);
}
  where
    with_guide : GuideView → SessionView
    with_guide x = record s { guide = x }

-- A role that is up crashes, unless too much was told.
pub full_only : (g : GuideView) (r : ℕ) (cause : Cause) → r < roles_of g → (stand g r).down ≡ Some false → IsCauseNotToCrash g r cause → most_told ≤ g.told
full_only g r Undeclared lt up why = absurd (omega (arith, lt, why))
full_only g r Down lt up why = absurd ((let e = sym up ∙ why in cc))
full_only g r Full lt up why = why.1
full_only g r Up lt up why = absurd why
full_only g r Stale lt up why = absurd why
full_only g r NotNext lt up why = absurd why
full_only g r Empty lt up why = absurd why
full_only g r NotFront lt up why = absurd why
full_only g r Forgotten lt up why = absurd why

pub full_by : (s : SessionView) (r : ℕ) (g : GuideView) (cause : Cause) → r < roles_in s → IsUp s r → g ≡ s.guide → IsCauseNotToCrash s.guide r cause → ComesBy s (line.Crash r) (record s { guide = g }) answer.Memory
full_by s r g cause lt up same why =
    subst (λ (x : GuideView). ComesBy s (line.Crash r) (record s { guide = x }) answer.Memory) (sym same)
    (unchanged_by s (line.Crash r) answer.Memory (λ added after calm. inr ((up, full_only s.guide r cause lt up why), calm)))

pub down_by : (s : SessionView) (r : ℕ) → IsDown s r → ComesBy s (line.Crash r) s (answer.Illegal cause.Down)
down_by s r down = unchanged_by s (line.Crash r) (answer.Illegal cause.Down) (λ added after calm. inr (down, calm))

-- A save within what is forgotten changes nothing; one above it is told; or there is no memory for it.
pub kept_low : (s : SessionView) (told : ToldSave) → MaySave s told → told.count ≤ forgotten_of s told.role → ComesBy s (line.Save told) s answer.Done
kept_low s told may low = record {
  added = [];
  comes = inl (record { may = may; says = refl; nothing = refl; is = sym (ap (λ b. if b then s else with_saves) is_low) });
  history = on_same s s refl;
}
  where
    with_saves : SessionView
    with_saves = record s { saves = with_told s.saves told.role (with_count told.count (told_of s.saves told.role)) }

    is_low : nat_le told.count (forgotten_of s told.role) ≡ true
    is_low = grind (arith, nat_tests)

pub kept_high : (s : SessionView) (told : ToldSave) (saves : SavesView) → MaySave s told → forgotten_of s told.role < told.count → saves ≡ with_told s.saves told.role (with_count told.count (told_of s.saves told.role))
    → ComesBy s (line.Save told) (record s { saves = saves }) answer.Done
kept_high s told saves may high value = record {
  added = [];
  comes = inl (record { may = may; says = refl; nothing = refl; is = ap (λ (x : SavesView). with_saves x) value ∙ sym (ap (λ b. if b then s else with_saves (with_told s.saves told.role (with_count told.count (told_of s.saves told.role)))) is_high) });
  history = on_same s (with_saves saves) refl;
}
  where
    with_saves : SavesView → SessionView
    with_saves x = record s { saves = x }

    is_high : nat_le told.count (forgotten_of s told.role) ≡ false
    is_high = grind (arith, nat_tests)

pub no_memory_to_save : (s : SessionView) (told : ToldSave) (saves : SavesView) → saves ≡ s.saves → ComesBy s (line.Save told) (record s { saves = saves }) answer.Memory
no_memory_to_save s told saves same =
    subst (λ (x : SavesView). ComesBy s (line.Save told) (record s { saves = x }) answer.Memory) (sym same)
    (unchanged_by s (line.Save told) answer.Memory (λ added after calm. inr (inr refl, calm)))
