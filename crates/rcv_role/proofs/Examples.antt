-- Examples: three events of a role that saves every second one; ends of a channel, alone and as they go back; and looks
-- at a fence.
use Rattle.std.proofs.Common.{◌≡◌, ℕ, Some, None, List, [], ◌∷◌, ◌++◌, length, length-append, get_or, ◌+◌, ◌-◌, refl, sym, ap, subst, inl, ⊎_elim, arith}
use Rattle.std.specs.Prelude.{pos}
use Rattle.std.specs.List.{All}
use Rattle.std.proofs.lemmas.List.Elements.{All-nil}
use Rattle.rcv_tree.specs.declared.event.Event.{Event}
use Rattle.rcv_tree.specs.declared.event.Message.{Message}
use Rattle.rcv_tree.specs.declared.event.Dir.TheVariants.{Sent, Got}
use Rattle.rcv_tree.specs.declared.protocol.Protocol.{Protocol}
use Rattle.rcv_model.specs.Net.{Net, IsIn, IsLaneWalk, HasOneLane}
use Rattle.rcv_model.specs.Text.{Single, End as Ended}
use Rattle.rcv_model.specs.Places.{net_of}
use Rattle.rcv_model.specs.Plan.{PlanLine, EveryLine, HostLine}
use Rattle.rcv_model.specs.Table.{marks, IsConcerned}
use Rattle.rcv_model.proofs.OneLane.{one_lane}
use Rattle.rcv_model.proofs.Roles.{up, down}
use Rattle.rcv_model.proofs.Walks.{to_lane_walk}
use Rattle.rcv_session.specs.Session.{SessionView, net_for}
use Rattle.rcv_ring.specs.Shown.{RingId}
use Rattle.rcv_ring.specs.Shown as rings
use Rattle.rcv_mailbox.specs.Ends.{End, new_end}
use Rattle.rcv_fence.specs.Shown.{FenceId, Shown, fresh}
use Rattle.rcv_role.specs.declared.poll.Poll.{Poll}
use Rattle.rcv_role.specs.declared.poll.Stop.TheVariants as stops
use Rattle.rcv_role.specs.Part.{PartView, ReachesRole, durable_of, first_lost, first_part, with_crash, gone_back, cut_back}
use Rattle.rcv_role.specs.Ends.{slot, IsSettledWith, HasPut, HasTaken}
use Rattle.rcv_role.specs.Cell.{CellView}
use Rattle.rcv_role.specs.Run.{IsFencedBy, LetsPass, AllPass, unmoved, EndsBy, Ran, signal, signal_of}
use Rattle.rcv_role.specs.Laws.{IsHeld, WentBackTo}

-- the ends of role 1 of three stand in the order of the others
before : slot 1 0 ≡ 0
before = refl

behind : slot 1 2 ≡ 1
behind = refl

-- point 3 of role 1 is told by the number 259, and nothing by no number
told : signal 1 (Some 3) ≡ 259 ∷ []
told = refl

silent : signal 1 None ≡ []
silent = refl

abbrev event : ℕ → Event
event point = record { role = 0; dir = Sent; point = point; value = pos 0; stamp = point; sent = point }

abbrev three : Protocol → PartView
three protocol =
    record {
      setup = record { protocol = protocol; scripts = []; plan = EveryLine 0 2 ∷ [] };
      role = 0;
      own = record { events = event 1 ∷ event 2 ∷ event 3 ∷ []; numbers = up 3 0 0 3 };
      held = 3;
      base = 0;
      log = [];
    }

-- two are saved, and the third is the first to be lost
saved : (protocol : Protocol) → durable_of (three protocol) ≡ 2
saved protocol = refl

lost : (protocol : Protocol) → first_lost (three protocol) ≡ Some 3
lost protocol = refl

-- a crash loses a state and no event, and it is raised
crashed : (protocol : Protocol) → (with_crash (three protocol)).held ≡ 2
crashed protocol = refl

none_lost : (protocol : Protocol) → length (with_crash (three protocol)).own.events ≡ 3
none_lost protocol = refl

raised : (protocol : Protocol) → signal_of (with_crash (three protocol)) ≡ 3 ∷ []
raised protocol = refl

-- its own recovery goes back to what is saved, in a new attempt, and it runs on
back : (protocol : Protocol) → (gone_back (with_crash (three protocol)) 2 7).own ≡ record { events = event 1 ∷ event 2 ∷ []; numbers = up 3 1 1 7 }
back protocol = refl

-- another role's leaves it crashed, and of the states those that are held
cut : (protocol : Protocol) → (cut_back (with_crash (three protocol)) 3 7).own ≡ record { events = event 1 ∷ event 2 ∷ event 3 ∷ []; numbers = down 3 1 0 7 }
cut protocol = refl

still_held : (protocol : Protocol) → (cut_back (with_crash (three protocol)) 3 7).held ≡ 2
still_held protocol = refl

not_all_held : (protocol : Protocol) → (cut_back (with_crash (three protocol)) 3 7).held ≡ 3 → ⊥
not_all_held protocol e = omega (arith, e)

-- Ends of a channel.
abbrev message : ℕ → Message
message point = record { point = point; value = pos 0; stamp = 1 }

-- An end that holds these messages, of which so many are received.
abbrev holding : RingId → List Message → ℕ → End
holding ring list got = record (new_end ring 4 10 (3 ∷ 0 ∷ 0 ∷ 0 ∷ [])) { list = list; got = got }

put_one : (ring : RingId) → HasPut (holding ring [] 0) (holding ring (message 1 ∷ []) 0) (message 1)
put_one ring = record { list = refl }

put_none : (ring : RingId) → HasPut (holding ring [] 0) (holding ring [] 0) (message 1) → ⊥
put_none ring put = let n = ap length put.list in omega (arith, n)

-- The front of the channel is taken, and not one more.
took_one : (ring : RingId) → HasTaken (holding ring [] 0) (holding ring (message 1 ∷ []) 1) (message 1)
took_one ring = record { got = refl; message = refl; begins = (message 1 ∷ [], refl); again = λ lt. absurd (omega (arith, lt)); front = λ e. refl }

took_two : (ring : RingId) → HasTaken (holding ring [] 0) (holding ring (message 1 ∷ message 2 ∷ []) 1) (message 1) → ⊥
took_two ring taken = let n = ap length (taken.front refl) in omega (arith, n)

-- What was taken before is received again, and nothing is taken beside it.
took_again : (ring : RingId) → HasTaken (holding ring (message 1 ∷ []) 0) (holding ring (message 1 ∷ []) 1) (message 1)
took_again ring = record { got = refl; message = refl; begins = ([], refl); again = λ lt. refl; front = λ e. absurd (omega (arith, e)) }

took_one_more : (ring : RingId) → HasTaken (holding ring (message 1 ∷ []) 0) (holding ring (message 1 ∷ message 2 ∷ []) 1) (message 1) → ⊥
took_one_more ring taken = let n = ap (λ (x : End). length x.list) (taken.again (omega arith)) in omega (arith, n)

-- A sends the ping, and B receives it; the pong is to come.
abbrev ping : Net
ping = net_of (Single [] [] 0 1 1 (Single [] [] 1 0 2 Ended))

ping_one : HasOneLane ping
ping_one = one_lane (Single [] [] 0 1 1 (Single [] [] 1 0 2 Ended)) tt

abbrev sent_ping : Event
sent_ping = record { role = 0; dir = Sent; point = 1; value = pos 0; stamp = 1; sent = 1 }

abbrev got_ping : Event
got_ping = record { role = 1; dir = Got; point = 1; value = pos 0; stamp = 2; sent = 1 }

-- A's ends to B and from B hold what A's events say, and an end that lost the ping doesn't.
settled : (to from : RingId) → IsSettledWith ping 0 1 (sent_ping ∷ []) 1 (holding to (message 1 ∷ []) 0) (holding from [] 0)
settled to from = record { put = refl; through = omega arith; got = refl; taken = refl }

unsettled : (to from : RingId) → IsSettledWith ping 0 1 (sent_ping ∷ []) 1 (holding to [] 0) (holding from [] 0) → ⊥
unsettled to from is = let n = ap length is.put in omega (arith, n)

held : (ring : RingId) → IsHeld ping 0 1 (sent_ping ∷ []) (got_ping ∷ []) (holding ring (message 1 ∷ []) 0) (holding ring (message 1 ∷ []) 1)
held ring = record { put = refl; count = refl; taken = refl }

not_received : (ring : RingId) → IsHeld ping 0 1 (sent_ping ∷ []) (got_ping ∷ []) (holding ring (message 1 ∷ []) 0) (holding ring (message 1 ∷ []) 0) → ⊥
not_received ring is = let n = is.count in omega (arith, n)

-- Both went back behind nothing: the ping is dropped, and both ends know so many of the ring's messages.
abbrev emptied : RingId → ℕ → End
emptied ring known = record (holding ring [] 0) { base = record (rings.fresh ring 4 (3 ∷ 0 ∷ 0 ∷ 0 ∷ [])) { known = known }; dropped = 1 }

abbrev WentBack : RingId → ℕ → Type 0
WentBack ring known =
    WentBackTo ping 0 1 (sent_ping ∷ []) (got_ping ∷ []) (holding ring (message 1 ∷ []) 0) (emptied ring known)
    (holding ring (message 1 ∷ []) 1) (emptied ring known) 0 0

went_back : (ring : RingId) → WentBack ring 1
went_back ring = record {
  keep = 0;
  drop_from = 0;
  order = omega arith;
  keep_is = refl;
  drop_is = refl;
  rewound = record {
    begins = ([], refl);
    put = refl;
    taken = refl;
    got = refl;
    through = refl;
    post_stays = record { limit = refl; ring = refl; room = refl; points = refl };
    inbox_stays = record { limit = refl; ring = refl; room = refl; points = refl };
    channel = record { ring = refl; dropped_is = refl; rewound_is = refl; limit_is = refl; first = refl };
    knows = (refl, refl);
    rewound = (refl, refl);
    post_dropped = refl;
    inbox_dropped = refl;
  };
}

-- It wouldn't do to forget the ping that is dropped.
forgot : (ring : RingId) → WentBack ring 0 → ⊥
forgot ring back = let known = back.rewound.knows.0 in omega (arith, known)

-- A failure of B reaches B, and A where both have one host.
abbrev session : Protocol → List PlanLine → SessionView
session protocol plan = record { protocol = protocol; scripts = []; plan = plan }

own_failure : (protocol : Protocol) → IsFencedBy (first_part (session protocol []) 1) 257
own_failure protocol = record {
  role = 1;
  point = 1;
  pair = record { role_is = omega arith; point_is = record { first = omega arith; last = omega arith }; code_is = refl };
  reaches = inl refl;
}

of_one_host : (protocol : Protocol) → ReachesRole (session protocol (HostLine (0 ∷ 1 ∷ []) ∷ [])) 1 2 0
of_one_host protocol = inl refl

-- Nobody fails where nothing is raised.
none_raised : (p : PartView) → IsFencedBy p 0 → ⊥
none_raised p fenced = let word = fenced.pair.code_is in omega (arith, word)

-- A that goes back to its Recv of the pong concerns nobody else.
none_behind_the_pong : (before after w : List ℕ) (z : ℕ) → IsLaneWalk ping 2 w → before ++ z ∷ after ≡ 2 ∷ w → IsIn 1 (marks ping (0 ∷ []) (before ++ z ∷ [])) → ⊥
none_behind_the_pong before after (x ∷ w) z walk e now = walk.0
none_behind_the_pong (y ∷ before) after [] z walk e now = let n = ap length e in omega (arith, length-append before (z ∷ after), n)
none_behind_the_pong [] after [] z walk e now = ⊎_elim (λ f. omega (arith, f)) (λ none. none) (subst (λ n. IsIn 1 (marks ping (0 ∷ []) (n ∷ []))) (ap (λ l. get_or l 0 0) e) now)

b_is_not_reached : (protocol : Protocol) → net_for (session protocol []) ≡ ping → ReachesRole (session protocol []) 0 2 1 → ⊥
b_is_not_reached protocol is reached = ⊎_elim (λ f. absurd (cc)) (λ f. not_concerned (subst (λ net. IsConcerned net 0 2 1) is f.1)) reached
  where
    not_concerned : IsConcerned ping 0 2 1 → ⊥
    not_concerned concerned = ⊎_elim
        (λ f. let e = f.0 in omega (arith, e))
        (λ f. none_behind_the_pong f.1.before f.1.after f.1.walk.0 concerned.0 (to_lane_walk ping 2 f.1.walk.0 ping_one f.1.walk.1) f.1.walk.2 f.1.now)
        concerned.1

-- A run that looks once and is fenced, and then polls no more.
abbrev looked : FenceId → List ℕ → Shown
looked id words = record { fence = id; looks = length words; last = get_or words (length words - 1) 0; seen = words; raised = [] }

stops_at_once : (id : FenceId) (c : CellView) → IsFencedBy c.part 257 → Ran 1 c c (fresh id) (looked id (257 ∷ [])) stops.Fenced
stops_at_once id c fenced = record {
  steps = 0;
  few = omega arith;
  made = unmoved;
  looks = refl;
  seen_before = [];
  passed = record { words = []; loaded = refl; count = refl; pass = All-nil (LetsPass c.part) };
  loaded = refl;
  fenced = fenced;
  raised = refl;
}

-- None polls on behind such a look, whatever the next one shows.
no_pass : (p : PartView) (word : ℕ) (words : List ℕ) (looks : ℕ) → IsFencedBy p word → AllPass p [] (word ∷ words) looks → ⊥
no_pass p word words looks fenced passed = subst (λ l. All (LetsPass p) l) (sym passed.loaded) passed.pass 0 0 (omega arith) fenced

polls_on : (id : FenceId) (turns : ℕ) (old new : CellView) (poll : Poll) → IsFencedBy old.part 257 → EndsBy turns old new (fresh id) (looked id (257 ∷ 0 ∷ [])) poll → ⊥
polls_on id turns old new poll fenced ends = no_pass old.part 257 (0 ∷ []) (ends.steps + 1) fenced ends.passed

is_spent : (id : FenceId) (turns : ℕ) (old new : CellView) → IsFencedBy old.part 257 → Ran turns old new (fresh id) (looked id (257 ∷ 0 ∷ [])) stops.Spent → ⊥
is_spent id turns old new fenced ran = no_pass old.part 257 (0 ∷ []) turns fenced ran.passed
