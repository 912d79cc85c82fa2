-- What keeps a memory the shorter one of two: events at the end of both, or the same events lost behind what the shorter lacks.
use Rattle.std.proofs.Common.{◌≡◌, ℕ, ◌+◌, ◌≤◌, List, [], ◌∷◌, ◌++◌, length, take, drop, sym, ◌∙◌, ap, arith, length-append}
use Rattle.std.specs.Prelude.{slice_index}
use Rattle.std.proofs.lemmas.List.{take-append-le, drop-append-le}
use Rattle.rcv_tree.specs.declared.event.Event.{Event}
use Rattle.rcv_tree.specs.declared.numbers.Numbers.{Numbers}
use Rattle.rcv_model.specs.Net.{Net}
use Rattle.rcv_model.specs.Run.{acts, place_of, put, taken, IsQueued}
use Rattle.rcv_model.specs.Journal.{events_of}
use Rattle.rcv_model.proofs.Keeping.{by_role, by_role_more}
use Rattle.rcv_told.specs.Told.{Remembered}
use Rattle.rcv_told.specs.Forgetting.{since, seeds_of, Lacks, lacked, IsShorter}

-- A memory with other events, and one with other numbers of its roles.
abbrev pub with_held : Remembered → List Event → Remembered
with_held m h = record m { held = h }

abbrev pub with_roles : Remembered → List Numbers → Remembered
with_roles m roles = record m { roles = roles }

-- With these events instead the shorter memory still lacks of the role just what it lacked.
pub record StillLacks (old new : Remembered) (g h : List Event) (r gone : ℕ) : Type 0 where
  pub enough : gone ≤ length (since (with_held old g) r)
  pub gone_is : take gone (since (with_held old g) r) ≡ take gone (since old r)
  pub since_is : since (with_held new h) r ≡ drop gone (since (with_held old g) r)
  pub old_same : seeds_of (with_held old g) r ≡ seeds_of old r
  pub new_same : seeds_of (with_held new h) r ≡ seeds_of new r
  pub old_seeds : slice_index old.seeds r ≤ length (events_of r g)
  pub new_seeds : slice_index new.seeds r ≤ length (events_of r h)

still_lacks : (old new : Remembered) (g h : List Event) (r gone : ℕ) → Lacks old new r gone → StillLacks old new g h r gone
    → Lacks (with_held old g) (with_held new h) r gone
still_lacks old new g h r gone l k = record {
  enough = k.enough;
  forgotten = l.forgotten;
  since_is = k.since_is;
  point = l.point ∙ ap (λ es. place_of (slice_index old.points r) (acts r es)) (sym k.gone_is);
  old_seeds = k.old_seeds;
  new_seeds = k.new_seeds;
}

lacked_same : (old new : Remembered) (g h : List Event) (r gone : ℕ) → StillLacks old new g h r gone → lacked (with_held old g) r gone ≡ lacked old r gone
lacked_same old new g h r gone k = ap (λ es. es ++ take gone (since (with_held old g) r)) k.old_same ∙ ap (λ es. seeds_of old r ++ es) k.gone_is

module _ (net : Net) (old new : Remembered) (s : IsShorter net old new) where
  pub still_shorter : (g h : List Event) → ((r : ℕ) → StillLacks old new g h r (s.gone r)) → IsQueued net g → IsQueued net h
      → IsShorter net (with_held old g) (with_held new h)
  still_shorter g h k old_queued new_queued = record {
    gone = s.gone;
    lacks = λ r. still_lacks old new g h r (s.gone r) (s.lacks r) (k r);
    messages = λ a b. record {
      received = (s.messages a b).received;
      sent_is =
          ap (put net a b) (lacked_same old new g h a (s.gone a) (k a))
          ∙ (s.messages a b).sent_is
          ∙ ap (λ es. (s.messages a b).received ++ put net a b es) (sym (k a).new_same);
      received_is = ap (taken net a b) (lacked_same old new g h b (s.gone b) (k b)) ∙ (s.messages a b).received_is;
      seeds_are = ap (taken net a b) (k b).new_same ∙ (s.messages a b).seeds_are;
    };
    old_queued = old_queued;
    new_queued = new_queued;
    roles = s.roles;
  }

  -- The same with other numbers, the same in both.
  pub renumbered : (roles roles' : List Numbers) → roles' ≡ roles → IsShorter net (with_roles old roles) (with_roles new roles')
  renumbered roles roles' same = record {
    gone = s.gone;
    lacks = λ r. record {
      enough = (s.lacks r).enough;
      forgotten = (s.lacks r).forgotten;
      since_is = (s.lacks r).since_is;
      point = (s.lacks r).point;
      old_seeds = (s.lacks r).old_seeds;
      new_seeds = (s.lacks r).new_seeds;
    };
    messages = λ p q. record {
      received = (s.messages p q).received;
      sent_is = (s.messages p q).sent_is;
      received_is = (s.messages p q).received_is;
      seeds_are = (s.messages p q).seeds_are;
    };
    old_queued = s.old_queued;
    new_queued = s.new_queued;
    roles = same;
  }

-- One event more.
module _ (m : Remembered) (e : Event) (r : ℕ) (fits : slice_index m.seeds r ≤ length (events_of r m.held)) where
  since_more : since (with_held m (m.held ++ e ∷ [])) r ≡ since m r ++ by_role r (e ∷ [])
  since_more =
      ap (drop (slice_index m.seeds r)) (by_role_more r m.held e)
      ∙ drop-append-le (slice_index m.seeds r) (events_of r m.held) (by_role r (e ∷ [])) fits

  seeds_more : seeds_of (with_held m (m.held ++ e ∷ [])) r ≡ seeds_of m r
  seeds_more =
      ap (take (slice_index m.seeds r)) (by_role_more r m.held e)
      ∙ take-append-le (slice_index m.seeds r) (events_of r m.held) (by_role r (e ∷ [])) fits

  fits_more : slice_index m.seeds r ≤ length (events_of r (m.held ++ e ∷ []))
  fits_more = omega (arith, fits, ap length (by_role_more r m.held e), length-append (events_of r m.held) (by_role r (e ∷ [])))

pub event_more : (old new : Remembered) (e : Event) (r gone : ℕ) → Lacks old new r gone → StillLacks old new (old.held ++ e ∷ []) (new.held ++ e ∷ []) r gone
event_more old new e r gone l = record {
  enough = omega (arith, l.enough, ap length more, length-append (since old r) (by_role r (e ∷ [])));
  gone_is = ap (take gone) more ∙ take-append-le gone (since old r) (by_role r (e ∷ [])) l.enough;
  since_is =
      since_more new e r l.new_seeds
      ∙ ap (λ es. es ++ by_role r (e ∷ [])) l.since_is
      ∙ sym (drop-append-le gone (since old r) (by_role r (e ∷ [])) l.enough)
      ∙ ap (drop gone) (sym more);
  old_same = seeds_more old e r l.old_seeds;
  new_same = seeds_more new e r l.new_seeds;
  old_seeds = fits_more old e r l.old_seeds;
  new_seeds = fits_more new e r l.new_seeds;
}
  where
    more : since (with_held old (old.held ++ e ∷ [])) r ≡ since old r ++ by_role r (e ∷ [])
    more = since_more old e r l.old_seeds
