-- Cells that have met tell what they told.
use Rattle.std.proofs.Common.{◌≡◌, ℕ, ◌+◌, ◌<◌, List, length, refl, sym, ◌∙◌, subst, ⊎_elim, arith}
use Rattle.std.specs.Prelude.{slice_index_or}
use Rattle.std.proofs.lemmas.Bool.{cases_eq, cases_lt}
use Rattle.rcv_ring.specs.Lists.{Begins}
use Rattle.rcv_mailbox.specs.Ends.{End}
use Rattle.rcv_role.specs.Part.{PartView}
use Rattle.rcv_role.specs.Ends.{slot, end_at, IsSameAs}
use Rattle.rcv_role.specs.Cell.{CellView, HasMet}
use Rattle.rcv_role.proofs.Meeting.{same_self, channel_same}
use Rattle.rcv_cells.specs.Home.{cell_at, AllMet, CanMeet, AllCanMeet, HasBegun, HaveTold}

same_on : (a b c : End) → IsSameAs a b → IsSameAs b c → IsSameAs a c
same_on a b c f g = record { stays = record { limit = g.stays.limit ∙ f.stays.limit; ring = g.stays.ring ∙ f.stays.ring; room = g.stays.room ∙ f.stays.room; points = g.stays.points ∙ f.stays.points }; list = g.list ∙ f.list; got = g.got ∙ f.got; dropped = g.dropped ∙ f.dropped; rewound = g.rewound ∙ f.rewound }

met_self : (c : CellView) → HasMet c c
met_self c = record { part = refl; posts = λ k d. same_self (slice_index_or c.posts k d); through = λ k d. refl; inboxes = λ k d. same_self (slice_index_or c.inboxes k d) }

met_on : (a b c : CellView) → HasMet a b → HasMet b c → HasMet a c
met_on a b c f g = record {
  part = g.part ∙ f.part;
  posts = λ k d. same_on _ _ _ (f.posts k d) (g.posts k d);
  through = λ k d. g.through k d ∙ f.through k d;
  inboxes = λ k d. same_on _ _ _ (f.inboxes k d) (g.inboxes k d);
}

pub all_met_self : (cells : List CellView) → AllMet cells cells
all_met_self cells = (refl, λ r d. met_self (cell_at cells r d))

pub all_met_on : (a b c : List CellView) → AllMet a b → AllMet b c → AllMet a c
all_met_on a b c f g = (g.0 ∙ f.0, λ r d. met_on _ _ _ (f.1 r d) (g.1 r d))

-- cells can meet where they have met since
pub can_meet_on : (a a' b b' : CellView) → HasMet a a' → HasMet b b' → CanMeet a b → CanMeet a' b'
can_meet_on a a' b b' f g can = subst (λ (z : PartView × PartView). CanMeet (record { part = z.0; posts = a'.posts; inboxes = a'.inboxes }) (record { part = z.1; posts = b'.posts; inboxes = b'.inboxes })) (λ i. (sym f.part i, sym g.part i)) (record {
  setup = can.setup;
  apart = can.apart;
  channel = λ e. channel_same _ _ _ _ (g.posts (slot b.part.role a.part.role) e) (f.inboxes (slot a.part.role b.part.role) e) (can.channel e);
})

-- what they know now was so before
pub begun_back : (a a' b b' : CellView) → HasMet a a' → HasMet b b' → HasBegun a' b' → HasBegun a b
begun_back a a' b b' f g begun = record {
  there = begun.there;
  begins = λ e.
      let h = subst (λ (z : PartView × PartView). HasBegun (record { part = z.0; posts = a'.posts; inboxes = a'.inboxes }) (record { part = z.1; posts = b'.posts; inboxes = b'.inboxes })) (λ i. (f.part i, g.part i)) begun in
      subst (λ l. Begins l (end_at b.posts b.part.role a.part.role e).list) (f.inboxes (slot a.part.role b.part.role) e).list
      (subst (λ l. Begins (end_at a'.inboxes a.part.role b.part.role e).list l) (g.posts (slot b.part.role a.part.role) e).list (h.begins e));
}

-- and what they knew is so now
pub begun_on : (a a' b b' : CellView) → HasMet a a' → HasMet b b' → HasBegun a b → HasBegun a' b'
begun_on a a' b b' f g begun = subst (λ (z : PartView × PartView). HasBegun (record { part = z.0; posts = a'.posts; inboxes = a'.inboxes }) (record { part = z.1; posts = b'.posts; inboxes = b'.inboxes })) (λ i. (sym f.part i, sym g.part i)) (record {
  there = begun.there;
  begins = λ e.
      subst (λ l. Begins l (end_at b'.posts b.part.role a.part.role e).list) (sym (f.inboxes (slot a.part.role b.part.role) e).list)
      (subst (λ l. Begins (end_at a.inboxes a.part.role b.part.role e).list l) (sym (g.posts (slot b.part.role a.part.role) e).list) (begun.begins e));
})

pub pair_can : (init now : List CellView) (s r : ℕ) → AllMet init now → AllCanMeet init → s < length init → r < length init → (d : CellView) → (s ≡ r → ⊥) → CanMeet (cell_at now r d) (cell_at now s d)
pair_can init now s r met can ls lr d n = can_meet_on _ _ _ _ (met.1 r d) (met.1 s d) (can s r d ls lr n)

pub all_can : (init now : List CellView) → AllMet init now → AllCanMeet init → AllCanMeet now
all_can init now met can s r d ls lr n = pair_can init now s r met can (let c = met.0 in omega (arith, c, ls)) (let c = met.0 in omega (arith, c, lr)) d n

pub all_more : (init now new : List CellView) (from : ℕ) → AllMet init now × ((s r : ℕ) (d : CellView) → s < from → r < length init → (s ≡ r → ⊥) → HasBegun (cell_at init r d) (cell_at init s d)) → AllMet now new → ((r : ℕ) (d : CellView) → r < length now → (from ≡ r → ⊥) → HasBegun (cell_at now r d) (cell_at now from d)) → AllMet init new × ((s r : ℕ) (d : CellView) → s < from + 1 → r < length init → (s ≡ r → ⊥) → HasBegun (cell_at init r d) (cell_at init s d))
all_more init now new from so met begun = (
  all_met_on init now new so.0 met,
  λ s r d ls lr n. ⊎_elim
      (λ l. so.1 s r d l lr n)
      (λ le. let f : from ≡ s = omega (arith, ls, le) in subst (λ q. HasBegun (cell_at init r d) (cell_at init q d)) f (begun_back _ _ _ _ (so.0.1 r d) (so.0.1 from d) (begun r d (let c = so.0.0 in omega (arith, c, lr)) (λ g. n (sym f ∙ g)))))
      (cases_lt s from),
)

-- one cell and another one meet, where they lie
pub pair_met : (xs new : List CellView) (from to : ℕ) → length new ≡ length xs → ((k : ℕ) (d : CellView) → (k ≡ to → ⊥) → (k ≡ from → ⊥) → cell_at new k d ≡ cell_at xs k d) → ((d : CellView) → HaveTold (cell_at xs to d) (cell_at new to d) (cell_at xs from d) (cell_at new from d)) → AllMet xs new
pair_met xs new from to count others told = (count, each)
  where
    each : (k : ℕ) (d : CellView) → HasMet (cell_at xs k d) (cell_at new k d)
    each k d = ⊎_elim
        (λ f. subst (λ j. HasMet (cell_at xs j d) (cell_at new j d)) (sym f) (told d).paired.met.sender)
        (λ n. ⊎_elim
        (λ f. subst (λ j. HasMet (cell_at xs j d) (cell_at new j d)) (sym f) (told d).paired.met.receiver)
        (λ m. subst (HasMet (cell_at xs k d)) (sym (others k d m n)) (met_self (cell_at xs k d)))
        (cases_eq k to))
        (cases_eq k from)

-- of the first cells each but this one has met it as its sender
abbrev pub HaveBegunTo : List CellView → ℕ → ℕ → Type 0
HaveBegunTo cells from n = (r : ℕ) (d : CellView) → r < n → (from ≡ r → ⊥) → HasBegun (cell_at cells r d) (cell_at cells from d)

pub begun_more : (init now new : List CellView) (from to : ℕ) → AllMet init now × HaveBegunTo init from to → AllMet now new → ((d : CellView) → HasBegun (cell_at now to d) (cell_at now from d)) → AllMet init new × HaveBegunTo init from (to + 1)
begun_more init now new from to so met begun = (
  all_met_on init now new so.0 met,
  λ r d lt n. ⊎_elim
      (λ l. so.1 r d l n)
      (λ le. let f : to ≡ r = omega (arith, lt, le) in subst (λ q. HasBegun (cell_at init q d) (cell_at init from d)) f (begun_back _ _ _ _ (so.0.1 to d) (so.0.1 from d) (begun d)))
      (cases_lt r to),
)

pub begun_same : (init now : List CellView) (from to : ℕ) → to ≡ from → AllMet init now × HaveBegunTo init from to → AllMet init now × HaveBegunTo init from (to + 1)
begun_same init now from to same so = (
  so.0,
  λ r d lt n. ⊎_elim
      (λ l. so.1 r d l n)
      (λ le. absurd (n (omega (arith, lt, le, same))))
      (cases_lt r to),
)
