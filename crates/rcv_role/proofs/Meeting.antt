-- Two cells meet: what their ends tell of each other changes, and nothing else.
use Rattle.std.proofs.Common.{◌≡◌, ℕ, ◌+◌, List, length, take, refl, sym, ◌∙◌, ap, subst, ⊎_elim, arith}
use Rattle.std.specs.Prelude.{slice_index_or}
use Rattle.std.proofs.lemmas.Bool.{cases_eq}
use Rattle.rcv_model.specs.Journal.{Rules}
use Rattle.rcv_ring.specs.Lists.{Begins}
use Rattle.rcv_ring.specs.Points.{HasPoint}
use Rattle.rcv_mailbox.specs.Ends.{End, through, received, Knows, IsChannel}
use Rattle.rcv_role.specs.Part.{PartView}
use Rattle.rcv_role.specs.Ends.{slot, end_at, AreEnds, StaysEnd, IsSameAs, AreRewound, OthersStay}
use Rattle.rcv_role.specs.Cell.{CellView, cell_of, IsSettled, HasMet, HaveMet, HaveRewound, HasRewoundAlone}

pub stays_self : (e : End) → StaysEnd e e
stays_self e = record { limit = refl; ring = refl; room = refl; points = refl }

pub same_self : (e : End) → IsSameAs e e
same_self e = record { stays = stays_self e; list = refl; got = refl; dropped = refl; rewound = refl }

-- ends of one channel stay that where they tell the same
pub channel_same : (post post' inbox inbox' : End) → IsSameAs post post' → IsSameAs inbox inbox' → IsChannel post inbox → IsChannel post' inbox'
channel_same post post' inbox inbox' a b c = record {
  ring = b.stays.ring ∙ c.ring ∙ sym a.stays.ring;
  dropped_is = b.dropped ∙ c.dropped_is ∙ sym a.dropped;
  rewound_is = b.rewound ∙ c.rewound_is ∙ sym a.rewound;
  limit_is = b.stays.limit ∙ c.limit_is ∙ sym a.stays.limit;
  first = ap (λ n. take n inbox'.list) a.rewound ∙ ap (take post.rewound) b.list ∙ c.first ∙ ap (take post.rewound) (sym a.list) ∙ ap (λ n. take n post'.list) (sym a.rewound);
}

-- ends that stay ends stay those of the cell
pub same_ends : (rules : Rules) (r : ℕ) (posts posts' inboxes inboxes' : List End) → length posts' ≡ length posts → length inboxes' ≡ length inboxes → ((k : ℕ) (d : End) → StaysEnd (slice_index_or posts k d) (slice_index_or posts' k d)) → ((k : ℕ) (d : End) → StaysEnd (slice_index_or inboxes k d) (slice_index_or inboxes' k d)) → AreEnds rules r posts inboxes → AreEnds rules r posts' inboxes'
same_ends rules r posts posts' inboxes inboxes' m n f g ends = record {
  declared = ends.declared;
  post_count = ap (λ x. x + 1) m ∙ ends.post_count;
  inbox_count = ap (λ x. x + 1) n ∙ ends.inbox_count;
  post = λ q d lt o. let old = ends.post q d lt o in let s = f (slot r q) d in record { limit = s.limit ∙ old.limit; room = s.room ∙ old.room; points = λ x a b h i. subst (λ ws. HasPoint ws x) (sym s.points) (old.points x a b h i) };
  inbox = λ q d lt o. let old = ends.inbox q d lt o in let s = g (slot r q) d in record { limit = s.limit ∙ old.limit; points = λ x h. old.points x (subst (λ ws. HasPoint ws x) s.points h) };
}

-- a cell that has met is settled as before
pub settled_met : (old new : CellView) → HasMet old new → IsSettled old → IsSettled new
settled_met old new met settled = subst (λ (p : PartView). IsSettled (cell_of p new.posts new.inboxes)) (sym met.part) (λ q d lt n.
    let s = settled q d lt n in
    let a = met.posts (slot old.part.role q) d in
    let b = met.inboxes (slot old.part.role q) d in
    record {
      put = a.list ∙ s.put;
      through = let t = s.through in let u = met.through (slot old.part.role q) d in omega (arith, t, u);
      got = b.got ∙ s.got;
      taken = ap (λ k. take k (end_at new.inboxes old.part.role q d).list) b.got ∙ ap (take (end_at old.inboxes old.part.role q d).got) b.list ∙ s.taken;
    })

-- one end has changed, and the others are as before
pub change_one : (P : End → End → Type 0) → ((e : End) → P e e) → (ends ends' : List End) (at : ℕ) → OthersStay ends ends' at → ((d : End) → P (slice_index_or ends at d) (slice_index_or ends' at d)) → (k : ℕ) (d : End) → P (slice_index_or ends k d) (slice_index_or ends' k d)
change_one P self ends ends' at others one k d = ⊎_elim
    (λ f. subst (λ j. P (slice_index_or ends j d) (slice_index_or ends' j d)) (sym f) (one d))
    (λ n. subst (P (slice_index_or ends k d)) (sym (others.others k d n)) (self (slice_index_or ends k d)))
    (cases_eq k at)

abbrev SentAsMuch : End → End → Type 0
SentAsMuch old new = through new ≡ through old

pub met_inboxes : (p : PartView) (posts inboxes inboxes' : List End) (q : CellView) (at : ℕ) → cell_of p posts inboxes ≡ q → OthersStay inboxes inboxes' at → ((d : End) → IsSameAs (slice_index_or inboxes at d) (slice_index_or inboxes' at d)) → HasMet q (cell_of p posts inboxes')
met_inboxes p posts inboxes inboxes' q at is others one = subst (λ c. HasMet c (cell_of p posts inboxes')) is (record {
  part = refl;
  posts = λ k d. same_self (slice_index_or posts k d);
  through = λ k d. refl;
  inboxes = change_one IsSameAs same_self inboxes inboxes' at others one;
})

pub met_posts : (p : PartView) (posts posts' inboxes : List End) (q : CellView) (to : ℕ) → cell_of p posts inboxes ≡ q → OthersStay posts posts' to → ((d : End) → IsSameAs (slice_index_or posts to d) (slice_index_or posts' to d)) → ((d : End) → through (slice_index_or posts' to d) ≡ through (slice_index_or posts to d)) → HasMet q (cell_of p posts' inboxes)
met_posts p posts posts' inboxes q to is others one through_is = subst (λ c. HasMet c (cell_of p posts' inboxes)) is (record {
  part = refl;
  posts = change_one IsSameAs same_self posts posts' to others one;
  through = change_one SentAsMuch (λ e. refl) posts posts' to others through_is;
  inboxes = λ k d. same_self (slice_index_or inboxes k d);
})

pub inbox_ends : (rules : Rules) (r : ℕ) (posts inboxes inboxes' : List End) (at : ℕ) → AreEnds rules r posts inboxes → OthersStay inboxes inboxes' at → ((d : End) → StaysEnd (slice_index_or inboxes at d) (slice_index_or inboxes' at d)) → AreEnds rules r posts inboxes'
inbox_ends rules r posts inboxes inboxes' at ends others one = same_ends rules r posts posts inboxes inboxes' refl others.count (λ k d. stays_self (slice_index_or posts k d)) (change_one StaysEnd stays_self inboxes inboxes' at others one) ends

pub post_ends : (rules : Rules) (r : ℕ) (posts posts' inboxes : List End) (to : ℕ) → AreEnds rules r posts inboxes → OthersStay posts posts' to → ((d : End) → StaysEnd (slice_index_or posts to d) (slice_index_or posts' to d)) → AreEnds rules r posts' inboxes
post_ends rules r posts posts' inboxes to ends others one = same_ends rules r posts posts' inboxes inboxes others.count refl (change_one StaysEnd stays_self posts posts' to others one) (λ k d. stays_self (slice_index_or inboxes k d)) ends

-- where the two ends of one channel stand, as the function of two cells has it
module _ (p : PartView) (posts inboxes : List End) (q : CellView) (p2 : PartView) (posts2 inboxes2 : List End) (s : CellView) (r1 r2 r3 r4 at to : ℕ) (is : cell_of p posts inboxes ≡ q) (is2 : cell_of p2 posts2 inboxes2 ≡ s) (a : r1 ≡ p.role) (b : r2 ≡ p2.role) (c : at ≡ slot r1 r2) (e : r3 ≡ p2.role) (f : r4 ≡ p.role) (g : to ≡ slot r3 r4) where
  pub at_is : at ≡ slot p.role p2.role
  at_is = c ∙ ap (λ r. slot r r2) a ∙ ap (slot p.role) b

  pub to_is : to ≡ slot p2.role p.role
  to_is = g ∙ ap (λ r. slot r r4) e ∙ ap (slot p2.role) f

  -- of the fields, what was asked of the cells; and of the cells, what was told of the fields
  pub asked : (P : End → End → Type 0) → ((d : End) → P (end_at s.posts s.part.role q.part.role d) (end_at q.inboxes q.part.role s.part.role d)) → (d : End) → P (slice_index_or posts2 to d) (slice_index_or inboxes at d)
  asked P h d =
      subst (λ (z : ℕ × ℕ). P (slice_index_or posts2 z.0 d) (slice_index_or inboxes z.1 d)) (λ i. (sym to_is i, sym at_is i))
      (subst (λ (z : CellView × CellView). P (end_at z.1.posts z.1.part.role z.0.part.role d) (end_at z.0.inboxes z.0.part.role z.1.part.role d)) (λ i. (sym is i, sym is2 i)) (h d))

  pub told : (P : End → End → Type 0) → ((d : End) → P (slice_index_or posts2 to d) (slice_index_or inboxes at d)) → (d : End) → P (end_at s.posts s.part.role q.part.role d) (end_at q.inboxes q.part.role s.part.role d)
  told P h d =
      subst (λ (z : CellView × CellView). P (end_at z.1.posts z.1.part.role z.0.part.role d) (end_at z.0.inboxes z.0.part.role z.1.part.role d)) (λ i. (is i, is2 i))
      (subst (λ (z : ℕ × ℕ). P (slice_index_or posts2 z.0 d) (slice_index_or inboxes z.1 d)) (λ i. (to_is i, at_is i)) (h d))

  -- of the ends as they are now, too
  pub told_now : (posts2' inboxes' : List End) (P : End → End → End → End → Type 0) → ((d : End) → P (slice_index_or posts2 to d) (slice_index_or posts2' to d) (slice_index_or inboxes at d) (slice_index_or inboxes' at d)) → (d : End) → P (end_at s.posts s.part.role q.part.role d) (end_at posts2' p2.role p.role d) (end_at q.inboxes q.part.role s.part.role d) (end_at inboxes' p.role p2.role d)
  told_now posts2' inboxes' P h d =
      subst (λ (z : CellView × CellView). P (end_at z.1.posts z.1.part.role z.0.part.role d) (end_at posts2' p2.role p.role d) (end_at z.0.inboxes z.0.part.role z.1.part.role d) (end_at inboxes' p.role p2.role d)) (λ i. (is i, is2 i))
      (subst (λ (z : ℕ × ℕ). P (slice_index_or posts2 z.0 d) (slice_index_or posts2' z.0 d) (slice_index_or inboxes z.1 d) (slice_index_or inboxes' z.1 d)) (λ i. (to_is i, at_is i)) (h d))

  module _ (posts2' inboxes' : List End) (other_posts : OthersStay posts2 posts2' to) (other_inboxes : OthersStay inboxes inboxes' at) where
    pub have_met : (between : ℕ) → ((d : End) → IsSameAs (slice_index_or inboxes at d) (slice_index_or inboxes' at d)) → ((d : End) → IsSameAs (slice_index_or posts2 to d) (slice_index_or posts2' to d)) → ((d : End) → through (slice_index_or posts2' to d) ≡ through (slice_index_or posts2 to d)) → ((d : End) → Begins (slice_index_or inboxes at d).list (slice_index_or posts2 to d).list) → ((d : End) → length (slice_index_or posts2 to d).list ≡ length (slice_index_or inboxes at d).list + between) → ((d : End) → Knows (slice_index_or inboxes' at d) (length (slice_index_or posts2 to d).list)) → ((d : End) → Knows (slice_index_or posts2' to d) (length (slice_index_or inboxes at d).list)) → HaveMet s (cell_of p2 posts2' inboxes2) q (cell_of p posts inboxes') between
    have_met between inbox post through_is begins count inbox_knows post_knows = record {
      sender = met_posts p2 posts2 posts2' inboxes2 s to is2 other_posts post through_is;
      receiver = met_inboxes p posts inboxes inboxes' q at is other_inboxes inbox;
      begins = told (λ (x y : End). Begins y.list x.list) begins;
      count = told (λ (x y : End). length x.list ≡ length y.list + between) count;
      inbox_knows = told_now posts2' inboxes' (λ (x x' y y' : End). Knows y' (length x.list)) inbox_knows;
      post_knows = told_now posts2' inboxes' (λ (x x' y y' : End). Knows x' (length y.list)) post_knows;
    }

    pub have_rewound : (keep drop_from : ℕ) → ((d : End) → AreRewound (slice_index_or posts2 to d) (slice_index_or posts2' to d) (slice_index_or inboxes at d) (slice_index_or inboxes' at d) keep drop_from) → HaveRewound s (cell_of p2 posts2' inboxes2) q (cell_of p posts inboxes') keep drop_from
    have_rewound keep drop_from rewound = record {
      sender_part = ap (λ (z : CellView). z.part) is2;
      sender_inboxes = ap (λ (z : CellView). z.inboxes) is2;
      other_posts = subst (λ (z : CellView × CellView). OthersStay z.1.posts posts2' (slot z.1.part.role z.0.part.role)) (λ i. (is i, is2 i)) (subst (OthersStay posts2 posts2') to_is other_posts);
      receiver_part = ap (λ (z : CellView). z.part) is;
      receiver_posts = ap (λ (z : CellView). z.posts) is;
      other_inboxes = subst (λ (z : CellView × CellView). OthersStay z.0.inboxes inboxes' (slot z.0.part.role z.1.part.role)) (λ i. (is i, is2 i)) (subst (OthersStay inboxes inboxes') at_is other_inboxes);
      rewound = told_now posts2' inboxes' (λ (a' b' e' f' : End). AreRewound a' b' e' f' keep drop_from) rewound;
    }

-- one cell alone
pub has_rewound_alone : (p : PartView) (posts inboxes inboxes' : List End) (q : CellView) (r sender at keep : ℕ) → cell_of p posts inboxes ≡ q → r ≡ p.role → at ≡ slot r sender → OthersStay inboxes inboxes' at → ((d : End) → slice_index_or inboxes' at d ≡ received (slice_index_or inboxes at d) keep) → HasRewoundAlone q (cell_of p posts inboxes') sender keep
has_rewound_alone p posts inboxes inboxes' q r sender at keep is role_is at_is others one = subst (λ z. HasRewoundAlone z (cell_of p posts inboxes') sender keep) is (record {
  part = refl;
  posts = refl;
  other_inboxes = subst (OthersStay inboxes inboxes') here others;
  inbox = λ d. subst (λ k. slice_index_or inboxes' k d ≡ received (slice_index_or inboxes k d) keep) here (one d);
})
  where
    here : at ≡ slot p.role sender
    here = at_is ∙ ap (λ n. slot n sender) role_is
