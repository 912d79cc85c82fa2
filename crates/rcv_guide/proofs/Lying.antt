-- What lies in a guide's channels, by its ledger.
use Rattle.std.proofs.Common.{◌≡◌, ℕ, suc, ◌-◌, ◌<◌, ◌≤◌, IfSome, Bool, true, false, cond, refl, Option, Some, None, List, [], ◌∷◌, length, drop, sym, ◌∙◌, ap, subst, arith}
use Rattle.std.specs.Prelude.{slice_get}
use Rattle.std.proofs.Math.ListN.{drop_of_length-le}
use Rattle.std.proofs.Math.Seq.{drop-cons}
use Rattle.std.specs.List.{All, cons_option}
use Rattle.std.proofs.lemmas.List.{length-drop}
use Rattle.std.proofs.lemmas.List.Elements.{All-nil, All-cons, All-head, All-tail, All-drop}
use Rattle.std.proofs.lemmas.Option.{get_or_from_slice_get}
use Rattle.rcv_tree.specs.declared.event.Event.{Event}
use Rattle.rcv_tree.specs.declared.event.Message.{Message}
use Rattle.rcv_model.specs.Net.{Net}
use Rattle.rcv_model.specs.Run.{puts_on, put, taken}
use Rattle.rcv_model.proofs.Keeping.{queued_now}
use Rattle.rcv_model.proofs.Lists.{prefix_length}
use Rattle.rcv_model.proofs.Located.{get_below}
use Rattle.rcv_tables.specs.Rows.{TableView}
use Rattle.rcv_ledger.specs.Channels.{ChannelView, channel_at, IsFront}
use Rattle.rcv_ledger.specs.Logs.{log_at}
use Rattle.rcv_ledger.specs.Ledger.{LedgerView}
use Rattle.rcv_guide.specs.Guide.{GuideView, net_for, in_channel, IsOfText, IsGuide}
use Rattle.rcv_guide.proofs.Memories.{put_held, taken_held}
use Rattle.rcv_guide.proofs.Guides.{log_is, carried}

all_of : (P : Event → Type 0) (h : List Event) → ((i : ℕ) (e : Event) → slice_get h i ≡ Some e → P e) → All P h
all_of P [] each = All-nil P
all_of P (e ∷ h) each = All-cons P e h (each 0 e refl) (all_of P h (λ i f at. each (suc i) f at))

-- a message has the point of its Send
put_points : (net : Net) (P : ℕ → Type 0) (a b : ℕ) (h : List Event) → All (λ (e : Event). P e.point) h → All (λ (m : Message). P m.point) (put net a b h)
put_points net P a b [] all = All-nil (λ (m : Message). P m.point)
put_points net P a b (e ∷ h) all = go (puts_on net a b e) (put_points net P a b h (All-tail (λ (e : Event). P e.point) e h all))
  where
    go : (x : Bool) → All (λ (m : Message). P m.point) (put net a b h) → All (λ (m : Message). P m.point) (cons_option (cond x (Some (record { point = e.point; value = e.value; stamp = e.stamp })) None) (put net a b h))
    go true ih = All-cons (λ (m : Message). P m.point) (record { point = e.point; value = e.value; stamp = e.stamp }) (put net a b h) (All-head (λ (e : Event). P e.point) e h all) ih
    go false ih = ih

abbrev channel_with : List Message → ℕ → ChannelView
channel_with put_ taken_ = record { put = put_; taken = taken_ }

module _ {g : GuideView} {table : TableView} {ledger : LedgerView} (kept : IsGuide g table ledger) (a b : ℕ) (la : a < 8) (lb : b < 8) where
  pub told : channel_at ledger.channels a b ≡ record { put = put (net_for g) a b (log_at g.logs a); taken = length (taken (net_for g) a b (log_at g.logs b)) }
  told =
      (carried kept).each a b la lb
      ∙ ap (λ (l : List Event). channel_with (put (net_for g) a b l) (length (taken (net_for g) a b (log_at ledger.logs b)))) (log_is kept a)
      ∙ ap (λ (l : List Event). channel_with (put (net_for g) a b (log_at g.logs a)) (length (taken (net_for g) a b l))) (log_is kept b)

  in_order : length (taken (net_for g) a b (log_at g.logs b)) ≤ length (put (net_for g) a b (log_at g.logs a))
  in_order =
      let m = kept.holds.memory in
      let p = prefix_length _ _ (queued_now (net_for g) m.held kept.holds.is.queued a b) in
      let t = ap length (taken_held g m kept.holds.is a b) in
      let u = ap length (put_held g m kept.holds.is a b) in
      omega (arith, p, t, u)

  pub ordered : (p t : ℕ) → p ≡ length (channel_at ledger.channels a b).put → t ≡ (channel_at ledger.channels a b).taken → t ≤ p
  ordered p t e f =
      let u = e ∙ ap (λ (c : ChannelView). length c.put) told in
      let v = f ∙ ap (λ (c : ChannelView). c.taken) told in
      let o = in_order in
      omega (arith, u, v, o)

  pub much : (p t : ℕ) → p ≡ length (channel_at ledger.channels a b).put → t ≡ (channel_at ledger.channels a b).taken → p - t ≡ length (in_channel g a b)
  much p t e f =
      let u = e ∙ ap (λ (c : ChannelView). length c.put) told in
      let v = f ∙ ap (λ (c : ChannelView). c.taken) told in
      let d = length-drop (length (taken (net_for g) a b (log_at g.logs b))) (put (net_for g) a b (log_at g.logs a)) in
      omega (arith, u, v, d)

  pub behind_taken : (t : ℕ) → t ≡ (channel_at ledger.channels a b).taken → drop t (put (net_for g) a b (log_at g.logs a)) ≡ in_channel g a b
  behind_taken t f = ap (λ n. drop n (put (net_for g) a b (log_at g.logs a))) (f ∙ ap (λ (c : ChannelView). c.taken) told)

  -- what is in front, and where nothing is
  pub front_rest : (m : Message) → slice_get (channel_at ledger.channels a b).put (channel_at ledger.channels a b).taken ≡ Some m → (rest : List Message) × (in_channel g a b ≡ m ∷ rest)
  front_rest m at =
      let n = length (taken (net_for g) a b (log_at g.logs b)) in
      let xs = put (net_for g) a b (log_at g.logs a) in
      let here : slice_get xs n ≡ Some m = subst (λ (c : ChannelView). slice_get c.put c.taken ≡ Some m) told at in
      (drop (suc n) xs, drop-cons xs n m (get_below xs n m here) ∙ ap (λ x. x ∷ drop (suc n) xs) (get_or_from_slice_get xs n m m here))

  pub front_none : length (channel_at ledger.channels a b).put ≤ (channel_at ledger.channels a b).taken → in_channel g a b ≡ []
  front_none few = drop_of_length-le (put (net_for g) a b (log_at g.logs a)) (subst (λ (c : ChannelView). length c.put ≤ c.taken) told few)

  pub front_is : (x : Option Message) → IsFront (channel_at ledger.channels a b) x → x ≡ slice_get (in_channel g a b) 0
  front_is None few = ap (λ (l : List Message). slice_get l 0) (sym (front_none few))
  front_is (Some m) at = ap (λ (l : List Message). slice_get l 0) (sym (front_rest m at).1)

  -- what lies there has points of the text
  pub of_text : All (IsOfText g) (in_channel g a b)
  of_text =
      let P = λ (p : ℕ). (1 ≤ p) × (p ≤ (net_for g).count) in
      All-drop (IsOfText g) (length (taken (net_for g) a b (log_at g.logs b))) (put (net_for g) a b (log_at g.logs a))
      (put_points (net_for g) P a b (log_at g.logs a) (all_of (λ (e : Event). P e.point) (log_at g.logs a) (λ i e at. let own = kept.sound.events a i e at in (own.1, own.2))))

  pub front_of_text : (x : Option Message) → IsFront (channel_at ledger.channels a b) x → IfSome x (IsOfText g)
  front_of_text None few = tt
  front_of_text (Some m) at = let f = front_rest m at in All-head (IsOfText g) m f.0 (subst (All (IsOfText g)) f.1 of_text)
