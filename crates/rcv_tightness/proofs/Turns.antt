-- A walk that is done in turn: at each point its Send, and at once its Recv. It is a run, and leaves each channel empty.
use Rattle.std.proofs.Common.{◌≡◌, ℕ, false, cond, Option, Some, None, List, [], ◌∷◌, ◌++◌, refl, sym, ◌∙◌, ap, subst, inl, inr, arith, eq-eqb, ne_eqb}
use Rattle.std.specs.Prelude.{ℤ, pos}
use Rattle.std.specs.List.{cons_option}
use Rattle.std.proofs.lemmas.Bool.Decides.{nat_tests}
use Rattle.rcv_tree.specs.declared.event.Event.{Event}
use Rattle.rcv_tree.specs.declared.event.Message.{Message}
use Rattle.rcv_tree.specs.declared.event.Dir.{Dir}
use Rattle.rcv_tree.specs.declared.event.Dir.TheVariants.{Sent, Got}
use Rattle.rcv_model.specs.Net.{Net, IsWalk, IsPrefix, HasTwoEnds}
use Rattle.rcv_model.specs.Run.{Act, act_at, act_of, acts, part, puts_on, takes_on, put_by, taken_by, put, taken, IsQueued, IsRunOf}
use Rattle.rcv_model.proofs.Lists.{prefix_nil, prefix_same}
use Rattle.rcv_model.proofs.Parts.{ActCase, none, sends, gets, act_case}

-- the Send and the Recv of a point
pub record IsTurn (net : Net) (x : ℕ) (a b : Event) : Type 0 where
  pub sender : a.role ≡ net.sender x
  pub is_send : a.dir ≡ Sent
  pub sent_at : a.point ≡ x
  pub receiver : b.role ≡ net.receiver x
  pub is_recv : b.dir ≡ Got
  pub got_at : b.point ≡ x
  pub value : b.value ≡ a.value
  pub stamp : b.sent ≡ a.stamp

-- the events are those of a walk in turn
abbrev pub AreInTurn : Net → List ℕ → List Event → Type 0
AreInTurn net [] [] = Unit {0}
AreInTurn net [] (e ∷ h) = ⊥
AreInTurn net (x ∷ w) [] = ⊥
AreInTurn net (x ∷ w) (a ∷ []) = ⊥
AreInTurn net (x ∷ w) (a ∷ (b ∷ h)) = IsTurn net x a b × AreInTurn net w h

-- such events, with no values and stamps
abbrev pub sent_at : Net → ℕ → Event
sent_at net x = record { role = net.sender x; dir = Sent; point = x; value = pos 0; stamp = 0; sent = 0 }

abbrev pub got_at : Net → ℕ → Event
got_at net x = record { role = net.receiver x; dir = Got; point = x; value = pos 0; stamp = 0; sent = 0 }

abbrev pub in_turn : Net → List ℕ → List Event
in_turn net [] = []
in_turn net (x ∷ w) = sent_at net x ∷ (got_at net x ∷ in_turn net w)

pub are_in_turn : (net : Net) (w : List ℕ) → AreInTurn net w (in_turn net w)
are_in_turn net [] = tt
are_in_turn net (x ∷ w) = (
  record { sender = refl; is_send = refl; sent_at = refl; receiver = refl; is_recv = refl; got_at = refl; value = refl; stamp = refl },
  are_in_turn net w,
)

abbrev act_with : Dir → ℕ → Act
act_with d x = record { dir = d; point = x }

abbrev message_with : ℕ → ℤ → ℕ → Message
message_with x v t = record { point = x; value = v; stamp = t }

-- what a role does at a point
turn_acts : (net : Net) (x r : ℕ) (a b : Event) (more : List Act) → HasTwoEnds net → IsTurn net x a b
    → cons_option (act_of r a) (cons_option (act_of r b) more) ≡ cons_option (act_at net r x) more
turn_acts net x r a b more two t = go (act_case net r x)
  where
    own : (e : Event) → e.role ≡ r → act_of r e ≡ Some (record { dir = e.dir; point = e.point })
    own e f = ap (λ c. cond c (Some (record { dir = e.dir; point = e.point })) None) (eq-eqb e.role r f)

    other : (e : Event) → (e.role ≡ r → ⊥) → act_of r e ≡ None
    other e n = ap (λ c. cond c (Some (record { dir = e.dir; point = e.point })) None) (ne_eqb e.role r n)

    is_act : (e : Event) (d : Dir) → e.dir ≡ d → e.point ≡ x → act_with e.dir e.point ≡ act_with d x
    is_act e d f g = ap (λ y. act_with y e.point) f ∙ ap (act_with d) g

    go : ActCase net r x → cons_option (act_of r a) (cons_option (act_of r b) more) ≡ cons_option (act_at net r x) more
    go (none e n) = ap (λ o. cons_option o (cons_option (act_of r b) more)) (other a (λ f. n (inl (sym t.sender ∙ f))))
        ∙ ap (λ o. cons_option o more) (other b (λ f. n (inr (sym t.receiver ∙ f)))) ∙ ap (λ o. cons_option o more) (sym e)
    go (sends e f) = ap (λ o. cons_option o (cons_option (act_of r b) more)) (own a (t.sender ∙ f))
        ∙ ap (λ o. record { dir = a.dir; point = a.point } ∷ cons_option o more) (other b (λ g. two x (f ∙ sym g ∙ t.receiver)))
        ∙ ap (λ z. z ∷ more) (is_act a Sent t.is_send t.sent_at) ∙ ap (λ o. cons_option o more) (sym e)
    go (gets e f n) = ap (λ o. cons_option o (cons_option (act_of r b) more)) (other a (λ g. n (sym t.sender ∙ g)))
        ∙ ap (λ o. cons_option o more) (own b (t.receiver ∙ f)) ∙ ap (λ z. z ∷ more) (is_act b Got t.is_recv t.got_at)
        ∙ ap (λ o. cons_option o more) (sym e)

-- each role does its part of the walk, all of it
pub acts_in_turn : (net : Net) (w : List ℕ) (h : List Event) (r : ℕ) → HasTwoEnds net → AreInTurn net w h → acts r h ≡ part net r w
acts_in_turn net [] [] r two t = refl
acts_in_turn net [] (e ∷ h) r two t = absurd t
acts_in_turn net (x ∷ w) [] r two t = absurd t
acts_in_turn net (x ∷ w) (a ∷ []) r two t = absurd t
acts_in_turn net (x ∷ w) (a ∷ (b ∷ h)) r two t = ap (λ l. cons_option (act_of r a) (cons_option (act_of r b) l)) (acts_in_turn net w h r two t.1)
    ∙ turn_acts net x r a b (part net r w) two t.0

-- a Send takes nothing, a Recv puts nothing
takes_none : (net : Net) (s r : ℕ) (e : Event) → e.dir ≡ Sent → taken_by net s r e ≡ None
takes_none net s r e d = let f : takes_on net s r e ≡ false = grind (arith, nat_tests) in
    ap (λ c. cond c (Some (record { point = e.point; value = e.value; stamp = e.sent })) None) f

puts_none : (net : Net) (s r : ℕ) (e : Event) → e.dir ≡ Got → put_by net s r e ≡ None
puts_none net s r e d = let f : puts_on net s r e ≡ false = grind (arith, nat_tests) in
    ap (λ c. cond c (Some (record { point = e.point; value = e.value; stamp = e.stamp })) None) f

-- what the Send puts is what the Recv takes
same_message : (net : Net) (x s r : ℕ) (a b : Event) → IsTurn net x a b → put_by net s r a ≡ taken_by net s r b
same_message net x s r a b t = ap (λ c. cond c (Some (record { point = a.point; value = a.value; stamp = a.stamp })) None) same
    ∙ ap (λ m. cond (takes_on net s r b) (Some m) None) message
  where
    same : puts_on net s r a ≡ takes_on net s r b
    same = let d = t.is_send in let e = t.is_recv in let f = t.sender in let g = t.receiver in let i = t.sent_at in let k = t.got_at in
        grind (arith, nat_tests)

    message : message_with a.point a.value a.stamp ≡ message_with b.point b.value b.sent
    message = ap (λ y. message_with y a.value a.stamp) (t.sent_at ∙ sym t.got_at) ∙ ap (λ y. message_with b.point y a.stamp) (sym t.value)
        ∙ ap (message_with b.point b.value) (sym t.stamp)

turn_put : (net : Net) (x s r : ℕ) (a b : Event) (h : List Event) → IsTurn net x a b
    → put net s r (a ∷ (b ∷ h)) ≡ cons_option (taken_by net s r b) (put net s r h)
turn_put net x s r a b h t = ap (λ o. cons_option (put_by net s r a) (cons_option o (put net s r h))) (puts_none net s r b t.is_recv)
    ∙ ap (λ o. cons_option o (put net s r h)) (same_message net x s r a b t)

turn_taken : (net : Net) (x s r : ℕ) (a b : Event) (h : List Event) → IsTurn net x a b
    → taken net s r (a ∷ (b ∷ h)) ≡ cons_option (taken_by net s r b) (taken net s r h)
turn_taken net x s r a b h t = ap (λ o. cons_option o (cons_option (taken_by net s r b) (taken net s r h))) (takes_none net s r a t.is_send)

-- all that is put is taken
pub all_taken : (net : Net) (w : List ℕ) (h : List Event) (s r : ℕ) → AreInTurn net w h → put net s r h ≡ taken net s r h
all_taken net [] [] s r t = refl
all_taken net [] (e ∷ h) s r t = absurd t
all_taken net (x ∷ w) [] s r t = absurd t
all_taken net (x ∷ w) (a ∷ []) s r t = absurd t
all_taken net (x ∷ w) (a ∷ (b ∷ h)) s r t = turn_put net x s r a b h t.0 ∙ ap (cons_option (taken_by net s r b)) (all_taken net w h s r t.1)
    ∙ sym (turn_taken net x s r a b h t.0)

prefix_one : {A : Type 0} (o : Option A) (xs ys : List A) → IsPrefix xs ys → IsPrefix (cons_option o xs) (cons_option o ys)
prefix_one None xs ys p = p
prefix_one (Some x) xs ys p = (p.0, ap (λ l. x ∷ l) p.1)

-- the events are queued
pub queued_in_turn : (net : Net) (w : List ℕ) (h : List Event) → AreInTurn net w h → IsQueued net h
queued_in_turn net w h t [] back e s r = ([], refl)
queued_in_turn net [] [] t (c ∷ front) back e s r = absurd (cc)
queued_in_turn net [] (d ∷ h) t (c ∷ front) back e s r = absurd t
queued_in_turn net (x ∷ w) [] t (c ∷ front) back e s r = absurd t
queued_in_turn net (x ∷ w) (a ∷ []) t (c ∷ front) back e s r = absurd t
queued_in_turn net (x ∷ w) (a ∷ (b ∷ h)) t (c ∷ []) back e s r =
    let f : c ≡ a = cc in
    subst (λ l. IsPrefix l (put net s r (c ∷ [])))
    (sym (ap (λ o. cons_option o []) (takes_none net s r c (ap (λ (y : Event). y.dir) f ∙ t.0.is_send)))) (prefix_nil (put net s r (c ∷ [])))
queued_in_turn net (x ∷ w) (a ∷ (b ∷ h)) t (c ∷ (d ∷ front)) back e s r =
    let f : c ≡ a = cc in
    let g : d ≡ b = cc in
    let k : front ++ back ≡ h = cc in
    let turn = subst (λ y. IsTurn net x y d) (sym f) (subst (IsTurn net x a) (sym g) t.0) in
    subst (λ l. IsPrefix l (put net s r (c ∷ (d ∷ front)))) (sym (turn_taken net x s r c d front turn))
    (subst (IsPrefix (cons_option (taken_by net s r d) (taken net s r front))) (sym (turn_put net x s r c d front turn))
    (prefix_one (taken_by net s r d) (taken net s r front) (put net s r front) (queued_in_turn net w h t.1 front back k s r)))

-- so they are a run
pub run_in_turn : (net : Net) (w : List ℕ) (h : List Event) → HasTwoEnds net → IsWalk net 0 w → AreInTurn net w h → IsRunOf net w h
run_in_turn net w h two walk t =
    record { walk = walk; parts = λ r. prefix_same (acts r h) (part net r w) (acts_in_turn net w h r two t); queued = queued_in_turn net w h t }

-- the events of a walk and of what comes after it
pub turns_join : (net : Net) (u v : List ℕ) (g h : List Event) → AreInTurn net u g → AreInTurn net v h → AreInTurn net (u ++ v) (g ++ h)
turns_join net [] v [] h s t = t
turns_join net [] v (e ∷ g) h s t = absurd s
turns_join net (x ∷ u) v [] h s t = absurd s
turns_join net (x ∷ u) v (a ∷ []) h s t = absurd s
turns_join net (x ∷ u) v (a ∷ (b ∷ g)) h s t = (s.0, turns_join net u v g h s.1 t)

-- events of a walk in turn, cut at one of its points
pub record CutTurns (net : Net) (u : List ℕ) (z : ℕ) (f : List Event) : Type 0 where
  pub ahead : List Event
  pub send : Event
  pub recv : Event
  pub back : List Event
  pub turns : AreInTurn net u ahead
  pub turn : IsTurn net z send recv
  pub all : ahead ++ send ∷ (recv ∷ back) ≡ f

pub cut_turns : (net : Net) (u : List ℕ) (z : ℕ) (v : List ℕ) (f : List Event) → AreInTurn net (u ++ z ∷ v) f → CutTurns net u z f
cut_turns net [] z v [] t = absurd t
cut_turns net [] z v (a ∷ []) t = absurd t
cut_turns net [] z v (a ∷ (b ∷ f)) t = record { ahead = []; send = a; recv = b; back = f; turns = tt; turn = t.0; all = refl }
cut_turns net (x ∷ u) z v [] t = absurd t
cut_turns net (x ∷ u) z v (a ∷ []) t = absurd t
cut_turns net (x ∷ u) z v (a ∷ (b ∷ f)) t =
    let c = cut_turns net u z v f t.1 in
    record {
      ahead = a ∷ (b ∷ c.ahead);
      send = c.send;
      recv = c.recv;
      back = c.back;
      turns = (t.0, c.turns);
      turn = c.turn;
      all =
          ap (λ l. a ∷ (b ∷ l)) c.all;
    }

-- events of two walks in turn, one after the other
pub record SplitTurns (net : Net) (u v : List ℕ) (h : List Event) : Type 0 where
  pub front : List Event
  pub back : List Event
  pub first : AreInTurn net u front
  pub second : AreInTurn net v back
  pub all : front ++ back ≡ h

pub split_turns : (net : Net) (u v : List ℕ) (h : List Event) → AreInTurn net (u ++ v) h → SplitTurns net u v h
split_turns net [] v h t = record { front = []; back = h; first = tt; second = t; all = refl }
split_turns net (x ∷ u) v [] t = absurd t
split_turns net (x ∷ u) v (a ∷ []) t = absurd t
split_turns net (x ∷ u) v (a ∷ (b ∷ h)) t =
    let c = split_turns net u v h t.1 in
    record { front = a ∷ (b ∷ c.front); back = c.back; first = (t.0, c.first); second = c.second; all = ap (λ l. a ∷ (b ∷ l)) c.all }
