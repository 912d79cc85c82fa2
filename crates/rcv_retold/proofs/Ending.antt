-- Where roles are at the end: each memory has one such text.
use Rattle.std.proofs.Common.{◌≡◌, ℕ, zero, suc, ◌+◌, ◌<◌, ◌≤◌, Bool, true, false, Some, List, [], ◌∷◌, ◌++◌, length, refl, sym, ◌∙◌, ap, ap₂, subst, ◌⊎◌, inl, inr, arith}
use Rattle.std.specs.Prelude.{slice_get, slice_index_or}
use Rattle.std.proofs.lemmas.Option.{slice_get-get_or}
use Rattle.rcv_tree.specs.declared.protocol.Protocol.{Protocol}
use Rattle.rcv_model.specs.Net.{Net}
use Rattle.rcv_model.specs.Next.{IsNext, AreNext, IsProper}
use Rattle.rcv_model.specs.Journal.{numbers_at as counted_at}
use Rattle.rcv_model.proofs.Lists.{some_same}
use Rattle.rcv_model.proofs.NextLists.{lists_exist}
use Rattle.rcv_accept.specs.Accepted.{net_for as accepted_net, roles_of as accepted_roles}
use Rattle.rcv_told.specs.Told.{Remembered, down_at, made, place}
use Rattle.rcv_told.proofs.Telling.{down_here}
use Rattle.rcv_guide.specs.Guide.{GuideView, net_for, roles_of, stand, IsMemory, IsNextOf}
use Rattle.rcv_guide.specs.Numbers.{numbers_at}
use Rattle.rcv_guide.proofs.Memories.{down_held, place_at}
use Rattle.rcv_dialogue.specs.declared.answer.RoleState.{RoleState}
use Rattle.rcv_dialogue.specs.declared.answer.State.{State}
use Rattle.rcv_dialogue.specs.declared.answer.State.TheVariants.{Done, Waits, Down}
use Rattle.rcv_retold.specs.Closing.{accepted_in, states_text, IsOver, IsState, IsStateOf, AreStates, IsClosing}

-- ---- what a guide says of a role is so of its memory

pub is_down : (g : GuideView) (r : ℕ) → (stand g r).down ≡ Some true → (m : Remembered) → IsMemory g m → IsState (net_for g) m r Down
is_down g r down m mem = down_held g m mem r true down

module _ (g : GuideView) (r : ℕ) (low : r < roles_of g) (m : Remembered) (mem : IsMemory g m) where
  over_held : ((p : ℕ) → IsNextOf g r p → ⊥) → IsOver (net_for g) m r
  over_held over p n = over p (subst (λ k. IsNext (net_for g) r k p) (place_at g m mem r low) n)

  over_seen : IsOver (net_for g) m r → (p : ℕ) → IsNextOf g r p → ⊥
  over_seen over p n = over p (subst (λ k. IsNext (net_for g) r k p) (sym (place_at g m mem r low)) n)

  pub is_done : (stand g r).down ≡ Some false → ((p : ℕ) → IsNextOf g r p → ⊥) → IsState (net_for g) m r Done
  is_done up over = (down_held g m mem r false up, over_held over)

  pub waits : (stand g r).down ≡ Some false → (((p : ℕ) → IsNextOf g r p → ⊥) → ⊥) → IsState (net_for g) m r Waits
  waits up more = (down_held g m mem r false up, λ over. more (over_seen over))

  pub raw_held : (n : ℕ) → n ≡ (numbers_at g.numbers r).raw → n ≡ (counted_at m.roles r).raw
  raw_held n is = is ∙ sym (mem.numbers_are.each r low).raw

-- one role more
pub pushed : {A : Type 0} (P : ℕ → A → Type 0) (xs : List A) (x : A) → P (length xs) x → ((r : ℕ) (y : A) → slice_get xs r ≡ Some y → P r y) → (r : ℕ) (y : A) → slice_get (xs ++ x ∷ []) r ≡ Some y → P r y
pushed P [] x here before zero y there = subst (P 0) (some_same there) here
pushed P [] x here before (suc r) y there = absurd cc
pushed P (z ∷ xs) x here before zero y there = before 0 y there
pushed P (z ∷ xs) x here before (suc r) y there = pushed (λ k. P (suc k)) xs x here (λ q w e. before (suc q) w e) r y there

-- each role is declared
pub declared_states : (net : Net) (roles : ℕ) (m : Remembered) (states : List RoleState) → AreStates net roles m states → (k : ℕ) (d : RoleState) → k < length states → (slice_index_or states k d).role < roles
declared_states net roles m states are k d low =
    let role = (are.each k (slice_index_or states k d) (slice_get-get_or states k d low)).role in
    let all = are.all in
    omega (arith, role, all, low)

pub few_states : (g : GuideView) {m : Remembered} {states : List RoleState} → AreStates (net_for g) (roles_of g) m states → (roles : ℕ) → roles ≡ roles_of g → roles ≤ 8 → length states ≤ 8
few_states g are roles value few = let all = are.all in omega (arith, all, value, few)

-- ---- a role stands in one way

not_both : (m : Remembered) (r : ℕ) → down_at m r ≡ Some true → down_at m r ≡ Some false → ⊥
not_both m r a b = let f : true ≡ false = some_same (sym a ∙ b) in absurd cc

one_state : (net : Net) (m : Remembered) (r : ℕ) (v w : State) → IsState net m r v → IsState net m r w → v ≡ w
one_state net m r Down Down a b = refl
one_state net m r Done Done a b = refl
one_state net m r Waits Waits a b = refl
one_state net m r Down Done a b = absurd (not_both m r a b.0)
one_state net m r Down Waits a b = absurd (not_both m r a b.0)
one_state net m r Done Down a b = absurd (not_both m r b a.0)
one_state net m r Waits Down a b = absurd (not_both m r b a.0)
one_state net m r Done Waits a b = absurd (b.1 a.1)
one_state net m r Waits Done a b = absurd (a.1 b.1)

abbrev state_in : ℕ → ℕ → ℕ → State → RoleState
state_in role kept raw stands = record { role = role; kept = kept; raw = raw; state = stands }

one_of : (net : Net) (m : Remembered) (r : ℕ) (x y : RoleState) → IsStateOf net m r x → IsStateOf net m r y → x ≡ y
one_of net m r x y a b =
    ap (λ n. state_in n x.kept x.raw x.state) (a.role ∙ sym b.role)
    ∙ ap (λ n. state_in y.role n x.raw x.state) (a.kept ∙ sym b.kept)
    ∙ ap (λ n. state_in y.role y.kept n x.state) (a.raw ∙ sym b.raw)
    ∙ ap (λ w. state_in y.role y.kept y.raw w) (one_state net m r x.state y.state a.stands b.stands)

same_lists : {A : Type 0} (xs ys : List A) → length xs ≡ length ys → ((r : ℕ) (x y : A) → slice_get xs r ≡ Some x → slice_get ys r ≡ Some y → x ≡ y) → xs ≡ ys
same_lists [] [] many each = refl
same_lists [] (y ∷ ys) many each = absurd (omega (arith, many))
same_lists (x ∷ xs) [] many each = absurd (omega (arith, many))
same_lists (x ∷ xs) (y ∷ ys) many each = ap₂ (λ z zs. z ∷ zs) (each 0 x y refl refl) (same_lists xs ys (omega (arith, many)) (λ r a b f g. each (suc r) a b f g))

one_states : (net : Net) (roles : ℕ) (m : Remembered) (xs ys : List RoleState) → AreStates net roles m xs → AreStates net roles m ys → xs ≡ ys
one_states net roles m xs ys a b = same_lists xs ys (a.all ∙ sym b.all) (λ r x y f g. one_of net m r x y (a.each r x f) (b.each r y g))

-- A memory has one text.
pub one_closing : (protocol : Protocol) (m : Remembered) (a b : List ℕ) → IsClosing protocol m a → IsClosing protocol m b → a ≡ b
one_closing protocol m a b x y =
    x.is ∙ ap (states_text protocol) (one_states (accepted_net (accepted_in protocol)) (accepted_roles (accepted_in protocol)) m x.states y.states x.are y.are) ∙ sym y.is

-- ---- and it has one

module _ (net : Net) (roles : ℕ) (proper : IsProper net roles) (m : Remembered) (sized : length m.roles ≡ roles) where
  over_or_not : (r : ℕ) → IsOver net m r ⊎ (IsOver net m r → ⊥)
  over_or_not r = go (lists_exist net roles r (place m r) proper)
    where
      go : (zs : List ℕ) × AreNext net r (place m r) zs → IsOver net m r ⊎ (IsOver net m r → ⊥)
      go ([], next) = inl (λ z is_next. next.complete z is_next)
      go (z ∷ zs, next) = inr (λ over. over z (next.sound z (inl refl)))

  own_state : (r : ℕ) → r < roles → (word : State) × IsState net m r word
  own_state r low = go _ (down_here m.roles r (omega (arith, low, sized))) (over_or_not r)
    where
      go : (b : Bool) → down_at m r ≡ Some b → IsOver net m r ⊎ (IsOver net m r → ⊥) → (word : State) × IsState net m r word
      go true down either = (Down, down)
      go false up (inl over) = (Done, (up, over))
      go false up (inr more) = (Waits, (up, more))

  -- those of so many roles, from r on
  record HasStates (r n : ℕ) : Type 0 where
    pub states : List RoleState
    pub all : length states ≡ n
    pub each : (i : ℕ) (own : RoleState) → slice_get states i ≡ Some own → IsStateOf net m (r + i) own

  states_from : (r n : ℕ) → r + n ≡ roles → HasStates r n
  states_from r zero end = record { states = []; all = refl; each = λ i own there. absurd cc }
  states_from r (suc n) end = go (own_state r (omega (arith, end))) (states_from (suc r) n (omega (arith, end)))
    where
      go : (word : State) × IsState net m r word → HasStates (suc r) n → HasStates r (suc n)
      go word rest = record {
        states = state_in r (made m r) (counted_at m.roles r).raw word.0 ∷ rest.states;
        all = ap suc rest.all;
        each = one;
      }
        where
          one : (i : ℕ) (own : RoleState) → slice_get (state_in r (made m r) (counted_at m.roles r).raw word.0 ∷ rest.states) i ≡ Some own → IsStateOf net m (r + i) own
          one zero own there =
              let here : r ≡ r + 0 = omega arith in
              subst (λ k. IsStateOf net m k own) here (subst (IsStateOf net m r) (some_same there) (record { role = refl; kept = refl; raw = refl; stands = word.1 }))
          one (suc i) own there =
              let next : suc r + i ≡ r + suc i = omega arith in
              subst (λ k. IsStateOf net m k own) next (rest.each i own there)

  all_states : (states : List RoleState) × AreStates net roles m states
  all_states =
      let found = states_from 0 roles (omega arith) in
      (found.states, record { all = found.all; each = λ r own there. let from_0 : 0 + r ≡ r = omega arith in subst (λ k. IsStateOf net m k own) from_0 (found.each r own there) })

pub closing_exists : (protocol : Protocol) (m : Remembered) → IsProper (accepted_net (accepted_in protocol)) (accepted_roles (accepted_in protocol)) → length m.roles ≡ accepted_roles (accepted_in protocol) → (text : List ℕ) × IsClosing protocol m text
closing_exists protocol m proper sized =
    let found = all_states (accepted_net (accepted_in protocol)) (accepted_roles (accepted_in protocol)) proper m sized in
    (states_text protocol found.0, record { states = found.0; are = found.1; is = refl })
