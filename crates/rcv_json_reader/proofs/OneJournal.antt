-- A text is read as one journal at most: each value says one entry, one line, one role.
use Rattle.std.proofs.Common.{◌≡◌, ℕ, ℤ, pos, negsuc, zero, suc, ◌+◌, ◌^◌, ◌<◌, ◌≤◌, true, false, ◌==◌, List, [], ◌∷◌, ◌++◌, map, refl, sym, ◌∙◌, ap, subst, ⊎_elim, arith}
use Rattle.std.specs.Prelude.{All, codes, flat_map, option_and_then, slice_index, slice_index_or, unwrap_or}
use Rattle.std.specs.List.{range_with_len}
use Rattle.std.specs.Int.{bit_at}
use Rattle.std.proofs.lemmas.Bool.{cases_Bool, cases_eq, cases_lt}
use Rattle.std.proofs.lemmas.Grind.{same_number_lists}
use Rattle.std.proofs.lemmas.Nat.Bits.{bit_at_above, bit_at-lt, same_from_bits_below}
use Rattle.std.proofs.lemmas.Option.{slice_get-get_or}
use Rattle.serde_json.specs.Data.{Data, Items, Members, array, item, member, no_items, no_members, null, number, object, string}
use Rattle.serde_json.specs.Find.{as_integer, as_number, as_str, of_integer}
use Rattle.rcv_tree.specs.Bits.{has_bit}
use Rattle.rcv_tree.specs.declared.event.Event.{Event}
use Rattle.rcv_tree.specs.declared.role.RoleSet.{RoleSet}
use Rattle.rcv_tree.specs.declared.entry.Entry.{Entry}
use Rattle.rcv_tree.specs.declared.entry.Entry.TheVariants.{Send, Recv, Crash, Recover}
use Rattle.rcv_tree.specs.declared.protocol.Protocol.{Protocol}
use Rattle.rcv_model.specs.Names.{AreDifferent}
use Rattle.rcv_session.specs.Session.{SessionView, roles_of}
use Rattle.rcv_accept.specs.Accepted.{IsAcceptedProtocol}
use Rattle.rcv_journal.specs.declared.line.RoleLine.{RoleLine}
use Rattle.rcv_journal.specs.declared.line.RoleWord.{RoleWord}
use Rattle.rcv_journal.specs.declared.line.RoleWord.TheVariants.{Done, Limit, Waits}
use Rattle.rcv_journal.specs.JournalText.{word_text}
use Rattle.rcv_journal.specs.Form.{IsFormed, IsFormedEntry, IsFormedRecovery}
use Rattle.rcv_journal.specs.Recorded.{JournalView, bare}
use Rattle.rcv_journal.specs.Json.{count, cut_data, cuts_data, entry_data, event_items, formed_data, line_data, list_of, role_data}
use Rattle.rcv_json_reader.specs.Parts.{pair_data}
use Rattle.rcv_json_reader.specs.Reading.{IsReadAs}
use Rattle.rcv_json_reader.proofs.Firsts.{some_same}
use Rattle.rcv_json_reader.proofs.Items.{same_count, same_list}
use Rattle.rcv_json_reader.proofs.Pairs.{cut_none, cut_there, head_of, not_later, same_role, tail_of}

-- ---- lists of values

map_same : {X : Type 0} (P : X → Type 0) (f : X → Data) → ((x y : X) → P x → P y → f x ≡ f y → x ≡ y) → (xs ys : List X) → All P xs → All P ys → map f xs ≡ map f ys → xs ≡ ys
map_same P f one [] [] all_x all_y is = refl
map_same P f one [] (y ∷ ys) all_x all_y is = absurd (cc)
map_same P f one (x ∷ xs) [] all_x all_y is = absurd (cc)
map_same P f one (x ∷ xs) (y ∷ ys) all_x all_y is =
    ap (λ h. h ∷ xs) (one x y (all_x 0 x (omega arith)) (all_y 0 y (omega arith)) (head_of (f x) (f y) (map f xs) (map f ys) is))
    ∙ ap (λ t. y ∷ t) (map_same P f one xs ys (λ k d inside. all_x (suc k) d (omega (arith, inside))) (λ k d inside. all_y (suc k) d (omega (arith, inside)))
    (tail_of (f x) (f y) (map f xs) (map f ys) is))

item_same : (k : ℕ) (xs ys : List Data) → xs ≡ ys → slice_index_or xs k null ≡ slice_index_or ys k null
item_same k xs ys is = ap (λ l. slice_index_or l k null) is

-- ---- numbers

same_integer : (a b : ℤ) → number (of_integer a) ≡ number (of_integer b) → a ≡ b
same_integer a b is = sym (back a) ∙ ap (λ d. unwrap_or (option_and_then as_integer (as_number d)) (pos 0)) is ∙ back b
  where
    back : (z : ℤ) → unwrap_or (option_and_then as_integer (as_number (number (of_integer z)))) (pos 0) ≡ z
    back (pos n) = refl
    back (negsuc n) = refl

-- ---- entries

abbrev how_many : Items → ℕ
how_many no_items = 0
how_many (item d ds) = suc (how_many ds)

abbrev size : Data → ℕ
size (array ds) = how_many ds
size _ = 0

same_event : (setup : SessionView) (word : List ℕ) (a b : Event) (more_a more_b : List Data) → AreDifferent setup.protocol.roles → a.role < roles_of setup → b.role < roles_of setup
    → a.dir ≡ b.dir → a.sent ≡ b.sent → event_items setup word a more_a ≡ event_items setup word b more_b → a ≡ b
same_event setup word a b more_a more_b differ in_a in_b way sent is = λ i. record {
  role = same_role setup a.role b.role differ in_a in_b (item_same 1 _ _ is) i;
  dir = way i;
  point = same_count a.point b.point (item_same 2 _ _ is) i;
  value = same_integer a.value b.value (item_same 4 _ _ is) i;
  stamp = same_count a.stamp b.stamp (item_same 5 _ _ is) i;
  sent = sent i;
}

-- The pairs tell which roles are concerned, and what these keep.
same_cuts : (setup : SessionView) (c : ℕ) (k : List ℕ) (e : ℕ) (l : List ℕ) (a m : ℕ) → AreDifferent setup.protocol.roles → a + m ≤ roles_of setup
    → flat_map (cut_data setup c k) (range_with_len a m) ≡ flat_map (cut_data setup e l) (range_with_len a m)
    → (q : ℕ) → a ≤ q → q < a + m → (has_bit c q ≡ has_bit e q) × (has_bit c q ≡ true → slice_index k q ≡ slice_index l q)
same_cuts setup c k e l a zero differ within is q from below = absurd (omega arith)
same_cuts setup c k e l a (suc m) differ within is q from below = ⊎_elim
    (λ c_there. ⊎_elim
    (λ e_there.
    let both : pair_data setup a (slice_index k a) ∷ rest_c ≡ pair_data setup a (slice_index l a) ∷ rest_e
    = ap (λ xs. xs ++ rest_c) (sym (cut_there setup c k a c_there)) ∙ is ∙ ap (λ xs. xs ++ rest_e) (cut_there setup e l a e_there) in
    either
    (λ here. (
      subst (λ j. has_bit c j ≡ has_bit e j) (sym here) (c_there ∙ sym e_there),
      λ set. subst (λ j. slice_index k j ≡ slice_index l j) (sym here) (kept_same (head_of _ _ rest_c rest_e both)),
    ))
    (λ later. same_cuts setup c k e l (a + 1) m differ (omega arith) (tail_of _ _ rest_c rest_e both) q later (omega arith)))
    (λ e_none. absurd (not_later setup e l a (slice_index k a) (a + 1) m rest_c differ (omega arith) (omega arith)
    (sym (ap (λ xs. xs ++ rest_c) (sym (cut_there setup c k a c_there)) ∙ is ∙ ap (λ xs. xs ++ rest_e) (cut_none setup e l a e_none)))))
    (cases_Bool (has_bit e a)))
    (λ c_none. ⊎_elim
    (λ e_there. absurd (not_later setup c k a (slice_index l a) (a + 1) m rest_e differ (omega arith) (omega arith)
    (ap (λ xs. xs ++ rest_c) (sym (cut_none setup c k a c_none)) ∙ is ∙ ap (λ xs. xs ++ rest_e) (cut_there setup e l a e_there))))
    (λ e_none. either
    (λ here. (
      subst (λ j. has_bit c j ≡ has_bit e j) (sym here) (c_none ∙ sym e_none),
      λ set. absurd (clash (sym set ∙ ap (λ j. has_bit c j) here ∙ c_none)),
    ))
    (λ later. same_cuts setup c k e l (a + 1) m differ (omega arith)
    (ap (λ xs. xs ++ rest_c) (sym (cut_none setup c k a c_none)) ∙ is ∙ ap (λ xs. xs ++ rest_e) (cut_none setup e l a e_none)) q later (omega arith)))
    (cases_Bool (has_bit e a)))
    (cases_Bool (has_bit c a))
  where
    rest_c : List Data
    rest_c = flat_map (cut_data setup c k) (range_with_len (a + 1) m)

    rest_e : List Data
    rest_e = flat_map (cut_data setup e l) (range_with_len (a + 1) m)

    clash : true ≡ false → ⊥
    clash is = absurd (cc)

    kept_same : pair_data setup a (slice_index k a) ≡ pair_data setup a (slice_index l a) → slice_index k a ≡ slice_index l a
    kept_same is = same_count (slice_index k a) (slice_index l a) (item_same 1 _ _ (same_list (role_data setup a ∷ count (slice_index k a) ∷ []) (role_data setup a ∷ count (slice_index l a) ∷ []) is))

    either : {P : Type 0} → (q ≡ a → P) → (a + 1 ≤ q → P) → P
    either here later = ⊎_elim here (λ other. later (omega (arith, other, from))) (cases_eq q a)

same_bits : (c e i : ℕ) → has_bit c i ≡ has_bit e i → bit_at c i ≡ bit_at e i
same_bits c e i is = go (bit_at c i) (bit_at e i) (bit_at-lt c i) (bit_at-lt e i) is
  where
    go : (a b : ℕ) → a < 2 → b < 2 → (a == 1) ≡ (b == 1) → a ≡ b
    go zero zero small_a small_b is = refl
    go zero (suc zero) small_a small_b is = absurd (cc)
    go zero (suc (suc b)) small_a small_b is = absurd (omega (arith, small_b))
    go (suc zero) zero small_a small_b is = absurd (cc)
    go (suc zero) (suc zero) small_a small_b is = refl
    go (suc zero) (suc (suc b)) small_a small_b is = absurd (omega (arith, small_b))
    go (suc (suc a)) b small_a small_b is = absurd (omega (arith, small_a))

same_recovery : (setup : SessionView) (p : ℕ) (c : RoleSet) (k : List ℕ) (u q : ℕ) (e : RoleSet) (l : List ℕ) (v : ℕ) → AreDifferent setup.protocol.roles
    → IsFormedRecovery setup p c.0 k u → IsFormedRecovery setup q e.0 l v
    → entry_data setup (Recover p c k u) ≡ entry_data setup (Recover q e l v) → Recover p c k u ≡ Recover q e l v
same_recovery setup p c k u q e l v differ formed_a formed_b is = λ i. Recover
    (same_role setup p q differ formed_a.role formed_b.role (item_same 1 four_a four_b four) i)
    (record { 0 = sets i })
    (lists i)
    (same_count u v (item_same 2 four_a four_b four) i)
  where
    four_a : List Data
    four_a = string (codes "recover") ∷ role_data setup p ∷ count u ∷ list_of (cuts_data setup c.0 k (roles_of setup)) ∷ []

    four_b : List Data
    four_b = string (codes "recover") ∷ role_data setup q ∷ count v ∷ list_of (cuts_data setup e.0 l (roles_of setup)) ∷ []

    four : four_a ≡ four_b
    four = same_list four_a four_b is

    each : (r : ℕ) → r < roles_of setup → (has_bit c.0 r ≡ has_bit e.0 r) × (has_bit c.0 r ≡ true → slice_index k r ≡ slice_index l r)
    each r below =
        same_cuts setup c.0 k e.0 l 0 (roles_of setup) differ (omega arith)
        (same_list (cuts_data setup c.0 k (roles_of setup)) (cuts_data setup e.0 l (roles_of setup)) (item_same 3 four_a four_b four)) r (omega arith) (omega arith)

    sets : c.0 ≡ e.0
    sets = same_from_bits_below (roles_of setup) c.0 e.0 formed_a.cuts.declared formed_b.cuts.declared (λ r below. same_bits c.0 e.0 r (each r below).0)

    beyond : (n : ℕ) (r : ℕ) → n < 2 ^ roles_of setup → roles_of setup ≤ r → has_bit n r ≡ false
    beyond n r small past = ap (λ b. b == 1) (bit_at_above n (roles_of setup) r small past)

    clear_both : (r : ℕ) → r < 8 → has_bit c.0 r ≡ false → has_bit e.0 r ≡ false → slice_index k r ≡ slice_index l r
    clear_both r below none_c none_e = formed_a.cuts.others r none_c below ∙ sym (formed_b.cuts.others r none_e below)

    lists : k ≡ l
    lists = same_number_lists k l (formed_a.cuts.eight ∙ sym formed_b.cuts.eight) (λ r inside.
        let below : r < 8 = omega (arith, inside, formed_a.cuts.eight) in
        ⊎_elim
        (λ declared. ⊎_elim
        (λ set. (each r declared).1 set)
        (λ none. clear_both r below none (sym (each r declared).0 ∙ none))
        (cases_Bool (has_bit c.0 r)))
        (λ past. clear_both r below (beyond c.0 r formed_a.cuts.declared past) (beyond e.0 r formed_b.cuts.declared past))
        (cases_lt r (roles_of setup)))

same_entry : (setup : SessionView) (a b : Entry) → AreDifferent setup.protocol.roles → IsFormedEntry setup a → IsFormedEntry setup b → entry_data setup a ≡ entry_data setup b → a ≡ b
same_entry setup (Send e) (Send f) differ formed_a formed_b is =
    let items = same_list (event_items setup (codes "send") e []) (event_items setup (codes "send") f []) is in
    ap Send (same_event setup (codes "send") e f [] [] differ formed_a.0.named.role formed_b.0.named.role (formed_a.0.way ∙ sym formed_b.0.way)
    (formed_a.1 ∙ same_count e.stamp f.stamp (item_same 5 _ _ items) ∙ sym formed_b.1) items)
same_entry setup (Recv e) (Recv f) differ formed_a formed_b is =
    let items = same_list (event_items setup (codes "recv") e (count e.sent ∷ [])) (event_items setup (codes "recv") f (count f.sent ∷ [])) is in
    ap Recv (same_event setup (codes "recv") e f (count e.sent ∷ []) (count f.sent ∷ []) differ formed_a.named.role formed_b.named.role (formed_a.way ∙ sym formed_b.way)
    (same_count e.sent f.sent (item_same 6 _ _ items)) items)
same_entry setup (Crash p) (Crash q) differ formed_a formed_b is =
    ap Crash (same_role setup p q differ formed_a formed_b
    (item_same 1 _ _ (same_list (string (codes "crash") ∷ role_data setup p ∷ []) (string (codes "crash") ∷ role_data setup q ∷ []) is)))
same_entry setup (Recover p c k u) (Recover q e l v) differ formed_a formed_b is = same_recovery setup p c k u q e l v differ formed_a formed_b is
same_entry setup (Send e) (Recv f) differ formed_a formed_b is = let n : 6 ≡ 7 = ap size is in absurd (omega (arith, n))
same_entry setup (Send e) (Crash q) differ formed_a formed_b is = let n : 6 ≡ 2 = ap size is in absurd (omega (arith, n))
same_entry setup (Send e) (Recover q c k u) differ formed_a formed_b is = let n : 6 ≡ 4 = ap size is in absurd (omega (arith, n))
same_entry setup (Recv e) (Send f) differ formed_a formed_b is = let n : 7 ≡ 6 = ap size is in absurd (omega (arith, n))
same_entry setup (Recv e) (Crash q) differ formed_a formed_b is = let n : 7 ≡ 2 = ap size is in absurd (omega (arith, n))
same_entry setup (Recv e) (Recover q c k u) differ formed_a formed_b is = let n : 7 ≡ 4 = ap size is in absurd (omega (arith, n))
same_entry setup (Crash p) (Send f) differ formed_a formed_b is = let n : 2 ≡ 6 = ap size is in absurd (omega (arith, n))
same_entry setup (Crash p) (Recv f) differ formed_a formed_b is = let n : 2 ≡ 7 = ap size is in absurd (omega (arith, n))
same_entry setup (Crash p) (Recover q c k u) differ formed_a formed_b is = let n : 2 ≡ 4 = ap size is in absurd (omega (arith, n))
same_entry setup (Recover p c k u) (Send f) differ formed_a formed_b is = let n : 4 ≡ 6 = ap size is in absurd (omega (arith, n))
same_entry setup (Recover p c k u) (Recv f) differ formed_a formed_b is = let n : 4 ≡ 7 = ap size is in absurd (omega (arith, n))
same_entry setup (Recover p c k u) (Crash q) differ formed_a formed_b is = let n : 4 ≡ 2 = ap size is in absurd (omega (arith, n))

-- ---- lines

same_word : (a b : RoleWord) → string (word_text a) ≡ string (word_text b) → a ≡ b
same_word a b is = go a b (ap (λ d. slice_index_or (unwrap_or (as_str d) []) 0 0) is)
  where
    go : (a b : RoleWord) → slice_index_or (word_text a) 0 0 ≡ slice_index_or (word_text b) 0 0 → a ≡ b
    go Done Done is = refl
    go Limit Limit is = refl
    go Waits Waits is = refl
    go Done Limit is = absurd (omega (arith, is))
    go Done Waits is = absurd (omega (arith, is))
    go Limit Done is = absurd (omega (arith, is))
    go Limit Waits is = absurd (omega (arith, is))
    go Waits Done is = absurd (omega (arith, is))
    go Waits Limit is = absurd (omega (arith, is))

same_line : (setup : SessionView) (a b : RoleLine) → AreDifferent setup.protocol.roles → a.role < roles_of setup → b.role < roles_of setup → line_data setup a ≡ line_data setup b → a ≡ b
same_line setup a b differ in_a in_b is =
    let items = same_list (role_data setup a.role ∷ count a.kept ∷ count a.raw ∷ string (word_text a.word) ∷ [])
    (role_data setup b.role ∷ count b.kept ∷ count b.raw ∷ string (word_text b.word) ∷ []) is in
    λ i. record {
      role = same_role setup a.role b.role differ in_a in_b (item_same 0 _ _ items) i;
      kept = same_count a.kept b.kept (item_same 1 _ _ items) i;
      raw = same_count a.raw b.raw (item_same 2 _ _ items) i;
      word = same_word a.word b.word (item_same 3 _ _ items) i;
    }

have_roles : (setup : SessionView) (j : JournalView) → IsFormed setup j → All (λ line. line.role < roles_of setup) j.roles
have_roles setup j formed k line inside =
    subst (λ r. r < roles_of setup) (sym (formed.in_order k (slice_index_or j.roles k line) (slice_get-get_or j.roles k line inside))) (omega (arith, inside, formed.all))

-- ---- the members

abbrev pub first : Members → Data
first no_members = null
first (member k d ms) = d

abbrev pub behind : Members → Members
behind no_members = no_members
behind (member k d ms) = ms

abbrev pub inside_of : Data → Members
inside_of (object ms) = ms
inside_of _ = no_members

pub same_journal : (setup : SessionView) (a b : JournalView) → AreDifferent setup.protocol.roles → IsFormed setup a → IsFormed setup b → formed_data setup a ≡ formed_data setup b → a ≡ b
same_journal setup a b differ formed_a formed_b is = λ i. record {
  entries = map_same (IsFormedEntry setup) (entry_data setup) (λ x y. same_entry setup x y differ) a.entries b.entries formed_a.entries formed_b.entries
      (same_list (map (entry_data setup) a.entries) (map (entry_data setup) b.entries) (ap (λ d. first (inside_of d)) is)) i;
  roles = map_same (λ line. line.role < roles_of setup) (line_data setup) (λ x y. same_line setup x y differ) a.roles b.roles (have_roles setup a formed_a) (have_roles setup b formed_b)
      (same_list (map (line_data setup) a.roles) (map (line_data setup) b.roles) (ap (λ d. first (behind (behind (inside_of d)))) is)) i;
  limited = map_same (λ r. r < roles_of setup) (role_data setup) (λ x y. same_role setup x y differ) a.limited b.limited formed_a.limited.declared formed_b.limited.declared
      (same_list (map (role_data setup) a.limited) (map (role_data setup) b.limited) (ap (λ d. first (behind (inside_of d))) is)) i;
}

pub texts_have_one_journal : (p : Protocol) (text : List ℕ) (a b : JournalView) → IsAcceptedProtocol p → IsReadAs p text a → IsReadAs p text b → a ≡ b
texts_have_one_journal p text a b accepted read_a read_b =
    same_journal (bare p) a b accepted.names.differ read_a.formed read_b.formed
    (some_same (formed_data (bare p) a) (formed_data (bare p) b) (sym read_a.value ∙ read_b.value))
