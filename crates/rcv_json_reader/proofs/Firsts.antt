-- Lists that are read value by value.
use Rattle.std.proofs.Common.{◌≡◌, ◌≢◌, ℕ, zero, suc, ◌+◌, ◌^◌, ◌<◌, ◌≤◌, Option, Some, None, List, [], ◌∷◌, ◌++◌, length, map, take, drop, refl, sym, ◌∙◌, ap, subst, arith, add-one, drop-cons, length-append}
use Rattle.std.specs.Prelude.{All, IfNone, codes, slice_get, unwrap_or}
use Rattle.std.proofs.lemmas.List.{take_more, take_all, map-append}
use Rattle.std.proofs.lemmas.List.Elements.{All-append}
use Rattle.std.proofs.lemmas.Option.{slice_get_within, get_or_from_slice_get}
use Rattle.serde_json.specs.Data.{Data, string}
use Rattle.serde_json.specs.View.{view}
use Rattle.serde_json.specs.declared.value.Value.{Value}
use Rattle.rcv_tree.specs.declared.entry.Entry.{Entry}
use Rattle.rcv_tree.specs.declared.entry.Entry.TheVariants.{Send, Recv, Crash, Recover}
use Rattle.rcv_tree.specs.declared.event.Event.{Event}
use Rattle.rcv_model.specs.Names.{AreDifferent}
use Rattle.rcv_session.specs.Session.{SessionView, roles_of}
use Rattle.rcv_journal.specs.declared.line.RoleLine.{RoleLine}
use Rattle.rcv_journal.specs.Form.{IsFormedEntry}
use Rattle.rcv_journal.specs.Json.{count, cuts_data, entry_data, event_items, line_data, list_of, role_data}
use Rattle.rcv_json_reader.specs.declared.entry.Recovery.{Recovery}
use Rattle.rcv_json_reader.specs.Parts.{Rise, SaysEntries, SaysEntry, SaysLimited, SaysLine, SaysLines, recovered}
use Rattle.rcv_json_reader.proofs.Items.{same_length, same_list}
use Rattle.rcv_json_reader.proofs.Pairs.{same_role, tail_of}

pub none_always : {T P : Type 0} (o : Option T) → P → IfNone o P
none_always None p = p
none_always (Some x) p = tt

pub some_same : {X : Type 0} (x y : X) → Some x ≡ Some y → x ≡ y
some_same x y is = ap (λ o. unwrap_or o x) is

-- What holds of all holds of one.
pub all_at : {X : Type 0} (P : X → Type 0) (xs : List X) (i : ℕ) (x : X) → All P xs → slice_get xs i ≡ Some x → P x
all_at P xs i x all here = subst P (get_or_from_slice_get xs i x x here) (all i x (slice_get_within xs i x here))

all_one : {X : Type 0} (P : X → Type 0) (x : X) → P x → All P (x ∷ [])
all_one P x p zero d inside = p
all_one P x p (suc k) d inside = absurd (omega (arith, inside))

-- What stands at a place of the values stands there in the list.
pub said_at : {X : Type 0} (f : X → Data) (xs : List X) (i : ℕ) (d : Data) → slice_get (map f xs) i ≡ Some d → (x : X) × (slice_get xs i ≡ Some x) × (d ≡ f x)
said_at f [] i d is = absurd (cc)
said_at f (x ∷ xs) zero d is = (x, refl, sym (some_same (f x) d is))
said_at f (x ∷ xs) (suc i) d is = said_at f xs i d is

-- One value more.
more_said : {X : Type 0} (f : X → Data) (xs : List X) (x : X) (parts : List Data) (n : ℕ) (d : Data) → slice_get parts n ≡ Some d → d ≡ f x → take n parts ≡ map f xs → take (n + 1) parts ≡ map f (xs ++ x ∷ [])
more_said f xs x parts n d here is so_far =
    take_more parts n d (slice_get_within parts n d here)
    ∙ ap (λ e. take n parts ++ e ∷ []) (get_or_from_slice_get parts n d d here ∙ is)
    ∙ ap (λ ds. ds ++ f x ∷ []) so_far ∙ sym (map-append f xs (x ∷ []))

-- ---- entries

-- The first so many values are those of the entries.
pub record AreFirstEntries (setup : SessionView) (parts : List Data) (n : ℕ) (entries : List Entry) : Type 0 where
  pub formed : All (IsFormedEntry setup) entries
  pub is : take n parts ≡ map (entry_data setup) entries

-- How many values an entry has.
abbrev pub values_of : Entry → ℕ
values_of (Send e) = 6
values_of (Recv e) = 7
values_of (Crash p) = 2
values_of (Recover p concerned kept undone) = 4

pub has_values : (setup : SessionView) (parts : List Value) (e : Entry) → SaysEntry setup (list_of (map view parts)) e → length parts ≡ values_of e
has_values setup parts (Send e) says = same_length parts (event_items setup (codes "send") e []) says.is
has_values setup parts (Recv e) says = same_length parts (event_items setup (codes "recv") e (count e.sent ∷ [])) says.is
has_values setup parts (Crash p) says = same_length parts (string (codes "crash") ∷ role_data setup p ∷ []) says.is
has_values setup parts (Recover p concerned kept undone) says =
    same_length parts (string (codes "recover") ∷ role_data setup p ∷ count undone ∷ list_of (cuts_data setup concerned.0 kept (roles_of setup)) ∷ []) says.is

pub only_crash : (setup : SessionView) (parts : List Value) → length parts ≡ 2
    → ((p : ℕ) → SaysEntry setup (list_of (map view parts)) (Crash p) → ⊥) → (e : Entry) → SaysEntry setup (list_of (map view parts)) e → ⊥
only_crash setup parts long none (Crash p) says = none p says
only_crash setup parts long none (Send e) says = omega (arith, long, has_values setup parts (Send e) says)
only_crash setup parts long none (Recv e) says = omega (arith, long, has_values setup parts (Recv e) says)
only_crash setup parts long none (Recover p c k u) says = omega (arith, long, has_values setup parts (Recover p c k u) says)

pub only_recover : (setup : SessionView) (parts : List Value) → length parts ≡ 4
    → ((r : Recovery) → SaysEntry setup (list_of (map view parts)) (recovered r) → ⊥) → (e : Entry) → SaysEntry setup (list_of (map view parts)) e → ⊥
only_recover setup parts long none (Recover p c k u) says = none (record { role = p; undone = u; cuts = record { concerned = c; kept = k; read = 0 } }) says
only_recover setup parts long none (Send e) says = omega (arith, long, has_values setup parts (Send e) says)
only_recover setup parts long none (Recv e) says = omega (arith, long, has_values setup parts (Recv e) says)
only_recover setup parts long none (Crash p) says = omega (arith, long, has_values setup parts (Crash p) says)

pub only_send : (setup : SessionView) (parts : List Value) → length parts ≡ 6
    → ((e : Event) → SaysEntry setup (list_of (map view parts)) (Send e) → ⊥) → (e : Entry) → SaysEntry setup (list_of (map view parts)) e → ⊥
only_send setup parts long none (Send e) says = none e says
only_send setup parts long none (Recv e) says = omega (arith, long, has_values setup parts (Recv e) says)
only_send setup parts long none (Crash p) says = omega (arith, long, has_values setup parts (Crash p) says)
only_send setup parts long none (Recover p c k u) says = omega (arith, long, has_values setup parts (Recover p c k u) says)

pub only_recv : (setup : SessionView) (parts : List Value) → length parts ≡ 7
    → ((e : Event) → SaysEntry setup (list_of (map view parts)) (Recv e) → ⊥) → (e : Entry) → SaysEntry setup (list_of (map view parts)) e → ⊥
only_recv setup parts long none (Recv e) says = none e says
only_recv setup parts long none (Send e) says = omega (arith, long, has_values setup parts (Send e) says)
only_recv setup parts long none (Crash p) says = omega (arith, long, has_values setup parts (Crash p) says)
only_recv setup parts long none (Recover p c k u) says = omega (arith, long, has_values setup parts (Recover p c k u) says)

pub no_entry : (setup : SessionView) (parts : List Value) → length parts ≢ 2 → length parts ≢ 4 → length parts ≢ 6 → length parts ≢ 7
    → (e : Entry) → SaysEntry setup (list_of (map view parts)) e → ⊥
no_entry setup parts two four six seven (Send e) says = six (has_values setup parts (Send e) says)
no_entry setup parts two four six seven (Recv e) says = seven (has_values setup parts (Recv e) says)
no_entry setup parts two four six seven (Crash p) says = two (has_values setup parts (Crash p) says)
no_entry setup parts two four six seven (Recover p c k u) says = four (has_values setup parts (Recover p c k u) says)

pub no_entries : (setup : SessionView) (parts : List Data) → AreFirstEntries setup parts 0 []
no_entries setup parts = record { formed = λ k d inside. absurd (omega (arith, inside)); is = refl }

pub more_entries : (setup : SessionView) (parts : List Data) (n : ℕ) (entries : List Entry) (d : Data) (e : Entry) → slice_get parts n ≡ Some d → SaysEntry setup d e
    → AreFirstEntries setup parts n entries → AreFirstEntries setup parts (n + 1) (entries ++ e ∷ [])
more_entries setup parts n entries d e here says so_far = record {
  formed = All-append (IsFormedEntry setup) entries (e ∷ []) so_far.formed (all_one (IsFormedEntry setup) e says.formed);
  is = more_said (entry_data setup) entries e parts n d here says.is so_far.is;
}

pub all_entries : (setup : SessionView) (parts : List Data) (n : ℕ) (entries : List Entry) → length parts ≤ n → AreFirstEntries setup parts n entries → SaysEntries setup (list_of parts) entries
all_entries setup parts n entries past so_far = record {
  formed = so_far.formed;
  is = ap list_of (sym (take_all n parts past) ∙ so_far.is);
}

pub each_is_entry : (setup : SessionView) (parts : List Data) (n : ℕ) (d : Data) → slice_get parts n ≡ Some d → ((e : Entry) → SaysEntry setup d e → ⊥)
    → (entries : List Entry) → SaysEntries setup (list_of parts) entries → ⊥
each_is_entry setup parts n d here none entries says =
    let at_place = said_at (entry_data setup) entries n d
    (subst (λ xs. slice_get xs n ≡ Some d) (same_list parts (map (entry_data setup) entries) says.is) here) in
    none at_place.0 (record { formed = all_at (IsFormedEntry setup) entries n at_place.0 says.formed at_place.1; is = at_place.2 })

-- ---- lines

-- The first so many values are those of the lines of the first roles.
pub record AreFirstLines (setup : SessionView) (parts : List Data) (n : ℕ) (lines : List RoleLine) : Type 0 where
  pub all : length lines ≡ n
  pub in_order : (r : ℕ) (line : RoleLine) → slice_get lines r ≡ Some line → line.role ≡ r
  pub fit : All (λ line. (line.kept < 2 ^ 32) × (line.raw < 2 ^ 32)) lines
  pub is : take n parts ≡ map (line_data setup) lines

pub no_lines : (setup : SessionView) (parts : List Data) → AreFirstLines setup parts 0 []
no_lines setup parts = record {
  all = refl;
  in_order = λ r line here. absurd (cc);
  fit = λ k d inside. absurd (omega (arith, inside));
  is = refl;
}

pub more_lines : (setup : SessionView) (parts : List Data) (n : ℕ) (lines : List RoleLine) (d : Data) (line : RoleLine) → slice_get parts n ≡ Some d → SaysLine setup n d line
    → AreFirstLines setup parts n lines → AreFirstLines setup parts (n + 1) (lines ++ line ∷ [])
more_lines setup parts n lines d line here says so_far = record {
  all = omega (arith, length-append lines (line ∷ []), so_far.all);
  in_order = λ r m found. ordered lines 0 n line (λ q o at_q. so_far.in_order q o at_q ∙ plus q) (sym (plus (length lines)) ∙ so_far.all) says.formed.role r m found ∙ sym (plus r);
  fit = All-append (λ l. (l.kept < 2 ^ 32) × (l.raw < 2 ^ 32)) lines (line ∷ []) so_far.fit (all_one (λ l. (l.kept < 2 ^ 32) × (l.raw < 2 ^ 32)) line (says.formed.kept, says.formed.raw));
  is = more_said (line_data setup) lines line parts n d here says.is so_far.is;
}
  where
    plus : (n : ℕ) → n ≡ 0 + n
    plus n = omega arith

    ordered : (ls : List RoleLine) (a n : ℕ) (l : RoleLine) → ((r : ℕ) (m : RoleLine) → slice_get ls r ≡ Some m → m.role ≡ a + r) → a + length ls ≡ n → l.role ≡ n
        → (r : ℕ) (m : RoleLine) → slice_get (ls ++ l ∷ []) r ≡ Some m → m.role ≡ a + r
    ordered [] a n l each long last zero m is = ap (λ x. x.role) (sym (some_same l m is)) ∙ last ∙ sym long
    ordered [] a n l each long last (suc r) m is = absurd (cc)
    ordered (x ∷ xs) a n l each long last zero m is = each zero m is
    ordered (x ∷ xs) a n l each long last (suc r) m is =
        ordered xs (a + 1) n l (λ q o at_q. each (suc q) o at_q ∙ shift a q) (sym (shift a (length xs)) ∙ long) last r m is ∙ sym (shift a r)
      where
        shift : (a q : ℕ) → a + suc q ≡ a + 1 + q
        shift a q = omega arith

pub all_lines : (setup : SessionView) (parts : List Data) (n : ℕ) (lines : List RoleLine) → n ≡ length parts → length parts ≡ roles_of setup → AreFirstLines setup parts n lines → SaysLines setup (list_of parts) lines
all_lines setup parts n lines full number so_far = record {
  all = so_far.all ∙ full ∙ number;
  in_order = so_far.in_order;
  fit = so_far.fit;
  is = ap list_of (sym (take_all n parts (omega (arith, full))) ∙ so_far.is);
}

pub each_is_line : (setup : SessionView) (parts : List Data) (n : ℕ) (d : Data) → slice_get parts n ≡ Some d → ((line : RoleLine) → SaysLine setup n d line → ⊥)
    → (lines : List RoleLine) → SaysLines setup (list_of parts) lines → ⊥
each_is_line setup parts n d here none lines says =
    let at_place = said_at (line_data setup) lines n d
    (subst (λ xs. slice_get xs n ≡ Some d) (same_list parts (map (line_data setup) lines) says.is) here) in
    let fits = all_at (λ l. (l.kept < 2 ^ 32) × (l.raw < 2 ^ 32)) lines n at_place.0 says.fit at_place.1 in
    none at_place.0 (record {
      formed = record { role = says.in_order n at_place.0 at_place.1; kept = fits.0; raw = fits.1 };
      is = at_place.2;
    })

-- ---- the roles at the limit

-- The first so many values name roles that ascend, below the least that may come next; and whatever roles all values
-- name, the others name those from this one on.
pub record AreFirstLimited (setup : SessionView) (parts : List Data) (n least : ℕ) (limited : List ℕ) : Type 0 where
  pub rise : Rise 0 limited least
  pub declared : least ≤ roles_of setup
  pub is : take n parts ≡ map (role_data setup) limited
  pub rest : (rs : List ℕ) → Rise 0 rs (roles_of setup) → parts ≡ map (role_data setup) rs
      → (drop n parts ≡ map (role_data setup) (drop n rs)) × Rise least (drop n rs) (roles_of setup)

pub rise_most : (a : ℕ) (rs : List ℕ) (b : ℕ) → Rise a rs b → a ≤ b
rise_most a [] b rise = rise
rise_most a (r ∷ rs) b rise = omega (arith, rise.0, rise_most (r + 1) rs b rise.1)

rise_more : (a : ℕ) (rs : List ℕ) (b r : ℕ) → Rise a rs b → b ≤ r → Rise a (rs ++ r ∷ []) (r + 1)
rise_more a [] b r rise above = (omega (arith, rise, above), omega arith)
rise_more a (q ∷ qs) b r rise above = (rise.0, rise_more (q + 1) qs b r rise.1 above)

rise_wider : (a : ℕ) (rs : List ℕ) (b c : ℕ) → Rise a rs b → b ≤ c → Rise a rs c
rise_wider a [] b c rise above = omega (arith, rise, above)
rise_wider a (q ∷ qs) b c rise above = (rise.0, rise_wider (q + 1) qs b c rise.1 above)

pub no_limited : (setup : SessionView) (parts : List Data) → AreFirstLimited setup parts 0 0 []
no_limited setup parts = record {
  rise = omega arith;
  declared = omega arith;
  is = refl;
  rest = λ rs rise is. (is, rise);
}

-- The first of the other values, where all name roles that ascend.
next_role : (setup : SessionView) (parts : List Data) (n least : ℕ) (limited : List ℕ) (d : Data) → slice_get parts n ≡ Some d → AreFirstLimited setup parts n least limited
    → (rs : List ℕ) → Rise 0 rs (roles_of setup) → parts ≡ map (role_data setup) rs
    → (r : ℕ) × (least ≤ r) × (r < roles_of setup) × (d ≡ role_data setup r) × (drop (n + 1) parts ≡ map (role_data setup) (drop (n + 1) rs)) × Rise (r + 1) (drop (n + 1) rs) (roles_of setup)
next_role setup parts n least limited d here so_far rs rise is =
    let found = said_at (role_data setup) rs n d (subst (λ xs. slice_get xs n ≡ Some d) is here) in
    let later = so_far.rest rs rise is in
    let cut : drop n rs ≡ found.0 ∷ drop (n + 1) rs
    = drop-cons rs n found.0 (slice_get_within rs n found.0 found.1) ∙ ap (λ r. r ∷ drop (suc n) rs) (get_or_from_slice_get rs n found.0 found.0 found.1) ∙ ap (λ m. found.0 ∷ drop m rs) (sym (add-one n)) in
    let rising = subst (λ xs. Rise least xs (roles_of setup)) cut later.1 in
    let cut_parts : drop n parts ≡ d ∷ drop (n + 1) parts
    = drop-cons parts n d (slice_get_within parts n d here) ∙ ap (λ x. x ∷ drop (suc n) parts) (get_or_from_slice_get parts n d d here) ∙ ap (λ m. d ∷ drop m parts) (sym (add-one n)) in (
      found.0,
      rising.0,
      omega (arith, rise_most (found.0 + 1) (drop (n + 1) rs) (roles_of setup) rising.1),
      found.2,
      tail_of d (role_data setup found.0) (drop (n + 1) parts) (map (role_data setup) (drop (n + 1) rs)) (sym cut_parts ∙ later.0 ∙ ap (λ xs. map (role_data setup) xs) cut),
      rising.1,
    )

pub more_limited : (setup : SessionView) (parts : List Data) (n least : ℕ) (limited : List ℕ) (d : Data) (r : ℕ) → AreDifferent setup.protocol.roles → slice_get parts n ≡ Some d
    → least ≤ r → r < roles_of setup → d ≡ role_data setup r → AreFirstLimited setup parts n least limited → AreFirstLimited setup parts (n + 1) (r + 1) (limited ++ r ∷ [])
more_limited setup parts n least limited d r differ here above declared named so_far = record {
  rise = rise_more 0 limited least r so_far.rise above;
  declared = omega (arith, declared);
  is = more_said (role_data setup) limited r parts n d here named so_far.is;
  rest = λ rs rise is.
      let next = next_role setup parts n least limited d here so_far rs rise is in
      let same = same_role setup next.0 r differ next.2 declared (sym next.3 ∙ named) in
      (next.4, subst (λ q. Rise (q + 1) (drop (n + 1) rs) (roles_of setup)) same next.5);
}

pub all_limited : (setup : SessionView) (parts : List Data) (n least : ℕ) (limited : List ℕ) → length parts ≤ n → AreFirstLimited setup parts n least limited → SaysLimited setup (list_of parts) limited
all_limited setup parts n least limited past so_far = record {
  rise = rise_wider 0 limited least (roles_of setup) so_far.rise so_far.declared;
  is = ap list_of (sym (take_all n parts past) ∙ so_far.is);
}

pub no_role : (setup : SessionView) (parts : List Data) (n least : ℕ) (limited : List ℕ) (d : Data) → slice_get parts n ≡ Some d → AreFirstLimited setup parts n least limited
    → ((r : ℕ) → r < roles_of setup → d ≡ role_data setup r → ⊥) → (rs : List ℕ) → SaysLimited setup (list_of parts) rs → ⊥
no_role setup parts n least limited d here so_far none rs says =
    let next = next_role setup parts n least limited d here so_far rs says.rise (same_list parts (map (role_data setup) rs) says.is) in
    none next.0 next.2 next.3

pub falls : (setup : SessionView) (parts : List Data) (n least : ℕ) (limited : List ℕ) (d : Data) (r : ℕ) → AreDifferent setup.protocol.roles → slice_get parts n ≡ Some d
    → r < least → r < roles_of setup → d ≡ role_data setup r → AreFirstLimited setup parts n least limited → (rs : List ℕ) → SaysLimited setup (list_of parts) rs → ⊥
falls setup parts n least limited d r differ here below declared named so_far rs says =
    let next = next_role setup parts n least limited d here so_far rs says.rise (same_list parts (map (role_data setup) rs) says.is) in
    let same = same_role setup next.0 r differ next.2 declared (sym next.3 ∙ named) in
    omega (arith, next.1, below, same)
