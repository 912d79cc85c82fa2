-- The line of a journal of the form is read as that journal.
use Rattle.std.proofs.Common.{◌≡◌, ℕ, ℤ, pos, negsuc, zero, suc, ◌+◌, ◌^◌, ◌<◌, ◌≤◌, Bool, true, false, Some, option_map, List, [], ◌∷◌, ◌++◌, map, refl, sym, ◌∙◌, ap, subst, arith, append-nil, decimal}
use Rattle.std.specs.Prelude.{All, FitsSigned, codes, flat_map, if◌then◌else◌, option_and_then, slice_index}
use Rattle.std.specs.List.{range_with_len}
use Rattle.std.specs.Str.{IsUtf8}
use Rattle.std.specs.Fmt.{signed_decimal}
use Rattle.std.proofs.lemmas.Fmt.{IsAscii-decimal, IsAscii-signed}
use Rattle.std.proofs.lemmas.Str.{IsUtf8-append, IsUtf8-from_ascii, IsUtf8-nil}
use mir.Syntax.{w64}
use Rattle.json.specs.Json as json
use Rattle.json.specs.Lex.{tokens}
use Rattle.json.specs.Print.{quoted}
use Rattle.json.specs.Tree as tree
use Rattle.json.proofs.Printed.Decimals.{IsNumber-decimal, IsNumber-signed_decimal}
use Rattle.json.proofs.Printed.Tokens.{tokens-print}
use Rattle.json.proofs.Printed.Trees.{value-json_tokens, ArePrintable-json_tokens}
use Rattle.json.proofs.Printed.Utf8.{IsUtf8-are_ascii, IsUtf8-quoted}
use Rattle.serde_json.specs.Data.{Data, Items, Members, Num, array, boolean, float, item, member, negative, no_items, no_members, null, number, object, string, unsigned}
use Rattle.serde_json.specs.Find.{of_integer}
use Rattle.serde_json.specs.Read.{max_depth, number_of, of_items, of_json, of_members, read}
use Rattle.serde_json.specs.View.{items_of}
use Rattle.serde_json.specs.Written.{comma_if, compact_text, items_outline, items_text, members_text, number_text, outline}
use Rattle.serde_json.proofs.Numbers.{number_of-decimal, number_of-negative}
use Rattle.serde_json.proofs.Texts.{print-outline}
use Rattle.rcv_tree.specs.Bits.{has_bit}
use Rattle.rcv_tree.specs.declared.event.Dir.{Dir}
use Rattle.rcv_tree.specs.declared.event.Dir.TheVariants.{Sent, Got}
use Rattle.rcv_tree.specs.declared.event.Event.{Event}
use Rattle.rcv_tree.specs.declared.entry.Entry.{Entry}
use Rattle.rcv_tree.specs.declared.entry.Entry.TheVariants.{Send, Recv, Crash, Recover}
use Rattle.rcv_tree.specs.declared.protocol.Protocol.{Protocol}
use Rattle.rcv_model.specs.Places.{singles}
use Rattle.rcv_session.specs.Session.{SessionView, roles_of, text_of}
use Rattle.rcv_accept.specs.Accepted.{IsAcceptedProtocol}
use Rattle.rcv_journal.specs.declared.line.RoleLine.{RoleLine}
use Rattle.rcv_journal.specs.declared.line.RoleWord.{RoleWord}
use Rattle.rcv_journal.specs.declared.line.RoleWord.TheVariants.{Done, Limit, Waits}
use Rattle.rcv_journal.specs.JournalText.{name_of, word_text}
use Rattle.rcv_journal.specs.Form.{IsFormed, IsFormedEntry, IsFormedEvent, FitsLine}
use Rattle.rcv_journal.specs.Recorded.{JournalView, bare}
use Rattle.rcv_journal.specs.Json.{count, cut_data, entry_data, event_items, formed_data, line_data, list_of, role_data}
use Rattle.rcv_json_reader.specs.Parts.{pair_data, three_data}
use Rattle.rcv_json_reader.specs.Reading.{IsReadAs}
use Rattle.rcv_json_reader.proofs.LineFeed.{tokens_with_line_feed}
use Rattle.rcv_json_reader.proofs.Pairs.{fits_at}
use Rattle.rcv_json_reader.proofs.Texts.{label_is_text, name_is_text}

-- ---- values that are read back

abbrev IsPlainNumber : Num → Type 0
IsPlainNumber (unsigned n) = n < 2 ^ 64
IsPlainNumber (negative (pos n)) = ⊥
IsPlainNumber (negative (negsuc n)) = n < 2 ^ 63
IsPlainNumber (float x) = ⊥

-- No deeper than this, with numbers that fit and texts that are text, and with no object.
abbrev mutual
  IsPlain : ℕ → Data → Type 0
  IsPlain n null = ⊥
  IsPlain n (boolean b) = ⊥
  IsPlain n (number x) = IsPlainNumber x
  IsPlain n (string s) = IsUtf8 s
  IsPlain n (array ds) = (m : ℕ) × (m < n) × ArePlain m ds
  IsPlain n (object ms) = ⊥

  ArePlain : ℕ → Items → Type 0
  ArePlain n no_items = Unit {0}
  ArePlain n (item d ds) = IsPlain n d × ArePlain n ds

number_back : (x : Num) → IsPlainNumber x → number_of (number_text x) ≡ Some x
number_back (unsigned n) plain = number_of-decimal n plain
number_back (negative (pos n)) plain = absurd plain
number_back (negative (negsuc n)) plain = number_of-negative n plain
number_back (float x) plain = absurd plain

mutual
  value_back : (n : ℕ) (d : Data) → IsPlain n d → of_json (outline d) ≡ Some d
  value_back n null plain = absurd plain
  value_back n (boolean b) plain = absurd plain
  value_back n (number x) plain = ap (option_map number) (number_back x plain)
  value_back n (string s) plain = refl
  value_back n (array ds) plain = ap (option_map array) (items_back plain.0 ds plain.2)
  value_back n (object ms) plain = absurd plain

  items_back : (n : ℕ) (ds : Items) → ArePlain n ds → of_items (items_outline ds) ≡ Some ds
  items_back n no_items plain = refl
  items_back n (item d ds) plain =
      ap (option_and_then (λ e. option_map (item e) (of_items (items_outline ds)))) (value_back n d plain.0)
      ∙ ap (option_map (item d)) (items_back n ds plain.1)

mutual
  value_depth : (n : ℕ) (d : Data) → IsPlain n d → tree.depth (outline d) ≤ n
  value_depth n null plain = absurd plain
  value_depth n (boolean b) plain = absurd plain
  value_depth n (number x) plain = omega arith
  value_depth n (string s) plain = omega arith
  value_depth n (array ds) plain = omega (arith, plain.1, items_depth plain.0 ds plain.2)
  value_depth n (object ms) plain = absurd plain

  items_depth : (n : ℕ) (ds : Items) → ArePlain n ds → tree.items_depth (items_outline ds) ≤ n
  items_depth n no_items plain = omega arith
  items_depth n (item d ds) plain = omega (arith, value_depth n d plain.0, items_depth n ds plain.1)

number_writes : (x : Num) → IsPlainNumber x → tree.HasNumbers (outline (number x))
number_writes (unsigned n) plain = IsNumber-decimal n plain
number_writes (negative (pos n)) plain = absurd plain
number_writes (negative (negsuc n)) plain = IsNumber-signed_decimal (negsuc n) plain
number_writes (float x) plain = absurd plain

mutual
  value_writes : (n : ℕ) (d : Data) → IsPlain n d → tree.HasNumbers (outline d)
  value_writes n null plain = absurd plain
  value_writes n (boolean b) plain = absurd plain
  value_writes n (number x) plain = number_writes x plain
  value_writes n (string s) plain = tt
  value_writes n (array ds) plain = items_write plain.0 ds plain.2
  value_writes n (object ms) plain = absurd plain

  items_write : (n : ℕ) (ds : Items) → ArePlain n ds → tree.ItemsHaveNumbers (items_outline ds)
  items_write n no_items plain = tt
  items_write n (item d ds) plain = (value_writes n d plain.0, items_write n ds plain.1)

comma_text : (later : Bool) → IsUtf8 (comma_if later)
comma_text true = IsUtf8-are_ascii (44 ∷ []) refl
comma_text false = IsUtf8-nil

number_is_text : (x : Num) → IsPlainNumber x → IsUtf8 (number_text x)
number_is_text (unsigned n) plain = IsUtf8-from_ascii (decimal n) (IsAscii-decimal n plain)
number_is_text (negative (pos n)) plain = absurd plain
number_is_text (negative (negsuc n)) plain = IsUtf8-from_ascii (signed_decimal (negsuc n)) (IsAscii-signed (negsuc n) plain)
number_is_text (float x) plain = absurd plain

mutual
  value_is_text : (n : ℕ) (d : Data) → IsPlain n d → IsUtf8 (compact_text d)
  value_is_text n null plain = absurd plain
  value_is_text n (boolean b) plain = absurd plain
  value_is_text n (number x) plain = number_is_text x plain
  value_is_text n (string s) plain = IsUtf8-quoted s plain
  value_is_text n (array ds) plain = IsUtf8-append (91 ∷ []) (items_text false ds) (IsUtf8-are_ascii (91 ∷ []) refl) (items_are_text plain.0 false ds plain.2)
  value_is_text n (object ms) plain = absurd plain

  items_are_text : (n : ℕ) (later : Bool) (ds : Items) → ArePlain n ds → IsUtf8 (items_text later ds)
  items_are_text n later no_items plain = IsUtf8-are_ascii (93 ∷ []) refl
  items_are_text n later (item d ds) plain =
      IsUtf8-append (comma_if later) (compact_text d ++ items_text true ds) (comma_text later)
      (IsUtf8-append (compact_text d) (items_text true ds) (value_is_text n d plain.0) (items_are_text n true ds plain.1))

member_is_text : (later : Bool) (k : List ℕ) (d : Data) (ms : Members) → IsUtf8 k → IsUtf8 (compact_text d) → IsUtf8 (members_text true ms) → IsUtf8 (members_text later (member k d ms))
member_is_text later k d ms key_text value_text rest_text =
    IsUtf8-append (comma_if later) (quoted k ++ 58 ∷ (compact_text d ++ members_text true ms)) (comma_text later)
    (IsUtf8-append (quoted k) (58 ∷ (compact_text d ++ members_text true ms)) (IsUtf8-quoted k key_text)
    (IsUtf8-append (58 ∷ []) (compact_text d ++ members_text true ms) (IsUtf8-are_ascii (58 ∷ []) refl)
    (IsUtf8-append (compact_text d) (members_text true ms) value_text rest_text)))

-- ---- an object of three plain values

three_back : (n : ℕ) (e l r : Data) → IsPlain n e → IsPlain n l → IsPlain n r → of_json (outline (three_data e l r)) ≡ Some (three_data e l r)
three_back n e l r plain_e plain_l plain_r =
    ap (option_map object)
    (ap (option_and_then (λ d. of_members rest_limited (put_first d))) (value_back n e plain_e)
    ∙ ap (option_and_then (λ d. of_members rest_roles (put_second d))) (value_back n l plain_l)
    ∙ ap (option_and_then (λ d. of_members json.no_members (put_third d))) (value_back n r plain_r))
  where
    rest_roles : json.Members
    rest_roles = json.member (codes "roles") (outline r) json.no_members

    rest_limited : json.Members
    rest_limited = json.member (codes "limited") (outline l) rest_roles

    put_first : Data → Members
    put_first d = member (codes "entries") d no_members

    put_second : Data → Members
    put_second d = member (codes "entries") e (member (codes "limited") d no_members)

    put_third : Data → Members
    put_third d = member (codes "entries") e (member (codes "limited") l (member (codes "roles") d no_members))

line_read : (e l r : Data) → IsPlain 9 e → IsPlain 9 l → IsPlain 9 r → read (compact_text (three_data e l r) ++ 10 ∷ []) ≡ Some (three_data e l r)
line_read e l r plain_e plain_l plain_r =
    ap (λ ts. option_and_then of_json (option_and_then (λ p. json.if_last p.0 p.1) (json.value max_depth ts)))
    (ap (λ text. tokens (text ++ 10 ∷ [])) (sym (print-outline whole))
    ∙ tokens_with_line_feed (tree.json_tokens j) (ArePrintable-json_tokens j numbers)
    ∙ tokens-print (tree.json_tokens j) (ArePrintable-json_tokens j numbers)
    ∙ sym (append-nil (tree.json_tokens j)))
    ∙ ap (λ o. option_and_then of_json (option_and_then (λ p. json.if_last p.0 p.1) o))
    (value-json_tokens j max_depth [] (omega (arith, value_depth 9 e plain_e, value_depth 9 l plain_l, value_depth 9 r plain_r)))
    ∙ three_back 9 e l r plain_e plain_l plain_r
  where
    whole : Data
    whole = three_data e l r

    j : json.Json
    j = outline whole

    numbers : tree.HasNumbers j
    numbers = (value_writes 9 e plain_e, (value_writes 9 l plain_l, (value_writes 9 r plain_r, tt)))

line_is_text : (e l r : Data) → IsPlain 9 e → IsPlain 9 l → IsPlain 9 r → IsUtf8 (compact_text (three_data e l r) ++ 10 ∷ [])
line_is_text e l r plain_e plain_l plain_r =
    IsUtf8-append (compact_text (three_data e l r)) (10 ∷ [])
    (IsUtf8-append (123 ∷ []) (members_text false (member (codes "entries") e (member (codes "limited") l (member (codes "roles") r no_members)))) (IsUtf8-are_ascii (123 ∷ []) refl)
    (member_is_text false (codes "entries") e (member (codes "limited") l (member (codes "roles") r no_members)) (IsUtf8-are_ascii (codes "entries") refl) (value_is_text 9 e plain_e)
    (member_is_text true (codes "limited") l (member (codes "roles") r no_members) (IsUtf8-are_ascii (codes "limited") refl) (value_is_text 9 l plain_l)
    (member_is_text true (codes "roles") r no_members (IsUtf8-are_ascii (codes "roles") refl) (value_is_text 9 r plain_r) (IsUtf8-are_ascii (125 ∷ []) refl)))))
    (IsUtf8-are_ascii (10 ∷ []) refl)

-- ---- a journal's values are plain

plain_map : {X : Type 0} (n : ℕ) (P : X → Type 0) (f : X → Data) → ((x : X) → P x → IsPlain n (f x)) → (xs : List X) → All P xs → ArePlain n (items_of (map f xs))
plain_map n P f each [] all = tt
plain_map n P f each (x ∷ xs) all = (each x (all 0 x (omega arith)), plain_map n P f each xs (λ k d inside. all (suc k) d (omega (arith, inside))))

are_plain_more : (n : ℕ) (xs ys : List Data) → ArePlain n (items_of xs) → ArePlain n (items_of ys) → ArePlain n (items_of (xs ++ ys))
are_plain_more n [] ys plain_x plain_y = plain_y
are_plain_more n (x ∷ xs) ys plain_x plain_y = (plain_x.0, are_plain_more n xs ys plain_x.1 plain_y)

are_plain_cuts : (setup : SessionView) (c : ℕ) (k : List ℕ) → ((r : ℕ) → IsUtf8 (name_of setup r)) → All (λ n. n < 2 ^ 32) k → (a m : ℕ)
    → ArePlain 1 (items_of (flat_map (cut_data setup c k) (range_with_len a m)))
are_plain_cuts setup c k names fit a zero = tt
are_plain_cuts setup c k names fit a (suc m) =
    are_plain_more 1 (cut_data setup c k a) (flat_map (cut_data setup c k) (range_with_len (a + 1) m)) (go (has_bit c a)) (are_plain_cuts setup c k names fit (a + 1) m)
  where
    go : (b : Bool) → ArePlain 1 (items_of (if b then pair_data setup a (slice_index k a) ∷ [] else []))
    go true = ((0, omega arith, (names a, (omega (arith, fits_at k a fit), tt))), tt)
    go false = tt

plain_integer : (z : ℤ) → FitsSigned w64 z → IsPlainNumber (of_integer z)
plain_integer (pos n) fits = omega (arith, fits)
plain_integer (negsuc n) fits = omega (arith, fits)

plain_event : (setup : SessionView) (word : List ℕ) (dir : Dir) (e : Event) (more : List Data) → IsAcceptedProtocol setup.protocol → IsUtf8 word → IsFormedEvent setup dir e
    → ArePlain 0 (items_of more) → ArePlain 0 (items_of (event_items setup word e more))
plain_event setup word dir e more accepted text formed plain = (
  text,
  (
    name_is_text setup.protocol.roles e.role accepted.names.role_words,
    (
      omega (arith, formed.named.last, accepted.form.few_points),
      (
        label_is_text e.point (singles (text_of setup)) accepted.names.label_words,
        (plain_integer e.value formed.value, (formed.stamp, plain)),
      ),
    ),
  ),
)

plain_entry : (setup : SessionView) (e : Entry) → IsAcceptedProtocol setup.protocol → IsFormedEntry setup e → IsPlain 8 (entry_data setup e)
plain_entry setup (Send e) accepted formed = (0, omega arith, plain_event setup (codes "send") Sent e [] accepted (IsUtf8-are_ascii (codes "send") refl) formed.0 tt)
plain_entry setup (Recv e) accepted formed =
    (0, omega arith, plain_event setup (codes "recv") Got e (count e.sent ∷ []) accepted (IsUtf8-are_ascii (codes "recv") refl) formed (formed.sent, tt))
plain_entry setup (Crash p) accepted formed =
    (0, omega arith, (IsUtf8-are_ascii (codes "crash") refl, (name_is_text setup.protocol.roles p accepted.names.role_words, tt)))
plain_entry setup (Recover p concerned kept undone) accepted formed = (
  2,
  omega arith,
  (
    IsUtf8-are_ascii (codes "recover") refl,
    (
      name_is_text setup.protocol.roles p accepted.names.role_words,
      (
        omega (arith, formed.undone_fits),
        ((1, omega arith, are_plain_cuts setup concerned.0 kept (λ r. name_is_text setup.protocol.roles r accepted.names.role_words) formed.cuts.fit 0 (roles_of setup)), tt),
      ),
    ),
  ),
)

word_is_ascii : (w : RoleWord) → IsUtf8 (word_text w)
word_is_ascii Done = IsUtf8-are_ascii (codes "done") refl
word_is_ascii Limit = IsUtf8-are_ascii (codes "limit") refl
word_is_ascii Waits = IsUtf8-are_ascii (codes "waits") refl

plain_line : (setup : SessionView) (line : RoleLine) → IsAcceptedProtocol setup.protocol → FitsLine line → IsPlain 8 (line_data setup line)
plain_line setup line accepted fit =
    (0, omega arith, (name_is_text setup.protocol.roles line.role accepted.names.role_words, (omega (arith, fit.0), (omega (arith, fit.1), (word_is_ascii line.word, tt)))))

pub lines_are_read_back : (p : Protocol) (text : List ℕ) (j : JournalView) → IsAcceptedProtocol p → IsFormed (bare p) j → text ≡ compact_text (formed_data (bare p) j) ++ codes "\n" → IsReadAs p text j
lines_are_read_back p text j accepted formed is = record {
  formed = formed;
  utf8 = subst IsUtf8 (sym is) (line_is_text entries limited lines plain_entries plain_limited plain_lines);
  value = ap read is ∙ line_read entries limited lines plain_entries plain_limited plain_lines;
}
  where
    setup : SessionView
    setup = bare p

    entries : Data
    entries = list_of (map (entry_data setup) j.entries)

    limited : Data
    limited = list_of (map (role_data setup) j.limited)

    lines : Data
    lines = list_of (map (line_data setup) j.roles)

    plain_entries : IsPlain 9 entries
    plain_entries = (8, omega arith, plain_map 8 (IsFormedEntry setup) (entry_data setup) (λ e. plain_entry setup e accepted) j.entries formed.entries)

    plain_limited : IsPlain 9 limited
    plain_limited =
        (8, omega arith, plain_map 8 (λ r. r < roles_of setup) (role_data setup) (λ r declared. name_is_text p.roles r accepted.names.role_words) j.limited formed.limited.declared)

    plain_lines : IsPlain 9 lines
    plain_lines =
        (8, omega arith, plain_map 8 FitsLine (line_data setup) (λ line. plain_line setup line accepted) j.roles formed.fit)
