-- Values that are read back from their line: numbers that fit, texts that are text, keys that rise, and not too deep.
use Rattle.std.proofs.Common.{◌≡◌, ℕ, zero, suc, ◌+◌, ◌^◌, ◌<◌, ◌≤◌, Bool, true, false, ◌||◌, Some, option_map, Greater, List, [], ◌∷◌, ◌++◌, map, refl, sym, ◌∙◌, ap, ap₂, arith, append-nil, decimal}
use Rattle.std.specs.Prelude.{All, codes, flat_map, if◌then◌else◌, option_and_then}
use Rattle.std.specs.Ordering.{nat_cmp, match_ordering}
use Rattle.std.specs.Cmp.Lexicographic.{slice_cmp}
use Rattle.std.specs.List.{filter, range_with_len}
use Rattle.std.specs.Str.{IsUtf8}
use Rattle.std.proofs.lemmas.Fmt.{IsAscii-decimal}
use Rattle.std.proofs.lemmas.Str.{IsUtf8-append, IsUtf8-from_ascii, IsUtf8-nil}
use Rattle.json.specs.Json as json
use Rattle.json.specs.Lex.{tokens}
use Rattle.json.specs.Print.{quoted}
use Rattle.json.specs.Tree as tree
use Rattle.json.proofs.Printed.Decimals.{IsNumber-decimal}
use Rattle.json.proofs.Printed.Tokens.{tokens-print}
use Rattle.json.proofs.Printed.Trees.{value-json_tokens, ArePrintable-json_tokens}
use Rattle.json.proofs.Printed.Utf8.{IsUtf8-are_ascii, IsUtf8-quoted}
use Rattle.serde_json.specs.Data.{Data, Items, Members, Num, array, boolean, float, item, member, negative, no_items, no_members, null, number, object, put, string, unsigned}
use Rattle.serde_json.specs.Read.{max_depth, number_of, of_items, of_json, of_members, read}
use Rattle.serde_json.specs.View.{items_of}
use Rattle.serde_json.specs.Written.{comma_if, compact_text, has_float, items_have_float, items_outline, items_text, members_have_float, members_outline, members_text, number_text, outline}
use Rattle.serde_json.proofs.Numbers.{number_of-decimal}
use Rattle.serde_json.proofs.Texts.{print-outline}
use Rattle.rcv_export.specs.Pieces.{line_of}
use Rattle.rcv_export.specs.ReadBack.{IsReadAs}
use Rattle.rcv_export.proofs.LineFeed.{tokens_with_line_feed}

-- ---- members whose keys rise

-- each of these keys comes before this one
abbrev pub AreBefore : Members → List ℕ → Type 0
AreBefore no_members l = Unit {0}
AreBefore (member k d found) l = (slice_cmp nat_cmp l k ≡ Greater) × AreBefore found l

abbrev pub AreAllBefore : Members → Members → Type 0
AreAllBefore found no_members = Unit {0}
AreAllBefore found (member l d ms) = AreBefore found l × AreAllBefore found ms

abbrev pub IsRising : Members → Type 0
IsRising no_members = Unit {0}
IsRising (member k d ms) = AreAllBefore (member k d no_members) ms × IsRising ms

abbrev joined : Members → Members → Members
joined no_members ms = ms
joined (member k d found) ms = member k d (joined found ms)

put_last : (l : List ℕ) (d : Data) (found : Members) → AreBefore found l → put l d found ≡ joined found (member l d no_members)
put_last l d no_members before = refl
put_last l d (member k e found) before =
    ap (λ o. match_ordering o (member l d (member k e found)) (member k d found) (member k e (put l d found))) before.0 ∙ ap (member k e) (put_last l d found before.1)

before_both : (found more : Members) (l : List ℕ) → AreBefore found l → AreBefore more l → AreBefore (joined found more) l
before_both no_members more l a b = b
before_both (member k d found) more l a b = (a.0, before_both found more l a.1 b)

all_before_both : (found more ms : Members) → AreAllBefore found ms → AreAllBefore more ms → AreAllBefore (joined found more) ms
all_before_both found more no_members a b = tt
all_before_both found more (member l d ms) a b = (before_both found more l a.0 b.0, all_before_both found more ms a.1 b.1)

joined_none : (found : Members) → joined found no_members ≡ found
joined_none no_members = refl
joined_none (member k d found) = ap (member k d) (joined_none found)

joined_assoc : (a b c : Members) → joined (joined a b) c ≡ joined a (joined b c)
joined_assoc no_members b c = refl
joined_assoc (member k d a) b c = ap (member k d) (joined_assoc a b c)

none_before : (ms : Members) → AreAllBefore no_members ms
none_before no_members = tt
none_before (member l d ms) = (tt, none_before ms)

-- ---- plain values

abbrev pub IsPlainNumber : Num → Type 0
IsPlainNumber (unsigned n) = n < 2 ^ 64
IsPlainNumber (negative z) = ⊥
IsPlainNumber (float x) = ⊥

-- No deeper than this.
abbrev mutual
  pub IsPlain : ℕ → Data → Type 0
  IsPlain n null = Unit {0}
  IsPlain n (boolean b) = Unit {0}
  IsPlain n (number x) = IsPlainNumber x
  IsPlain n (string s) = IsUtf8 s
  IsPlain n (array ds) = (m : ℕ) × (m < n) × ArePlain m ds
  IsPlain n (object ms) = (m : ℕ) × (m < n) × HasPlain m ms × IsRising ms

  pub ArePlain : ℕ → Items → Type 0
  ArePlain n no_items = Unit {0}
  ArePlain n (item d ds) = IsPlain n d × ArePlain n ds

  pub HasPlain : ℕ → Members → Type 0
  HasPlain n no_members = Unit {0}
  HasPlain n (member k d ms) = IsUtf8 k × IsPlain n d × HasPlain n ms

number_back : (x : Num) → IsPlainNumber x → number_of (number_text x) ≡ Some x
number_back (unsigned n) plain = number_of-decimal n plain
number_back (negative z) plain = absurd plain
number_back (float x) plain = absurd plain

mutual
  value_back : (n : ℕ) (d : Data) → IsPlain n d → of_json (outline d) ≡ Some d
  value_back n null plain = refl
  value_back n (boolean b) plain = refl
  value_back n (number x) plain = ap (option_map number) (number_back x plain)
  value_back n (string s) plain = refl
  value_back n (array ds) plain = ap (option_map array) (items_back plain.0 ds plain.2)
  value_back n (object ms) plain = ap (option_map object) (members_back plain.0 ms no_members plain.2 (none_before ms) plain.3)

  items_back : (n : ℕ) (ds : Items) → ArePlain n ds → of_items (items_outline ds) ≡ Some ds
  items_back n no_items plain = refl
  items_back n (item d ds) plain =
      ap (option_and_then (λ e. option_map (item e) (of_items (items_outline ds)))) (value_back n d plain.0)
      ∙ ap (option_map (item d)) (items_back n ds plain.1)

  members_back : (n : ℕ) (ms found : Members) → HasPlain n ms → AreAllBefore found ms → IsRising ms → of_members (members_outline ms) found ≡ Some (joined found ms)
  members_back n no_members found plain before rising = ap Some (sym (joined_none found))
  members_back n (member k d ms) found plain before rising =
      ap (option_and_then (λ e. of_members (members_outline ms) (put k e found))) (value_back n d plain.1)
      ∙ ap (of_members (members_outline ms)) (put_last k d found before.0)
      ∙ members_back n ms (joined found (member k d no_members)) plain.2 (all_before_both found (member k d no_members) ms before.1 rising.0) rising.1
      ∙ ap Some (joined_assoc found (member k d no_members) ms)

mutual
  value_depth : (n : ℕ) (d : Data) → IsPlain n d → tree.depth (outline d) ≤ n
  value_depth n null plain = omega arith
  value_depth n (boolean b) plain = omega arith
  value_depth n (number x) plain = omega arith
  value_depth n (string s) plain = omega arith
  value_depth n (array ds) plain = omega (arith, plain.1, items_depth plain.0 ds plain.2)
  value_depth n (object ms) plain = omega (arith, plain.1, members_depth plain.0 ms plain.2)

  items_depth : (n : ℕ) (ds : Items) → ArePlain n ds → tree.items_depth (items_outline ds) ≤ n
  items_depth n no_items plain = omega arith
  items_depth n (item d ds) plain = omega (arith, value_depth n d plain.0, items_depth n ds plain.1)

  members_depth : (n : ℕ) (ms : Members) → HasPlain n ms → tree.members_depth (members_outline ms) ≤ n
  members_depth n no_members plain = omega arith
  members_depth n (member k d ms) plain = omega (arith, value_depth n d plain.1, members_depth n ms plain.2)

number_writes : (x : Num) → IsPlainNumber x → tree.HasNumbers (outline (number x))
number_writes (unsigned n) plain = IsNumber-decimal n plain
number_writes (negative z) plain = absurd plain
number_writes (float x) plain = absurd plain

mutual
  value_writes : (n : ℕ) (d : Data) → IsPlain n d → tree.HasNumbers (outline d)
  value_writes n null plain = tt
  value_writes n (boolean b) plain = tt
  value_writes n (number x) plain = number_writes x plain
  value_writes n (string s) plain = tt
  value_writes n (array ds) plain = items_write plain.0 ds plain.2
  value_writes n (object ms) plain = members_write plain.0 ms plain.2

  items_write : (n : ℕ) (ds : Items) → ArePlain n ds → tree.ItemsHaveNumbers (items_outline ds)
  items_write n no_items plain = tt
  items_write n (item d ds) plain = (value_writes n d plain.0, items_write n ds plain.1)

  members_write : (n : ℕ) (ms : Members) → HasPlain n ms → tree.MembersHaveNumbers (members_outline ms)
  members_write n no_members plain = tt
  members_write n (member k d ms) plain = (value_writes n d plain.1, members_write n ms plain.2)

number_whole : (x : Num) → IsPlainNumber x → has_float (number x) ≡ false
number_whole (unsigned n) plain = refl
number_whole (negative z) plain = absurd plain
number_whole (float x) plain = absurd plain

mutual
  pub value_whole : (n : ℕ) (d : Data) → IsPlain n d → has_float d ≡ false
  value_whole n null plain = refl
  value_whole n (boolean b) plain = refl
  value_whole n (number x) plain = number_whole x plain
  value_whole n (string s) plain = refl
  value_whole n (array ds) plain = items_whole plain.0 ds plain.2
  value_whole n (object ms) plain = members_whole plain.0 ms plain.2

  items_whole : (n : ℕ) (ds : Items) → ArePlain n ds → items_have_float ds ≡ false
  items_whole n no_items plain = refl
  items_whole n (item d ds) plain = ap₂ (λ a b. a || b) (value_whole n d plain.0) (items_whole n ds plain.1)

  members_whole : (n : ℕ) (ms : Members) → HasPlain n ms → members_have_float ms ≡ false
  members_whole n no_members plain = refl
  members_whole n (member k d ms) plain = ap₂ (λ a b. a || b) (value_whole n d plain.1) (members_whole n ms plain.2)

-- ---- their text

comma_is_text : (later : Bool) → IsUtf8 (comma_if later)
comma_is_text true = IsUtf8-are_ascii (44 ∷ []) refl
comma_is_text false = IsUtf8-nil

number_is_text : (x : Num) → IsPlainNumber x → IsUtf8 (number_text x)
number_is_text (unsigned n) plain = IsUtf8-from_ascii (decimal n) (IsAscii-decimal n plain)
number_is_text (negative z) plain = absurd plain
number_is_text (float x) plain = absurd plain

boolean_is_text : (b : Bool) → IsUtf8 (compact_text (boolean b))
boolean_is_text true = IsUtf8-are_ascii (codes "true") refl
boolean_is_text false = IsUtf8-are_ascii (codes "false") refl

mutual
  value_is_text : (n : ℕ) (d : Data) → IsPlain n d → IsUtf8 (compact_text d)
  value_is_text n null plain = IsUtf8-are_ascii (codes "null") refl
  value_is_text n (boolean b) plain = boolean_is_text b
  value_is_text n (number x) plain = number_is_text x plain
  value_is_text n (string s) plain = IsUtf8-quoted s plain
  value_is_text n (array ds) plain = IsUtf8-append (91 ∷ []) (items_text false ds) (IsUtf8-are_ascii (91 ∷ []) refl) (items_are_text plain.0 false ds plain.2)
  value_is_text n (object ms) plain = IsUtf8-append (123 ∷ []) (members_text false ms) (IsUtf8-are_ascii (123 ∷ []) refl) (members_are_text plain.0 false ms plain.2)

  items_are_text : (n : ℕ) (later : Bool) (ds : Items) → ArePlain n ds → IsUtf8 (items_text later ds)
  items_are_text n later no_items plain = IsUtf8-are_ascii (93 ∷ []) refl
  items_are_text n later (item d ds) plain =
      IsUtf8-append (comma_if later) (compact_text d ++ items_text true ds) (comma_is_text later)
      (IsUtf8-append (compact_text d) (items_text true ds) (value_is_text n d plain.0) (items_are_text n true ds plain.1))

  members_are_text : (n : ℕ) (later : Bool) (ms : Members) → HasPlain n ms → IsUtf8 (members_text later ms)
  members_are_text n later no_members plain = IsUtf8-are_ascii (125 ∷ []) refl
  members_are_text n later (member k d ms) plain =
      IsUtf8-append (comma_if later) (quoted k ++ 58 ∷ (compact_text d ++ members_text true ms)) (comma_is_text later)
      (IsUtf8-append (quoted k) (58 ∷ (compact_text d ++ members_text true ms)) (IsUtf8-quoted k plain.0)
      (IsUtf8-append (58 ∷ []) (compact_text d ++ members_text true ms) (IsUtf8-are_ascii (58 ∷ []) refl)
      (IsUtf8-append (compact_text d) (members_text true ms) (value_is_text n d plain.1) (members_are_text n true ms plain.2))))

line_read : (d : Data) → IsPlain 100 d → read (line_of d) ≡ Some d
line_read d plain =
    ap (λ ts. option_and_then of_json (option_and_then (λ p. json.if_last p.0 p.1) (json.value max_depth ts)))
    (ap (λ text. tokens (text ++ 10 ∷ [])) (sym (print-outline d))
    ∙ tokens_with_line_feed (tree.json_tokens (outline d)) (ArePrintable-json_tokens (outline d) (value_writes 100 d plain))
    ∙ tokens-print (tree.json_tokens (outline d)) (ArePrintable-json_tokens (outline d) (value_writes 100 d plain))
    ∙ sym (append-nil (tree.json_tokens (outline d))))
    ∙ ap (λ o. option_and_then of_json (option_and_then (λ p. json.if_last p.0 p.1) o))
    (value-json_tokens (outline d) max_depth [] (omega (arith, value_depth 100 d plain)))
    ∙ value_back 100 d plain

-- The line of a plain value is read as that value.
pub line_is_read : (d : Data) → IsPlain 100 d → IsReadAs (line_of d) d
line_is_read d plain = record {
  utf8 = IsUtf8-append (compact_text d) (10 ∷ []) (value_is_text 100 d plain) (IsUtf8-are_ascii (10 ∷ []) refl);
  is_read = line_read d plain;
}

-- ---- lists of plain values

pub plain_map : {X : Type 0} (n : ℕ) (P : X → Type 0) (f : X → Data) → ((x : X) → P x → IsPlain n (f x)) → (xs : List X) → All P xs → ArePlain n (items_of (map f xs))
plain_map n P f each [] all = tt
plain_map n P f each (x ∷ xs) all = (each x (all 0 x (omega arith)), plain_map n P f each xs (λ k d inside. all (suc k) d (omega (arith, inside))))

pub plain_each : {X : Type 0} (n : ℕ) (f : X → Data) → ((x : X) → IsPlain n (f x)) → (xs : List X) → ArePlain n (items_of (map f xs))
plain_each n f each [] = tt
plain_each n f each (x ∷ xs) = (each x, plain_each n f each xs)

plain_both : (n : ℕ) (xs ys : List Data) → ArePlain n (items_of xs) → ArePlain n (items_of ys) → ArePlain n (items_of (xs ++ ys))
plain_both n [] ys plain_x plain_y = plain_y
plain_both n (x ∷ xs) ys plain_x plain_y = (plain_x.0, plain_both n xs ys plain_x.1 plain_y)

pub plain_range : (n : ℕ) (f : ℕ → List Data) (a m : ℕ) → ((i : ℕ) → a ≤ i → i < a + m → ArePlain n (items_of (f i))) → ArePlain n (items_of (flat_map f (range_with_len a m)))
plain_range n f a zero each = tt
plain_range n f a (suc m) each =
    plain_both n (f a) (flat_map f (range_with_len (a + 1) m)) (each a (omega arith) (omega arith)) (plain_range n f (a + 1) m (λ i low high. each i (omega (arith, low)) (omega (arith, high))))

pub plain_some : (n : ℕ) (P : ℕ → Bool) (f : ℕ → Data) (a m : ℕ) → ((i : ℕ) → a ≤ i → i < a + m → P i ≡ true → IsPlain n (f i)) → ArePlain n (items_of (map f (filter P (range_with_len a m))))
plain_some n P f a zero each = tt
plain_some n P f a (suc m) each =
    go (P a) refl (plain_some n P f (a + 1) m (λ i low high. each i (omega (arith, low)) (omega (arith, high))))
  where
    go : (b : Bool) → P a ≡ b → ArePlain n (items_of (map f (filter P (range_with_len (a + 1) m)))) → ArePlain n (items_of (map f (if b then a ∷ filter P (range_with_len (a + 1) m) else filter P (range_with_len (a + 1) m))))
    go true is rest = (each a (omega arith) (omega arith) is, rest)
    go false is rest = rest
