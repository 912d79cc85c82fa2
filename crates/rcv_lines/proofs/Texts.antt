-- The texts of lines, and their fields.
use Rattle.std.proofs.Common.{◌≡◌, ◌∙◌, ◌<◌, ◌^◌, ◌==◌, ℕ, zero, suc, Bool, true, false, cond, Some, None, List, [], ◌∷◌, ◌++◌, map, flat_map, drop, length, get_or, refl, sym, ap, ap₂, arith, codes, decimal, append_assoc, append-nil, length-append}
use Rattle.std.specs.Prelude.{slice_index}
use Rattle.std.specs.Fmt.{signed_decimal}
use Rattle.std.specs.List.{All, range_with_len}
use Rattle.std.proofs.lemmas.List.Elements.{All-head, All-tail}
use Rattle.rcv_tree.specs.Bits.{has_bit}
use Rattle.rcv_tree.specs.Words.{IsWord}
use Rattle.rcv_tree.specs.declared.event.Event.{Event}
use Rattle.rcv_tree.specs.declared.event.Dir.{Dir}
use Rattle.rcv_tree.specs.declared.entry.Entry.TheVariants.{Send, Recv, Crash, Recover}
use Rattle.rcv_model.specs.Places.{SingleMessage, single_at, singles}
use Rattle.rcv_session.specs.Session.{SessionView, roles_of, net_for, text_of}
use Rattle.rcv_accept.specs.Accepted.{IsAcceptedProtocol}
use Rattle.rcv_journal.specs.declared.line.RoleWord.{RoleWord}
use Rattle.rcv_journal.specs.declared.line.RoleWord.TheVariants.{Done, Limit, Waits}
use Rattle.rcv_journal.specs.JournalText.{kept_text, name_of, word_text}
use Rattle.rcv_journal.specs.Form.{IsFormedEvent}
use Rattle.rcv_lines.specs.Cutting.{Lacks, fields_of, joined, spaced}
use Rattle.rcv_lines.specs.Fields.{event_fields, line_fields}
use Rattle.rcv_lines.specs.Laws.{LinesEndInFeeds}
use Rattle.rcv_lines.specs.Line.{EndLine, EntryLine, IsFormedLine, LineView, RoleLineOf, SaysLine, line_text}
use Rattle.rcv_lines.specs.Named.{cut_fields, kept_fields}
use Rattle.rcv_lines.proofs.Joining.{cut_all, join_again}
use Rattle.rcv_lines.proofs.Lacking.{AllLack, IsOutside, all_both, both_lack, feed_is_outside, joined_lacks, names_lack, number_lacks, signed_lacks, space_is_outside, word_lacks, written_lacks}
use Rattle.rcv_lines.proofs.Parses.{within}
use Rattle.rcv_lines.proofs.Regrouped.{event_joins, named_spaced, recovery_joins, recv_joins, role_joins, said_spaced, two_join}

kept_regroups : (s n d : List ℕ) → s ++ n ++ s ++ d ≡ (s ++ n) ++ ((s ++ d) ++ [])
kept_regroups s n d = simp (append_assoc, append-nil)

kept_spaced : (setup : SessionView) (concerned : ℕ) (kept : List ℕ) (q : ℕ) → kept_text setup concerned kept q ≡ flat_map spaced (kept_fields setup.protocol.roles concerned kept q)
kept_spaced setup concerned kept q = go (has_bit concerned q)
  where
    go : (b : Bool) → cond b (codes " " ++ name_of setup q ++ codes " " ++ decimal (slice_index kept q)) [] ≡ flat_map spaced (cut_fields (name_of setup q) (cond b (Some (slice_index kept q)) None))
    go true = kept_regroups (32 ∷ []) (name_of setup q) (decimal (slice_index kept q))
    go false = refl

-- The text of a line is its fields with spaces between them, and a line feed.
pub line_joins : (setup : SessionView) (v : LineView) → line_text setup v ≡ joined (line_fields setup v) ++ 10 ∷ []
line_joins setup (EntryLine (Send e)) =
    event_joins (codes "send") (name_of setup e.role) (decimal e.point) ((net_for setup).label e.point) (signed_decimal e.value) (decimal e.stamp) (10 ∷ [])
line_joins setup (EntryLine (Recv e)) =
    recv_joins (codes "recv") (name_of setup e.role) (decimal e.point) ((net_for setup).label e.point) (signed_decimal e.value) (decimal e.stamp) (decimal e.sent) (10 ∷ [])
line_joins setup (EntryLine (Crash p)) = two_join (codes "crash") (name_of setup p) (10 ∷ [])
line_joins setup (EntryLine (Recover p concerned kept undone)) =
    recovery_joins (codes "recover") (name_of setup p) (codes "undone") (decimal undone)
    (flat_map (kept_text setup concerned.0 kept) (range_with_len 0 (roles_of setup))) (flat_map (kept_fields setup.protocol.roles concerned.0 kept) (range_with_len 0 (roles_of setup))) (10 ∷ [])
    (said_spaced (kept_text setup concerned.0 kept) (kept_fields setup.protocol.roles concerned.0 kept) (kept_spaced setup concerned.0 kept) (range_with_len 0 (roles_of setup)))
line_joins setup (RoleLineOf line) =
    role_joins (codes "role") (name_of setup line.role) (codes "kept") (decimal line.kept) (codes "raw") (decimal line.raw) (word_text line.word) (10 ∷ [])
line_joins setup (EndLine []) = refl
line_joins setup (EndLine (r ∷ rest)) = ap (λ xs. codes "limited" ++ xs ++ 10 ∷ []) (named_spaced (name_of setup) (r ∷ rest))

-- Lines hold no byte beside those of words, numbers and marks, but for the spaces and the line feed.
label_lacks : (byte : ℕ) → IsOutside byte → (p : ℕ) (es : List (ℕ × SingleMessage)) → All (λ m. IsWord m.1.label) es → Lacks byte (single_at p es).label
label_lacks byte out p [] words = tt
label_lacks byte out p (e ∷ es) words = go (e.0 == p) (label_lacks byte out p es (All-tail (λ m. IsWord m.1.label) e es words))
  where
    go : (b : Bool) → Lacks byte (single_at p es).label → Lacks byte (cond b e.1 (single_at p es)).label
    go true later = word_lacks byte out e.1.label (All-head (λ m. IsWord m.1.label) e es words)
    go false later = later

module _ (byte : ℕ) (out : IsOutside byte) (setup : SessionView) (accepted : IsAcceptedProtocol setup.protocol) where
  name_lacks : (r : ℕ) → Lacks byte (name_of setup r)
  name_lacks r = names_lack byte out setup.protocol.roles accepted.names.role_words r

  event_lacks : (kind : List ℕ) (dir : Dir) (e : Event) (more : List (List ℕ)) → Lacks byte kind → IsFormedEvent setup dir e → AllLack byte more → AllLack byte (event_fields setup kind e more)
  event_lacks kind dir e more kind_lacks formed rest =
      let last = formed.named.last in
      let few = accepted.form.few_points in
      let point = number_lacks byte out e.point (omega (arith, last, few)) in
      let label = label_lacks byte out e.point (singles (text_of setup)) accepted.names.label_words in
      let value = signed_lacks byte out e.value (within e.value formed.value) in
      (kind_lacks, (name_lacks e.role, (point, (label, (value, ((out.stamp, number_lacks byte out e.stamp formed.stamp), rest))))))

  cut_lacks : (concerned : ℕ) (kept : List ℕ) (q : ℕ) → slice_index kept q < 2 ^ 32 → AllLack byte (kept_fields setup.protocol.roles concerned kept q)
  cut_lacks concerned kept q fits = go (has_bit concerned q)
    where
      go : (b : Bool) → AllLack byte (cut_fields (name_of setup q) (cond b (Some (slice_index kept q)) None))
      go true = (name_lacks q, (number_lacks byte out (slice_index kept q) (omega (arith, fits)), tt))
      go false = tt

  cuts_lack : (concerned : ℕ) (kept : List ℕ) → ((q : ℕ) → slice_index kept q < 2 ^ 32) → (qs : List ℕ) → AllLack byte (flat_map (kept_fields setup.protocol.roles concerned kept) qs)
  cuts_lack concerned kept fits [] = tt
  cuts_lack concerned kept fits (q ∷ qs) = all_both byte (kept_fields setup.protocol.roles concerned kept q) (flat_map (kept_fields setup.protocol.roles concerned kept) qs) (cut_lacks concerned kept q (fits q)) (cuts_lack concerned kept fits qs)

  all_fit : (kept : List ℕ) → All (λ n. n < 2 ^ 32) kept → (q : ℕ) → slice_index kept q < 2 ^ 32
  all_fit [] fit q = omega arith
  all_fit (n ∷ kept) fit zero = All-head (λ n. n < 2 ^ 32) n kept fit
  all_fit (n ∷ kept) fit (suc q) = all_fit kept (All-tail (λ n. n < 2 ^ 32) n kept fit) q

  named_lack : (roles : List ℕ) → AllLack byte (map (name_of setup) roles)
  named_lack [] = tt
  named_lack (r ∷ roles) = (name_lacks r, named_lack roles)

  ended_lacks : (word : RoleWord) → Lacks byte (word_text word)
  ended_lacks Done = written_lacks byte out (codes "done") refl
  ended_lacks Limit = written_lacks byte out (codes "limit") refl
  ended_lacks Waits = written_lacks byte out (codes "waits") refl

  pub line_lacks : (v : LineView) → IsFormedLine setup v → AllLack byte (line_fields setup v)
  line_lacks (EntryLine (Send e)) formed = event_lacks (codes "send") _ e [] (written_lacks byte out (codes "send") refl) formed.0 tt
  line_lacks (EntryLine (Recv e)) formed = event_lacks (codes "recv") _ e ((60 ∷ decimal e.sent) ∷ []) (written_lacks byte out (codes "recv") refl) formed ((out.sent, number_lacks byte out e.sent formed.sent), tt)
  line_lacks (EntryLine (Crash p)) formed = (written_lacks byte out (codes "crash") refl, (name_lacks p, tt))
  line_lacks (EntryLine (Recover p concerned kept undone)) formed =
      let fits = formed.undone_fits in
      let number = both_lack byte (decimal undone) (58 ∷ []) (number_lacks byte out undone (omega (arith, fits))) (out.colon, tt) in
      let cuts = cuts_lack concerned.0 kept (all_fit kept formed.cuts.fit) (range_with_len 0 (roles_of setup)) in
      (written_lacks byte out (codes "recover") refl, (name_lacks p, (written_lacks byte out (codes "undone") refl, (number, cuts))))
  line_lacks (RoleLineOf line) formed =
      let kept_fits = formed.kept in
      let raw_fits = formed.raw in
      let kept = number_lacks byte out line.kept (omega (arith, kept_fits)) in
      let raw = number_lacks byte out line.raw (omega (arith, raw_fits)) in
      (written_lacks byte out (codes "role") refl, (name_lacks line.role, (written_lacks byte out (codes "kept") refl, (kept, (written_lacks byte out (codes "raw") refl, (raw, (ended_lacks line.word, tt)))))))
  line_lacks (EndLine []) formed = (written_lacks byte out (codes "completed") refl, tt)
  line_lacks (EndLine (r ∷ rest)) formed = (written_lacks byte out (codes "limited") refl, named_lack (r ∷ rest))

some_fields : (setup : SessionView) (v : LineView) → line_fields setup v ≡ [] → ⊥
some_fields setup (EntryLine (Send e)) none = omega (arith, ap length none)
some_fields setup (EntryLine (Recv e)) none = omega (arith, ap length none)
some_fields setup (EntryLine (Crash p)) none = omega (arith, ap length none)
some_fields setup (EntryLine (Recover p concerned kept undone)) none = omega (arith, ap length none)
some_fields setup (RoleLineOf line) none = omega (arith, ap length none)
some_fields setup (EndLine []) none = omega (arith, ap length none)
some_fields setup (EndLine (r ∷ rest)) none = omega (arith, ap length none)

pub last_byte : (xs ys : List ℕ) (x y : ℕ) → xs ++ x ∷ [] ≡ ys ++ y ∷ [] → (xs ≡ ys) × (x ≡ y)
last_byte [] [] x y is = (refl, ap (λ l. get_or l 0 0) is)
last_byte [] (b ∷ []) x y is = absurd (omega (arith, ap length is))
last_byte [] (b ∷ c ∷ ys) x y is = absurd (omega (arith, ap length is))
last_byte (a ∷ []) [] x y is = absurd (omega (arith, ap length is))
last_byte (a ∷ c ∷ xs) [] x y is = absurd (omega (arith, ap length is))
last_byte (a ∷ xs) (b ∷ ys) x y is = let rest = last_byte xs ys x y (ap (drop 1) is) in (ap₂ (λ f fs. f ∷ fs) (ap (λ l. get_or l 0 0) is) rest.0, rest.1)

-- A line whose fields say it.
pub said_text : (setup : SessionView) (line text : List ℕ) (v : LineView) → line ≡ text ++ 10 ∷ [] → fields_of text ≡ line_fields setup v → line ≡ line_text setup v
said_text setup line text v cut is = cut ∙ ap (λ t. t ++ 10 ∷ []) (sym (join_again text) ∙ ap joined is) ∙ sym (line_joins setup v)

-- The fields of a line.
pub text_said : (setup : SessionView) → IsAcceptedProtocol setup.protocol → (line text : List ℕ) (v : LineView) → line ≡ text ++ 10 ∷ [] → SaysLine setup line v → fields_of text ≡ line_fields setup v
text_said setup accepted line text v cut says =
    let front = (last_byte text (joined (line_fields setup v)) 10 10 (sym cut ∙ says.1 ∙ line_joins setup v)).0 in
    ap fields_of front ∙ cut_all (line_fields setup v) (some_fields setup v) (line_lacks 32 space_is_outside setup accepted v says.0)

-- A line ends in a line feed.
pub other_end : (setup : SessionView) (line text : List ℕ) (last : ℕ) (v : LineView) → line ≡ text ++ last ∷ [] → (last ≡ 10 → ⊥) → SaysLine setup line v → ⊥
other_end setup line text last v cut other says = other (last_byte text (joined (line_fields setup v)) last 10 (sym cut ∙ says.1 ∙ line_joins setup v)).1

pub no_end : (setup : SessionView) (line : List ℕ) (v : LineView) → length line ≡ 0 → SaysLine setup line v → ⊥
no_end setup line v none says =
    omega (arith, none, ap length (says.1 ∙ line_joins setup v), length-append (joined (line_fields setup v)) (10 ∷ []))

-- A line has one line feed, its last byte.
pub line_ends : LinesEndInFeeds
line_ends setup line v accepted says =
    let feed : 32 ≡ 10 → ⊥ = λ e. omega (arith, e) in
    record {
      front = joined (line_fields setup v);
      lacks = joined_lacks 10 feed (line_fields setup v) (line_lacks 10 feed_is_outside setup accepted v says.0);
      whole = says.1 ∙ line_joins setup v;
    }
