-- A line says one thing.
use Rattle.std.proofs.Common.{◌≡◌, ◌∙◌, ◌+◌, ◌<◌, ◌≤◌, ◌^◌, ◌%◌, ◌==◌, ℕ, zero, suc, Bool, true, false, true≢false, cond, Some, None, Option, List, [], ◌∷◌, ◌++◌, flat_map, drop, length, get_or, refl, sym, ap, ap₂, subst, ⊎_elim, arith, codes, decimal}
use Rattle.std.specs.Prelude.{slice_index, unwrap_or}
use Rattle.std.specs.Int.{bit_at}
use Rattle.std.specs.List.{range_with_len}
use Rattle.std.proofs.lemmas.Bool.{cases_Bool, cases_eq, cases_lt}
use Rattle.std.proofs.lemmas.Fmt.{decimal_injective, signed_decimal_injective}
use Rattle.std.proofs.lemmas.Nat.Bits.{bit_at-lt, same_from_bits_below}
use Rattle.std.proofs.Math.Nat.{div-eq_of_lt}
use Rattle.std.proofs.Math.Pow.{pow-lt}
use Rattle.rcv_tree.specs.Bits.{has_bit}
use Rattle.rcv_tree.specs.declared.event.Event.{Event}
use Rattle.rcv_tree.specs.declared.event.Dir.{Dir}
use Rattle.rcv_tree.specs.declared.entry.Entry.TheVariants.{Send, Recv, Crash, Recover}
use Rattle.rcv_tree.specs.Names.{name_at}
use Rattle.rcv_model.specs.Names.{AreDifferent}
use Rattle.rcv_session.specs.Session.{SessionView, roles_of}
use Rattle.rcv_accept.specs.Accepted.{IsAcceptedProtocol}
use Rattle.rcv_journal.specs.declared.line.RoleWord.{RoleWord}
use Rattle.rcv_journal.specs.declared.line.RoleWord.TheVariants.{Done, Limit, Waits}
use Rattle.rcv_journal.specs.JournalText.{name_of, word_text}
use Rattle.rcv_journal.specs.Form.{IsFormedEvent, AreCuts}
use Rattle.rcv_lines.specs.Cutting.{joined}
use Rattle.rcv_lines.specs.Fields.{event_fields, line_fields}
use Rattle.rcv_lines.specs.Laws.{LinesSayOneThing}
use Rattle.rcv_lines.specs.Line.{EndLine, EntryLine, IsFormedLine, LineView, RoleLineOf}
use Rattle.rcv_lines.specs.Named.{BeginOtherwise, FitsCut, cut_at, cut_fields, kept_fields}
use Rattle.rcv_lines.proofs.Naming.{same_role, same_roles}
use Rattle.rcv_lines.proofs.Parses.{within}
use Rattle.rcv_lines.proofs.Texts.{last_byte, line_joins, text_said}
use Rattle.rcv_lines.proofs.Turns.{fits_cut, others_begin}

-- The fourth byte of the first field tells the kind.
abbrev key : List (List ℕ) → ℕ
key fields = get_or (get_or fields 0 []) 3 0

begins_not : (name : List ℕ) (R rest : List (List ℕ)) → BeginOtherwise name R → R ≡ name ∷ rest → ⊥
begins_not name [] rest other is = absurd (omega (arith, ap length is))
begins_not name (f ∷ fs) rest other is = other (ap (λ l. get_or l 0 []) is)

split_cut : (name : List ℕ) (o o' : Option ℕ) (R R' : List (List ℕ)) → FitsCut o → FitsCut o' → BeginOtherwise name R → BeginOtherwise name R'
    → cut_fields name o ++ R ≡ cut_fields name o' ++ R' → (o ≡ o') × (R ≡ R')
split_cut name None None R R' fits fits' other other' is = (refl, is)
split_cut name None (Some n) R R' fits fits' other other' is = absurd (begins_not name R (decimal n ∷ R') other is)
split_cut name (Some m) None R R' fits fits' other other' is = absurd (begins_not name R' (decimal m ∷ R) other' (sym is))
split_cut name (Some m) (Some n) R R' fits fits' other other' is =
    (ap Some (decimal_injective m n (omega (arith, fits)) (omega (arith, fits')) (ap (λ l. get_or l 1 []) is)), ap (drop 2) is)

module _ (names : List (List ℕ)) (few : length names ≤ 8) (differ : AreDifferent names) (c c' : ℕ) (k k' : List ℕ) (are : AreCuts (length names) c k) (are' : AreCuts (length names) c' k') where
  same_cuts : (a n : ℕ) → a + n ≤ length names → flat_map (kept_fields names c k) (range_with_len a n) ≡ flat_map (kept_fields names c' k') (range_with_len a n)
      → (q : ℕ) → a ≤ q → q < a + n → cut_at c k q ≡ cut_at c' k' q
  same_cuts a zero all is q from below = absurd (omega (arith, from, below))
  same_cuts a (suc n) all is q from below =
      let low : a < a + 1 = omega arith in
      let both = split_cut (name_at names a) (cut_at c k a) (cut_at c' k' a) (flat_map (kept_fields names c k) (range_with_len (a + 1) n)) (flat_map (kept_fields names c' k') (range_with_len (a + 1) n))
      (fits_cut names c k a are (omega (arith, all, few))) (fits_cut names c' k' a are' (omega (arith, all, few)))
      (others_begin names c k a (a + 1) n differ low (omega (arith, all))) (others_begin names c' k' a (a + 1) n differ low (omega (arith, all))) is in
      ⊎_elim (λ same. subst (λ j. cut_at c k j ≡ cut_at c' k' j) (sym same) both.0) (λ other. same_cuts (a + 1) n (omega (arith, all)) both.1 q (omega (arith, from, other)) (omega (arith, below))) (cases_eq q a)

abbrev there : Option ℕ → Bool
there None = false
there (Some n) = true

same_cut : (b b' : Bool) (x y : ℕ) → cond b (Some x) None ≡ cond b' (Some y) None → (b ≡ b') × (b ≡ true → x ≡ y)
same_cut true true x y is = (refl, λ _. ap (λ o. unwrap_or o x) is)
same_cut true false x y is = absurd (true≢false (ap there is))
same_cut false true x y is = absurd (true≢false (sym (ap there is)))
same_cut false false x y is = (refl, λ e. absurd (true≢false (sym e)))

same_bit : (x y : ℕ) → x < 2 → y < 2 → (x == 1) ≡ (y == 1) → x ≡ y
same_bit zero zero p q e = refl
same_bit zero (suc zero) p q e = absurd (true≢false (sym e))
same_bit (suc zero) zero p q e = absurd (true≢false e)
same_bit (suc zero) (suc zero) p q e = refl
same_bit (suc (suc x)) y p q e = absurd (omega (arith, p))
same_bit x (suc (suc y)) p q e = absurd (omega (arith, q))

high_bit : (c n q : ℕ) → c < 2 ^ n → n ≤ q → has_bit c q ≡ false
high_bit c n q fits high = ap (λ m. m % 2 == 1) (div-eq_of_lt (small c (2 ^ n) (2 ^ q) fits (powers n q high)))
  where
    small : (a b d : ℕ) → a < b → b ≤ d → a < d
    small a b d p r = omega (arith, p, r)

    powers : (a b : ℕ) → a ≤ b → 2 ^ a ≤ 2 ^ b
    powers a b le = ⊎_elim (λ same. subst (λ m. 2 ^ a ≤ 2 ^ m) (sym same) (omega arith)) (λ other. let below = pow-lt {i = a} {j = b} (omega (arith, le, other)) in omega (arith, below)) (cases_eq b a)

same_lists : (xs ys : List ℕ) → length xs ≡ length ys → ((q : ℕ) → q < length xs → slice_index xs q ≡ slice_index ys q) → xs ≡ ys
same_lists [] [] long same = refl
same_lists [] (y ∷ ys) long same = absurd (omega (arith, long))
same_lists (x ∷ xs) [] long same = absurd (omega (arith, long))
same_lists (x ∷ xs) (y ∷ ys) long same = ap₂ (λ n ns. n ∷ ns) (same 0 (omega arith)) (same_lists xs ys (omega (arith, long)) (λ q lt. same (suc q) (omega (arith, lt))))

one_recovery : (names : List (List ℕ)) → length names ≤ 8 → AreDifferent names → (c c' : ℕ) (k k' : List ℕ) → AreCuts (length names) c k → AreCuts (length names) c' k'
    → flat_map (kept_fields names c k) (range_with_len 0 (length names)) ≡ flat_map (kept_fields names c' k') (range_with_len 0 (length names)) → (c ≡ c') × (k ≡ k')
one_recovery names few differ c c' k k' are are' is =
    let each : (q : ℕ) → q < length names → (has_bit c q ≡ has_bit c' q) × (has_bit c q ≡ true → slice_index k q ≡ slice_index k' q) =
    λ q below. same_cut (has_bit c q) (has_bit c' q) (slice_index k q) (slice_index k' q) (same_cuts names few differ c c' k k' are are' 0 (length names) (omega arith) is q (omega arith) (omega (arith, below))) in
    let bits = same_from_bits_below (length names) c c' are.declared are'.declared (λ i lt. same_bit (bit_at c i) (bit_at c' i) (bit_at-lt c i) (bit_at-lt c' i) (each i lt).0) in
    let off : (q : ℕ) → q < 8 → has_bit c q ≡ false → slice_index k q ≡ slice_index k' q =
    λ q low none. are.others q none low ∙ sym (are'.others q (ap (λ d. has_bit d q) (sym bits) ∙ none) low) in (
      bits,
      same_lists k k' (are.eight ∙ sym are'.eight) (λ q lt.
          ⊎_elim (λ on. ⊎_elim (λ inside. (each q inside).1 on) (λ past. absurd (true≢false (sym on ∙ high_bit c (length names) q are.declared past))) (cases_lt q (length names)))
          (λ none. off q (omega (arith, lt, are.eight)) none) (cases_Bool (has_bit c q))),
    )

same_word : (a b : RoleWord) → word_text a ≡ word_text b → a ≡ b
same_word Done Done is = refl
same_word Done Limit is = absurd (omega (arith, ap (λ l. get_or l 0 0) is))
same_word Done Waits is = absurd (omega (arith, ap (λ l. get_or l 0 0) is))
same_word Limit Done is = absurd (omega (arith, ap (λ l. get_or l 0 0) is))
same_word Limit Limit is = refl
same_word Limit Waits is = absurd (omega (arith, ap (λ l. get_or l 0 0) is))
same_word Waits Done is = absurd (omega (arith, ap (λ l. get_or l 0 0) is))
same_word Waits Limit is = absurd (omega (arith, ap (λ l. get_or l 0 0) is))
same_word Waits Waits is = refl

module _ (setup : SessionView) (accepted : IsAcceptedProtocol setup.protocol) where
  one_role : (x y : ℕ) → x < roles_of setup → y < roles_of setup → name_of setup x ≡ name_of setup y → x ≡ y
  one_role x y in-x in-y same = same_role setup.protocol.roles x y accepted.names.differ in-x in-y same

  same_event : (kind : List ℕ) (dir : Dir) (e f : Event) (more more' : List (List ℕ)) → IsFormedEvent setup dir e → IsFormedEvent setup dir f → e.sent ≡ f.sent
      → event_fields setup kind e more ≡ event_fields setup kind f more' → e ≡ f
  same_event kind dir e f more more' fe ff sent is =
      let few = accepted.form.few_points in
      let last-e = fe.named.last in
      let last-f = ff.named.last in
      let role = one_role e.role f.role fe.named.role ff.named.role (ap (λ l. get_or l 1 []) is) in
      let point = decimal_injective e.point f.point (omega (arith, few, last-e)) (omega (arith, few, last-f)) (ap (λ l. get_or l 2 []) is) in
      let value = signed_decimal_injective e.value f.value (within e.value fe.value) (within f.value ff.value) (ap (λ l. get_or l 4 []) is) in
      let stamp = decimal_injective e.stamp f.stamp fe.stamp ff.stamp (ap (λ l. drop 1 (get_or l 5 [])) is) in
      let dirs = fe.way ∙ sym ff.way in
      λ i. record { role = role i; dir = dirs i; point = point i; value = value i; stamp = stamp i; sent = sent i }

  stamps : (kind : List ℕ) (dir : Dir) (e f : Event) (more more' : List (List ℕ)) → IsFormedEvent setup dir e → IsFormedEvent setup dir f → event_fields setup kind e more ≡ event_fields setup kind f more' → e.stamp ≡ f.stamp
  stamps kind dir e f more more' fe ff is = decimal_injective e.stamp f.stamp fe.stamp ff.stamp (ap (λ l. drop 1 (get_or l 5 [])) is)

  same_line : (a b : LineView) → IsFormedLine setup a → IsFormedLine setup b → line_fields setup a ≡ line_fields setup b → a ≡ b
  same_line (EntryLine (Send e)) (EntryLine (Send f)) formed formed' is =
      let sent = formed.1 ∙ stamps (codes "send") _ e f [] [] formed.0 formed'.0 is ∙ sym formed'.1 in
      ap (λ x. EntryLine (Send x)) (same_event (codes "send") _ e f [] [] formed.0 formed'.0 sent is)
  same_line (EntryLine (Send e)) (EntryLine (Recv f)) formed formed' is = absurd (omega (arith, ap key is))
  same_line (EntryLine (Send e)) (EntryLine (Crash q)) formed formed' is = absurd (omega (arith, ap key is))
  same_line (EntryLine (Send e)) (EntryLine (Recover q d l w)) formed formed' is = absurd (omega (arith, ap key is))
  same_line (EntryLine (Send e)) (RoleLineOf other) formed formed' is = absurd (omega (arith, ap key is))
  same_line (EntryLine (Send e)) (EndLine []) formed formed' is = absurd (omega (arith, ap key is))
  same_line (EntryLine (Send e)) (EndLine (s ∷ others)) formed formed' is = absurd (omega (arith, ap key is))
  same_line (EntryLine (Recv e)) (EntryLine (Send f)) formed formed' is = absurd (omega (arith, ap key is))
  same_line (EntryLine (Recv e)) (EntryLine (Recv f)) formed formed' is =
      let sent = decimal_injective e.sent f.sent formed.sent formed'.sent (ap (λ l. drop 1 (get_or l 6 [])) is) in
      ap (λ x. EntryLine (Recv x)) (same_event (codes "recv") _ e f ((60 ∷ decimal e.sent) ∷ []) ((60 ∷ decimal f.sent) ∷ []) formed formed' sent is)
  same_line (EntryLine (Recv e)) (EntryLine (Crash q)) formed formed' is = absurd (omega (arith, ap key is))
  same_line (EntryLine (Recv e)) (EntryLine (Recover q d l w)) formed formed' is = absurd (omega (arith, ap key is))
  same_line (EntryLine (Recv e)) (RoleLineOf other) formed formed' is = absurd (omega (arith, ap key is))
  same_line (EntryLine (Recv e)) (EndLine []) formed formed' is = absurd (omega (arith, ap key is))
  same_line (EntryLine (Recv e)) (EndLine (s ∷ others)) formed formed' is = absurd (omega (arith, ap key is))
  same_line (EntryLine (Crash p)) (EntryLine (Send f)) formed formed' is = absurd (omega (arith, ap key is))
  same_line (EntryLine (Crash p)) (EntryLine (Recv f)) formed formed' is = absurd (omega (arith, ap key is))
  same_line (EntryLine (Crash p)) (EntryLine (Crash q)) formed formed' is = ap (λ x. EntryLine (Crash x)) (one_role p q formed formed' (ap (λ l. get_or l 1 []) is))
  same_line (EntryLine (Crash p)) (EntryLine (Recover q d l w)) formed formed' is = absurd (omega (arith, ap key is))
  same_line (EntryLine (Crash p)) (RoleLineOf other) formed formed' is = absurd (omega (arith, ap key is))
  same_line (EntryLine (Crash p)) (EndLine []) formed formed' is = absurd (omega (arith, ap key is))
  same_line (EntryLine (Crash p)) (EndLine (s ∷ others)) formed formed' is = absurd (omega (arith, ap key is))
  same_line (EntryLine (Recover p c k u)) (EntryLine (Send f)) formed formed' is = absurd (omega (arith, ap key is))
  same_line (EntryLine (Recover p c k u)) (EntryLine (Recv f)) formed formed' is = absurd (omega (arith, ap key is))
  same_line (EntryLine (Recover p c k u)) (EntryLine (Crash q)) formed formed' is = absurd (omega (arith, ap key is))
  same_line (EntryLine (Recover p c k u)) (EntryLine (Recover q d l w)) formed formed' is =
      let fits = formed.undone_fits in
      let fits' = formed'.undone_fits in
      let role = one_role p q formed.role formed'.role (ap (λ l. get_or l 1 []) is) in
      let undone = decimal_injective u w (omega (arith, fits)) (omega (arith, fits')) (last_byte (decimal u) (decimal w) 58 58 (ap (λ l. get_or l 3 []) is)).0 in
      let cuts = one_recovery setup.protocol.roles accepted.form.few_roles accepted.names.differ c.0 d.0 k l formed.cuts formed'.cuts (ap (drop 4) is) in
      λ i. EntryLine (Recover (role i) (record { 0 = cuts.0 i }) (cuts.1 i) (undone i))
  same_line (EntryLine (Recover p c k u)) (RoleLineOf other) formed formed' is = absurd (omega (arith, ap key is))
  same_line (EntryLine (Recover p c k u)) (EndLine []) formed formed' is = absurd (omega (arith, ap key is))
  same_line (EntryLine (Recover p c k u)) (EndLine (s ∷ others)) formed formed' is = absurd (omega (arith, ap key is))
  same_line (RoleLineOf line) (EntryLine (Send f)) formed formed' is = absurd (omega (arith, ap key is))
  same_line (RoleLineOf line) (EntryLine (Recv f)) formed formed' is = absurd (omega (arith, ap key is))
  same_line (RoleLineOf line) (EntryLine (Crash q)) formed formed' is = absurd (omega (arith, ap key is))
  same_line (RoleLineOf line) (EntryLine (Recover q d l w)) formed formed' is = absurd (omega (arith, ap key is))
  same_line (RoleLineOf line) (RoleLineOf other) formed formed' is =
      let kept-e = formed.kept in
      let kept-f = formed'.kept in
      let raw-e = formed.raw in
      let raw-f = formed'.raw in
      let role = one_role line.role other.role formed.role formed'.role (ap (λ l. get_or l 1 []) is) in
      let kept = decimal_injective line.kept other.kept (omega (arith, kept-e)) (omega (arith, kept-f)) (ap (λ l. get_or l 3 []) is) in
      let raw = decimal_injective line.raw other.raw (omega (arith, raw-e)) (omega (arith, raw-f)) (ap (λ l. get_or l 5 []) is) in
      let word = same_word line.word other.word (ap (λ l. get_or l 6 []) is) in
      λ i. RoleLineOf (record { role = role i; kept = kept i; raw = raw i; word = word i })
  same_line (RoleLineOf line) (EndLine []) formed formed' is = absurd (omega (arith, ap key is))
  same_line (RoleLineOf line) (EndLine (s ∷ others)) formed formed' is = absurd (omega (arith, ap key is))
  same_line (EndLine []) (EntryLine (Send f)) formed formed' is = absurd (omega (arith, ap key is))
  same_line (EndLine []) (EntryLine (Recv f)) formed formed' is = absurd (omega (arith, ap key is))
  same_line (EndLine []) (EntryLine (Crash q)) formed formed' is = absurd (omega (arith, ap key is))
  same_line (EndLine []) (EntryLine (Recover q d l w)) formed formed' is = absurd (omega (arith, ap key is))
  same_line (EndLine []) (RoleLineOf other) formed formed' is = absurd (omega (arith, ap key is))
  same_line (EndLine []) (EndLine []) formed formed' is = refl
  same_line (EndLine []) (EndLine (s ∷ others)) formed formed' is = absurd (omega (arith, ap key is))
  same_line (EndLine (r ∷ rest)) (EntryLine (Send f)) formed formed' is = absurd (omega (arith, ap key is))
  same_line (EndLine (r ∷ rest)) (EntryLine (Recv f)) formed formed' is = absurd (omega (arith, ap key is))
  same_line (EndLine (r ∷ rest)) (EntryLine (Crash q)) formed formed' is = absurd (omega (arith, ap key is))
  same_line (EndLine (r ∷ rest)) (EntryLine (Recover q d l w)) formed formed' is = absurd (omega (arith, ap key is))
  same_line (EndLine (r ∷ rest)) (RoleLineOf other) formed formed' is = absurd (omega (arith, ap key is))
  same_line (EndLine (r ∷ rest)) (EndLine []) formed formed' is = absurd (omega (arith, ap key is))
  same_line (EndLine (r ∷ rest)) (EndLine (s ∷ others)) formed formed' is = ap EndLine (same_roles setup.protocol.roles (r ∷ rest) (s ∷ others) accepted.names.differ formed.declared formed'.declared (ap (drop 1) is))

pub one_thing : LinesSayOneThing
one_thing setup line a b accepted says-a says-b =
    let front = joined (line_fields setup a) in
    let cut = says-a.1 ∙ line_joins setup a in
    same_line setup accepted a b says-a.0 says-b.0 (sym (text_said setup accepted line front a cut says-a) ∙ text_said setup accepted line front b cut says-b)
