-- Whether a line's text says something is decided: by all lines of the form, which are finitely many.
use Rattle.std.proofs.Common.{◌≡◌, ◌<◌, ◌≤◌, ◌+◌, ◌^◌, ℕ, zero, suc, Bool, true, false, List, [], ◌∷◌, All, Some, FitsSigned, length, get_or, refl, ap, subst, ◌⊎◌, inl, inr, ⊎_elim, arith, w64}
use Rattle.std.specs.Prelude.{ℤ, pos, negsuc, slice_get, slice_index}
use Rattle.std.proofs.lemmas.Bool.{cases_eq, cases_lt}
use Rattle.std.proofs.lemmas.Option.{slice_get-get_or}
use Rattle.std.proofs.lemmas.List.Elements.{All-nil, All-cons, All-head, All-tail}
use Rattle.rcv_tree.specs.Bits.{has_bit}
use Rattle.rcv_tree.specs.declared.event.Dir.TheVariants.{Sent, Got}
use Rattle.rcv_tree.specs.declared.event.Event.{Event}
use Rattle.rcv_tree.specs.declared.entry.Entry.{Entry}
use Rattle.rcv_tree.specs.declared.entry.Entry.TheVariants.{Send, Recv, Crash, Recover}
use Rattle.rcv_model.proofs.Decided.{same_list}
use Rattle.rcv_model.proofs.Threads.{least}
use Rattle.rcv_session.specs.Session.{SessionView, roles_of, net_for}
use Rattle.rcv_journal.specs.declared.line.RoleLine.{RoleLine}
use Rattle.rcv_journal.specs.declared.line.RoleWord.{RoleWord}
use Rattle.rcv_journal.specs.declared.line.RoleWord.TheVariants.{Done, Limit, Waits}
use Rattle.rcv_journal.specs.JournalText.{entry_line, role_line}
use Rattle.rcv_journal.specs.Form.{end_line, IsAscending}
use Rattle.rcv_lines.specs.Line.{LineView, EntryLine, RoleLineOf, EndLine, SaysLine}
use Rattle.rcv_lines.proofs.Ascending.{ascend}

abbrev pub OrNot : Type 0 → Type 0
OrNot A = A ⊎ (A → ⊥)

pub both : {A B : Type 0} → OrNot A → OrNot B → OrNot (A × B)
both (inl a) (inl b) = inl (a, b)
both (inl a) (inr never) = inr (λ ab. never ab.1)
both (inr never) b = inr (λ ab. never ab.0)

-- ---- what is searched

-- one of the numbers below a bound, or none
abbrev Below : (ℕ → Type 0) → ℕ → Type 0
Below P bound = (n : ℕ) × ((n < bound) × P n)

below : (P : ℕ → Type 0) → ((n : ℕ) → OrNot (P n)) → (bound : ℕ) → OrNot (Below P bound)
below P decide bound = ⊎_elim
    (λ found. inl (found.0, (found.1, found.2.0)))
    (λ none. inr (λ found. none found.0 found.1.0 found.1.1))
    (least P decide bound)

at_least : (m n : ℕ) → OrNot (m ≤ n)
at_least m n = ⊎_elim (λ less. inr (λ more. omega (arith, less, more))) (λ more. inl more) (cases_lt n m)

-- one of the numbers of 64 bits with a sign
abbrev AValue : (ℤ → Type 0) → Type 0
AValue P = (z : ℤ) × (FitsSigned w64 z × P z)

no_value : (P : ℤ → Type 0) → (Below (λ n. P (pos n)) (2 ^ 63) → ⊥) → (Below (λ n. P (negsuc n)) (2 ^ 63) → ⊥) → (z : ℤ) → FitsSigned w64 z → P z → ⊥
no_value P above under (pos n) fits p = above (n, (fits.sfits, p))
no_value P above under (negsuc n) fits p = under (n, (fits.sfits, p))

value : (P : ℤ → Type 0) → ((z : ℤ) → OrNot (P z)) → OrNot (AValue P)
value P decide = go (below (λ n. P (pos n)) (λ n. decide (pos n)) (2 ^ 63)) (below (λ n. P (negsuc n)) (λ n. decide (negsuc n)) (2 ^ 63))
  where
    go : OrNot (Below (λ n. P (pos n)) (2 ^ 63)) → OrNot (Below (λ n. P (negsuc n)) (2 ^ 63)) → OrNot (AValue P)
    go (inl (n, (lt, p))) under = inl (pos n, (record { sfits = lt }, p))
    go (inr above) (inl (n, (lt, p))) = inl (negsuc n, (record { sfits = lt }, p))
    go (inr above) (inr under) = inr (λ found. no_value P above under found.0 found.1.0 found.1.1)

-- one of the lists of so many numbers below a bound
abbrev AList : (List ℕ → Type 0) → ℕ → ℕ → Type 0
AList P bound len = (l : List ℕ) × ((length l ≡ len) × (All (λ n. n < bound) l × P l))

no_list : (P : List ℕ → Type 0) → (P [] → ⊥) → (l : List ℕ) → length l ≡ 0 → P l → ⊥
no_list P never [] size p = never p
no_list P never (n ∷ l) size p = omega (arith, size)

first_of : (P : List ℕ → Type 0) (bound len : ℕ) → AList P bound (suc len) → Below (λ n. AList (λ l. P (n ∷ l)) bound len) bound
first_of P bound len ([], (size, (all, p))) = absurd (omega (arith, size))
first_of P bound len (n ∷ l, (size, (all, p))) = (n, (All-head (λ m. m < bound) n l all, (l, (omega (arith, size), (All-tail (λ m. m < bound) n l all, p)))))

lists : (P : List ℕ → Type 0) → ((l : List ℕ) → OrNot (P l)) → (bound len : ℕ) → OrNot (AList P bound len)
lists P decide bound zero = ⊎_elim (λ p. inl ([], (refl, (All-nil (λ n. n < bound), p)))) (λ never. inr (λ found. no_list P never found.0 found.1.0 found.1.1.1)) (decide [])
lists P decide bound (suc len) = ⊎_elim
    (λ found. let l = found.1.1.0 in inl (found.0 ∷ l, (ap suc found.1.1.1.0, (All-cons (λ n. n < bound) found.0 l found.1.0 found.1.1.1.1.0, found.1.1.1.1.1))))
    (λ none. inr (λ found. none (first_of P bound len found)))
    (below (λ n. AList (λ l. P (n ∷ l)) bound len) (λ n. lists (λ l. P (n ∷ l)) (λ l. decide (n ∷ l)) bound len) bound)

-- ---- what such a list has to be

ascending : (xs : List ℕ) → OrNot (IsAscending xs)
ascending xs = ⊎_elim
    (λ found. inr (λ ascends.
    let k = found.0 in
    let inside = found.1.1.0 in
    let order = found.1.1.1 in
    let less = ascends k (get_or xs k 0) (get_or xs (k + 1) 0) (slice_get-get_or xs k 0 (omega (arith, inside))) (slice_get-get_or xs (k + 1) 0 inside) in
    omega (arith, less, order)))
    (λ none. inl (ascend xs (length xs) (omega arith) (λ k inside. ⊎_elim (λ less. less) (λ order. absurd (none (k, (omega (arith, inside), (inside, order))))) (cases_lt (get_or xs k 0) (get_or xs (k + 1) 0)))))
    (below (λ k. (k + 1 < length xs) × (get_or xs (k + 1) 0 ≤ get_or xs k 0)) (λ k. both (at_most (k + 1) (length xs)) (at_least (get_or xs (k + 1) 0) (get_or xs k 0))) (length xs))
  where
    at_most : (m n : ℕ) → OrNot (m < n)
    at_most m n = ⊎_elim (λ less. inl less) (λ more. inr (λ less. omega (arith, less, more))) (cases_lt m n)

-- ascending numbers below a bound are few
few_ascend : (xs : List ℕ) (n bound : ℕ) → n ≤ bound → ((a : ℕ) → slice_get xs 0 ≡ Some a → n ≤ a) → All (λ x. x < bound) xs → IsAscending xs → length xs + n ≤ bound
few_ascend [] n bound le first all ascends = omega (arith, le)
few_ascend (x ∷ xs) n bound le first all ascends =
    let low = first x refl in
    let high = All-head (λ y. y < bound) x xs all in
    let rest = few_ascend xs (suc x) bound (omega (arith, high)) (λ a at. let less = ascends 0 x a refl at in omega (arith, less)) (All-tail (λ y. y < bound) x xs all) (λ k a b at next. let same : suc (k + 1) ≡ suc k + 1 = omega arith in ascends (suc k) a b at (subst (λ m. slice_get (x ∷ xs) m ≡ Some b) same next)) in
    omega (arith, low, high, rest)

-- who isn't concerned keeps 0
abbrev KeepNone : ℕ → List ℕ → Type 0
KeepNone concerned kept = (q : ℕ) → has_bit concerned q ≡ false → q < 8 → slice_index kept q ≡ 0

is_false : (b : Bool) → OrNot (b ≡ false)
is_false false = inl refl
is_false true = inr (λ e. cc)

not_0 : (n : ℕ) → OrNot (n ≡ 0 → ⊥)
not_0 n = ⊎_elim (λ e. inr (λ never. never e)) (λ never. inl never) (cases_eq n 0)

keep_none : (concerned : ℕ) (kept : List ℕ) → OrNot (KeepNone concerned kept)
keep_none concerned kept = ⊎_elim
    (λ found. inr (λ none. found.1.1.1 (none found.0 found.1.1.0 found.1.0)))
    (λ never. inl (λ q out lt. ⊎_elim (λ e. e) (λ some. absurd (never (q, (lt, (out, some))))) (cases_eq (slice_index kept q) 0)))
    (below (λ q. (has_bit concerned q ≡ false) × (slice_index kept q ≡ 0 → ⊥)) (λ q. both (is_false (has_bit concerned q)) (not_0 (slice_index kept q))) 8)

-- ---- line by line

abbrev sent_at : ℕ → ℕ → ℤ → ℕ → Entry
sent_at r p z t = Send (record { role = r; dir = Sent; point = p; value = z; stamp = t; sent = t })

abbrev got_at : ℕ → ℕ → ℤ → ℕ → ℕ → Entry
got_at r p z t s = Recv (record { role = r; dir = Got; point = p; value = z; stamp = t; sent = s })

abbrev line_at : ℕ → ℕ → ℕ → RoleWord → RoleLine
line_at r kept raw word = record { role = r; kept = kept; raw = raw; word = word }

module _ (setup : SessionView) (text : List ℕ) where
  abbrev IsEntry : Entry → Type 0
  IsEntry e = text ≡ entry_line setup e

  -- a Send
  abbrev SendPoint : ℕ → ℕ → Type 0
  SendPoint r p = (1 ≤ p) × AValue (λ z. Below (λ t. IsEntry (sent_at r p z t)) (2 ^ 64))

  abbrev ASend : Type 0
  ASend = Below (λ r. Below (λ p. SendPoint r p) (suc (net_for setup).count)) (roles_of setup)

  a_send : OrNot ASend
  a_send = below (λ r. Below (λ p. SendPoint r p) (suc (net_for setup).count)) (λ r. below (λ p. SendPoint r p) (λ p. both (at_least 1 p)
      (value (λ z. Below (λ t. IsEntry (sent_at r p z t)) (2 ^ 64)) (λ z. below (λ t. IsEntry (sent_at r p z t)) (λ t. same_list text (entry_line setup (sent_at r p z t))) (2 ^ 64))))
      (suc (net_for setup).count)) (roles_of setup)

  -- a Recv
  abbrev RecvPoint : ℕ → ℕ → Type 0
  RecvPoint r p = (1 ≤ p) × AValue (λ z. Below (λ t. Below (λ s. IsEntry (got_at r p z t s)) (2 ^ 64)) (2 ^ 64))

  abbrev ARecv : Type 0
  ARecv = Below (λ r. Below (λ p. RecvPoint r p) (suc (net_for setup).count)) (roles_of setup)

  a_recv : OrNot ARecv
  a_recv = below (λ r. Below (λ p. RecvPoint r p) (suc (net_for setup).count)) (λ r. below (λ p. RecvPoint r p) (λ p. both (at_least 1 p)
      (value (λ z. Below (λ t. Below (λ s. IsEntry (got_at r p z t s)) (2 ^ 64)) (2 ^ 64)) (λ z. below (λ t. Below (λ s. IsEntry (got_at r p z t s)) (2 ^ 64))
      (λ t. below (λ s. IsEntry (got_at r p z t s)) (λ s. same_list text (entry_line setup (got_at r p z t s))) (2 ^ 64)) (2 ^ 64))))
      (suc (net_for setup).count)) (roles_of setup)

  -- a Crash
  abbrev ACrash : Type 0
  ACrash = Below (λ r. IsEntry (Crash r)) (roles_of setup)

  a_crash : OrNot ACrash
  a_crash = below (λ r. IsEntry (Crash r)) (λ r. same_list text (entry_line setup (Crash r))) (roles_of setup)

  -- a Recover
  abbrev RecoverKeeps : ℕ → ℕ → List ℕ → Type 0
  RecoverKeeps r c kept = KeepNone c kept × Below (λ undone. IsEntry (Recover r (record { 0 = c }) kept undone)) (2 ^ 32)

  abbrev RecoverOf : ℕ → ℕ → Type 0
  RecoverOf r c = (c ≡ 0 → ⊥) × AList (λ kept. RecoverKeeps r c kept) (2 ^ 32) 8

  abbrev ARecover : Type 0
  ARecover = Below (λ r. Below (λ c. RecoverOf r c) (2 ^ roles_of setup)) (roles_of setup)

  a_recover : OrNot ARecover
  a_recover = below (λ r. Below (λ c. RecoverOf r c) (2 ^ roles_of setup)) (λ r. below (λ c. RecoverOf r c) (λ c. both (not_0 c)
      (lists (λ kept. RecoverKeeps r c kept) (λ kept. both (keep_none c kept)
      (below (λ undone. IsEntry (Recover r (record { 0 = c }) kept undone)) (λ undone. same_list text (entry_line setup (Recover r (record { 0 = c }) kept undone))) (2 ^ 32))) (2 ^ 32) 8))
      (2 ^ roles_of setup)) (roles_of setup)

  -- a role's line
  abbrev IsRole : RoleLine → Type 0
  IsRole line = text ≡ role_line setup line

  abbrev AWord : ℕ → ℕ → ℕ → Type 0
  AWord r kept raw = (word : RoleWord) × IsRole (line_at r kept raw word)

  a_word : (r kept raw : ℕ) → OrNot (AWord r kept raw)
  a_word r kept raw = go (is Done) (is Limit) (is Waits)
    where
      is : (word : RoleWord) → OrNot (IsRole (line_at r kept raw word))
      is word = same_list text (role_line setup (line_at r kept raw word))

      none : (IsRole (line_at r kept raw Done) → ⊥) → (IsRole (line_at r kept raw Limit) → ⊥) → (IsRole (line_at r kept raw Waits) → ⊥) → (word : RoleWord) → IsRole (line_at r kept raw word) → ⊥
      none a b c Done e = a e
      none a b c Limit e = b e
      none a b c Waits e = c e

      go : OrNot (IsRole (line_at r kept raw Done)) → OrNot (IsRole (line_at r kept raw Limit)) → OrNot (IsRole (line_at r kept raw Waits)) → OrNot (AWord r kept raw)
      go (inl a) b c = inl (Done, a)
      go (inr a) (inl b) c = inl (Limit, b)
      go (inr a) (inr b) (inl c) = inl (Waits, c)
      go (inr a) (inr b) (inr c) = inr (λ w. none a b c w.0 w.1)

  abbrev ARole : Type 0
  ARole = Below (λ r. Below (λ kept. Below (λ raw. AWord r kept raw) (2 ^ 32)) (2 ^ 32)) (roles_of setup)

  a_role : OrNot ARole
  a_role = below (λ r. Below (λ kept. Below (λ raw. AWord r kept raw) (2 ^ 32)) (2 ^ 32)) (λ r. below (λ kept. Below (λ raw. AWord r kept raw) (2 ^ 32)) (λ kept. below (λ raw. AWord r kept raw) (λ raw. a_word r kept raw) (2 ^ 32)) (2 ^ 32)) (roles_of setup)

  -- the last line
  abbrev IsEnd : List ℕ → Type 0
  IsEnd limited = IsAscending limited × (text ≡ end_line setup limited)

  abbrev AnEnd : Type 0
  AnEnd = Below (λ len. AList IsEnd (roles_of setup) len) (suc (roles_of setup))

  an_end : OrNot AnEnd
  an_end = below (λ len. AList IsEnd (roles_of setup) len) (λ len. lists IsEnd (λ l. both (ascending l) (same_list text (end_line setup l))) (roles_of setup) len) (suc (roles_of setup))

  -- none of the six
  record SaysNone : Type 0 where
    send : ASend → ⊥
    recv : ARecv → ⊥
    crash : ACrash → ⊥
    recover : ARecover → ⊥
    role : ARole → ⊥
    last : AnEnd → ⊥

  none_of : SaysNone → (v : LineView) → SaysLine setup text v → ⊥
  none_of none (EntryLine (Send e)) ((is, same), text_is) =
      none.send (e.role, (is.named.role, (e.point, (omega (arith, is.named.last), (is.named.first, (e.value, (is.value, (e.stamp, (is.stamp, text_is)))))))))
  none_of none (EntryLine (Recv e)) (is, text_is) =
      none.recv (e.role, (is.named.role, (e.point, (omega (arith, is.named.last), (is.named.first, (e.value, (is.value, (e.stamp, (is.stamp, (e.sent, (is.sent, text_is)))))))))))
  none_of none (EntryLine (Crash p)) (is, text_is) = none.crash (p, (is, text_is))
  none_of none (EntryLine (Recover p concerned kept undone)) (is, text_is) =
      none.recover (p, (is.role, (concerned.0, (is.cuts.declared, (is.cuts.some, (kept, (is.cuts.eight, (is.cuts.fit, (is.cuts.others, (undone, (is.undone_fits, text_is)))))))))))
  none_of none (RoleLineOf line) (is, text_is) = none.role (line.role, (is.role, (line.kept, (is.kept, (line.raw, (is.raw, (line.word, text_is)))))))
  none_of none (EndLine limited) (is, text_is) =
      none.last (length limited, (let few = few_ascend limited 0 (roles_of setup) (omega arith) (λ a at. omega arith) is.declared is.ascending in omega (arith, few), (limited, (refl, (is.declared, (is.ascending, text_is))))))

  -- and what each says
  of_send : ASend → (v : LineView) × SaysLine setup text v
  of_send (r, (role, (p, (last, (first, (z, (fits, (t, (stamp, is))))))))) = (
    EntryLine (sent_at r p z t),
    ((record { named = record { role = role; first = first; last = omega (arith, last) }; way = refl; value = fits; stamp = stamp; sent = stamp }, refl), is),
  )

  of_recv : ARecv → (v : LineView) × SaysLine setup text v
  of_recv (r, (role, (p, (last, (first, (z, (fits, (t, (stamp, (s, (sent, is))))))))))) = (
    EntryLine (got_at r p z t s),
    (record { named = record { role = role; first = first; last = omega (arith, last) }; way = refl; value = fits; stamp = stamp; sent = sent }, is),
  )

  of_crash : ACrash → (v : LineView) × SaysLine setup text v
  of_crash (r, (role, is)) = (EntryLine (Crash r), (role, is))

  of_recover : ARecover → (v : LineView) × SaysLine setup text v
  of_recover (r, (role, (c, (declared, (some, (kept, (eight, (fit, (others, (undone, (small, is))))))))))) = (
    EntryLine (Recover r (record { 0 = c }) kept undone),
    (record { role = role; cuts = record { some = some; declared = declared; eight = eight; fit = fit; others = others }; undone_fits = small }, is),
  )

  of_role : ARole → (v : LineView) × SaysLine setup text v
  of_role (r, (role, (kept, (few, (raw, (small, (word, is))))))) = (RoleLineOf (line_at r kept raw word), (record { role = role; kept = few; raw = small }, is))

  of_end : AnEnd → (v : LineView) × SaysLine setup text v
  of_end (len, (few, (limited, (size, (declared, (ascends, is)))))) = (EndLine limited, (record { declared = declared; ascending = ascends }, is))

  pub says_or_not : OrNot ((v : LineView) × SaysLine setup text v)
  says_or_not =
      ⊎_elim (λ found. inl (of_send found)) (λ send.
      ⊎_elim (λ found. inl (of_recv found)) (λ recv.
      ⊎_elim (λ found. inl (of_crash found)) (λ crash.
      ⊎_elim (λ found. inl (of_recover found)) (λ recover.
      ⊎_elim (λ found. inl (of_role found)) (λ role.
      ⊎_elim (λ found. inl (of_end found)) (λ last.
      inr (λ found. none_of (record { send = send; recv = recv; crash = crash; recover = recover; role = role; last = last }) found.0 found.1))
      an_end) a_role) a_recover) a_crash) a_recv) a_send
