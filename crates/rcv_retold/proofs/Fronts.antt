-- The entries that were read so far of a text.
use Rattle.std.proofs.Common.{◌≡◌, ℕ, zero, suc, ◌+◌, ◌<◌, ◌≤◌, List, [], ◌∷◌, ◌++◌, All, length, drop, refl, sym, ◌∙◌, ap, subst, arith, append_assoc, append-nil, length-append}
use Rattle.std.proofs.lemmas.Grind.{flat_map-append}
use Rattle.std.proofs.lemmas.List.Elements.{All-nil, All-cons, All-append}
use Rattle.rcv_tree.specs.declared.entry.Entry.{Entry}
use Rattle.rcv_tree.specs.declared.protocol.Protocol.{Protocol}
use Rattle.rcv_journal.specs.Recorded.{bare}
use Rattle.rcv_journal.specs.Form.{IsFormedEntry, lines_of}
use Rattle.rcv_retold.specs.Text.{AreFormed, line_of, entries_text, BeginOtherwise, AreFirst}

pub record IsFront (protocol : Protocol) (text : List ℕ) (entries : List Entry) (bytes : ℕ) (rest : List ℕ) : Type 0 where
  pub formed : AreFormed protocol entries
  pub is_text : text ≡ entries_text protocol entries ++ rest
  pub counted : bytes ≡ length (entries_text protocol entries)
  pub few : length entries + length rest ≤ length text

drop_front : (xs ys : List ℕ) → drop (length xs) (xs ++ ys) ≡ ys
drop_front [] ys = refl
drop_front (x ∷ xs) ys = drop_front xs ys

module _ (protocol : Protocol) (text : List ℕ) where
  pub nothing_read : IsFront protocol text [] 0 text
  nothing_read = record { formed = All-nil (IsFormedEntry (bare protocol)); is_text = refl; counted = refl; few = omega arith }

  module _ (entries : List Entry) (bytes : ℕ) (rest : List ℕ) (so_far : IsFront protocol text entries bytes rest) where
    pub within : bytes ≤ length text
    within = let c = so_far.counted in omega (arith, c, ap length so_far.is_text, length-append (entries_text protocol entries) rest)

    pub fits : (line behind : List ℕ) → rest ≡ line ++ behind → bytes + length line ≤ length text
    fits line behind parts =
        let c = so_far.counted in
        omega (arith, c, ap length so_far.is_text, length-append (entries_text protocol entries) rest, ap length parts, length-append line behind)

    pub one_more : (e : Entry) (line behind : List ℕ) → rest ≡ line ++ behind → 0 < length line → IsFormedEntry (bare protocol) e → line ≡ line_of protocol e → IsFront protocol text (entries ++ e ∷ []) (bytes + length line) behind
    one_more e line behind parts some formed is =
        let grown : entries_text protocol (entries ++ e ∷ []) ≡ entries_text protocol entries ++ line =
        flat_map-append (line_of protocol) entries (e ∷ []) ∙ ap (λ l. entries_text protocol entries ++ l) (append-nil (line_of protocol e) ∙ sym is) in
        let c = so_far.counted in
        let f = so_far.few in
        record {
          formed = All-append (IsFormedEntry (bare protocol)) entries (e ∷ []) so_far.formed (All-cons (IsFormedEntry (bare protocol)) e [] formed (All-nil (IsFormedEntry (bare protocol))));
          is_text =
              so_far.is_text ∙ ap (λ l. entries_text protocol entries ++ l) parts
              ∙ sym (append_assoc (entries_text protocol entries) line behind) ∙ ap (λ l. l ++ behind) (sym grown);
          counted = omega (arith, c, ap length grown, length-append (entries_text protocol entries) line);
          few = omega (arith, f, some, ap length parts, length-append line behind, length-append entries (e ∷ []));
        }

    -- the rest is what the bytes leave
    left : drop bytes text ≡ rest
    left = ap (λ n. drop n text) so_far.counted ∙ ap (drop (length (entries_text protocol entries))) so_far.is_text ∙ drop_front (entries_text protocol entries) rest

    are_first : BeginOtherwise protocol (lines_of rest) → AreFirst protocol text entries (drop bytes text)
    are_first otherwise = subst (AreFirst protocol text entries) (sym left) (record { formed = so_far.formed; is_text = so_far.is_text; few = so_far.few; otherwise = otherwise })

    pub stops : (line behind : List ℕ) → lines_of rest ≡ line ∷ lines_of behind → ((e : Entry) → IsFormedEntry (bare protocol) e → line ≡ line_of protocol e → ⊥) → AreFirst protocol text entries (drop bytes text)
    stops line behind lines none = are_first (λ e more formed is. none e formed (let both : line ∷ lines_of behind ≡ line_of protocol e ∷ more = sym lines ∙ is in cc))

    pub ends : length rest ≡ 0 → AreFirst protocol text entries (drop bytes text)
    ends none = are_first (λ e more formed is. nothing rest none e more is)
      where
        nothing : (r : List ℕ) → length r ≡ 0 → (e : Entry) (more : List (List ℕ)) → lines_of r ≡ line_of protocol e ∷ more → ⊥
        nothing [] n e more is = absurd cc
        nothing (b ∷ r) n e more is = absurd (omega (arith, n))
