-- The section of a session, from what the scans find.
use Rattle.std.proofs.Common.{◌≡◌, ◌+◌, ℕ, true, List, [], drop, Option, Some, None, refl, sym, ap, ◌∙◌, arith}
use Rattle.rcv_lexer.specs.Parts.{line_of}
use Rattle.rcv_section.specs.Scanning.{behind_from, heading_from}
use Rattle.rcv_section.specs.Sections.{title, IsSection, HasNoSection}
use Rattle.rcv_section.proofs.Scans.{found, found_none, front}

-- No empty text is the line of a session.
not_empty : (number : ℕ) → line_of (title number) [] ≡ None
not_empty number = refl

is_none : (o : Option ℕ) → ((n : ℕ) → o ≡ Some n → ⊥) → o ≡ None
is_none None not = refl
is_none (Some n) not = absurd (not n refl)

pub none_sought : (number : ℕ) (text word : List ℕ) → word ≡ title number → (result : Option ℕ) → result ≡ behind_from word true 0 text → ((n : ℕ) → result ≡ Some n → ⊥) → HasNoSection number text
none_sought number text word is result scanned not =
    found_none (title number) true 0 text (not_empty number) (ap (λ w. behind_from w true 0 text) (sym is) ∙ sym scanned ∙ is_none result not)

pub section_sought : (number : ℕ) (text word : List ℕ) → word ≡ title number → (begin : ℕ) → Some begin ≡ behind_from word true 0 text
    → (size : ℕ) → size ≡ heading_from true 0 (drop begin text) → IsSection number text (record { begin = begin; end = begin + size })
section_sought number text word is begin scanned size seen =
    let it = found (title number) true 0 text begin (ap (λ w. behind_from w true 0 text) (sym is) ∙ sym scanned) in
    let up = front true 0 (drop begin text) in
    record {
      place = it.place;
      len = it.len;
      size = up.size;
      is_title = record { is_title = it.is_title; is_first = it.is_first };
      begins = let at = it.ends in omega (arith, at);
      ends = let at = up.ends in omega (arith, at, seen);
      is_front = record { within = up.within; clear = up.clear; up_to = up.up_to };
    }
