-- A canonical text is one part, whose tokens say its symbols. That of a protocol that was read is read as it, and as no other one;
-- so is that of an expansion.
use Rattle.std.proofs.Common.{◌≡◌, ◌-◌, true, List, [], length, take, refl, sym, ap, subst, arith}
use Rattle.std.proofs.lemmas.List.{take_all}
use Rattle.rcv_tree.specs.Lists.{protocols}
use Rattle.rcv_model.specs.Text.{Body, End, body_of}
use Rattle.rcv_module.specs.Parts.{part_of, parts_of}
use Rattle.rcv_module.specs.Expansion.{IsExpansion, Expands, themselves}
use Rattle.rcv_module.proofs.Unique.{expansions_are_one}
use Rattle.rcv_lexer.specs.declared.token.Token.{Token}
use Rattle.rcv_lexer.specs.Parts.{parts_from}
use Rattle.rcv_lexer.specs.Tokens.{tokens_of}
use Rattle.rcv_lexer.proofs.Once.{one_reading}
use Rattle.rcv_syntax.specs.Symbols.{symbols_of}
use Rattle.rcv_reader.specs.Refusals.{AreReadAs}
use Rattle.rcv_grammar.proofs.Canonizing.{canonical_sources_are_read}
use Rattle.rcv_grammar.proofs.Expansions.{expansions_are_plain, expands_itself, no_calls}
use Rattle.rcv_grammar.proofs.Once.{texts_have_one_tree}
use Rattle.rcv_grammar.proofs.Printables.{read_is_printable}
use Rattle.rcv_printer.specs.CanonicalText.{canonical}
use Rattle.rcv_printer.specs.Laws.{whole, CanonicalTextsAreSpelled, CanonicalTextsReadBack, CanonicalTextsStay, ExpansionsReadBack, ExpansionsStay}
use Rattle.rcv_printer.proofs.Spelled.{says_canonical}

pub are_spelled : CanonicalTextsAreSpelled
are_spelled p h =
    let text = canonical p in
    let said = says_canonical p h in
    let all : take (length text - 0) text ≡ text = take_all (length text - 0) text (omega arith) in
    record {
      one_part = ap (parts_from text) (said.calm true 0);
      tokens = tokens_of text 0 said.pieces;
      are_tokens = (said.pieces, rw all said.cuts, refl);
      say = said.say [];
    }

pub reads_back : CanonicalTextsReadBack
reads_back bundle part tokens main others are read =
    let text = are_spelled main (read_is_printable bundle part tokens main others are read) in
    let back : AreReadAs (symbols_of (canonical main) text.tokens) main [] =
    rw text.say (canonical_sources_are_read (symbols_of bundle tokens) main others read) in
    record { one_part = text.one_part; tokens = text.tokens; are_tokens = text.are_tokens; read = back }

pub stays : CanonicalTextsStay
stays bundle part tokens p q others are read again =
    let back = reads_back bundle part tokens p others are read in
    let one : again.tokens ≡ back.tokens =
    one_reading.tokens (canonical p) (whole (canonical p)) again.tokens back.tokens again.are_tokens back.are_tokens in
    let read_again = subst (λ (ts : List Token). AreReadAs (symbols_of (canonical p) ts) q []) one again.read in
    let same = (texts_have_one_tree (symbols_of (canonical p) back.tokens) q p [] [] read_again back.read).0 in
    rw (same.modules, same.declared, same.names, same.role_names, same.bodies) refl

-- ---- expansions

pub expansions_read_back : ExpansionsReadBack
expansions_read_back bundle part tokens m p are read x =
    let plain = expansions_are_plain bundle part tokens m p are read x in
    let text = are_spelled p plain.printable in
    let back : AreReadAs (symbols_of (canonical p) text.tokens) p [] = rw text.say plain.read in (
      record { one_part = text.one_part; tokens = text.tokens; are_tokens = text.are_tokens; read = back },
      no_calls 0 (body_of p.body) plain.full,
    )

pub expansions_stay : ExpansionsStay
expansions_stay bundle part tokens again m n p q are read x are_again read_again y =
    let plain = expansions_are_plain bundle part tokens m p are read x in
    let back = (expansions_read_back bundle part tokens m p are read x).0 in
    let one : again ≡ back.tokens = one_reading.tokens (canonical p) (whole (canonical p)) again back.tokens are_again back.are_tokens in
    let these = subst (λ (ts : List Token). AreReadAs (symbols_of (canonical p) ts) n.main (protocols n.others)) one read_again.0 in
    let same = (texts_have_one_tree (symbols_of (canonical p) back.tokens) n.main p (protocols n.others) [] these back.read).0 in
    let itself : IsExpansion (parts_of n) (body_of p.body) = record {
      main = part_of n.main;
      first = refl;
      expands = subst (λ (b : Body). Expands (parts_of n) themselves b End (body_of p.body)) (sym same.bodies)
          (expands_itself (parts_of n) (body_of p.body) plain.full);
      numbered = plain.numbered;
    } in
    let bodies : body_of q.body ≡ body_of p.body = expansions_are_one (parts_of n) (body_of q.body) (body_of p.body) y.body itself in
    rw (y.modules, same.modules, y.declared, same.declared, y.named, same.names, y.role_names, same.role_names, bodies) refl
