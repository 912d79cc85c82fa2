-- A canonical text is its own canonical text.
use Rattle.std.proofs.Common.{◌≡◌, ℕ, ◌-◌, ◌≤◌, codes, List, [], ◌∷◌, length, take, drop, refl, sym, ap, subst, arith}
use Rattle.std.specs.Prelude.{slice_range}
use Rattle.rcv_tree.specs.declared.module.Module.{Module}
use Rattle.rcv_tree.specs.declared.protocol.Protocol.{Protocol}
use Rattle.rcv_model.specs.Text.{body_of}
use Rattle.rcv_session.specs.Session.{SessionView}
use Rattle.rcv_accept.specs.Accepted.{IsAcceptedProtocol}
use Rattle.rcv_script.specs.Meaning.{no_lines}
use Rattle.rcv_lexer.specs.declared.parts.Parts.{Parts}
use Rattle.rcv_lexer.specs.Parts.{parts_of}
use Rattle.rcv_lexer.specs.Tokens.{AreTokens}
use Rattle.rcv_printer.specs.CanonicalText.{canonical}
use Rattle.rcv_printer.specs.Laws.{IsReadAs}
use Rattle.rcv_printer.proofs.ReadBack.{expansions_read_back}
use Rattle.rcv_script.specs.Scripts.{messages_of}
use Rattle.rcv_script.proofs.Answering as scripts
use Rattle.rcv_plan.proofs.Answered.{none_read}
use Rattle.rcv_syntax.specs.Trees.{lines_of_calls}
use Rattle.rcv_input.specs.Input.{IsTaken}
use Rattle.rcv_input.proofs.Alone.{own_expansion}
use Rattle.rcv_input.proofs.Worked.{no_protocol}
use Rattle.rcv_top.specs.declared.status.Status.{Status}
use Rattle.rcv_top.specs.declared.status.Status.TheVariants as statuses
use Rattle.rcv_words.specs.Commands.{CommandView, Check}
use Rattle.rcv_top.specs.Commands.{text_for}
use Rattle.rcv_top.specs.Outcome.{most_bytes, IsAnswer, IsOutcome, usage, too_long, answered, refused, made, replayed}
use Rattle.rcv_top.specs.Laws.{ChecksStay}
use Rattle.rcv_top.proofs.Asking.{one_command, check_command}

-- an empty part is blank
nothing_there : (text : List ℕ) (n : ℕ) → slice_range text n n ≡ []
nothing_there text n = let none : n - n ≡ 0 = omega arith in ap (λ (k : ℕ). take k (drop n text)) none

-- the session of a protocol without scripts and without a plan
abbrev bare : Protocol → SessionView
bare p = record { protocol = p; scripts = no_lines p.roles; plan = [] }

-- a module of it alone, whose calls are on these lines
abbrev alone : Protocol → List ℕ → Module
alone p lines = record { main = p; others = record { items = no_protocol }; dos = lines }

taken_again : (text : List ℕ) (p : Protocol) → IsReadAs text p → IsAcceptedProtocol p → IsTaken text (bare p)
taken_again text p back lawful =
    let whole = alone p (lines_of_calls text back.tokens) in
    let cut = subst (λ (parts : Parts). AreTokens text parts.protocol back.tokens) (sym back.one_part) back.are_tokens in
    let expanded = own_expansion whole (body_of p.body) refl refl lawful.full lawful.form.numbered in
    record {
      protocol = record { text = record { tokens = back.tokens; whole = whole; cut = cut; read = (back.read, refl); expanded = expanded }; accepted = lawful };
      are_scripts = record { tokens = []; cut = subst (λ (parts : Parts). AreTokens text parts.scripts []) (sym back.one_part) ([], nothing_there text (length text), refl); read = scripts.none_read p.roles (messages_of p) };
      plan = record { tokens = []; cut = subst (λ (parts : Parts). AreTokens text parts.plan []) (sym back.one_part) ([], nothing_there text (length text), refl); read = none_read p.roles };
    }

again : (input : List ℕ) (session : SessionView) → IsTaken input session → IsTaken (canonical session.protocol) (bare session.protocol)
again input session taken =
    let text = taken.protocol.text in
    let p = session.protocol in
    taken_again (canonical p) p (expansions_read_back input (parts_of input).protocol text.tokens text.whole p text.cut text.read text.expanded).0 taken.protocol.accepted

pub checks_stay : ChecksStay
checks_stay input bytes outcome short = go statuses.Completed bytes refl outcome short
  where
    once_more : (s : Status) (b : List ℕ) → s ≡ statuses.Completed → IsAnswer Check input s b → length b ≤ most_bytes → IsOutcome (codes "check" ∷ []) b statuses.Completed b
    once_more s b is (refused whole refusal first) few = absurd cc
    once_more s b is (replayed check answer) few = absurd cc
    once_more s b is (made session taken makes) few =
        let text = again input session taken in
        answered Check (record { words_are = check_command; short = few }) (made (bare session.protocol) (subst (λ (t : List ℕ). IsTaken t (bare session.protocol)) (sym makes.1) text) (refl, makes.1))

    go : (s : Status) (b : List ℕ) → s ≡ statuses.Completed → IsOutcome (codes "check" ∷ []) input s b → length b ≤ most_bytes → IsOutcome (codes "check" ∷ []) b statuses.Completed b
    go s b is (usage none) few = absurd cc
    go s b is (too_long command many) few = absurd cc
    go s b is (answered command asked answer) few =
        once_more s b is (subst (λ (c : CommandView). IsAnswer c (text_for c input) s b) (one_command (codes "check" ∷ []) command Check asked.words_are check_command) answer) few
