-- What the lines of an accepted protocol give the machine: one line feed, at the end, and one thing that each says.
use Rattle.std.proofs.Common.{◌≡◌, ℕ, List, [], ◌∷◌, All, refl}
use Rattle.std.proofs.lemmas.List.Elements.{All-nil, All-cons}
use Rattle.rcv_tree.specs.declared.protocol.Protocol.{Protocol}
use Rattle.rcv_accept.specs.Accepted.{IsAcceptedProtocol}
use Rattle.rcv_journal.specs.Recorded.{bare}
use Rattle.rcv_lines.specs.Cutting.{Lacks}
use Rattle.rcv_lines.specs.Line.{line_text}
use Rattle.rcv_lines.proofs.OneJournal.{AreLines}
use Rattle.rcv_lines.proofs.OneThing.{one_thing}
use Rattle.rcv_lines.proofs.Texts.{line_ends}
use Rattle.rcv_lines.proofs.Views.{SaysOne}

lacking : (text : List ℕ) → Lacks 10 text → All (λ b. b ≡ 10 → ⊥) text
lacking [] none = All-nil (λ b. b ≡ 10 → ⊥)
lacking (b ∷ rest) none = All-cons (λ b. b ≡ 10 → ⊥) b rest none.0 (lacking rest none.1)

pub all_end : (protocol : Protocol) → IsAcceptedProtocol protocol → AreLines (bare protocol)
all_end protocol accepted v formed =
    let is = line_ends (bare protocol) (line_text (bare protocol) v) v accepted (formed, refl) in
    record { front = is.front; ends = is.whole; only = lacking is.front is.lacks }

pub says_one : (protocol : Protocol) → IsAcceptedProtocol protocol → SaysOne (bare protocol)
says_one protocol accepted a b formed-a formed-b same =
    one_thing (bare protocol) (line_text (bare protocol) a) a b accepted (formed-a, refl) (formed-b, same)
