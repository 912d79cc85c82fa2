-- What was read is a source.
use Rattle.std.proofs.Common.{◌≡◌, ℕ, List, ◌∙◌, ap, subst}
use Rattle.rcv_tree.specs.declared.module.Module.{Module}
use Rattle.rcv_tree.specs.declared.protocol.Protocol.{Protocol}
use Rattle.rcv_module.specs.declared.origin.Origins.{Origins}
use Rattle.rcv_module.specs.Answers.{IsExpanded}
use Rattle.rcv_module.specs.Origins.{AreOriginsOf}
use Rattle.rcv_lexer.specs.declared.token.Span.{Span}
use Rattle.rcv_lexer.specs.declared.token.Token.{Token}
use Rattle.rcv_lexer.specs.Parts.{parts_of}
use Rattle.rcv_lexer.specs.Tokens.{AreTokens}
use Rattle.rcv_reader.specs.Refusals.{IsRead}
use Rattle.rcv_listing.specs.declared.written.PointLines.{PointLines}
use Rattle.rcv_listing.specs.Receivers.{receiver_lines}
use Rattle.rcv_listing.specs.Written.{lines_of_points}
use Rattle.rcv_listing.specs.Listing.{IsSourceOf}

pub source_read : (input : List ℕ) (tokens : List Token) (m : Module) (p : Protocol) (os : Origins) (receivers : List (List ℕ)) (dos : List ℕ) (lines : List PointLines) (part : Span)
    → part ≡ (parts_of input).protocol → AreTokens input part tokens → IsRead input tokens m → IsExpanded m p → AreOriginsOf m os
    → receivers ≡ receiver_lines input tokens → dos ≡ m.dos → lines ≡ lines_of_points receivers dos os.points.items → IsSourceOf input p lines
source_read input tokens m p os receivers dos lines part is cut read expanded come of_receivers of_calls are = record {
  text = record { tokens = tokens; whole = m; cut = subst (λ (s : Span). AreTokens input s tokens) is cut; read = read; expanded = expanded };
  origins = os;
  come = come;
  lines_are =
      are ∙ ap (λ (ls : List (List ℕ)). lines_of_points ls dos os.points.items) of_receivers
      ∙ ap (λ (ls : List ℕ). lines_of_points (receiver_lines input tokens) ls os.points.items) of_calls;
}
