-- The lines of the protocols, token by token.
use Rattle.std.proofs.Common.{◌≡◌, ℕ, true, false, List, ◌∷◌, ap}
use Rattle.std.specs.Prelude.{if◌then◌else◌, map}
use Rattle.rcv_lexer.specs.declared.token.Token.{Token}
use Rattle.rcv_listing.specs.Receivers.{is_global, said_by, receivers_of, up_to_next, texts_of, lines_of, receiver_lines}

pub protocol_begins : (input : List ℕ) (t : Token) (ts : List Token) → is_global (said_by input t) ≡ true → receiver_lines input (t ∷ ts) ≡ lines_of (receivers_of input false (up_to_next input ts)) ∷ receiver_lines input ts
protocol_begins input t ts e = ap (λ b. map lines_of (map (receivers_of input false) (if b then up_to_next input ts ∷ texts_of input ts else texts_of input ts))) e

pub protocol_goes_on : (input : List ℕ) (t : Token) (ts : List Token) → is_global (said_by input t) ≡ false → receiver_lines input (t ∷ ts) ≡ receiver_lines input ts
protocol_goes_on input t ts e = ap (λ b. map lines_of (map (receivers_of input false) (if b then up_to_next input ts ∷ texts_of input ts else texts_of input ts))) e
