-- What may be told again as it stands is a told session; and what holds of told texts.
use Rattle.std.specs.Prelude.{◌≡◌, ℕ, List}
use Rattle.rcv_tree.specs.declared.entry.Entry.{Entry}
use Rattle.rcv_accept.specs.Accepted.{IsAcceptedProtocol}
use Rattle.rcv_session.specs.Session.{SessionView}
use Rattle.rcv_told.specs.Told.{Terms, IsTold}
use Rattle.rcv_retold.specs.Retold.{terms_for, IsRetold}
use Rattle.rcv_retold.specs.Text.{AreFormed, IsToldText, IsFirstWrong}

abbrev pub RetoldIsTold : Type 0
RetoldIsTold = (terms : Terms) (entries : List Entry) → IsRetold terms entries → IsTold terms entries

-- Told entries of the form have a text.
abbrev pub ToldEntriesHaveTexts : Type 0
ToldEntriesHaveTexts =
    (setup : SessionView) (entries : List Entry) → IsAcceptedProtocol setup.protocol
    → AreFormed setup.protocol entries → IsRetold (terms_for setup) entries → (text : List ℕ) × IsToldText setup text entries

-- A text is that of one list of told entries at most.
abbrev pub ToldTextsSayOneThing : Type 0
ToldTextsSayOneThing =
    (setup : SessionView) (text : List ℕ) (a b : List Entry)
    → IsAcceptedProtocol setup.protocol → IsToldText setup text a → IsToldText setup text b → a ≡ b

-- A text with a first wrong line is that of none.
abbrev pub WrongTextsAreNotTold : Type 0
WrongTextsAreNotTold =
    (setup : SessionView) (text : List ℕ) (k : ℕ) (entries : List Entry) → IsFirstWrong setup text k → IsToldText setup text entries → ⊥
