-- A journal has one stable line, and one text of it.
use Rattle.std.proofs.Common.{◌≡◌, ℕ, List, sym, ◌∙◌, ap, arith}
use Rattle.rcv_tree.specs.declared.entry.Entry.{Entry}
use Rattle.rcv_session.specs.Session.{SessionView, rules_of}
use Rattle.rcv_model.specs.Journal.{Rules}
use Rattle.rcv_top.specs.Lining.{line_text, IsLineBehind, IsLineOf}

-- each of two is at most the other, since both are the greatest
one_count : (rules : Rules) (journal : List Entry) (a b : ℕ → ℕ) → IsLineBehind rules journal a → IsLineBehind rules journal b → (r : ℕ) → a r ≡ b r
one_count rules journal a b x y r =
    let least = x.greatest b y.stable r in
    let most = y.greatest a x.stable r in
    omega (arith, least, most)

one_counts : (rules : Rules) (journal : List Entry) (a b : ℕ → ℕ) → IsLineBehind rules journal a → IsLineBehind rules journal b → a ≡ b
one_counts rules journal a b x y i r = one_count rules journal a b x y r i

pub one_line_of : (session : SessionView) (journal : List Entry) (b c : List ℕ) → IsLineOf session journal b → IsLineOf session journal c → b ≡ c
one_line_of session journal b c x y =
    x.is_text ∙ ap (line_text session.protocol.roles) (one_counts (rules_of session) journal x.counts y.counts x.are_counts y.are_counts) ∙ sym y.is_text
