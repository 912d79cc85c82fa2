-- What is given says one command at most: the one that its word, its options and its flags make.
use Rattle.std.proofs.Common.{◌≡◌, ◌∙◌, ℕ, Bool, [], Option, Some, sym, ap, codes}
use Rattle.std.specs.Prelude.{unwrap_or, if◌then◌else◌}
use Rattle.clap.specs.Words.{Text}
use Rattle.rcv_look.specs.Asked.{asked_by, asked}
use Rattle.rcv_look.specs.Commands.{CommandView, DrawJournal, DrawSession, DrawTold, ReplayJournal, DrawTable, ExportTable, DrawRole, ExportRole, DrawProtocol, ListPoints, ExportPoints, DrawFailures, ListFailures, ExportFailures, Explain, Given, Says, journal_for}

-- The word that is given, and what it asks for.
by_word : (g : Given) (word : Text) → g.command ≡ Some word → asked g ≡ asked_by word g
by_word g word is = ap (λ (o : Option Text). asked_by (unwrap_or o []) g) is

-- The option that is given.
the_role : (g : Given) (name : Text) → g.role ≡ Some name → unwrap_or g.role [] ≡ name
the_role g name is = ap (λ (o : Option Text). unwrap_or o []) is

-- A command is what is asked for where it is said.
pub is_asked : (g : Given) (c : CommandView) → Says g c → asked g ≡ c
is_asked g DrawJournal says = by_word g (codes "journal") says.word_is ∙ ap journal_for says.session_is
is_asked g (DrawSession number) says = by_word g (codes "journal") says.word_is ∙ ap journal_for says.session_is
is_asked g DrawTold says = by_word g (codes "told") says.word_is
is_asked g ReplayJournal says = by_word g (codes "replay") says.word_is
is_asked g DrawTable says = by_word g (codes "table") says.word_is ∙ ap (λ (b : Bool). if b then ExportTable else DrawTable) says.flags.1
is_asked g ExportTable says = by_word g (codes "table") says.word_is ∙ ap (λ (b : Bool). if b then ExportTable else DrawTable) says.flags.1
is_asked g (DrawRole name) says =
    by_word g (codes "role") says.word_is
    ∙ ap (λ (b : Bool). if b then ExportRole (unwrap_or g.role []) else DrawRole (unwrap_or g.role [])) says.flags.1
    ∙ ap DrawRole (the_role g name says.role_is)
is_asked g (ExportRole name) says =
    by_word g (codes "role") says.word_is
    ∙ ap (λ (b : Bool). if b then ExportRole (unwrap_or g.role []) else DrawRole (unwrap_or g.role [])) says.flags.1
    ∙ ap ExportRole (the_role g name says.role_is)
is_asked g DrawProtocol says = by_word g (codes "protocol") says.word_is
is_asked g ListPoints says = by_word g (codes "points") says.word_is ∙ ap (λ (b : Bool). if b then ExportPoints else ListPoints) says.flags.1
is_asked g ExportPoints says = by_word g (codes "points") says.word_is ∙ ap (λ (b : Bool). if b then ExportPoints else ListPoints) says.flags.1
is_asked g DrawFailures says =
    by_word g (codes "failures") says.word_is
    ∙ ap (λ (b : Bool). if b then ListFailures else (if g.json then ExportFailures else DrawFailures)) says.flags.0
    ∙ ap (λ (b : Bool). if b then ExportFailures else DrawFailures) says.flags.1
is_asked g ListFailures says =
    by_word g (codes "failures") says.word_is
    ∙ ap (λ (b : Bool). if b then ListFailures else (if g.json then ExportFailures else DrawFailures)) says.flags.0
is_asked g ExportFailures says =
    by_word g (codes "failures") says.word_is
    ∙ ap (λ (b : Bool). if b then ListFailures else (if g.json then ExportFailures else DrawFailures)) says.flags.0
    ∙ ap (λ (b : Bool). if b then ExportFailures else DrawFailures) says.flags.1
is_asked g (Explain code) says =
    by_word g (codes "explain") says.word_is ∙ ap (λ (o : Option ℕ). Explain (unwrap_or o 0)) says.code_is

pub one_command : (g : Given) (a b : CommandView) → Says g a → Says g b → a ≡ b
one_command g a b is_a is_b = sym (is_asked g a is_a) ∙ is_asked g b is_b
