-- The words and kinds of the grammars: what stands for each of them, and how it is said.
use Rattle.std.specs.Prelude.{ℕ, Bool, true, false, codes, List, [], ◌++◌, Option, Some, None}
use Rattle.rcv_lexer.specs.declared.token.Kind.{Kind}
use Rattle.rcv_lexer.specs.declared.token.Kind.TheVariants.{Word, Number, Text, Mark}

-- One token of it, by its kind and its bytes. If it has no kind, it is the end of the text. The empty word stands for all names,
-- since no grammar asks for it. A free word may be a name at other places.
pub record ThingView : Type 0 where
  pub kind : Option Kind
  pub bytes : List ℕ
  pub free : Bool

abbrev pub thing : Option Kind → List ℕ → Bool → ThingView
thing kind bytes free = record { kind = kind; bytes = bytes; free = free }

abbrev pub any_name : ThingView
any_name = thing (Some Word) [] false

abbrev pub any_number : ThingView
any_number = thing (Some Number) (codes "0") false

abbrev pub any_text : ThingView
any_text = thing (Some Text) (codes "\"\"") false

abbrev pub the_end : ThingView
the_end = thing None [] false

abbrev pub word : List ℕ → ThingView
word w = thing (Some Word) w false

abbrev pub free_word : List ℕ → ThingView
free_word w = thing (Some Word) w true

abbrev pub mark : List ℕ → ThingView
mark m = thing (Some Mark) m false

-- How it is said: words and marks in quotes, and kinds by their names.
abbrev pub quoted : List ℕ → List ℕ
quoted word = codes "\"" ++ word ++ codes "\""

abbrev pub said_by : Option Kind → List ℕ → List ℕ
said_by (Some Word) [] = codes "a name"
said_by (Some Number) bytes = codes "a number"
said_by (Some Text) bytes = codes "a text in quotes"
said_by None bytes = codes "the end of the text"
said_by _ bytes = quoted bytes

abbrev pub said_of : ThingView → List ℕ
said_of t = said_by t.kind t.bytes
