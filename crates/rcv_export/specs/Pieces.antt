-- What values are made of, and the line that says one.
use Rattle.std.specs.Prelude.{ℕ, Bool, List, ◌++◌, map, codes, nat_lt}
use Rattle.std.specs.List.{filter}
use Rattle.serde_json.specs.Data.{Data, array, number, string, unsigned}
use Rattle.serde_json.specs.View.{items_of}
use Rattle.serde_json.specs.Written.{compact_text}

abbrev pub list_of : List Data → Data
list_of items = array (items_of items)

abbrev pub count : ℕ → Data
count n = number (unsigned n)

-- An ASCII byte.
abbrev pub is_ascii : ℕ → Bool
is_ascii b = nat_lt b 128

-- A name as it is written: its ASCII bytes. If it is a word, these are all of its bytes.
abbrev pub ascii_of : List ℕ → List ℕ
ascii_of name = filter is_ascii name

abbrev pub word_data : List ℕ → Data
word_data name = string (ascii_of name)

abbrev pub words_data : List (List ℕ) → Data
words_data names = list_of (map word_data names)

-- The line of a value: its text without spaces, and a line feed.
abbrev pub line_of : Data → List ℕ
line_of value = compact_text value ++ codes "\n"
