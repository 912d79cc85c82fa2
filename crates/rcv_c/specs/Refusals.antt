-- Refusals as C has them.
use Rattle.std.specs.Prelude.{◌≡◌, ℕ, List, length, take}
use Rattle.rcv_input.specs.declared.refused.Refused.{Refused}
use Rattle.rcv_input.specs.declared.refused.Refused.TheVariants.{Line, Rule, NoRole, TooMuch}
use Rattle.rcv_c.specs.declared.refusal.Refusal.{Refusal}

-- The first so many bytes are the name. (Names have at most 64.)
pub record IsName (name : List ℕ) (count : ℕ) (bytes : List ℕ) : Type 0 where
  pub count_is : count ≡ length (take 64 name)
  pub bytes_are : take count bytes ≡ take 64 name

-- It has this code, this line, and this number.
pub record Has (why : Refusal) (code line number : ℕ) : Type 0 where
  pub code_is : why.code ≡ code
  pub line_is : why.line ≡ line
  pub number_is : why.number ≡ number

-- It says this refusal.
abbrev pub IsRefusalFor : Refused → Refusal → Type 0
IsRefusalFor (Line code line) why = Has why code line 0 × (why.length ≡ 0)
IsRefusalFor (Rule code name number) why = Has why code 0 number × IsName name why.length why.role
IsRefusalFor NoRole why = Has why 27 0 0 × (why.length ≡ 0)
IsRefusalFor TooMuch why = Has why 55 0 0 × (why.length ≡ 0)
