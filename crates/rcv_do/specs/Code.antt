-- What the functions of this crate say of what they hold.
use Rattle.std.specs.Prelude.{◌≡◌, ℕ, ◌<◌, Option, Some, None, List, [], ◌∷◌, ◌++◌, length, map, slice_index_or}
use Rattle.std.specs.List.{All}
use Rattle.rcv_tree.specs.declared.protocol.Protocol.{Protocol}
use Rattle.rcv_model.specs.Net.{IsIn}
use Rattle.rcv_do.specs.declared.parts.Parts.{Parts}
use Rattle.rcv_do.specs.declared.calls.Call.{Call}
use Rattle.rcv_module.specs.Origins.{calls_before}
use Rattle.rcv_module.specs.Parts.{Part, Site, part_of, place}
use Rattle.rcv_module.specs.Refusing.{CallsOne, AreCallable}

-- the protocols, and what they say
abbrev pub protocols_in : Parts → List Protocol
protocols_in p = p.main.now ∷ p.others.now

abbrev pub parts_in : Parts → List Part
parts_in p = map part_of (protocols_in p)

-- what is known at a place, if it is one
abbrev pub known_at : {A : Type 0} → List (Option A) → ℕ → Option A
known_at xs i = slice_index_or xs i None

-- what is kept of a call
abbrev pub call_of : List Part → Site → Call
call_of parts s = record { holder = s.holder; target = place parts s.name; arguments = length s.roles }

-- what is known of each of these places
abbrev pub AreAllKnown : {A : Type 0} → List ℕ → List (Option A) → Type 0
AreAllKnown {A} order known = (i : ℕ) → IsIn i order → (x : A) × (known_at known i ≡ Some x)

-- All that the protocol at a place calls is among these.
abbrev pub CallsAmong : List Part → ℕ → List ℕ → Type 0
CallsAmong parts i done = (j : ℕ) → CallsOne parts i j → IsIn j done

-- After these, each place stands after all that it calls.
abbrev pub CallsBehind : List Part → List ℕ → List ℕ → Type 0
CallsBehind parts done [] = Unit {0}
CallsBehind parts done (i ∷ is) = CallsAmong parts i done × CallsBehind parts (done ++ i ∷ []) is

-- No call is refused by the table, and the places in this order are those that the first protocol comes to.
pub record IsCallOrder (parts : List Part) (order : List ℕ) : Type 0 where
  pub callable : AreCallable parts
  pub inside : All (λ i. i < length parts) order
  pub behind : CallsBehind parts [] order
  pub main : CallsAmong parts 0 order

-- These stand before a place in an order.
pub record IsFront (order : List ℕ) (place : ℕ) (front : List ℕ) : Type 0 where
  pub behind : List ℕ
  pub is : order ≡ front ++ place ∷ behind

-- What these call is among the places.
abbrev pub AreUnder : List Part → List ℕ → List Site → Type 0
AreUnder parts under [] = Unit {0}
AreUnder parts under (s ∷ ss) = ((j : ℕ) × (place parts s.name ≡ Some j) × IsIn j under) × AreUnder parts under ss

-- For each protocol the number of its first call.
abbrev pub AreFirsts : List Part → List ℕ → Type 0
AreFirsts parts firsts = (i : ℕ) → i < length parts → slice_index_or firsts i 0 ≡ calls_before parts i
