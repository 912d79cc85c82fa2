-- Lists of values, item by item.
use Rattle.std.proofs.Common.{◌≡◌, ◌∙◌, ◌<◌, ℕ, zero, suc, List, [], ◌∷◌, map, length, refl, sym, ap, subst, arith, Result, Ok, Err, IfErr}
use Rattle.std.specs.Prelude.{IfNone, IfSome, Option, Some, None, option_and_then, option_map, slice_get, unwrap_or}
use Rattle.std.specs.List.{slice_index_or}
use Rattle.std.proofs.lemmas.List.{length-map}
use Rattle.std.proofs.lemmas.Option.{slice_get-map, slice_get_read}
use Rattle.serde_json.specs.Data.{Data, array, item, no_items, Items}
use Rattle.serde_json.specs.Find.{as_number, as_u64}
use Rattle.serde_json.specs.View.{items_of, view}
use Rattle.serde_json.specs.declared.value.Value.{Value}
use Rattle.rcv_journal.specs.Json.{count, list_of}

back : Items → List Data
back no_items = []
back (item d ds) = d ∷ back ds

unlist : Data → List Data
unlist (array ds) = back ds
unlist _ = []

back_of : (ds : List Data) → back (items_of ds) ≡ ds
unfolding back
back_of [] = refl
back_of (d ∷ ds) = ap (λ rest. d ∷ rest) (back_of ds)

-- One list has one value.
pub same_list : (a b : List Data) → list_of a ≡ list_of b → a ≡ b
unfolding unlist
same_list a b is = sym (back_of a) ∙ ap unlist is ∙ back_of b

-- So it has so many items.
pub same_length : (parts : List Value) (b : List Data) → list_of (map view parts) ≡ list_of b → length parts ≡ length b
same_length parts b is = sym (length-map parts view) ∙ ap length (same_list (map view parts) b is)

-- And these.
pub item_at : (parts : List Value) (b : List Data) (k : ℕ) (v : Value) → k < length parts → list_of (map view parts) ≡ list_of b → view (slice_index_or parts k v) ≡ slice_index_or b k (view v)
item_at parts b k v inside is = at parts k inside ∙ ap (λ xs. slice_index_or xs k (view v)) (same_list (map view parts) b is)
  where
    at : (xs : List Value) (k : ℕ) → k < length xs → view (slice_index_or xs k v) ≡ slice_index_or (map view xs) k (view v)
    at [] k inside = absurd (omega arith)
    at (x ∷ xs) zero inside = refl
    at (x ∷ xs) (suc k) inside = at xs k (omega arith)

-- What holds of an answer, where there is this one; and what holds where there is none.
pub given : {T : Type 0} (P : T → Type 0) (o : Option T) (x : T) → o ≡ Some x → IfSome o P → P x
given P o x is some = subst (λ a. IfSome a P) is some

pub lacking : {T Q : Type 0} (o : Option T) → o ≡ None → IfNone o Q → Q
lacking {Q = Q} o is none = subst (λ a. IfNone a Q) is none

-- What holds of every error holds of an error that is handed on.
pub refused : {T E : Type 0} (r : Result T E) (P : E → Type 0) → ((e : E) → P e) → IfErr r P
refused (Ok x) P all = tt
refused (Err e) P all = all e

-- What follows where there is no answer.
pub none_from : {T P Q : Type 0} (o : Option T) → (P → Q) → IfNone o P → IfNone o Q
none_from None f p = f p
none_from (Some x) f p = p

-- Six values in their places are the list.
pub six_are : (parts : List Value) (a b c d e f : Value) → length parts ≡ 6 → a ≡ slice_index_or parts 0 a → b ≡ slice_index_or parts 1 b → c ≡ slice_index_or parts 2 c
    → d ≡ slice_index_or parts 3 d → e ≡ slice_index_or parts 4 e → f ≡ slice_index_or parts 5 f → parts ≡ a ∷ b ∷ c ∷ d ∷ e ∷ f ∷ []
six_are [] a b c d e f six at-a at-b at-c at-d at-e at-f = absurd (omega arith)
six_are (u ∷ []) a b c d e f six at-a at-b at-c at-d at-e at-f = absurd (omega arith)
six_are (u ∷ v ∷ []) a b c d e f six at-a at-b at-c at-d at-e at-f = absurd (omega arith)
six_are (u ∷ v ∷ w ∷ []) a b c d e f six at-a at-b at-c at-d at-e at-f = absurd (omega arith)
six_are (u ∷ v ∷ w ∷ x ∷ []) a b c d e f six at-a at-b at-c at-d at-e at-f = absurd (omega arith)
six_are (u ∷ v ∷ w ∷ x ∷ y ∷ []) a b c d e f six at-a at-b at-c at-d at-e at-f = absurd (omega arith)
six_are (u ∷ v ∷ w ∷ x ∷ y ∷ z ∷ []) a b c d e f six at-a at-b at-c at-d at-e at-f =
    λ i. sym at-a i ∷ sym at-b i ∷ sym at-c i ∷ sym at-d i ∷ sym at-e i ∷ sym at-f i ∷ []
six_are (u ∷ v ∷ w ∷ x ∷ y ∷ z ∷ more ∷ rest) a b c d e f six at-a at-b at-c at-d at-e at-f = absurd (omega arith)

-- What follows where there is an answer.
pub some_from : {T : Type 0} {P Q R : T → Type 0} (o : Option T) → ((x : T) → P x → Q x → R x) → IfSome o P → IfSome o Q → IfSome o R
some_from None f p q = p
some_from (Some x) f p q = f x p q

-- One number has one value.
pub same_count : (a b : ℕ) → count a ≡ count b → a ≡ b
same_count a b is = ap (λ d. unwrap_or (option_and_then as_u64 (as_number d)) 0) is

-- An item that was read, among what is seen of all.
pub viewed_at : (parts : List Value) (i : ℕ) (v : Value) → i < length parts → v ≡ slice_index_or parts i v → slice_get (map view parts) i ≡ Some (view v)
viewed_at parts i v inside is = slice_get-map view parts i ∙ ap (option_map view) (slice_get_read parts (length parts) i v refl inside is)
