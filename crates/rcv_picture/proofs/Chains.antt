-- Pieces that are put behind a text one by one.
use Rattle.std.proofs.Common.{◌≡◌, ◌∙◌, ℕ, List, [], ◌++◌, refl, ap, append_assoc, append-nil}
use Rattle.std.proofs.lemmas.Grind.{flat_map-append}
use Rattle.rcv_picture.specs.Tree.{escape, escaped}

pub three : (t a b c : List ℕ) → ((t ++ a) ++ b) ++ c ≡ t ++ (a ++ b ++ c)
three t a b c = simp (append_assoc) refl

pub four : (t a b c d : List ℕ) → (((t ++ a) ++ b) ++ c) ++ d ≡ t ++ (a ++ b ++ c ++ d)
four t a b c d = simp (append_assoc) refl

-- A tag with two, three or four pieces, and what stands at its end.
pub tag_two : (t o a b e : List ℕ) → (((t ++ o) ++ a) ++ b) ++ e ≡ t ++ (o ++ (a ++ (b ++ [])) ++ e)
tag_two t o a b e = simp (append_assoc, append-nil) refl

pub tag_three : (t o a b c e : List ℕ) → ((((t ++ o) ++ a) ++ b) ++ c) ++ e ≡ t ++ (o ++ (a ++ (b ++ (c ++ []))) ++ e)
tag_three t o a b c e = simp (append_assoc, append-nil) refl

pub tag_four : (t o a b c d e : List ℕ) → (((((t ++ o) ++ a) ++ b) ++ c) ++ d) ++ e ≡ t ++ (o ++ (a ++ (b ++ (c ++ (d ++ [])))) ++ e)
tag_four t o a b c d e = simp (append_assoc, append-nil) refl

-- A tag that something stands in, with four or five attributes.
pub open_four : (t o a b c d e : List ℕ) → (((((t ++ o) ++ a) ++ b) ++ c) ++ d) ++ e ≡ ((t ++ o) ++ (a ++ (b ++ (c ++ (d ++ []))))) ++ e
open_four t o a b c d e = simp (append_assoc, append-nil) refl

pub open_five : (t o a b c d f e : List ℕ) → ((((((t ++ o) ++ a) ++ b) ++ c) ++ d) ++ f) ++ e ≡ ((t ++ o) ++ (a ++ (b ++ (c ++ (d ++ (f ++ [])))))) ++ e
open_five t o a b c d f e = simp (append_assoc, append-nil) refl

-- The head of an arrow: its tag, its name, its sizes, and its shape in it.
pub head_pieces : (t o a b g s e : List ℕ) → (((((t ++ o) ++ a) ++ b) ++ g) ++ s) ++ e ≡ t ++ (o ++ (a ++ b) ++ g ++ (s ++ []) ++ e)
head_pieces t o a b g s e = simp (append_assoc, append-nil) refl

-- A group: its tag, its title and its shapes.
pub group_pieces : (t o a g m s e : List ℕ) → (((t ++ o ++ a ++ g) ++ m) ++ s) ++ e ≡ t ++ (o ++ a ++ g ++ (m ++ s) ++ e)
group_pieces t o a g m s e = simp (append_assoc) refl

-- A picture: its tag, each part behind a line feed, and its groups.
pub picture_pieces : (t o r g n a b c d f s e : List ℕ) → t ++ o ++ r ++ g ++ n ++ a ++ n ++ b ++ n ++ c ++ n ++ d ++ n ++ f ++ s ++ (n ++ e) ≡ t ++ (o ++ r ++ g ++ (n ++ (a ++ (n ++ (b ++ (n ++ (c ++ (n ++ (d ++ (n ++ (f ++ (s ++ n))))))))))) ++ e)
picture_pieces t o r g n a b c d f s e = simp (append_assoc) refl

-- The value of an attribute, made of three pieces.
pub value_pieces : (t o a b c e : List ℕ) → ((((t ++ o) ++ a) ++ b) ++ c) ++ e ≡ t ++ (o ++ (a ++ b ++ c) ++ e)
value_pieces t o a b c e = simp (append_assoc) refl

pub escaped_three : (a b c : List ℕ) → escaped (a ++ b ++ c) ≡ escaped a ++ escaped b ++ escaped c
escaped_three a b c =
    flat_map-append escape (a ++ b) c ∙ ap (λ (bytes : List ℕ). bytes ++ escaped c) (flat_map-append escape a b)

pub escaped_four : (a b c d : List ℕ) → escaped (a ++ b ++ c ++ d) ≡ escaped a ++ escaped b ++ escaped c ++ escaped d
escaped_four a b c d =
    flat_map-append escape (a ++ b ++ c) d ∙ ap (λ (bytes : List ℕ). bytes ++ escaped d) (escaped_three a b c)
